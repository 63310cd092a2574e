-- The master's count of slots never changes.
use Rattle.std.proofs.Common.{ℕ, ◌≡◌, List, [], ◌∷◌, refl, ◌∙◌}
use Rattle.std.proofs.lemmas.Bool.{cond_both}
use Rattle.model.specs.Cluster.{has, RestorationRecord, RestorationState, Fencing, CloneRecord, CloneState, Accepted, Act, Master, Parts, MasterAct, Acks, Moves, Removes, Outcome}
use Rattle.model.specs.Moves.{restoration_moved, clone_moved}
use Rattle.law_invariants.proofs.Effects.{acked_each, begins_each, moved_each, removed_each}
use Rattle.model.specs.Entries.{Entry, slots_of}
use Rattle.model.specs.History.{master_effect, told, outcome, replay}

restoration_slots : (state : RestorationState) (r : RestorationRecord) (n : ℕ) (m : Master) → (restoration_moved state r n m).slots ≡ m.slots
restoration_slots Fencing r n m = refl
restoration_slots _ r n m = refl

clone_slots : (state : CloneState) (c : CloneRecord) (n : ℕ) (m : Master) → (clone_moved state c n m).slots ≡ m.slots
clone_slots Accepted c n m = begins_each (λ k. k.slots ≡ m.slots) c n m (λ serving. refl) (λ s. refl) refl
clone_slots _ c n m = refl

effect_slots : (act : MasterAct) (n : ℕ) (m : Master) → (master_effect act n m).slots ≡ m.slots
effect_slots (Acks operation slot) n m = acked_each (λ k. k.slots ≡ m.slots) operation.kind operation slot n m refl refl refl refl
effect_slots (Moves operation) n m =
    moved_each (λ k. k.slots ≡ m.slots) operation.kind operation n m refl (λ r e. refl) (λ r e. restoration_slots r.state r n m) (λ c e. clone_slots c.state c n m)
effect_slots (Removes target) n m = removed_each (λ k. k.slots ≡ m.slots) target.kind target n m refl refl refl
effect_slots _ n m = refl

told_slots : (act : Act) (o : Outcome) (n : ℕ) (ps : Parts) → (told act o n ps).master.slots ≡ ps.master.slots
told_slots act o n ps = cond_both (has (slots_of act) 0) (master_effect o.master n ps.master) ps.master (λ m. m.slots ≡ ps.master.slots) (λ _. effect_slots o.master n ps.master) (λ _. refl)

-- what a history leaves has the slots with which it began
pub replay_slots : (history : List Entry) (slots : ℕ) → (replay slots history).master.slots ≡ slots
unfolding replay
replay_slots [] slots = refl
replay_slots (e ∷ earlier) slots = told_slots e.event.act (outcome e.event.act e.stamp (replay slots earlier)) e.stamp (replay slots earlier) ∙ replay_slots earlier slots
