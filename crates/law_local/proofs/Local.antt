-- Each act has the same outcome on parts that agree on its slots, and leaves parts that agree.
use Rattle.std.proofs.Common.{ℕ, ◌≡◌, ◌==◌, ◌&&◌, not, [], ◌∷◌, cond, refl, ap, ◌∙◌}
use Rattle.row_values.specs.Slots.{has}
use Rattle.model.specs.Tablets.{act_for, effect}
use Rattle.model.specs.Acts.{Act, Look, Change, Write, Read, Cutoff, Compact, Send, Process, Ack, Advance, Remove, Prune, Restart, Stats}
use Rattle.model.specs.Parts.{Parts, Outcome}
use Rattle.model.specs.Entries.{slots_of}
use Rattle.model.specs.History.{look, outcome, master_effect, told}
use Rattle.law_local.specs.Agreeing.{Agree}
use Rattle.law_local.proofs.Agreement.{has_first, has_rest}
use Rattle.law_local.proofs.Tablets.{write_same, cutoff_same, compact_same, restart_same, stats_same}
use Rattle.law_local.proofs.Reading.{read_same}
use Rattle.law_local.proofs.Commands.{change_same}
use Rattle.law_local.proofs.Operations.{send_same, process_same, ack_same, advance_same, prune_same}
use Rattle.law_local.proofs.Removing.{remove_same}

pub outcome_same : (act : Act) (n : ℕ) (p q : Parts) → Agree (slots_of act) p q → outcome act n p ≡ outcome act n q
outcome_same (Look ask) n p q a = ap (λ m. look ask n m) (a.master refl)
outcome_same (Change command plan) n p q a = change_same command plan n p q a
outcome_same (Write place version batch) n p q a = write_same place version batch n p q (a.tablets place.slot (has_first place.slot []))
outcome_same (Read places version key at columns) n p q a = read_same places version key at columns n p q a
outcome_same (Cutoff slot) n p q a = cutoff_same slot n p q (a.master refl) (a.tablets slot (has_rest 0 slot (slot ∷ []) (has_first slot [])))
outcome_same (Compact slot) n p q a = compact_same slot n p q (a.tablets slot (has_first slot []))
outcome_same (Send operation slot) n p q a = send_same operation slot n p q (a.master refl)
outcome_same (Process slot other) n p q a =
    process_same slot other n p q (a.tablets slot (has_first slot (other ∷ []))) (a.tablets other (has_rest slot other (other ∷ []) (has_first other [])))
outcome_same (Ack operation slot) n p q a = ack_same operation slot n p q (a.master refl) (a.tablets slot (has_rest 0 slot (slot ∷ []) (has_first slot [])))
outcome_same (Advance operation) n p q a = advance_same operation n p q (a.master refl)
outcome_same (Remove target plan) n p q a = remove_same target plan n p q a
outcome_same Prune n p q a = prune_same n p q (a.master refl)
outcome_same (Restart slot) n p q a = restart_same slot n p q
outcome_same (Stats slot) n p q a = stats_same slot n p q (a.tablets slot (has_first slot []))

pub told_agrees : (act : Act) (o r : Outcome) (n : ℕ) (p q : Parts) → o ≡ r → Agree (slots_of act) p q → Agree (slots_of act) (told act o n p) (told act r n q)
told_agrees act o r n p q e a = record {
  master = λ h. ap (λ x. (told act x n p).master) e ∙ ap (λ m. cond (has (slots_of act) 0) (master_effect r.master n m) m) (a.master h);
  tablets = λ slot h. ap (λ x. (told act x n p).tablet slot) e ∙ ap (λ t. cond (has (slots_of act) slot && not (slot == 0)) (effect (act_for r.tablets slot) n t) t) (a.tablets slot h);
}
