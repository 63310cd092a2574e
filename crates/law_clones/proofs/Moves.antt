-- An advance of a clone keeps what holds.
use Rattle.std.proofs.Common.{ℕ, ◌≡◌, ◌<◌, List, [], ◌∷◌, refl, sym, ap, ◌∙◌}
use Rattle.std.proofs.lemmas.Bool.{true≢false}
use Rattle.model.specs.Cluster.{CloneKind as Clone, Id, Interval, CloneRecord, CloneState, Accepted, CloneSnapshot, Copying, CloneReleasing, CloneComplete, is_cloned, Advance, Parts}
use Rattle.model.specs.Journal.{Change as Made}
use Rattle.model.specs.Moves.{advance}
use Rattle.law_invariants.specs.Invariant.{Inv, Later}
use Rattle.law_invariants.proofs.Ticking.{KeepsAll}
use Rattle.law_clones.proofs.Advancing.{MayMove, MovedKeeps, advance_clone_by}
use Rattle.law_clones.proofs.Copying.{accepted_moves, snapshot_moves}
use Rattle.law_clones.proofs.Becoming.{copied_moves}
use Rattle.law_clones.proofs.Completing.{released_moves}

by_state : (state : CloneState) (ps : Parts) (activity : List Interval) (changes : List Made) (n : ℕ) (r : CloneRecord) → r.state ≡ state → ps.master.clock < n → MayMove ps.master r → Inv ps activity changes → MovedKeeps state ps activity changes n r
by_state Accepted ps activity changes n r is before may inv = accepted_moves ps activity changes n r before is may inv
by_state (CloneSnapshot own) ps activity changes n r is before may inv = snapshot_moves ps activity changes n r own before is may inv
by_state (Copying serving at) ps activity changes n r is before may inv = copied_moves ps activity changes n r serving at before is may inv
by_state (CloneReleasing serving at) ps activity changes n r is before may inv = released_moves ps activity changes n r serving at before is may inv
by_state (CloneComplete serving at) ps activity changes n r is before may inv = absurd (true≢false (sym (ap is_cloned is) ∙ may.unfinished))

pub advance_clone_keeps : (ps : Parts) (activity : List Interval) (changes : List Made) (n : ℕ) (operation : Id) → Later (0 ∷ []) ps n → operation.kind ≡ Clone → Inv ps activity changes → KeepsAll (Advance operation) n ps activity changes (advance operation n ps)
advance_clone_keeps ps activity changes n operation later kind inv =
    advance_clone_by ps activity changes n operation later kind inv (λ r of may. by_state r.state ps activity changes n r refl (later 0 refl) may inv)
