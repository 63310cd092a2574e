-- An advance keeps what holds, where one of a clone does.
use Rattle.std.proofs.Common.{ℕ, ◌≡◌, List, [], ◌∷◌, Some, refl, sym, ap, ◌∙◌, arith}
use Rattle.model.specs.Cluster.{Kind, NamespaceKind as Namespace, TableKind as Table, TabletKind as Tablet, ScheduleKind as Schedule, Snapshot, RestorationKind as Restoration, CloneKind as Clone, Id, Interval, Advance, Parts}
use Rattle.model.specs.Journal.{Change as Made}
use Rattle.model.specs.Moves.{Progress, progress_of, advance}
use Rattle.law_invariants.specs.Invariant.{Inv, Later}
use Rattle.law_invariants.proofs.Ticking.{KeepsAll}
use Rattle.law_invariants.proofs.Advancing.{advance_by}
use Rattle.law_moves.proofs.Completing.{advance_snapshot_keeps}
use Rattle.law_moves.proofs.Switched.{advance_restoration_keeps}

-- an advance of what is no operation is refused
no_operation : (kind : Kind) (ps : Parts) (activity : List Interval) (changes : List Made) (n : ℕ) (operation : Id) → operation.kind ≡ kind → ((q : Progress) → progress_of kind ps.master operation ≡ Some q → ⊥) → Later (0 ∷ []) ps n → Inv ps activity changes
    → KeepsAll (Advance operation) n ps activity changes (advance operation n ps)
no_operation kind ps activity changes n operation is none later inv =
    advance_by operation n ps activity changes later inv (λ q e. absurd (none q (sym (ap (λ k. progress_of k ps.master operation) is) ∙ e)))

by_kind : (kind : Kind) (ps : Parts) (activity : List Interval) (changes : List Made) (n : ℕ) (operation : Id) → operation.kind ≡ kind → Later (0 ∷ []) ps n → Inv ps activity changes
    → (operation.kind ≡ Clone → KeepsAll (Advance operation) n ps activity changes (advance operation n ps)) → KeepsAll (Advance operation) n ps activity changes (advance operation n ps)
by_kind Snapshot ps activity changes n operation is later inv clones = advance_snapshot_keeps ps activity changes n operation later is inv
by_kind Restoration ps activity changes n operation is later inv clones = advance_restoration_keeps ps activity changes n operation later is inv
by_kind Clone ps activity changes n operation is later inv clones = clones is
by_kind kind ps activity changes n operation is later inv clones = no_operation kind ps activity changes n operation is (λ q e. let k = e in grind arith) later inv

pub advance_keeps : (ps : Parts) (activity : List Interval) (changes : List Made) (n : ℕ) (operation : Id) → Later (0 ∷ []) ps n → Inv ps activity changes
    → (operation.kind ≡ Clone → KeepsAll (Advance operation) n ps activity changes (advance operation n ps)) → KeepsAll (Advance operation) n ps activity changes (advance operation n ps)
advance_keeps ps activity changes n operation later inv clones = by_kind operation.kind ps activity changes n operation refl later inv clones
