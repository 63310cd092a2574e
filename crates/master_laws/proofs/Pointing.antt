-- Before the switch of a restoration no record of its namespace's tables ends after the point.
use Rattle.std.proofs.Common.{inl, inr, ℕ, ◌≡◌, ◌≤◌, true, List, [], ◌∷◌, Option, Some, None, refl, subst, le-leb}
use Rattle.row_values.specs.Ids.{Id, same}
use Rattle.row_values.specs.Elements.{In}
use Rattle.model.specs.Catalog.{TableRecord}
use Rattle.model.specs.Journal.{Change}
use Rattle.model.specs.Records.{RestorationRecord, Switching}
use Rattle.model.specs.Parts.{Parts}
use Rattle.model.specs.Activity.{Interval}
use Rattle.law_store.proofs.Keys.{either_way}
use Rattle.law_invariants.specs.Invariant.{Inv}
use Rattle.law_invariants.specs.Operations.{RestorationStateGood}
use Rattle.law_invariants.proofs.Finding.{same_equal, passes_both}
use Rattle.catalog_core.specs.Kept.{over_or_open, ends_in}

over_when : (o : Option ℕ) (at : ℕ) → ((end_ : ℕ) → o ≡ Some end_ → end_ ≤ at) → over_or_open at o ≡ true
over_when None at within = refl
over_when (Some end_) at within = le-leb end_ at (within end_ refl)

ends_when : (rs : List TableRecord) (ns : Id) (at : ℕ)
    → ((r : TableRecord) (end_ : ℕ) → In r rs → r.namespace ≡ ns → r.to ≡ Some end_ → end_ ≤ at) → ends_in ns at rs ≡ true
ends_when [] ns at within = refl
ends_when (r ∷ rs) ns at within =
    let rest = ends_when rs ns at (λ q end_ isin. within q end_ (inr isin)) in
    either_way (same r.namespace ns)
    (λ b. rw (b) (passes_both (over_or_open at r.to) (ends_in ns at rs) (over_when r.to at (λ end_. within r end_ (inl refl) (same_equal r.namespace ns b))) rest))
    (λ b. rw (b) rest)

pub point_ends : (ps : Parts) (activity : List Interval) (changes : List Change) → Inv ps activity changes
    → (r : RestorationRecord) (point : ℕ) (serving : Id) → In r ps.master.restorations → r.state ≡ Switching point serving
    → ends_in r.namespace point ps.master.catalog.tables ≡ true
point_ends ps activity changes inv r point serving isin is =
    let good = subst (λ state. RestorationStateGood state ps.master changes r) is (inv.operations.restorations r isin).in_state in
    ends_when ps.master.catalog.tables r.namespace point good.before.tables_ended
