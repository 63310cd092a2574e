-- A snapshot of a schedule is taken.
use Rattle.std.proofs.Common.{ℕ, ◌≡◌, ◌<◌, List, [], ◌∷◌, true, refl, sym, ap}
use Rattle.std.specs.Prelude.{is_some}
use Rattle.std.proofs.lemmas.Bool.{true≢false}
use Rattle.model.specs.Cluster.{Id, same_slots, Interval, unfinished_of, TakeSnapshot, Change, Parts, TakesSnapshot}
use Rattle.model.specs.Journal.{Change as Made}
use Rattle.model.specs.Operations.{user}
use Rattle.model.specs.Lists.{next_snapshot}
use Rattle.model.specs.Changes.{accepts, found_schedule, take_snapshot_checks, judge_take_snapshot, take_snapshot}
use Rattle.law_invariants.specs.Invariant.{Inv, Later}
use Rattle.law_invariants.proofs.Ticking.{by_judgement, refused_keeps, KeepsAll}
use Rattle.law_invariants.proofs.Judging.{checked_is}
use Rattle.law_invariants.proofs.Recording.{recorded}
use Rattle.law_invariants.proofs.Slots.{records_keep}
use Rattle.law_invariants.proofs.Advancing.{alone_keeps}
use Rattle.law_invariants.proofs.Using.{schedule_is, neither_is, not_used}
use Rattle.law_invariants.proofs.Taking.{taken, MayTake, taken_onto}

pub take_snapshot_keeps : (ps : Parts) (activity : List Interval) (changes : List Made) (n : ℕ) (schedule : Id) (slots : List ℕ) → Later (0 ∷ slots) ps n → same_slots slots [] ≡ true → Inv ps activity changes
    → KeepsAll (Change (TakeSnapshot schedule) slots) n ps activity changes (take_snapshot schedule n ps.master)
unfolding take_snapshot
take_snapshot_keeps ps activity changes n schedule (slot ∷ slots) later plan inv = absurd (true≢false (sym plan))
take_snapshot_keeps ps activity changes n schedule [] later plan inv =
    let m = ps.master in
    let act = Change (TakeSnapshot schedule) [] in
    let before : m.clock < n = later 0 refl in
    by_judgement act n ps activity changes (judge_take_snapshot schedule n m) _
    (λ why. refused_keeps act why n ps activity changes later inv refl)
    (λ s found.
    let judged = checked_is (found_schedule m schedule) (λ s. take_snapshot_checks s n m) s found in
    let is = schedule_is m schedule s judged.0 in
    let neither = neither_is (user m s.namespace) (unfinished_of m.snapshots s.namespace) judged.1.0 in
    let free = not_used m s.namespace (ap is_some neither.0) in
    let k = (inv.operations.schedules s is.0).scheduled in
    let may : MayTake m s.namespace s.id = record { scheduled = (k.0, (k.1.0, k.1.1.0)); calm = neither.1; early = λ r point isin unfinished at e. free.restoration r isin unfinished (sym e) } in
    alone_keeps act (accepts (TakesSnapshot s) [] (next_snapshot m ∷ [])) n ps activity activity changes changes (recorded m (taken s.namespace s.id n m)) refl refl refl refl refl
    (records_keep ps activity changes (taken s.namespace s.id n m) (taken_onto ps activity changes n s.namespace s.id before may inv) inv))
