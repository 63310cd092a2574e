-- A clone of a namespace is asked for.
use Rattle.std.proofs.Common.{ℕ, ◌≡◌, ◌≤◌, List, [], ◌∷◌, length, Option, Some, None, true, refl, sym, ap, subst, ◌∙◌, arith, le_of_lt}
use Rattle.std.specs.Prelude.{Result, Ok as Granted, Err as Denied}
use Rattle.std.proofs.lemmas.Bool.{true≢false, ltb-false, leb-false}
use Rattle.model.specs.Cluster.{Id, same_slots, Interval, namespace_named, Refusal, Change, CloneNamespace, UnknownNamespace, NoSchedule, Master, Parts, BeginsClone, Outcome, checked}
use Rattle.model.specs.Journal.{Change as Made}
use Rattle.model.specs.Schedules.{least_low}
use Rattle.model.specs.Changed.{next_clone, sources, clone_time, clone_begun}
use Rattle.model.specs.Changes.{accepts, unused_checks, clone_checks, clone_namespace, CloneSource, source_from, with_window, found_source, judge_clone}
use Rattle.law_invariants.specs.Invariant.{Inv, Later}
use Rattle.law_invariants.proofs.Judging.{found_is, checked_is, change_keeps}
use Rattle.law_invariants.proofs.Names.{named_is}
use Rattle.law_invariants.proofs.Ticking.{refused_keeps, KeepsAll, by_judgement}
use Rattle.law_invariants.proofs.Advancing.{alone_keeps}
use Rattle.law_invariants.proofs.Using.{not_used}
use Rattle.law_clones.proofs.Accepting.{MayClone, begun_keeps}
use Rattle.model.specs.Entries.{slots_of}
use Rattle.model.specs.Looks.{found_namespace, free_slots, plan_of}
use Rattle.model.specs.History.{outcome}

-- what an accepted clone found
record IsWindow (j : Result Id Refusal) (n : ℕ) (m : Master) (s : CloneSource) : Type 0 where
  found : j ≡ Granted s.namespace
  least : least_low m.schedules s.namespace n ≡ Some s.least

window_by : (o : Option ℕ) (ns : Id) (n : ℕ) (m : Master) (s : CloneSource) → least_low m.schedules ns n ≡ o → source_from ns o ≡ Some s → IsWindow (Granted ns) n m s
window_by None ns n m s is e = absurd (let q = e in grind arith)
window_by (Some l) ns n m s is e =
    let z : record { namespace = ns; least = l } ≡ s = cc in
    record { found = ap (λ (k : CloneSource). Granted k.namespace) z; least = ap (λ (k : CloneSource). least_low m.schedules k.namespace n) (sym z) ∙ is ∙ ap (λ (k : CloneSource). Some k.least) z }

window_found : (j : Result Id Refusal) (n : ℕ) (m : Master) (s : CloneSource) → with_window j n m ≡ Granted s → IsWindow j n m s
window_found (Denied why) n m s e = absurd (let q = e in grind arith)
window_found (Granted ns) n m s e = window_by (least_low m.schedules ns n) ns n m s refl (found_is (source_from ns (least_low m.schedules ns n)) (NoSchedule ns) s e)

pub may_clone : (ps : Parts) (activity : List Interval) (changes : List Made) (source target : List ℕ) (to n : ℕ) (s : CloneSource) → Inv ps activity changes → judge_clone source target to n ps.master ≡ Granted s
    → (namespace_named ps.master.catalog.namespaces source ≡ Some s.namespace) × MayClone ps.master s.namespace s.least target to n
may_clone ps activity changes source target to n s inv e =
    let m = ps.master in
    let whole = checked_is (found_source m source n) (λ s. clone_checks s target to n m) s e in
    let window = window_found (checked (found_namespace m source) (λ ns. unused_checks ns m)) n m s whole.0 in
    let unused = checked_is (found_namespace m source) (λ ns. unused_checks ns m) s.namespace window.found in
    let named_ = found_is (namespace_named m.catalog.namespaces source) UnknownNamespace s.namespace unused.0 in
    let current = named_is m.catalog.namespaces source s.namespace named_ in
    let passes = whole.1 in (
      named_,
      record {
        drawn = subst (λ i. i.number ≤ m.drawn.namespaces) current.id_is (inv.master.namespaces.drawn_before current.record_ current.listed);
        scheduled = window.least;
        free = not_used m s.namespace unused.1.0;
        unnamed = passes.0;
        from = ltb-false to s.least passes.1.1.0;
        before = leb-false n to passes.1.1.1.0;
        enough = ltb-false (length (free_slots m)) (length (sources m s.namespace to)) passes.1.1.1.1.0;
      },
    )

-- what accepts a clone of its source
abbrev accepted : List ℕ → List ℕ → Option ℕ → ℕ → Master → CloneSource → Outcome
accepted source target at n m s = accepts (BeginsClone s.namespace source target (clone_time at n)) [] (next_clone m ∷ [])

pub clone_namespace_keeps : (ps : Parts) (activity : List Interval) (changes : List Made) (n : ℕ) (source target : List ℕ) (at : Option ℕ) (slots : List ℕ) → Later (0 ∷ slots) ps n → same_slots slots [] ≡ true
    → Inv ps activity changes → KeepsAll (Change (CloneNamespace source target at) slots) n ps activity changes (clone_namespace source target at n ps.master)
unfolding clone_namespace
clone_namespace_keeps ps activity changes n source target at (slot ∷ slots) later plan inv = absurd (true≢false (sym plan))
clone_namespace_keeps ps activity changes n source target at [] later plan inv =
    let m = ps.master in
    let act = Change (CloneNamespace source target at) [] in
    let to = clone_time at n in
    by_judgement act n ps activity changes (judge_clone source target to n m) _
    (λ why. refused_keeps act why n ps activity changes later inv refl)
    (λ s found. alone_keeps act (accepted source target at n m s) n ps activity activity changes changes (clone_begun s.namespace source target to n m) refl refl refl refl refl
    (begun_keeps ps activity changes s.namespace s.least source target to n (le_of_lt (later 0 refl)) (may_clone ps activity changes source target to n s inv found).1 inv))

-- under its plan, which names no slot
pub clone_change_keeps : (ps : Parts) (activity : List Interval) (changes : List Made) (n : ℕ) (source target : List ℕ) (at : Option ℕ) (slots : List ℕ) → Later (slots_of (Change (CloneNamespace source target at) slots)) ps n → Inv ps activity changes
    → KeepsAll (Change (CloneNamespace source target at) slots) n ps activity changes (outcome (Change (CloneNamespace source target at) slots) n ps)
unfolding plan_of
clone_change_keeps ps activity changes n source target at slots later inv =
    change_keeps (CloneNamespace source target at) slots ps activity changes n later inv (λ plan. clone_namespace_keeps ps activity changes n source target at slots later plan inv)
