-- Namespaces are made and dropped.
use Rattle.std.proofs.Common.{ℕ, ◌≡◌, ◌≤◌, ◌<◌, ◌+◌, List, [], ◌∷◌, Option, Some, None, Bool, true, false, cond, ◌⊎◌, inl, inr, refl, sym, ap, subst, ◌∙◌, le_trans, arith, le_of_lt, le_refl}
use Rattle.std.specs.Prelude.{is_some, Ok}
use Rattle.model.specs.Journal.{Change as Made, NamespaceMade, NamespaceDropped}
use Rattle.model.specs.Cluster.{NamespaceRecord, namespace_named, kept_from, CreateNamespace, DropNamespace, Change, Master, Parts, Drawn, MakesNamespace, DropsNamespace, is_open, ended, Id, same, Kind, NamespaceKind as Namespace, Interval}
use Rattle.model.specs.Operations.{time_of_user}
use Rattle.model.specs.Changes.{named, clone_named, create_namespace_checks, judge_create_namespace, judge_drop_namespace, create_namespace, drop_namespace}
use Rattle.model.specs.Changed.{next_namespace, namespace_made, namespace_dropped}
use Rattle.model.specs.History.{with}
use Rattle.law_invariants.specs.Invariant.{Inv, Later}
use Rattle.law_invariants.proofs.Ticking.{by_judgement, refused_keeps, KeepsAll}
use Rattle.law_invariants.proofs.Judging.{checked_is}
use Rattle.law_invariants.proofs.Journaling.{namespace_made_quiet, namespace_dropped_quiet}
use Rattle.law_invariants.proofs.Cataloguing.{catalog_of, catalog_namespace_made, catalog_namespace_dropped}
use Rattle.law_invariants.proofs.Working.{before_any}
use Rattle.law_invariants.proofs.Undoing.{one_more}
use Rattle.law_invariants.proofs.Told.{master_early}
use Rattle.law_invariants.proofs.Quiet.{quiet_keeps, quiet_works, same_drawn, KeepsCatalog, same_names, marks_stay}
use Rattle.model.specs.Schedules.{floor, least_low}
use Rattle.model.specs.Cleanup.{floor_of}
use Rattle.law_store.proofs.Keys.{either_way}
use Rattle.law_invariants.specs.Operations.{OperationsGood}
use Rattle.law_invariants.proofs.Remembering.{no_lows}
use Rattle.law_invariants.proofs.Finding.{same_equal, in_added, in_mapped, not_either}
use Rattle.law_invariants.proofs.Records.{kept_by, kept_beside}
use Rattle.law_invariants.proofs.Operating.{WasNamed, NewName}
use Rattle.model.specs.Drawn.{drawn_of}
use Rattle.law_invariants.proofs.Using.{unreserved_name}

-- what operations read of the catalog stays: a new namespace has a new number and no reserved name, and its mark is the stamp

namespace_made_keeps : (m : Master) (n : ℕ) (name : List ℕ) (changes : List Made) → m.clock ≤ n → is_some (named m name) ≡ false → OperationsGood m changes
    → KeepsCatalog m n (namespace_made name n m).catalog (namespace_made name n m).drawn
namespace_made_keeps m n name changes le free ops = record {
  tables_held = λ ns r isin of held. isin;
  names = in_added (λ r. WasNamed m r ⊎ NewName m r) m.catalog.namespaces (record { id = next_namespace m; name = name; from = n; to = None }) (λ r isin. same_names m r isin)
      (inr (record { drawn = omega arith; free = λ c isin unseen is. unreserved_name m.clones name (not_either (namespace_named m.catalog.namespaces name) (clone_named m.clones name) free) c isin unseen is }));
  kept = λ ns. either_way (same (next_namespace m) ns)
      (λ e.
      let is : next_namespace m ≡ ns = same_equal (next_namespace m) ns e in
      let none : (at : ℕ) → least_low m.schedules ns at ≡ None = λ at. no_lows m.schedules ns at (λ s isin same_.
      let l = (ops.schedules s isin).drawn_namespace in let q : s.namespace.number ≡ m.drawn.namespaces + 1 = ap (λ i. i.number) (same_ ∙ sym is) in omega arith) in
      let k = namespace_made name n m in
      let floor_is : floor_of k ns n ≡ n = ap (λ s. floor s (time_of_user k ns) n) (none n) in
      let old : kept_from m.catalog.kept_from ns ≤ n = le_trans (ops.kept ns) (floor_within m ns n le (none m.clock)) in
      subst (λ y. kept_from k.catalog.kept_from ns ≤ y) (sym floor_is) (kept_by m.catalog.kept_from (next_namespace m) n n ns old (le_refl n)))
      (λ e. subst (λ y. y ≤ floor_of (namespace_made name n m) ns n) (sym (kept_beside m.catalog.kept_from (next_namespace m) n ns e))
      (marks_stay m n (namespace_made name n m).catalog m.activity (namespace_made name n m).drawn changes ns le ops));
}
  where
    floor_within : (m : Master) (ns : Id) (n : ℕ) → m.clock ≤ n → least_low m.schedules ns m.clock ≡ None → floor_of m ns m.clock ≤ n
    floor_within m ns n le none = subst (λ y. y ≤ n) (sym (ap (λ s. floor s (time_of_user m ns) m.clock) none)) le

namespace_dropped_keeps : (m : Master) (n : ℕ) (id : Id) (changes : List Made) → m.clock ≤ n → OperationsGood m changes → KeepsCatalog m n (namespace_dropped id n m).catalog m.drawn
namespace_dropped_keeps m n id changes le ops = record {
  tables_held = λ ns r isin of held. isin;
  names = in_mapped {A = NamespaceRecord} {B = NamespaceRecord} (λ r. record r { to = cond (same r.id id) (ended n r.to) r.to }) (λ r. WasNamed m r ⊎ NewName m r) m.catalog.namespaces
      (λ r isin. inl (record { was = r; kept = isin; id_is = refl; name_is = refl; opened = λ e. was_open (same r.id id) n r.to e }));
  kept = λ ns. marks_stay m n (namespace_dropped id n m).catalog m.activity m.drawn changes ns le ops;
}
  where
    was_open : (b : Bool) (n : ℕ) (to : Option ℕ) → is_open (cond b (ended n to) to) ≡ true → is_open to ≡ true
    was_open b n None e = refl
    was_open true n (Some x) e = e
    was_open false n (Some x) e = e

one_drawn : (d : Drawn) (kind : Kind) → drawn_of kind d ≤ drawn_of kind (record d { namespaces = d.namespaces + 1 })
one_drawn d Namespace = omega arith
one_drawn d _ = le_refl _

pub create_namespace_keeps : (ps : Parts) (activity : List Interval) (changes : List Made) (n : ℕ) (name slots : List ℕ) → Later (0 ∷ slots) ps n → Inv ps activity changes
    → KeepsAll (Change (CreateNamespace name) slots) n ps activity changes (create_namespace name ps.master)
unfolding create_namespace
create_namespace_keeps ps activity changes n name slots later inv =
    let m = ps.master in
    let command = CreateNamespace name in
    let new = with n (NamespaceMade (next_namespace m) name) changes in
    let before : m.clock < n = master_early slots ps n later in
    let quiet = namespace_made_quiet n (next_namespace m) name changes in
    by_judgement (Change command slots) n ps activity changes (judge_create_namespace name m) _
    (λ why. refused_keeps (Change command slots) why n ps activity changes later inv refl)
    (λ id is.
    let passes = (checked_is (Ok (next_namespace m)) (λ id. create_namespace_checks name m) id is).1 in
    quiet_keeps command slots (MakesNamespace name) [] (id ∷ []) n ps activity changes new later inv refl
    (record {
      clock = le_of_lt before;
      slots = refl;
      activity = refl;
      restorations = refl;
      clones = refl;
      schedules = refl;
      scheduled = refl;
      owners = refl;
      drawn = refl;
      drawn_tables = refl;
      quiet = quiet;
      same_ = record { fixed = λ other to. refl; switched = λ other point is. is; before = λ other point is. before_any changes other point _ changes is };
    })
    (quiet_works ps activity changes new n _ _ inv (le_of_lt before) (one_drawn m.drawn) refl quiet (λ ns point is. is) (λ ns point is. before_any changes ns point _ changes is)
    (one_more changes _ (λ table key op e. let q = e in grind arith) (λ ns point. refl))
    (namespace_made_keeps m n name changes (le_of_lt before) passes.0 inv.operations))
    (catalog_namespace_made m n name changes (le_of_lt before) passes.0 (catalog_of m changes inv.master)) (λ i. tt))

pub drop_namespace_keeps : (ps : Parts) (activity : List Interval) (changes : List Made) (n : ℕ) (name slots : List ℕ) → Later (0 ∷ slots) ps n → Inv ps activity changes
    → KeepsAll (Change (DropNamespace name) slots) n ps activity changes (drop_namespace name ps.master)
unfolding drop_namespace
drop_namespace_keeps ps activity changes n name slots later inv =
    let m = ps.master in
    let command = DropNamespace name in
    let before : m.clock < n = master_early slots ps n later in
    by_judgement (Change command slots) n ps activity changes (judge_drop_namespace name m) _
    (λ why. refused_keeps (Change command slots) why n ps activity changes later inv refl)
    (λ ns is.
    let new = with n (NamespaceDropped ns) changes in
    let quiet = namespace_dropped_quiet n ns changes in
    quiet_keeps command slots (DropsNamespace ns) [] [] n ps activity changes new later inv refl
    (record {
      clock = le_of_lt before;
      slots = refl;
      activity = refl;
      restorations = refl;
      clones = refl;
      schedules = refl;
      scheduled = refl;
      owners = refl;
      drawn = refl;
      drawn_tables = refl;
      quiet = quiet;
      same_ = record { fixed = λ other to. refl; switched = λ other point is. is; before = λ other point is. before_any changes other point _ changes is };
    })
    (quiet_works ps activity changes new n _ _ inv (le_of_lt before) (same_drawn m.drawn) refl quiet (λ ns point is. is) (λ ns point is. before_any changes ns point _ changes is)
    (one_more changes _ (λ table key op e. let q = e in grind arith) (λ ns point. refl))
    (namespace_dropped_keeps m n ns changes (le_of_lt before) inv.operations))
    (catalog_namespace_dropped m n ns changes (le_of_lt before) (catalog_of m changes inv.master)) (λ i. tt))
