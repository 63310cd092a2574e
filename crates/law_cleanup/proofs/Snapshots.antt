-- A snapshot that retention doesn't need is removed: the tablets that it lists drop their frozen sets of it.
use Rattle.model.specs.Right.{is_fixed}
use Rattle.std.specs.Option.{is_some}
use Rattle.std.proofs.Common.{ℕ, ◌≡◌, ◌≤◌, ◌<◌, List, [], ◌∷◌, Option, Some, None, false, inl, inr, refl, sym, ap, subst, ◌∙◌, arith, not, eqb, leb, le_refl, le_of_lt}
use Rattle.std.proofs.lemmas.Bool.{true≢false}
use Rattle.std.proofs.lemmas.Bool.Decides.{nat_tests}
use Rattle.model.specs.Cluster.{Id, Kind, TabletKind, Snapshot, In, has, same_slots, Interval, last_of, Tablet, FrozenSet, DropFrozen, effect, SnapshotRecord, snapshot_with, Remove, UnknownSnapshot, StalePlan, InWindow, Removed, Master, Parts, Outcome, Check, If, Fault, Removes}
use Rattle.model.specs.Journal.{Change as Made, table_at, row_at}
use Rattle.model.specs.Entries.{IsRemovable, slots_of}
use Rattle.model.specs.Cleanup.{floor_of, lister_of_snapshot, snapshot_plan, removing_snapshot, removing, remove, removed_of, removable_snapshot}
use Rattle.model.specs.Changes.{tell}
use Rattle.model.specs.History.{told, outcome}
use Rattle.law_invariants.specs.Orders.{RowsPast}
use Rattle.law_invariants.specs.Invariant.{SlotGood, SlotWorks, Inv, Later}
use Rattle.law_invariants.proofs.Working.{same_fixed, SameFixed}
use Rattle.law_invariants.proofs.Ticking.{by_checks, refused_keeps, KeepsAll, namespaces_later, tables_later, tablet_before}
use Rattle.law_invariants.proofs.Remembering.{remembered_on}
use Rattle.law_invariants.proofs.Hearing.{clocks_rise, rows_ticked}
use Rattle.law_invariants.proofs.Told.{slots_hear, master_early, tablet_early, told_same, slots_equal}
use Rattle.law_invariants.proofs.Quiet.{Follows, slot_follows, master_follows}
use Rattle.law_cleanup.proofs.Discarding.{operations_discard}
use Rattle.law_cleanup.proofs.Thinning.{others_of, others_are, all_others, slot_thinned, works_thinned, in_plan}
use Rattle.law_cleanup.proofs.Removing.{unknown_keeps, removing_tablet_keeps}
use Rattle.law_invariants.proofs.Unneeded.{not_false, IsDiscarded, is_discarded, discarding, nothing_keeps}

abbrev pub snapshot_gone : Id → List ℕ → Outcome
snapshot_gone target slots = record { master = Removes target; tablets = tell slots (DropFrozen target); reply = Removed }

follows : (m : Master) (n : ℕ) (target : Id) (changes : List Made) → m.clock ≤ n → Follows m (discarding m n target) changes changes
follows m n target changes le =
    let clock : m.clock ≤ n = le in
    let tables : (x : ℕ) (table : Id) → is_some (table_at changes x table) ≡ is_some (table_at changes x table) = λ x table. refl in
    let rows : (x : ℕ) (table : Id) (key : List ℕ) → row_at changes x table key ≡ row_at changes x table key = λ x table key. refl in
    let fixed : (ns : Id) (to : ℕ) → is_fixed changes ns to ≡ is_fixed changes ns to = λ ns to. refl in
    let same_ : SameFixed changes changes = same_fixed changes in
    assumption (clock, tables, rows, fixed, same_)

rows_kept : (m : Master) (n : ℕ) (target : Id) (changes : List Made) (before after : ℕ → Tablet) → m.clock ≤ n → ((slot : ℕ) → (before slot).clock ≤ (after slot).clock) → RowsPast m before changes → RowsPast (discarding m n target) after changes
rows_kept m n target changes before after le rise h = λ c table key op isin is. elim (rows_ticked m n changes before after le rise h c table key op isin is) [
  | inl past ↦ inl past
  | inr w ↦ inr (record { interval = w.interval; kept = w.kept; opened = w.opened; table_is = w.table_is; behind = w.behind; unacked = w.unacked })
]

-- the parts after it; `slots` are those of its plan
discarded_inv : (ps : Parts) (activity : List Interval) (changes : List Made) (n : ℕ) (target : Id) (slots : List ℕ) (r : SnapshotRecord) → target.kind ≡ Snapshot → Later (0 ∷ slots) ps n → slots ≡ snapshot_plan ps.master r → Inv ps activity changes
    → IsDiscarded ps.master n target r → Inv (told (Remove target slots) (snapshot_gone target slots) n ps) activity changes
discarded_inv ps activity changes n target slots r kind later plan inv d =
    let m = ps.master in
    let act = Remove target slots in
    let o = snapshot_gone target slots in
    let k = discarding m n target in
    let le = le_of_lt d.before in
    let after = (told act o n ps).tablet in
    let f = follows m n target changes le in
    -- a slot without a frozen set of it
    let others : (i : ℕ) → (eqb i 0 ≡ false → has slots i ≡ false) → (s : FrozenSet) → In s (ps.tablet i).frozen → s.snapshot ≡ target → ⊥ = λ i aside s held of.
    let planned = in_plan m n target changes r i (ps.tablet i) s d inv.operations (λ j listed. ((inv.slots j.slot).each j listed refl).slot_from) (inv.works i) held of in
    let from : 1 ≤ i = planned.1 in
    let positive : eqb i 0 ≡ false = grind (arith, nat_tests) in
    true≢false (sym planned.0 ∙ ap (λ ss. has ss i) (sym plan) ∙ aside positive) in
    subst (λ e. Inv (record { master = removed_of e target n m; tablet = after }) activity changes) (sym kind) (record {
      master = master_follows m k changes changes f (record {
        namespaces = namespaces_later m.catalog.namespaces m.clock n m.drawn.namespaces changes le inv.master.namespaces;
        tables = tables_later m.catalog m.clock n m.drawn.tables changes le inv.master.tables;
        marks = inv.master.marks;
      }) inv.master;
      remembered = remembered_on m k activity (record { clock = le; schedules = refl; restorations = refl; clones = refl }) refl refl (le_refl _) (le_refl _) inv.remembered;
      cover = inv.cover;
      operations = operations_discard m n target changes r le d inv.operations;
      journal = (let j = inv.journal in record { fixed_drawn = j.fixed_drawn; drawn = j.drawn; undone = j.undone; restored = j.restored; one_point = j.one_point });
      rows_past = rows_kept m n target changes ps.tablet after le (clocks_rise act o n ps (λ slot e. tablet_before (0 ∷ slots) ps n slot later e)) inv.rows_past;
      works = slots_hear (SlotWorks k changes) act slots o n ps refl
          (λ i is from. (let t = ps.tablet i in subst (λ a. SlotWorks k changes i (effect a n t)) (sym (told_same slots (DropFrozen target) i is))
          (works_thinned m n target changes r i t n (others_of target t.frozen) d (le_of_lt (tablet_early slots ps n i later is from)) (others_are target t.frozen) (inv.works i))))
          (λ i aside. (let t = ps.tablet i in works_thinned m n target changes r i t t.clock t.frozen d (le_refl _) (all_others target t.frozen (others i aside)) (inv.works i)));
      slots = slots_hear (SlotGood k changes) act slots o n ps refl
          (λ i is from. (let t = ps.tablet i in subst (λ a. SlotGood k changes i (effect a n t)) (sym (told_same slots (DropFrozen target) i is))
          (slot_thinned k changes i target t n (others_of target t.frozen) (le_of_lt (tablet_early slots ps n i later is from)) (others_are target t.frozen) (slot_follows m k changes changes i t f (inv.slots i)))))
          (λ i aside. slot_follows m k changes changes i (ps.tablet i) f (inv.slots i));
    })

abbrev pub snapshot_checks : SnapshotRecord → List ℕ → ℕ → Master → List Check
snapshot_checks r slots n m =
    let plan = snapshot_plan m r in
    If (not (same_slots slots plan)) (StalePlan plan) ∷ Fault (removable_snapshot r.at (floor_of m r.namespace n) (lister_of_snapshot m r)) ∷ []

removing_snapshot_keeps : (found : Option SnapshotRecord) (ps : Parts) (activity : List Interval) (changes : List Made) (n : ℕ) (target : Id) (slots : List ℕ) → snapshot_with ps.master.snapshots target ≡ found → target.kind ≡ Snapshot
    → Later (0 ∷ slots) ps n → Inv ps activity changes → KeepsAll (Remove target slots) n ps activity changes (removing_snapshot found target slots n ps)
removing_snapshot_keeps None ps activity changes n target slots e kind later inv = unknown_keeps ps activity changes n target slots UnknownSnapshot later inv
removing_snapshot_keeps (Some r) ps activity changes n target slots e kind later inv =
    let m = ps.master in
    let floor = floor_of m r.namespace n in
    let lister = lister_of_snapshot m r in
    let gone = snapshot_gone target (snapshot_plan m r) in
    by_checks (Remove target slots) n ps activity changes (snapshot_checks r slots n m) gone
    (λ why. refused_keeps (Remove target slots) why n ps activity changes later inv refl)
    (λ passes.
    let plan : slots ≡ snapshot_plan m r = slots_equal slots (snapshot_plan m r) (not_false _ passes.0) in
    let unneeded = nothing_keeps (leb floor r.at) lister (InWindow r.at floor) passes.1.0 in
    let late : leb floor r.at ≡ false = unneeded.0 in
    let below : r.at < floor_of m r.namespace n = grind (arith, nat_tests) in
    let d = is_discarded m n changes target r (master_early slots ps n later) inv.operations e below unneeded.1 in
    subst (λ ss. Inv (told (Remove target slots) (snapshot_gone target ss) n ps) activity changes) plan (discarded_inv ps activity changes n target slots r kind later plan inv d))

removing_keeps : (kind : Kind) (ps : Parts) (activity : List Interval) (changes : List Made) (n : ℕ) (target : Id) (slots : List ℕ) → target.kind ≡ kind → IsRemovable kind → Later (0 ∷ slots) ps n → Inv ps activity changes
    → KeepsAll (Remove target slots) n ps activity changes (removing kind target slots n ps)
removing_keeps TabletKind ps activity changes n target slots e asked later inv = removing_tablet_keeps (last_of ps.master.activity target) ps activity changes n target slots refl e later inv
removing_keeps Snapshot ps activity changes n target slots e asked later inv = removing_snapshot_keeps (snapshot_with ps.master.snapshots target) ps activity changes n target slots refl e later inv
removing_keeps _ ps activity changes n target slots e asked later inv = absurd asked

-- what retention doesn't need is removed
pub remove_keeps : (ps : Parts) (activity : List Interval) (changes : List Made) (n : ℕ) (target : Id) (slots : List ℕ) → Later (slots_of (Remove target slots)) ps n → IsRemovable target.kind → Inv ps activity changes
    → KeepsAll (Remove target slots) n ps activity changes (outcome (Remove target slots) n ps)
unfolding remove
remove_keeps ps activity changes n target slots later asked inv = removing_keeps target.kind ps activity changes n target slots refl asked later inv
