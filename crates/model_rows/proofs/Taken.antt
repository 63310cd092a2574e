-- What would take away something that a time in the window needs is refused: one kind of thing after the other.
use Rattle.std.proofs.Common.{◌≡◌, ◌≤◌, ◌∷◌, ◌∙◌, ◌++◌, ◌+◌, ap, arith, is_some, length, inl, inr, refl, subst, sym, true, ℕ, List, [], None, Some}
use Rattle.std.proofs.lemmas.Bool.{leb-true, true≢false}
use Rattle.row_values.specs.Store.{kept}
use Rattle.model.specs.Activity.{Interval, active_at}
use Rattle.row_values.specs.declared.value.RowOp.TheVariants.{Upsert}
use Rattle.model.specs.Acts.{Advance, Change, Compact, Cutoff, DeleteSchedule, EditSchedule, Process, Prune, Remove, Write}
use Rattle.model.specs.Catalog.{Catalog}
use Rattle.model.specs.Cleanup.{floor_of}
use Rattle.model.specs.Parts.{Parts}
use Rattle.model.specs.Records.{Schedule, ScheduledNamespace}
use Rattle.model.specs.Tablets.{ReleaseKind, Tablet, emptied, holds_command}
use Rattle.model.specs.Taking.{Deleted, Edited, Unchanged, NeededKept, MarkRaised, TabletKept, TakesNothingNeeded}
use Rattle.model_rows.proofs.RightEntries.{only_one}
use Rattle.model_rows.proofs.Numbers.{none_is_not_one}
use Rattle.model_rows.specs.Computed.{the_book}
use Rattle.model_rows.specs.Runs.{Do, Run, after}
use Rattle.model_rows.specs.Scripts.{B, N, P, R, S, T, a, cell, compact, coordinate, early, first_place, home, ht, number, put, ready, restore, settle, since, t, take_snapshot, tick, v_is, x}

-- two values of a row, at the tablet's stamps 3 and 4; the window begins at 3, the master's clock is 5
abbrev filled_run : Run
filled_run = after (put a t (home 1) x (v_is 1) ++ put a t (home 1) x (v_is 2)) ready

abbrev filled : Parts
filled = filled_run.parts

abbrev scheduled : ScheduledNamespace
scheduled = record { namespace = N 1; since = early 3; last = None; complete = None }

abbrev schedule : Schedule
schedule = record { id = S 1; namespace = N 1; interval = 1; retention = 10; made = early 3; kept_low = early 3; last = None }

abbrev with_tablets : (Tablet → Tablet) → Parts → Parts
with_tablets changed ps = record ps { tablet = λ slot. changed (ps.tablet slot) }

abbrev with_catalog : (Catalog → Catalog) → Parts → Parts
with_catalog changed ps = record ps { master = record ps.master { catalog = changed ps.master.catalog } }

-- a compaction that folds up to the clock, and not to the cutoff, takes the first value
folded_to_the_clock : TakesNothingNeeded (Compact 1) filled (with_tablets (λ t. record t { versions = kept t.versions (early 9) }) filled) → ⊥
unfolding the_book
folded_to_the_clock takes =
    let needed = takes.needed scheduled (early 3) (inl refl) (leb-true _ _ refl) refl refl in
    let e = (needed.tablets (since 2) (inl refl) refl refl).reads x in
    true≢false (sym (ap (λ row. row.present) e))

-- so does one that keeps no version
emptied_store : TakesNothingNeeded (Compact 1) filled (with_tablets (λ t. record t { versions = [] }) filled) → ⊥
unfolding the_book
emptied_store takes =
    let needed = takes.needed scheduled (early 5) (inl refl) (leb-true _ _ refl) refl refl in
    let e = (needed.tablets (since 2) (inl refl) refl refl).reads x in
    true≢false (sym (ap (λ row. row.present) e))

-- a tablet that is ahead of the master: a write that no look came before, at a later reading
abbrev ahead : Parts
ahead = (after (tick 2000000 ++ Do (Write (first_place (home 1).places) 1 (record { key = x; op = Upsert (cell 1 (number 1) ∷ []) } ∷ [])) ∷ []) ready).parts

-- what it wrote since then is needed all the same
emptied_ahead : TakesNothingNeeded (Compact 1) ahead (with_tablets (λ t. record t { versions = [] }) ahead) → ⊥
unfolding the_book
emptied_ahead takes =
    let needed = takes.needed scheduled (ht 2000000 0) (inl refl) (leb-true _ _ refl) refl refl in
    let e = (needed.tablets (since 2) (inl refl) refl refl).reads x in
    true≢false (sym (ap (λ row. row.present) e))

-- a cutoff just above the window's low end
cut_too_far : TakesNothingNeeded (Cutoff 1) filled (with_tablets (λ t. record t { cutoff = early 4 }) filled) → ⊥
unfolding the_book
cut_too_far takes =
    let needed = takes.needed scheduled (early 3) (inl refl) (leb-true _ _ refl) refl refl in
    let reaches : early 4 ≤ early 3 = (needed.tablets (since 2) (inl refl) refl refl).reaches in
    omega arith

-- a tablet is emptied
tablet_removed : TakesNothingNeeded (Remove (B 1) (1 ∷ [])) filled (with_tablets (λ t. emptied t.clock) filled) → ⊥
unfolding the_book
tablet_removed takes =
    let needed = takes.needed scheduled (early 3) (inl refl) (leb-true _ _ refl) refl refl in
    true≢false ((needed.tablets (since 2) (inl refl) refl refl).present.held)

-- the master forgets it
forgotten : TakesNothingNeeded (Remove (B 1) (1 ∷ [])) filled (record filled { master = record filled.master { activity = [] } }) → ⊥
unfolding the_book
forgotten takes =
    let needed = takes.needed scheduled (early 3) (inl refl) (leb-true _ _ refl) refl refl in
    (needed.tablets (since 2) (inl refl) refl refl).active.listed

-- a snapshot of stamp 5 that serves the window
abbrev frozen : Parts
frozen = (after (put a t (home 1) x (v_is 1) ++ take_snapshot ++ settle) ready).parts

abbrev snapped : ScheduledNamespace
snapped = record scheduled { last = Some (early 5); complete = Some (early 5) }

snapshot_removed : TakesNothingNeeded (Remove (P 1) (1 ∷ [])) frozen (record frozen { master = record frozen.master { snapshots = [] } }) → ⊥
unfolding the_book
snapshot_removed takes =
    let needed = takes.needed snapped (early 3) (inl refl) (leb-true _ _ refl) refl refl in
    true≢false (sym (ap is_some needed.serves))

set_dropped : TakesNothingNeeded (Remove (P 1) (1 ∷ [])) frozen (with_tablets (λ t. record t { frozen = [] }) frozen) → ⊥
unfolding the_book
set_dropped takes =
    let needed = takes.needed snapped (early 3) (inl refl) (leb-true _ _ refl) refl refl in
    true≢false (sym (ap is_some (needed.tablets (since 2) (inl refl) refl refl).set))

-- a prune that takes the table's record, or the namespace's, or lets the mark rise above the low end

table_pruned : TakesNothingNeeded Prune filled (with_catalog (λ c. record c { tables = [] }) filled) → ⊥
unfolding the_book
table_pruned takes =
    let needed = takes.needed scheduled (early 3) (inl refl) (leb-true _ _ refl) refl refl in
    none_is_not_one (ap length needed.catalog.tables)

namespace_pruned : TakesNothingNeeded Prune filled (with_catalog (λ c. record c { namespaces = [] }) filled) → ⊥
unfolding the_book
namespace_pruned takes =
    let needed = takes.needed scheduled (early 3) (inl refl) (leb-true _ _ refl) refl refl in
    none_is_not_one (ap length needed.catalog.names)

abbrev marked_at : ℕ → Catalog → Catalog
marked_at from c = record c { kept_from = record { namespace = N 1; from = from } ∷ [] }

mark_too_high : TakesNothingNeeded Prune filled (with_catalog (marked_at (early 4)) filled) → ⊥
unfolding the_book
mark_too_high takes =
    let needed = takes.needed scheduled (early 3) (inl refl) (leb-true _ _ refl) refl refl in
    let kept : early 4 ≤ early 3 = needed.catalog.kept in
    omega arith

-- a prune that takes all schedules has yet to keep what the window needs, and the schedule

unscheduled : TakesNothingNeeded Prune filled (record filled { master = record filled.master { schedules = []; scheduled = [] } }) → ⊥
unfolding the_book
unscheduled takes = elim (takes.schedules schedule (inl refl)) [
  | Unchanged t there alike ↦ there
  | Deleted slots act_is unused complete ↦ cc
  | Edited interval retention slots periods act_is there ↦ cc
]

unscheduled_and_pruned : TakesNothingNeeded Prune filled (with_catalog (λ c. record c { tables = [] }) (record filled { master = record filled.master { schedules = []; scheduled = [] } })) → ⊥
unfolding the_book
unscheduled_and_pruned takes =
    let needed = takes.needed scheduled (early 3) (inl refl) (leb-true _ _ refl) refl refl in
    none_is_not_one (ap length needed.catalog.tables)

-- one that hands the tables to nobody
disowned : TakesNothingNeeded Prune filled (with_catalog (λ c. record c { owners = [] }) filled) → ⊥
unfolding the_book
disowned takes =
    let needed = takes.needed scheduled (early 3) (inl refl) (leb-true _ _ refl) refl refl in
    true≢false (sym (needed.catalog.owners (T 1) refl))

-- a restoration is to switch: the move of another record puts no other tables in place, not even from its point on

abbrev switching : Parts
switching = (after (put a t (home 1) x (v_is 1) ++ restore (early 3) ++ coordinate 9) ready).parts

abbrev of_first : List ScheduledNamespace → ScheduledNamespace
of_first [] = scheduled
of_first (k ∷ ks) = k

-- the parts at a later clock of the master
abbrev ticked : Parts → Parts
ticked ps = record ps { master = record ps.master { clock = ps.master.clock + 1 } }

abbrev of_schedules : List Schedule → Schedule
of_schedules [] = schedule
of_schedules (s ∷ ss) = s

moved_by_another : TakesNothingNeeded (Advance (P 1)) switching (with_catalog (λ c. record c { tables = [] }) (ticked switching)) → ⊥
unfolding the_book
moved_by_another takes =
    let needed = takes.needed (of_first switching.master.scheduled) switching.master.clock (inl refl) (leb-true _ _ refl) refl refl in
    none_is_not_one (ap length needed.catalog.tables)

-- once it has switched, no further move of it does, and no tablet by another command than to take back its rows

abbrev switched : Parts
switched = (after (put a t (home 1) x (v_is 1) ++ restore (early 3) ++ coordinate 10) ready).parts

moved_on : TakesNothingNeeded (Advance (R 1)) switched (with_catalog (λ c. record c { tables = [] }) (ticked switched)) → ⊥
unfolding the_book
moved_on takes =
    let needed = takes.needed (of_first switched.master.scheduled) switched.master.clock (inl refl) (leb-true _ _ refl) refl refl in
    none_is_not_one (ap length needed.catalog.tables)

abbrev releasing : Parts
releasing = (after (put a t (home 1) x (v_is 1) ++ restore (early 3) ++ coordinate 15) ready).parts

is_to_release : holds_command (releasing.tablet 1).inbox (R 1) ReleaseKind ≡ true
unfolding the_book
is_to_release = refl

abbrev last_one : List Interval → Interval
last_one [] = since 2
last_one (i ∷ []) = i
last_one (i ∷ j ∷ is) = last_one (j ∷ is)

released_and_lost : TakesNothingNeeded (Process 1 1) releasing (with_tablets (λ t. record t { versions = [] }) releasing) → ⊥
unfolding the_book
released_and_lost takes =
    let needed = takes.needed (of_first releasing.master.scheduled) releasing.master.clock (inl refl) (leb-true _ _ refl) refl refl in
    let e = (needed.tablets (last_one releasing.master.activity) (inr (inl refl)) refl refl).reads x in
    true≢false (sym (ap (λ row. row.present) e))

-- a deletion while an operation uses the namespace
deleted_in_use : TakesNothingNeeded (Change (DeleteSchedule (S 1)) []) switching (record switching { master = record switching.master { schedules = []; scheduled = [] } }) → ⊥
unfolding the_book
deleted_in_use takes = elim (takes.schedules (of_schedules switching.master.schedules) (inl refl)) [
  | Unchanged t there alike ↦ there
  | Deleted slots act_is unused complete ↦ true≢false (ap is_some unused)
  | Edited interval retention slots periods act_is there ↦ cc
]

-- an edit that opens the window to what was out of it
abbrev opened : Schedule
opened = record schedule { retention = 20; kept_low = early 2 }

edited_open : TakesNothingNeeded (Change (EditSchedule (S 1) 1 20) []) filled (record filled { master = record filled.master { schedules = opened ∷ [] } }) → ⊥
unfolding the_book
edited_open takes = elim (takes.schedules schedule (inl refl)) [
  | Unchanged t there alike ↦ elim there [ inl is ↦ (let e : 20 ≡ 10 = ap (λ s. s.retention) is ∙ ap (λ s. s.retention) alike in omega (arith, e)) | inr none ↦ absurd none ]
  | Deleted slots act_is unused complete ↦ cc
  | Edited interval retention slots periods act_is there ↦ elim there [ inl is ↦ (let e : early 2 ≡ early 3 = ap (λ s. s.kept_low) is in omega (arith, e)) | inr none ↦ absurd none ]
]

-- ten minutes later the floor is 1000000.3, and 900 seconds before that is nothing
raised_to_the_floor : MarkRaised filled.master (with_catalog (marked_at (early 3)) filled).master (ht 601000000 3) (N 1) → ⊥
unfolding the_book
raised_to_the_floor raised =
    let bound : early 3 ≤ early 0 = raised.bound in
    omega arith

lowered : MarkRaised filled.master (with_catalog (marked_at 7) filled).master (ht 601000000 3) (N 1) → ⊥
unfolding the_book
lowered raised =
    let rises : early 0 ≤ 7 = raised.rises in
    omega arith

-- the compaction itself takes nothing: both values are later than the tablet's cutoff

abbrev compacted : Parts
compacted = (after (compact 1) filled_run).parts

kept_for_each : (to : ℕ) → early 3 ≤ to → NeededKept filled compacted (N 1) to
unfolding the_book
kept_for_each to from = record {
  catalog = record { names = refl; tables = refl; owners = λ table owned. owned; kept = omega arith };
  places = λ table code owned. refl;
  serves = tt;
  tablets = λ i inside owned active. subst (λ j. active_at to j ≡ true → TabletKept filled compacted (N 1) to j) (only_one i (since 2) inside)
      (λ now. record {
        present = record { held = refl; tablet_is = refl; known = (since 2, (inl refl, (refl, refl))) };
        active = record { interval = since 2; listed = inl refl; place = refl; table = refl; active = now };
        set = tt;
        reaches = omega arith;
        reads = λ key. refl;
      }) active;
}

compaction_takes_nothing : TakesNothingNeeded (Compact 1) filled compacted
unfolding the_book
compaction_takes_nothing = record {
  needed = λ k to listed from below point.
      subst (λ r. floor_of filled.master r.namespace compacted.master.clock ≤ to → NeededKept filled compacted r.namespace to) (only_one k scheduled listed)
      (λ low. kept_for_each to low) from;
  schedules = λ s inside. Unchanged s inside refl;
}
