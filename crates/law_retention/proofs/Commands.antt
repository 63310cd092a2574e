-- No command takes anything that a time needs: what it ends goes on up to its stamp, and what it begins does so at its stamp.
use Rattle.std.proofs.Common.{Result, Ok, Err, ◌≤◌, ◌≡◌, ◌∷◌, ◌++◌, ◌∙◌, ◌<◌, ◌+◌, ℕ, List, [], true, false, cond, Some, None, length, map, not, refl, sym, ap, subst, inl, inr, arith, le_of_lt, ltb-true}
use Rattle.std.proofs.lemmas.Bool.{cond_both}
use Rattle.std.specs.Option.{is_some, option_map}
use Rattle.row_values.specs.Elements.{In}
use Rattle.row_values.specs.Ids.{Id, same}
use Rattle.row_values.specs.Schema.{NewColumn, Schema}
use Rattle.row_values.specs.Slots.{same_slots}
use Rattle.row_values.specs.Store.{part_of}
use Rattle.model.specs.Activity.{Interval}
use Rattle.model.specs.Acts.{Act, Change, Command, CreateNamespace, DropNamespace, CreateTable, AddColumn, DropColumn, RenameTable, DropTable, Split, CreateSchedule, EditSchedule, DeleteSchedule, TakeSnapshot, Restore, CloneNamespace, ListSchedules, ListSnapshots, ListRestorations, ListClones, ListTablets, Refusal, Refused, Reply, StalePlan, Schedules, Snapshots, Restorations, Clones, Tablets}
use Rattle.model.specs.Catalog.{NamespaceRecord, Owner, TableRecord, is_owned_by, owner_of, owns}
use Rattle.model.specs.Changed.{children, clone_begun, clone_time, namespace_dropped, namespace_made, next_clone, next_namespace, next_restoration, next_schedule, next_table, restoration_begun, schedule_deleted, schedule_edited, schedule_made, shares, snapshot_taken, table_changed, table_dropped, table_made, tablet_split}
use Rattle.model.specs.Changes.{schedule_user, accepts, add_column, change, clone_namespace, create_namespace, create_schedule, create_table, delete_schedule, edit_schedule, drop_column, drop_namespace, drop_table, found_schedule, list_tablets, planned, rename_table, restore, split, splitting, take_snapshot, tell, tell_made, judge_add_column, judge_clone, judge_create_namespace, judge_create_schedule, judge_create_table, judge_delete_schedule, judge_drop_column, judge_drop_namespace, judge_drop_table, judge_edit_schedule, judge_rename_table, judge_restore, judge_split, judge_take_snapshot, edit_schedule_checks, delete_schedule_checks}
use Rattle.model.specs.History.{master_effect, told}
use Rattle.model.specs.Journal.{Change as Made}
use Rattle.model.specs.Lines.{clone_lines, restoration_lines, schedule_lines, snapshot_lines, tablet_lines}
use Rattle.model.specs.Lists.{next_snapshot, with_snapshot}
use Rattle.model.specs.Looks.{Family, found_namespace, place_of, plan_of}
use Rattle.model.specs.Parts.{AddsColumn, BeginsClone, BeginsRestoration, DeletesSchedule, DropsColumn, DropsNamespace, DropsTable, EditsSchedule, If, MakesNamespace, MakesSchedule, MakesTable, Master, MasterAct, Outcome, Parts, RenamesTable, TakesSnapshot, answered, decided, refused}
use Rattle.model.specs.Operations.{user}
use Rattle.model.specs.Records.{Schedule, ScheduledNamespace, SnapshotRecord, unfinished_of, unfinished}
use Rattle.model.specs.Schedules.{edited, is_period}
use Rattle.model.specs.Tablets.{Child, HideSince, SetVersion, Tablet, TabletAct, Told, act_for, effect}
use Rattle.model.specs.Taking.{Deleted, Edited, ScheduleStays, Unchanged, TakesNothingNeeded, changed_from, untimed}
use Rattle.model.specs.Times.{before_end}
use Rattle.law_store.proofs.Keys.{either_way}
use Rattle.law_invariants.specs.Invariant.{Inv, Later}
use Rattle.law_invariants.specs.Operations.{OperationsGood}
use Rattle.law_invariants.proofs.Finding.{apart_by_number, in_filter, in_first, in_mapped, map_in, none_or_some, not_same, same_equal, same_self}
use Rattle.law_invariants.proofs.Frame.{touched}
use Rattle.law_invariants.proofs.Records.{kept_beside, owners_first}
use Rattle.law_invariants.proofs.Judging.{checked_is}
use Rattle.law_invariants.proofs.Undoing.{owned_is}
use Rattle.law_invariants.proofs.Unneeded.{not_false}
use Rattle.law_invariants.proofs.Using.{neither_is, schedule_is, unfinished_none}
use Rattle.law_retention.specs.Facts.{Facts}
use Rattle.law_retention.proofs.Before.{names_behind, names_ended, route_behind, route_ended, still_ended, still_itself, still_joined, tables_behind, tables_ended}
use Rattle.law_retention.proofs.Changing.{IsGiven, children_new, drawn_before, shares_new, tell_in, told_each}
use Rattle.law_retention.proofs.Growing.{ended_if}
use Rattle.law_retention.proofs.Outcomes.{by_refusal}
use Rattle.law_retention.proofs.Reaching.{unfinished_is}
use Rattle.law_retention.proofs.Untaken.{HasSame, MasterUntaken, TimeUntaken, made_sources, same_sources, same_time, untaken}

-- what is to be shown of an outcome, where what holds after each entry holds of what it leaves
abbrev pub Leaves : Act → ℕ → Parts → Outcome → Type 0
Leaves act n ps o = (activity : List Interval) (changes : List Made) → Inv (told act o n ps) activity changes → TakesNothingNeeded act ps (told act o n ps)

-- what a tablet is told leaves it what it had, unless its part gets another one
abbrev pub KeepsTold : ℕ → Interval → Tablet → TabletAct → Type 0
KeepsTold n i t act = (effect act n t).tablet ≡ i.tablet → HasSame t (effect act n t)

-- an outcome that tells the master something
pub told_leaves : (act : Act) (o : Outcome) (n : ℕ) (ps : Parts) (activity : List Interval) (changes : List Made) → Inv ps activity changes → Facts ps → MasterUntaken act ps (told act o n ps).master
    → ((i : Interval) (t : Told) → In i ps.master.activity → In t o.tablets → KeepsTold n i (ps.tablet i.slot) t.act) → Leaves act n ps o
told_leaves act o n ps activity changes inv facts master tablets later_activity later_changes after =
    untaken act ps (told act o n ps) activity later_activity changes later_changes inv facts after master
    (λ i inside. cond_both (touched act i.slot) (effect (act_for o.tablets i.slot) n (ps.tablet i.slot)) (ps.tablet i.slot) (λ u. u.tablet ≡ i.tablet → HasSame (ps.tablet i.slot) u)
    (λ b. told_each (KeepsTold n i (ps.tablet i.slot)) o.tablets i.slot (λ t there. tablets i t inside there) (λ is. record { frozen = refl; versions = refl; cutoff = refl }))
    (λ b is. record { frozen = refl; versions = refl; cutoff = refl }))

-- each schedule stays

pub they_stay : (act : Act) (m k : Master) → k.schedules ≡ m.schedules → (s : Schedule) → In s m.schedules → ScheduleStays act s m k
they_stay act m k e s there = Unchanged s (subst (In s) (sym e) there) refl

-- such is one that only sets its clock, or makes records of operations
pub quiet_untaken : (act : Act) (ps : Parts) (k : Master) → ps.master.clock ≤ k.clock → k.catalog ≡ ps.master.catalog → k.activity ≡ ps.master.activity → k.snapshots ≡ ps.master.snapshots
    → ((s : Schedule) → In s ps.master.schedules → ScheduleStays act s ps.master k) → MasterUntaken act ps k
quiet_untaken act ps k later catalog activity snapshots schedules = record {
  later = later;
  times = λ s to listed past point. same_time ps.master k s.namespace to catalog activity;
  sources = λ s to listed low. same_sources ps.master k ps.tablet s.namespace to snapshots;
  schedules = schedules;
}

-- one that makes a snapshot
pub snapshot_untaken : (act : Act) (ps : Parts) (activity : List Interval) (changes : List Made) (k : Master) (ns schedule : Id) (n : ℕ) → Inv ps activity changes → ps.master.clock ≤ k.clock → k.catalog ≡ ps.master.catalog → k.activity ≡ ps.master.activity
    → k.snapshots ≡ (with_snapshot ns schedule n ps.master).snapshots → k.schedules ≡ (with_snapshot ns schedule n ps.master).schedules → MasterUntaken act ps k
snapshot_untaken act ps activity changes k ns schedule n inv before catalog same_ snapshots schedules = record {
  later = before;
  times = λ s to listed past point. same_time ps.master k s.namespace to catalog same_;
  sources = λ s to listed low. made_sources ps activity changes k ns schedule n s.namespace to inv snapshots;
  schedules = λ s there. Unchanged (record s { last = cond (same s.id schedule) (Some n) s.last })
      (subst (In (record s { last = cond (same s.id schedule) (Some n) s.last })) (sym schedules) (map_in {A = Schedule} {B = Schedule} (λ q. record q { last = cond (same q.id schedule) (Some n) q.last }) ps.master.schedules s there)) refl;
}

-- The catalog and the activity

owns_first : (os qs : List Owner) (ns table : Id) → owns os ns table ≡ true → owns (os ++ qs) ns table ≡ true
owns_first os qs ns table owned = ap (λ o. is_owned_by o ns) (owners_first os qs table ns (owned_is (owner_of os table) ns owned)) ∙ same_self ns

namespace_made_time : (ps : Parts) (activity : List Interval) (changes : List Made) (name : List ℕ) (n : ℕ) (s : ScheduledNamespace) (to : ℕ) → Inv ps activity changes → In s ps.master.scheduled → to < n
    → TimeUntaken ps.master (namespace_made name n ps.master) s.namespace to
namespace_made_time ps activity changes name n s to inv listed late =
    let m = ps.master in
    let new : NamespaceRecord = record { id = next_namespace m; name = name; from = n; to = None } in
    let drawn = (inv.operations.scheduled s listed).drawn_namespace in
    let other : same new.id s.namespace ≡ false = not_same new.id s.namespace (λ e. apart_by_number s.namespace new.id (above m.drawn.namespaces s.namespace.number drawn) (sym e)) in
    record {
      names = names_behind m.catalog.namespaces (new ∷ []) s.namespace to (λ q there. elim there [ inl is ↦ subst (λ r. to < r.from) is late | inr none ↦ absurd none ]);
      tables = refl;
      owners = λ table owned. owned;
      kept = kept_beside m.catalog.kept_from new.id n s.namespace other;
      places = λ table code owned. refl;
      active = λ i inside owned active. still_itself to m.activity i inside active;
    }
  where
    above : (d a : ℕ) → a ≤ d → a < d + 1
    above d a h = omega arith

namespace_dropped_time : (m : Master) (id : Id) (n : ℕ) (ns : Id) (to : ℕ) → to < n → TimeUntaken m (namespace_dropped id n m) ns to
namespace_dropped_time m id n ns to late = record {
  names = names_ended (λ r. same r.id id) n to m.catalog.namespaces ns late;
  tables = refl;
  owners = λ table owned. owned;
  kept = refl;
  places = λ table code owned. refl;
  active = λ i inside owned active. still_itself to m.activity i inside active;
}

table_made_time : (m : Master) (of : Id) (name : List ℕ) (columns : List NewColumn) (slots : List ℕ) (n : ℕ) (ns : Id) (to : ℕ) → to < n → TimeUntaken m (table_made of name columns slots n m) ns to
table_made_time m of name columns slots n ns to late =
    let js = shares slots 0 (length slots) n m.drawn.tablets (next_table m) in
    record {
      names = refl;
      tables = ap (map untimed) (tables_behind m.catalog.tables (_ ∷ []) ns to (λ q there mine. elim there [ inl is ↦ subst (λ r. to < r.from) is late | inr none ↦ absurd none ]));
      owners = λ table owned. owns_first m.catalog.owners _ ns table owned;
      kept = refl;
      places = λ table code owned. ap (option_map place_of) (route_behind m.activity js table code to
          (λ j here mine. subst (λ f. to < f) (sym (shares_new slots 0 (length slots) n m.drawn.tablets (next_table m) j here).0) late));
      active = λ i inside owned active. still_joined to m.activity js i (still_itself to m.activity i inside active);
    }

table_changed_time : (m : Master) (t : TableRecord) (name : List ℕ) (schema : Schema) (n : ℕ) (ns : Id) (to : ℕ) → to < n → TimeUntaken m (table_changed t name schema n m) ns to
table_changed_time m t name schema n ns to late =
    record {
      names = refl;
      tables = ap (map untimed) (tables_behind _ (_ ∷ []) ns to (λ q there mine. elim there [ inl is ↦ subst (λ r. to < r.from) is late | inr none ↦ absurd none ]))
          ∙ tables_ended (λ r. same r.id t.id) n to m.catalog.tables ns (λ r there ends mine. late);
      owners = λ table owned. owned;
      kept = refl;
      places = λ table code owned. refl;
      active = λ i inside owned active. still_itself to m.activity i inside active;
    }

table_dropped_time : (m : Master) (id : Id) (n : ℕ) (ns : Id) (to : ℕ) → to < n → TimeUntaken m (table_dropped id n m) ns to
table_dropped_time m id n ns to late =
    record {
      names = refl;
      tables = tables_ended (λ r. same r.id id) n to m.catalog.tables ns (λ r there ends mine. late);
      owners = λ table owned. owned;
      kept = refl;
      places = λ table code owned. route_ended (λ i. same i.table id) n to m.activity table code (λ i there ends mine. late);
      active = λ i inside owned active. still_ended (λ j. same j.table id) n to m.activity i inside active (λ ends. late);
    }

tablet_split_time : (m : Master) (parent : Interval) (code low high n : ℕ) (ns : Id) (to : ℕ) → to < n → TimeUntaken m (tablet_split parent code low high n m) ns to
tablet_split_time m parent code low high n ns to late =
    let is = map (ended_if (λ i. same i.tablet parent.tablet) n) m.activity in
    let js = children parent code low high n m.drawn.tablets in
    record {
      names = refl;
      tables = refl;
      owners = λ table owned. owned;
      kept = refl;
      places = λ table code_ owned. ap (option_map place_of) (route_behind is js table code_ to (λ j here mine. subst (λ f. to < f) (sym (children_new parent code low high n m.drawn.tablets j here).0) late))
          ∙ route_ended (λ i. same i.tablet parent.tablet) n to m.activity table code_ (λ i there ends mine. late);
      active = λ i inside owned active. still_joined to is js i (still_ended (λ j. same j.tablet parent.tablet) n to m.activity i inside active (λ ends. late));
    }

clone_begun_time : (m : Master) (of : Id) (source target : List ℕ) (at n : ℕ) (ns : Id) (to : ℕ) → TimeUntaken m (clone_begun of source target at n m) ns to
clone_begun_time m of source target at n ns to = record {
  names = refl;
  tables = refl;
  owners = λ table owned. owns_first m.catalog.owners _ ns table owned;
  kept = refl;
  places = λ table code owned. refl;
  active = λ i inside owned active. still_itself to m.activity i inside active;
}

-- a master whose catalog or activity goes on, with the same snapshots and schedules
pub goes_untaken : (act : Act) (ps : Parts) (k : Master) → ps.master.clock ≤ k.clock → k.snapshots ≡ ps.master.snapshots → k.schedules ≡ ps.master.schedules
    → ((s : ScheduledNamespace) (to : ℕ) → In s ps.master.scheduled → before_end to (changed_from act k) ≡ true → TimeUntaken ps.master k s.namespace to) → MasterUntaken act ps k
goes_untaken act ps k later snapshots schedules times = record {
  later = later;
  times = λ s to listed past point. times s to listed past;
  sources = λ s to listed low. same_sources ps.master k ps.tablet s.namespace to snapshots;
  schedules = they_stay act ps.master k schedules;
}

-- Commands

-- what is decided is a refusal, or comes of what was found
decided_of : {A : Type 0} (Q : Outcome → Type 0) (found : Result A Refusal) (accept : A → Outcome) → ((why : Refusal) → Q (refused why)) → ((a : A) → found ≡ Ok a → Q (accept a)) → Q (decided found accept)
decided_of Q (Err why) accept no_ go = no_ why
decided_of Q (Ok a) accept no_ go = go a refl

pub answer_leaves : (act : Act) (reply : Reply) (n : ℕ) (ps : Parts) (activity : List Interval) (changes : List Made) → Inv ps activity changes → Facts ps → ps.master.clock ≤ (told act (answered reply) n ps).master.clock
    → (told act (answered reply) n ps).master.catalog ≡ ps.master.catalog → (told act (answered reply) n ps).master.activity ≡ ps.master.activity → (told act (answered reply) n ps).master.snapshots ≡ ps.master.snapshots
    → (told act (answered reply) n ps).master.schedules ≡ ps.master.schedules → Leaves act n ps (answered reply)
answer_leaves act reply n ps activity changes inv facts later catalog same_ snapshots schedules =
    told_leaves act (answered reply) n ps activity changes inv facts
    (quiet_untaken act ps (told act (answered reply) n ps).master later catalog same_ snapshots (they_stay act ps.master _ schedules))
    (λ i t inside there. absurd there)

says : (command : Command) (slots : List ℕ) (n : ℕ) (ps : Parts) (activity : List Interval) (changes : List Made) → IsGiven slots n ps activity changes → (reply : Reply) → Leaves (Change command slots) n ps (answered reply)
says command slots n ps activity changes given reply = answer_leaves (Change command slots) reply n ps activity changes given.inv given.facts (le_of_lt (given.later 0 refl)) refl refl refl refl

denies : (command : Command) (slots : List ℕ) (n : ℕ) (ps : Parts) (activity : List Interval) (changes : List Made) → IsGiven slots n ps activity changes → (why : Refusal) → Leaves (Change command slots) n ps (refused why)
denies command slots n ps activity changes given why = says command slots n ps activity changes given (Refused why)

-- one that tells no tablet
master_leaves : (command : Command) (slots : List ℕ) (mact : MasterAct) (made : List Id) (n : ℕ) (ps : Parts) (activity : List Interval) (changes : List Made) → IsGiven slots n ps activity changes
    → MasterUntaken (Change command slots) ps (master_effect mact n ps.master) → Leaves (Change command slots) n ps (accepts mact [] made)
master_leaves command slots mact made n ps activity changes given master =
    told_leaves (Change command slots) (accepts mact [] made) n ps activity changes given.inv given.facts master (λ i t inside there. absurd there)

-- one that tells its slots all the same
slots_leave : (command : Command) (slots : List ℕ) (mact : MasterAct) (what : TabletAct) (n : ℕ) (ps : Parts) (activity : List Interval) (changes : List Made) → IsGiven slots n ps activity changes
    → MasterUntaken (Change command slots) ps (master_effect mact n ps.master) → ((t : Tablet) → HasSame t (effect what n t)) → Leaves (Change command slots) n ps (accepts mact (tell slots what) [])
slots_leave command slots mact what n ps activity changes given master same_ =
    told_leaves (Change command slots) (accepts mact (tell slots what) []) n ps activity changes given.inv given.facts master
    (λ i t inside there. tell_in (KeepsTold n i (ps.tablet i.slot)) slots what (λ is. same_ (ps.tablet i.slot)) t there)

versioned_same : (version n : ℕ) (t : Tablet) → HasSame t (effect (SetVersion version) n t)
versioned_same version n t = record { frozen = refl; versions = refl; cutoff = refl }

hidden_same : (ended n : ℕ) (t : Tablet) → HasSame t (effect (HideSince ended) n t)
hidden_same ended n t = record { frozen = refl; versions = refl; cutoff = refl }

-- a new tablet is none that was there
new_apart : (ps : Parts) (activity : List Interval) (changes : List Made) (i : Interval) (tablet : Id) → Inv ps activity changes → In i ps.master.activity → ps.master.drawn.tablets < tablet.number → tablet ≡ i.tablet → ⊥
new_apart ps activity changes i tablet inv inside above e =
    let by = drawn_before ps activity changes i inv inside in
    let number : tablet.number ≡ i.tablet.number = ap (λ id. id.number) e in
    omega (arith, by, number, above)

table_leaves : (command : Command) (slots : List ℕ) (ns : Id) (name : List ℕ) (columns : List NewColumn) (made : List Id) (n : ℕ) (ps : Parts) (activity : List Interval) (changes : List Made) → IsGiven slots n ps activity changes
    → Leaves (Change command slots) n ps (accepts (MakesTable ns name columns slots) (tell_made (shares slots 0 (length slots) n ps.master.drawn.tablets (next_table ps.master))) made)
table_leaves command slots ns name columns made n ps activity changes given =
    let m = ps.master in
    let js = shares slots 0 (length slots) n m.drawn.tablets (next_table m) in
    let before = given.later 0 refl in
    told_leaves (Change command slots) (accepts (MakesTable ns name columns slots) (tell_made js) made) n ps activity changes given.inv given.facts
    (goes_untaken (Change command slots) ps (table_made ns name columns slots n m) (le_of_lt before) refl refl (λ s to listed past. table_made_time m ns name columns slots n s.namespace to (ltb-true to n past)))
    (λ i t inside. in_mapped {A = Interval} {B = Told} _ (λ q. KeepsTold n i (ps.tablet i.slot) q.act) js
    (λ j there is. absurd (new_apart ps activity changes i j.tablet given.inv inside (shares_new slots 0 (length slots) n m.drawn.tablets (next_table m) j there).1 is)) t)

split_leaves : (command : Command) (slots : List ℕ) (f : Family) (code n : ℕ) (ps : Parts) (part : Tablet) (activity : List Interval) (changes : List Made) → IsGiven slots n ps activity changes
    → Leaves (Change command slots) n ps (splitting f code n ps.master part)
split_leaves command slots f code n ps part activity changes given =
    let m = ps.master in
    let parent = f.parent.tablet in
    let js = children parent code f.low_slot f.high_slot n m.drawn.tablets in
    let before = given.later 0 refl in
    told_leaves (Change command slots) (splitting f code n m part) n ps activity changes given.inv given.facts
    (goes_untaken (Change command slots) ps (tablet_split parent code f.low_slot f.high_slot n m) (le_of_lt before) refl refl
    (λ s to listed past. tablet_split_time m parent code f.low_slot f.high_slot n s.namespace to (ltb-true to n past)))
    (λ i t inside there. elim there [
      | inl first ↦ subst (λ q. KeepsTold n i (ps.tablet i.slot) q.act) first (λ is. hidden_same n n (ps.tablet i.slot))
      | inr child ↦ in_mapped {A = Interval} {B = Told}
          (λ j. record { slot = j.slot; act = Child j.tablet j.table j.low j.high f.parent.table.schema.version (part_of j.low j.high part.versions) part.cutoff })
          (λ q. KeepsTold n i (ps.tablet i.slot) q.act) js
          (λ j mine is. absurd (new_apart ps activity changes i j.tablet given.inv inside (children_new parent code f.low_slot f.high_slot n m.drawn.tablets j mine).1 is)) t child
    ])

-- Schedules

made_untaken : (act : Act) (ps : Parts) (ns : Id) (interval retention n : ℕ) → ps.master.clock ≤ n → MasterUntaken act ps (schedule_made ns interval retention n ps.master)
made_untaken act ps ns interval retention n before =
    quiet_untaken act ps (schedule_made ns interval retention n ps.master) before refl refl refl (λ s there. Unchanged s (in_first ps.master.schedules _ s there) refl)

edited_untaken : (ps : Parts) (slots : List ℕ) (schedule id : Id) (interval retention n : ℕ) → ps.master.clock ≤ n → id ≡ schedule → is_period interval retention ≡ true
    → MasterUntaken (Change (EditSchedule schedule interval retention) slots) ps (schedule_edited id interval retention n ps.master)
edited_untaken ps slots schedule id interval retention n before is periods =
    let m = ps.master in
    let act = Change (EditSchedule schedule interval retention) slots in
    let k = schedule_edited id interval retention n m in
    let f : Schedule → Schedule = λ q. cond (same q.id id) (edited interval retention n q) q in
    quiet_untaken act ps k before refl refl refl
    (λ s there. either_way (same s.id id)
    (λ b. Edited interval retention slots periods (ap (λ x. Change (EditSchedule x interval retention) slots) (sym (same_equal s.id id b ∙ is)))
    (subst (λ q. In q k.schedules) (ap (λ c. cond c (edited interval retention n s) s) b) (map_in {A = Schedule} {B = Schedule} f m.schedules s there)))
    (λ b. Unchanged s (subst (λ q. In q k.schedules) (ap (λ c. cond c (edited interval retention n s) s) b) (map_in {A = Schedule} {B = Schedule} f m.schedules s there)) refl))

-- the schedule that was found is the one with that identifier
deleted_untaken : (ps : Parts) (changes : List Made) (slots : List ℕ) (schedule : Id) (found : Schedule) (n : ℕ) → ps.master.clock ≤ n → OperationsGood ps.master changes → In found ps.master.schedules → found.id ≡ schedule → is_some (schedule_user ps.master found) ≡ false
    → MasterUntaken (Change (DeleteSchedule schedule) slots) ps (schedule_deleted found.id n ps.master)
deleted_untaken ps changes slots schedule found n before ops kept is unused =
    let m = ps.master in
    let id = found.id in
    let act = Change (DeleteSchedule schedule) slots in
    let k = schedule_deleted id n m in
    let neither = neither_is (user m found.namespace) (unfinished_of m.snapshots found.namespace) unused in
    quiet_untaken act ps k before refl refl refl
    (λ s there. either_way (same s.id id)
    (λ b.
    let one : found ≡ s = ops.apart.schedule_ids found s kept there (sym (same_equal s.id id b)) in
    Deleted slots (ap (λ x. Change (DeleteSchedule x) slots) (sym (same_equal s.id id b ∙ is))) (subst (λ q. user m q.namespace ≡ None) one neither.0)
    (subst (λ q. unfinished m.snapshots q.namespace ≡ None) one (none_unfinished m.snapshots found.namespace neither.1)))
    (λ b. Unchanged s (in_filter m.schedules (λ q. not (same q.id id)) s there (ap not b)) refl))
  where
    none_unfinished : (rs : List SnapshotRecord) (ns : Id) → unfinished_of rs ns ≡ None → unfinished rs ns ≡ None
    none_unfinished rs ns none = none_or_some (unfinished rs ns) (λ e. e) (λ q some. let left = unfinished_is rs ns q some in absurd (unfinished_none rs ns q none left.kept left.open_is left.namespace_is))

planned_leaves : (command : Command) (slots : List ℕ) (n : ℕ) (ps : Parts) (activity : List Interval) (changes : List Made) → IsGiven slots n ps activity changes → Leaves (Change command slots) n ps (planned command slots n ps)
unfolding create_namespace drop_namespace create_table add_column drop_column rename_table drop_table split create_schedule edit_schedule delete_schedule take_snapshot restore clone_namespace list_tablets
planned_leaves (CreateNamespace name) slots n ps activity changes given =
    let m = ps.master in
    let before = given.later 0 refl in
    let c = CreateNamespace name in
    decided_of (Leaves (Change c slots) n ps) (judge_create_namespace name m) _ (denies c slots n ps activity changes given)
    (λ id e. master_leaves c slots (MakesNamespace name) (id ∷ []) n ps activity changes given
    (goes_untaken (Change c slots) ps (namespace_made name n m) (le_of_lt before) refl refl (λ s to listed past. namespace_made_time ps activity changes name n s to given.inv listed (ltb-true to n past))))
planned_leaves (DropNamespace name) slots n ps activity changes given =
    let m = ps.master in
    let before = given.later 0 refl in
    let c = DropNamespace name in
    decided_of (Leaves (Change c slots) n ps) (judge_drop_namespace name m) _ (denies c slots n ps activity changes given)
    (λ ns e. master_leaves c slots (DropsNamespace ns) [] n ps activity changes given
    (goes_untaken (Change c slots) ps (namespace_dropped ns n m) (le_of_lt before) refl refl (λ s to listed past. namespace_dropped_time m ns n s.namespace to (ltb-true to n past))))
planned_leaves (CreateTable namespace table tablets columns) slots n ps activity changes given =
    let c = CreateTable namespace table tablets columns in
    decided_of (Leaves (Change c slots) n ps) (judge_create_table namespace table tablets ps.master) _ (denies c slots n ps activity changes given)
    (λ ns e. table_leaves c slots ns table columns (next_table ps.master ∷ []) n ps activity changes given)
planned_leaves (AddColumn namespace table name kind) slots n ps activity changes given =
    let m = ps.master in
    let before = given.later 0 refl in
    let c = AddColumn namespace table name kind in
    decided_of (Leaves (Change c slots) n ps) (judge_add_column namespace table name m) _ (denies c slots n ps activity changes given)
    (λ t e. slots_leave c slots (AddsColumn t name kind) (SetVersion (t.schema.version + 1)) n ps activity changes given
    (goes_untaken (Change c slots) ps _ (le_of_lt before) refl refl (λ s to listed past. table_changed_time m t t.name _ n s.namespace to (ltb-true to n past))) (versioned_same (t.schema.version + 1) n))
planned_leaves (DropColumn namespace table name) slots n ps activity changes given =
    let m = ps.master in
    let before = given.later 0 refl in
    let c = DropColumn namespace table name in
    decided_of (Leaves (Change c slots) n ps) (judge_drop_column namespace table name m) _ (denies c slots n ps activity changes given)
    (λ t e. slots_leave c slots (DropsColumn t.table t.column) (SetVersion (t.table.schema.version + 1)) n ps activity changes given
    (goes_untaken (Change c slots) ps _ (le_of_lt before) refl refl (λ s to listed past. table_changed_time m t.table t.table.name _ n s.namespace to (ltb-true to n past))) (versioned_same (t.table.schema.version + 1) n))
planned_leaves (RenameTable namespace table name) slots n ps activity changes given =
    let m = ps.master in
    let before = given.later 0 refl in
    let c = RenameTable namespace table name in
    decided_of (Leaves (Change c slots) n ps) (judge_rename_table namespace table name m) _ (denies c slots n ps activity changes given)
    (λ t e. master_leaves c slots (RenamesTable t name) [] n ps activity changes given
    (goes_untaken (Change c slots) ps _ (le_of_lt before) refl refl (λ s to listed past. table_changed_time m t name _ n s.namespace to (ltb-true to n past))))
planned_leaves (DropTable namespace table) slots n ps activity changes given =
    let m = ps.master in
    let before = given.later 0 refl in
    let c = DropTable namespace table in
    decided_of (Leaves (Change c slots) n ps) (judge_drop_table namespace table m) _ (denies c slots n ps activity changes given)
    (λ t e. slots_leave c slots (DropsTable t.id) (HideSince n) n ps activity changes given
    (goes_untaken (Change c slots) ps _ (le_of_lt before) refl refl (λ s to listed past. table_dropped_time m t.id n s.namespace to (ltb-true to n past))) (hidden_same n n))
planned_leaves (Split namespace table code) slots n ps activity changes given =
    let c = Split namespace table code in
    decided_of (Leaves (Change c slots) n ps) (judge_split namespace table code ps.master) _ (denies c slots n ps activity changes given)
    (λ f e. split_leaves c slots f code n ps (ps.tablet f.parent.tablet.slot) activity changes given)
planned_leaves (CreateSchedule interval retention namespace) slots n ps activity changes given =
    let c = CreateSchedule interval retention namespace in
    decided_of (Leaves (Change c slots) n ps) (judge_create_schedule interval retention namespace ps.master) _ (denies c slots n ps activity changes given)
    (λ ns e. master_leaves c slots (MakesSchedule ns interval retention) (next_schedule ps.master ∷ []) n ps activity changes given (made_untaken (Change c slots) ps ns interval retention n (le_of_lt (given.later 0 refl))))
planned_leaves (EditSchedule schedule interval retention) slots n ps activity changes given =
    let m = ps.master in
    let c = EditSchedule schedule interval retention in
    decided_of (Leaves (Change c slots) n ps) (judge_edit_schedule schedule interval retention m) _ (denies c slots n ps activity changes given)
    (λ s e. master_leaves c slots (EditsSchedule s.id interval retention) [] n ps activity changes given
    (let judged = checked_is (found_schedule m schedule) (λ q. edit_schedule_checks interval retention) s e in
    edited_untaken ps slots schedule s.id interval retention n (le_of_lt (given.later 0 refl)) (schedule_is m schedule s judged.0).1 (not_false (is_period interval retention) judged.1.0)))
planned_leaves (DeleteSchedule schedule) slots n ps activity changes given =
    let m = ps.master in
    let c = DeleteSchedule schedule in
    decided_of (Leaves (Change c slots) n ps) (judge_delete_schedule schedule m) _ (denies c slots n ps activity changes given)
    (λ s e. master_leaves c slots (DeletesSchedule s.id) [] n ps activity changes given
    (let judged = checked_is (found_schedule m schedule) (λ q. delete_schedule_checks q m) s e in
    let is = schedule_is m schedule s judged.0 in
    deleted_untaken ps changes slots schedule s n (le_of_lt (given.later 0 refl)) given.inv.operations is.0 is.1 judged.1.0))
planned_leaves (TakeSnapshot schedule) slots n ps activity changes given =
    let m = ps.master in
    let c = TakeSnapshot schedule in
    decided_of (Leaves (Change c slots) n ps) (judge_take_snapshot schedule n m) _ (denies c slots n ps activity changes given)
    (λ s e. master_leaves c slots (TakesSnapshot s) (next_snapshot m ∷ []) n ps activity changes given
    (snapshot_untaken (Change c slots) ps activity changes (snapshot_taken s n m) s.namespace s.id n given.inv (le_of_lt (given.later 0 refl)) refl refl refl refl))
planned_leaves (Restore schedule to) slots n ps activity changes given =
    let m = ps.master in
    let c = Restore schedule to in
    decided_of (Leaves (Change c slots) n ps) (judge_restore schedule to n m) _ (denies c slots n ps activity changes given)
    (λ s e. master_leaves c slots (BeginsRestoration s to) (next_restoration m ∷ []) n ps activity changes given
    (quiet_untaken (Change c slots) ps (restoration_begun s to n m) (le_of_lt (given.later 0 refl)) refl refl refl (they_stay (Change c slots) m _ refl)))
planned_leaves (CloneNamespace source target at) slots n ps activity changes given =
    let m = ps.master in
    let c = CloneNamespace source target at in
    decided_of (Leaves (Change c slots) n ps) (judge_clone source target (clone_time at n) n m) _ (denies c slots n ps activity changes given)
    (λ s e. master_leaves c slots (BeginsClone s.namespace source target (clone_time at n)) (next_clone m ∷ []) n ps activity changes given
    (goes_untaken (Change c slots) ps _ (le_of_lt (given.later 0 refl)) refl refl (λ q to listed past. clone_begun_time m s.namespace source target (clone_time at n) n q.namespace to)))
planned_leaves ListSchedules slots n ps activity changes given = says ListSchedules slots n ps activity changes given (Schedules (schedule_lines n ps.master))
planned_leaves ListSnapshots slots n ps activity changes given = says ListSnapshots slots n ps activity changes given (Snapshots (snapshot_lines ps.master))
planned_leaves ListRestorations slots n ps activity changes given = says ListRestorations slots n ps activity changes given (Restorations (restoration_lines ps.master))
planned_leaves ListClones slots n ps activity changes given = says ListClones slots n ps activity changes given (Clones (clone_lines ps.master))
planned_leaves (ListTablets namespace) slots n ps activity changes given =
    let c = ListTablets namespace in
    decided_of (Leaves (Change c slots) n ps) (found_namespace ps.master namespace) _ (denies c slots n ps activity changes given)
    (λ ns e. says c slots n ps activity changes given (Tablets (tablet_lines ps.master ns)))

pub change_leaves : (command : Command) (slots : List ℕ) (n : ℕ) (ps : Parts) (activity : List Interval) (changes : List Made) → Later (0 ∷ slots) ps n → Inv ps activity changes → Facts ps → Leaves (Change command slots) n ps (change command slots n ps)
unfolding change
change_leaves command slots n ps activity changes later inv facts =
    let given : IsGiven slots n ps activity changes = record { later = later; inv = inv; facts = facts } in
    by_refusal (Leaves (Change command slots) n ps) (If (not (same_slots slots (plan_of command ps.master))) (StalePlan (plan_of command ps.master)) ∷ []) (planned command slots n ps)
    (denies command slots n ps activity changes given) (λ passes. planned_leaves command slots n ps activity changes given)
