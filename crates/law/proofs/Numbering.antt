-- After each entry of a legal history the newest schemas go on from the journal's.
use Rattle.std.proofs.Common.{◌≡◌, ℕ, ◌≤◌, ◌<◌, ◌+◌, List, [], ◌∷◌, Option, Some, None, false, refl, sym, ap, subst, ◌∙◌, arith, not, le_trans, le_of_lt}
use Rattle.std.specs.Prelude.{Result, Ok as Granted, Err as Denied}
use Rattle.std.specs.Option.{option_map_or}
use Rattle.std.proofs.lemmas.Bool.{cond_both}
use Rattle.model.specs.Cluster.{Id, Kind, Snapshot, RestorationKind as Restoration, CloneKind as Clone, has, same_slots, first_schema, Interval, TableRecord, kept_from, RestorationRecord, RestorationState, Switching, SnapshotRecord, CloneRecord, CloneState, Accepted, CloneSnapshot, Copying, CloneReleasing, CloneComplete, Schedule as ScheduleRecord, schedule_of, State, is_restored, first_unacked, Item, Told, In}
use Rattle.model.specs.Acts.{Act, Change, Write, Advance, Prune, Command, CreateNamespace, DropNamespace, CreateTable, AddColumn, DropColumn, RenameTable, DropTable, Split, CreateSchedule, DeleteSchedule, TakeSnapshot, Restore, CloneNamespace, ListTablets, Refusal, StalePlan, UnknownColumn, EditSchedule}
use Rattle.model.specs.Parts.{Master, Parts, Outcome, MasterAct, Ticks, MakesNamespace, DropsNamespace, MakesTable, AddsColumn, DropsColumn, RenamesTable, DropsTable, Sends, Acks, Unsends, Moves, Removes, Prunes, Restarts, If, unless, refused, decided, refusal_in}
use Rattle.model.specs.Changed.{next_namespace, next_table, clone_time}
use Rattle.model.specs.Changes.{change, planned, create_namespace, drop_namespace, create_table, add_column, add_column_checks, drop_column, column_of, found_column, unheld_checks, rename_table, rename_table_checks, drop_table, split, create_schedule, delete_schedule, take_snapshot, restore, clone_namespace, list_tablets, judge_clone, judge_create_namespace, judge_drop_namespace, judge_create_table, judge_add_column, judge_drop_column, judge_rename_table, judge_drop_table, judge_split, judge_create_schedule, judge_delete_schedule, judge_take_snapshot, judge_restore, edit_schedule, judge_edit_schedule}
use Rattle.model.specs.Cleanup.{prune}
use Rattle.model.specs.Coordination.{unfinished_snapshot, unfinished_restoration, unfinished_clone}
use Rattle.model.specs.Drawn.{SchemasDrawn}
use Rattle.model.specs.Entries.{Entry, slots_of}
use Rattle.model.specs.History.{with_master, outcome, told, master_effect, replay, journal_of, activity_of, with_changes, with_rows, with_either, with_restoration, with_clone, Legal}
use Rattle.model.specs.Looks.{plan_of, found_namespace, found_table}
use Rattle.model.specs.Moves.{Progress, advance, advancing, moving, moved_of, progress_of, waits_for, completed, restoration_moved, serving_clone, clone_goes, begins_clone, with_clones_snapshot, clone_moved}
use Rattle.law_invariants.proofs.Effects.{acked_each, removed_each}
use Rattle.law_invariants.specs.Invariant.{Inv, Later, TablesStand}
use Rattle.law_invariants.specs.Operations.{RestorationStateGood}
use Rattle.law_invariants.proofs.Cataloguing.{table_is}
use Rattle.law_invariants.proofs.Judging.{and_found_is, checked_is}
use Rattle.law_changes.proofs.Schemas.{column_found}
use Rattle.law_invariants.proofs.Advancing.{no_restoration, no_clone}
use Rattle.law_invariants.proofs.Pending.{unfinished_restoration_is, unfinished_clone_is}
use Rattle.law_invariants.proofs.Serving.{floor_restores}
use Rattle.law.proofs.Telling.{Commands, command_each}
use Rattle.law.proofs.Plain.{is_weighty, may_weigh, act_none}
use Rattle.law.proofs.Schemas.{SchemasStand, namespace_changed, namespace_ended, rows_changed, table_made, column_added, column_dropped, table_renamed, table_dropped, tables_pruned, tables_restored, tables_cloned_on}
use Rattle.law.proofs.Law.{legal_holds, stamps_later}
use Rattle.law_clones.proofs.Growing.{Becomes, takes_catalog}
use Rattle.model.specs.Journal as made

abbrev Stand : Master → List made.Change → Type 0
Stand m changes = SchemasStand m.catalog.tables changes

-- an outcome by which the schemas go on
record GoesOn (act : Act) (n : ℕ) (ps : Parts) (changes : List made.Change) (o : Outcome) : Type 0 where
  stand : Stand (master_effect o.master n ps.master) (with_changes act o n ps changes)

-- Commands

-- the schemas go on where the master is told what a command may tell it
command_go : (Asked : Type 0) (a : MasterAct) (n : ℕ) (ps : Parts) (activity : List Interval) (changes : List made.Change) → Commands Asked ps.master a → ps.master.clock < n → Inv ps activity changes → Stand ps.master changes
    → Stand (master_effect a n ps.master) (with_master a n ps.master changes)
command_go Asked (MakesNamespace name) n ps activity changes told less inv h = namespace_changed ps.master.catalog.tables changes n (next_namespace ps.master) name h
command_go Asked (DropsNamespace ns) n ps activity changes told less inv h = namespace_ended ps.master.catalog.tables changes n ns h
command_go Asked (MakesTable ns table columns slots) n ps activity changes told less inv h =
    table_made ps.master.catalog.tables changes n (record { id = next_table ps.master; namespace = ns; name = table; schema = first_schema columns; from = n; to = None }) columns refl refl h
command_go Asked (AddsColumn t name kind) n ps activity changes told less inv h =
    column_added ps.master.catalog.tables changes n t name kind inv.master.tables.rise told.0 told.1 (le_trans (inv.master.tables.past _ told.0).begun (le_of_lt less)) h
command_go Asked (DropsColumn t column) n ps activity changes told less inv h =
    column_dropped ps.master.catalog.tables changes n t column.name column.id inv.master.tables.rise told.0 told.1 (le_trans (inv.master.tables.past _ told.0).begun (le_of_lt less)) h
command_go Asked (RenamesTable t name) n ps activity changes told less inv h =
    table_renamed ps.master.catalog.tables changes n t name inv.master.tables.rise told.0 told.1 (le_trans (inv.master.tables.past _ told.0).begun (le_of_lt less)) h
command_go Asked (DropsTable table) n ps activity changes told less inv h = table_dropped ps.master.catalog.tables changes n table h
command_go Asked (Acks operation slot) n ps activity changes told less inv h = absurd told
command_go Asked (Moves operation) n ps activity changes told less inv h = absurd told
command_go Asked (Removes target) n ps activity changes told less inv h = absurd told
command_go Asked Prunes n ps activity changes told less inv h = absurd told
command_go Asked _ n ps activity changes told less inv h = h

-- Acts that leave the tables

pub plain_tables : (a : MasterAct) (n : ℕ) (m : Master) → is_weighty a ≡ false → (master_effect a n m).catalog.tables ≡ m.catalog.tables
plain_tables (Acks operation slot) n m e = acked_each (λ k. k.catalog.tables ≡ m.catalog.tables) operation.kind operation slot n m refl refl refl refl
plain_tables (Removes target) n m e = removed_each (λ k. k.catalog.tables ≡ m.catalog.tables) target.kind target n m refl refl refl
plain_tables Ticks n m e = refl
plain_tables (Sends operation slot) n m e = refl
plain_tables (Unsends operation slot) n m e = refl
plain_tables Restarts n m e = refl
plain_tables _ n m e = absurd (let q = e in grind arith)

-- after an act: the schemas of the parts that it leaves, and the journal with its changes
abbrev Left : Act → ℕ → Parts → List made.Change → Type 0
Left act n ps changes = SchemasStand (told act (outcome act n ps) n ps).master.catalog.tables (with_changes act (outcome act n ps) n ps changes)

plain_left : (act : Act) (n : ℕ) (ps : Parts) (changes : List made.Change) → may_weigh act ≡ false → Stand ps.master changes → SchemasStand (told act (outcome act n ps) n ps).master.catalog.tables changes
plain_left act n ps changes e h =
    cond_both (has (slots_of act) 0) (master_effect (outcome act n ps).master n ps.master) ps.master (λ m. Stand m changes)
    (λ touched. subst (λ rs. SchemasStand rs changes) (sym (plain_tables (outcome act n ps).master n ps.master (act_none act n ps e).none)) h)
    (λ alone. h)

written : (told : List Told) (n : ℕ) (table : Id) (batch : List Item) (rs : List TableRecord) (changes : List made.Change) → SchemasStand rs changes → SchemasStand rs (with_rows told n table batch changes)
written [] n table batch rs changes h = h
written (one ∷ rest) n table batch rs changes h = rows_changed batch rs changes n table h

-- Moves

state_go : (state : RestorationState) (r : RestorationRecord) (n : ℕ) (m : Master) (changes : List made.Change) → TablesStand m.catalog m.clock m.drawn.tables changes → (is_restored state ≡ false → kept_from m.catalog.kept_from r.namespace ≤ r.to) → RestorationStateGood state m changes r → Stand m changes
    → Stand (restoration_moved state r n m) (with_restoration state r changes)
state_go (Switching point serving) r n m changes tables known good h = tables_restored m changes r.namespace r.to point tables (known refl) good.before.tables_begun h
state_go _ r n m changes tables known good h = h

restoration_go : (found : Option RestorationRecord) (n : ℕ) (ps : Parts) (activity : List Interval) (changes : List made.Change) (operation : Id) → unfinished_restoration ps.master.restorations operation ≡ found → Inv ps activity changes → Stand ps.master changes
    → Stand (option_map_or (λ r. restoration_moved r.state r n ps.master) found (record ps.master { clock = n })) (with_either found None n changes)
restoration_go None n ps activity changes operation e inv h = h
restoration_go (Some r) n ps activity changes operation e inv h =
    let is = unfinished_restoration_is ps.master.restorations operation r e in
    state_go r.state r n ps.master changes inv.master.tables (λ unfinished. le_trans (inv.operations.kept r.namespace) (floor_restores ps.master changes r inv.operations is.0 unfinished)) (inv.operations.restorations r is.0).in_state h

clone_state_go : (state : CloneState) (r : CloneRecord) (n : ℕ) (ps : Parts) (activity : List Interval) (changes : List made.Change) → In r ps.master.clones → r.state ≡ state → Inv ps activity changes → Stand ps.master changes
    → Stand (clone_moved state r n ps.master) (with_clone state r n changes)
clone_state_go Accepted r n ps activity changes there is inv h = begun (serving_clone ps.master r) (schedule_of ps.master.schedules r.source)
  where
    own : (o : Option ScheduleRecord) → Stand (clone_goes Accepted None r n ps.master (with_clones_snapshot o r n ps.master)) changes
    own None = h
    own (Some s) = h

    begun : (o : Option SnapshotRecord) (s : Option ScheduleRecord) → Stand (begins_clone o r n ps.master) changes
    begun (Some k) s = h
    begun None s = own (schedule_of ps.master.schedules r.source)
clone_state_go (CloneSnapshot own) r n ps activity changes there is inv h = h
clone_state_go (Copying serving at) r n ps activity changes there is inv h =
    let b : Becomes ps activity changes (ps.master.clock + 1) r serving at = record { before = omega arith; kept = there; is = is; inv = inv } in
    tables_cloned_on ps.master changes r n inv.master.tables (takes_catalog ps activity changes (ps.master.clock + 1) r serving at b) h
clone_state_go (CloneReleasing serving at) r n ps activity changes there is inv h = h
clone_state_go (CloneComplete serving at) r n ps activity changes there is inv h = h

clone_go : (found : Option CloneRecord) (n : ℕ) (ps : Parts) (activity : List Interval) (changes : List made.Change) (operation : Id) → unfinished_clone ps.master.clones operation ≡ found → Inv ps activity changes → Stand ps.master changes
    → Stand (option_map_or (λ r. clone_moved r.state r n ps.master) found (record ps.master { clock = n })) (with_either None found n changes)
clone_go None n ps activity changes operation e inv h = h
clone_go (Some r) n ps activity changes operation e inv h = clone_state_go r.state r n ps activity changes (unfinished_clone_is ps.master.clones operation r e).0 refl inv h

snapshot_go : (found : Option SnapshotRecord) (n : ℕ) (m : Master) (changes : List made.Change) → Stand m changes → Stand (option_map_or (λ r. completed r n m) found (record m { clock = n })) changes
snapshot_go None n m changes h = h
snapshot_go (Some r) n m changes h = h

-- an operation that is none of the kind makes no change
quiet_go : (n : ℕ) (ps : Parts) (activity : List Interval) (changes : List made.Change) (operation : Id) (rs : List TableRecord) → (operation.kind ≡ Restoration → ⊥) → (operation.kind ≡ Clone → ⊥) → Inv ps activity changes → SchemasStand rs changes
    → SchemasStand rs (with_either (unfinished_restoration ps.master.restorations operation) (unfinished_clone ps.master.clones operation) n changes)
quiet_go n ps activity changes operation rs apart other inv h =
    subst (λ r. SchemasStand rs (with_either r (unfinished_clone ps.master.clones operation) n changes)) (sym (no_restoration ps.master changes operation inv.operations apart))
    (subst (λ c. SchemasStand rs (with_either None c n changes)) (sym (no_clone ps.master changes operation inv.operations other)) h)

kind_go : (kind : Kind) (n : ℕ) (ps : Parts) (activity : List Interval) (changes : List made.Change) (operation : Id) → operation.kind ≡ kind → Inv ps activity changes → Stand ps.master changes
    → Stand (moved_of kind operation n ps.master) (with_either (unfinished_restoration ps.master.restorations operation) (unfinished_clone ps.master.clones operation) n changes)
kind_go Clone n ps activity changes operation is inv h =
    subst (λ r. Stand (moved_of Clone operation n ps.master) (with_either r (unfinished_clone ps.master.clones operation) n changes)) (sym (no_restoration ps.master changes operation inv.operations (λ q. let e = sym is ∙ q in grind arith)))
    (clone_go (unfinished_clone ps.master.clones operation) n ps activity changes operation refl inv h)
kind_go Restoration n ps activity changes operation is inv h =
    subst (λ c. Stand (moved_of Restoration operation n ps.master) (with_either (unfinished_restoration ps.master.restorations operation) c n changes)) (sym (no_clone ps.master changes operation inv.operations (λ q. let e = sym is ∙ q in grind arith)))
    (restoration_go (unfinished_restoration ps.master.restorations operation) n ps activity changes operation refl inv h)
kind_go Snapshot n ps activity changes operation is inv h =
    quiet_go n ps activity changes operation _ (λ q. let e = sym is ∙ q in grind arith) (λ q. let e = sym is ∙ q in grind arith) inv (snapshot_go (unfinished_snapshot ps.master.snapshots operation) n ps.master changes h)
kind_go _ n ps activity changes operation is inv h = quiet_go n ps activity changes operation _ (λ q. let e = sym is ∙ q in grind arith) (λ q. let e = sym is ∙ q in grind arith) inv h

moving_go : (awaited : Option Id) (operation : Id) (next : State) (n : ℕ) (ps : Parts) (changes : List made.Change) → Stand ps.master changes
    → Stand (moved_of operation.kind operation n ps.master) (with_either (unfinished_restoration ps.master.restorations operation) (unfinished_clone ps.master.clones operation) n changes)
    → GoesOn (Advance operation) n ps changes (moving awaited operation next)
moving_go None operation next n ps changes h moved = record { stand = moved }
moving_go (Some on) operation next n ps changes h moved = record { stand = h }

advancing_go : (p : Option Progress) (operation : Id) (n : ℕ) (ps : Parts) (changes : List made.Change) → Stand ps.master changes
    → Stand (moved_of operation.kind operation n ps.master) (with_either (unfinished_restoration ps.master.restorations operation) (unfinished_clone ps.master.clones operation) n changes)
    → GoesOn (Advance operation) n ps changes (advancing p operation)
advancing_go None operation n ps changes h moved = record { stand = h }
advancing_go (Some p) operation n ps changes h moved = moving_go (waits_for (first_unacked p.listed) p.awaited) operation p.next n ps changes h moved

-- Each act

act_left : (act : Act) (n : ℕ) (ps : Parts) (activity : List Interval) (changes : List made.Change) → Later (slots_of act) ps n → Inv ps activity changes → Stand ps.master changes → Left act n ps changes
unfolding advance prune
act_left (Change command slots) n ps activity changes later inv h =
    (command_each (GoesOn (Change command slots) n ps changes) command slots n ps (λ why. record { stand = h })
    (λ o is. record { stand = command_go _ o.master n ps activity changes is.told (later 0 refl) inv h })).stand
act_left (Advance operation) n ps activity changes later inv h =
    (advancing_go (progress_of operation.kind ps.master operation) operation n ps changes h (kind_go operation.kind n ps activity changes operation refl inv h)).stand
act_left Prune n ps activity changes later inv h = tables_pruned ps.master n changes inv.master.tables h
act_left (Write place version batch) n ps activity changes later inv h =
    written (outcome (Write place version batch) n ps).tablets n (ps.tablet place.slot).table batch _ changes (plain_left (Write place version batch) n ps changes refl h)
act_left act n ps activity changes later inv h = plain_left act n ps changes refl h

pub all_stand : (history : List Entry) (slots : ℕ) → Legal slots history → Stand (replay slots history).master (journal_of slots history)
unfolding replay journal_of
all_stand [] slots legal = record { columns = tt; newest = λ table s e. absurd (let q = e in grind arith); versions = tt }
all_stand (e ∷ earlier) slots legal =
    let ps = replay slots earlier in
    let changes = journal_of slots earlier in
    act_left e.event.act e.stamp ps (activity_of slots earlier) changes (stamps_later e ps legal.1.stamp) (legal_holds earlier slots legal.0).inv (all_stand earlier slots legal.0)

pub schemas_drawn : (history : List Entry) (slots : ℕ) → Legal slots history → SchemasDrawn (replay slots history).master (journal_of slots history)
schemas_drawn history slots legal =
    let h = all_stand history slots legal in
    record { columns = h.columns; next = λ table s e. (h.newest table s e).next; version = λ table s e. (h.newest table s e).version }
