-- What the master is told, as the book's; what it needs of the master, and of the room that was made.
use Rattle.std.specs.Prelude.{ℕ, ◌≡◌, ◌≤◌, ◌<◌, ◌+◌, ◌^◌, true, List, None, Some, Ok as Granted, length, filter}
use Rattle.row_values.specs.Elements.{In}
use Rattle.row_values.specs.Ids.{Id, Kind, Snapshot, same, id_bound}
use Rattle.row_values.specs.Schema.{Schema, first_schema, with_column, without_column}
use Rattle.table_schema.specs.Seen.{column_kind_of}
use Rattle.model.specs.Activity.{Interval}
use Rattle.model.specs.Catalog.{TableRecord, namespace_named, name_of, current_named, current_table, owner_of}
use Rattle.model.specs.Parts as book
use Rattle.model.specs.Parts.{Master}
use Rattle.model.specs.Tablets.{Fence}
use Rattle.model.specs.Records.{Schedule, ScheduledNamespace, RestorationRecord, CloneRecord, Fencing, Switching, Copying}
use Rattle.model.specs.Schedules.{complete_to}
use Rattle.model.specs.Lists.{new_snapshot, listing, active_tablets, tablets_active_at}
use Rattle.model.specs.Changed.{next_namespace, next_table, next_restoration, new_clone}
use Rattle.model.specs.Changes.{CloneSource, judge_clone}
use Rattle.model.specs.Restored.{newest}
use Rattle.model.specs.Drawn.{drawn_of, drawn_for_clone, most_slots}
use Rattle.catalog_core.specs.Begins.{IsHome}
use Rattle.catalog_core.specs.Cloned.{TargetFits}
use Rattle.catalog_core.specs.Kept.{ends_by, ends_in, is_free_for}
use Rattle.schedules.specs.Periods.{IsPeriod}
use Rattle.master_part.specs.View.{MasterView}
use Rattle.master_part.specs.Going.{IsRestoration, IsClone, OfRestoration, MakesSnapshot, Enters, SwitchesBy, OfClone, CloneFits, MakesServing, CloneEnters, ShowsBy, CutsBy, PruneRoom}
use Rattle.master_part.specs.declared.act.MasterAct.{MasterAct}
use Rattle.master_part.specs.declared.act.MasterAct.TheVariants as act

abbrev pub act_of : MasterAct → book.MasterAct
act_of act.Ticks = book.Ticks
act_of (act.MakesNamespace name) = book.MakesNamespace name
act_of (act.DropsNamespace namespace) = book.DropsNamespace namespace
act_of (act.MakesTable namespace name columns schema slots) = book.MakesTable namespace name columns slots
act_of (act.AddsColumn table name kind made) = book.AddsColumn table name (column_kind_of kind)
act_of (act.DropsColumn table column made) = book.DropsColumn table column
act_of (act.RenamesTable table name made) = book.RenamesTable table name
act_of (act.DropsTable table) = book.DropsTable table
act_of (act.SplitsTablet parent code low_slot high_slot) = book.SplitsTablet parent code low_slot high_slot
act_of (act.MakesSchedule namespace interval retention) = book.MakesSchedule namespace interval retention
act_of (act.EditsSchedule schedule interval retention) = book.EditsSchedule schedule interval retention
act_of (act.DeletesSchedule schedule) = book.DeletesSchedule schedule
act_of (act.TakesSnapshot schedule made) = book.TakesSnapshot schedule
act_of (act.BeginsRestoration schedule to made) = book.BeginsRestoration schedule to
act_of (act.Sends operation slot) = book.Sends operation slot
act_of (act.Acks operation slot) = book.Acks operation slot
act_of (act.Unsends operation slot) = book.Unsends operation slot
act_of (act.CompletesSnapshot operation) = book.Moves operation
act_of (act.SnapshotsRestoration operation made) = book.Moves operation
act_of (act.MovesRestoration operation state listed) = book.Moves operation
act_of (act.SwitchesRestoration operation switch) = book.Moves operation
act_of (act.BeginsClone namespace source target to made) = book.BeginsClone namespace source target to
act_of (act.SnapshotsClone operation made) = book.Moves operation
act_of (act.MovesClone operation state listed) = book.Moves operation
act_of (act.ShowsClone operation name tables listed) = book.Moves operation
act_of (act.Removes target) = book.Removes target
act_of (act.Prunes cuts) = book.Prunes
act_of act.Restarts = book.Restarts

-- What the law says of the master that a legal history leaves: few identifiers were drawn (`numbers_are_drawn`), what
-- the catalog has was drawn before, a table's schema changed less often than entries were made, no record of a table ends
-- after the clock, each tablet is in one of the slots, the last complete snapshot of a namespace is over
-- (`legal_is_right`), a clone draws few identifiers, the tablets of one time lie in different slots, records of one table
-- are of one namespace, an identifier is that of one restoration or clone, none of a restoration's namespace ends after its point until the switch, and a clone whose rows
-- are copied may become current
pub record IsLawful (m : Master) : Type 0 where
  pub few : (kind : Kind) → drawn_of kind m.drawn + most_slots < id_bound
  pub namespaces : name_of m.catalog.namespaces (next_namespace m) ≡ None
  pub tables : current_table m.catalog.tables (next_table m) ≡ None
  pub owners : owner_of m.catalog.owners (next_table m) ≡ None
  pub columns : (t : TableRecord) → In t m.catalog.tables
      → (t.schema.version + 1 < 2 ^ 32) × (t.schema.next + 1 < 2 ^ 32)
  pub past : ends_by m.clock m.catalog.tables ≡ true
  pub placed : (i : Interval) → In i m.activity → (1 ≤ i.slot) × (i.slot ≤ m.slots)
  pub complete : (k : ScheduledNamespace) → In k m.scheduled → complete_to k + 1 ≤ m.clock
  pub clones : (source target : List ℕ) (to n : ℕ) (s : CloneSource) → m.clock < n
      → judge_clone source target to n m ≡ Granted s → (kind : Kind) → drawn_of kind (drawn_for_clone to m s.namespace) ≤ most_slots
  pub places : (ns : Id) (to : ℕ) → length (tablets_active_at m.catalog.owners m.activity ns to) ≤ m.slots
  pub unowned : (table : Id) → m.drawn.tables < table.number → owner_of m.catalog.owners table ≡ None
  pub owned : (t : TableRecord) → In t m.catalog.tables → owner_of m.catalog.owners t.id ≡ Some t.namespace
  pub newest : (t : TableRecord) → In t m.catalog.tables → t.schema.next ≤ (newest m.catalog.tables t).next
  pub home : IsHome m.catalog.tables
  pub one_restoration : (id : Id) → length (filter (λ (r : RestorationRecord). same r.id id) m.restorations) ≤ 1
  pub one_clone : (id : Id) → length (filter (λ (r : CloneRecord). same r.id id) m.clones) ≤ 1
  pub switches : (r : RestorationRecord) (point : ℕ) (serving : Id) → In r m.restorations
      → r.state ≡ Switching point serving → ends_in r.namespace point m.catalog.tables ≡ true
  pub shows : (r : CloneRecord) (serving : Id) (copied_at : ℕ) → In r m.clones → r.state ≡ Copying serving copied_at
      → TargetFits m.catalog r

-- a namespace of the name may be made
pub record NamespaceFits (name : List ℕ) (m : Master) : Type 0 where
  pub few : m.drawn.namespaces + 1 < id_bound
  pub free : namespace_named m.catalog.namespaces name ≡ None
  pub fresh : name_of m.catalog.namespaces (next_namespace m) ≡ None

-- a table of the name may be made in the namespace, with a tablet in each of the slots
pub record TableFits (ns : Id) (name slots : List ℕ) (n : ℕ) (m : Master) : Type 0 where
  pub most : length slots ≤ 64
  pub few : m.drawn.tables + 1 < id_bound
  pub tablets : m.drawn.tablets + length slots < id_bound
  pub free : current_named m.catalog.tables ns name ≡ None
  pub fresh : current_table m.catalog.tables (next_table m) ≡ None
  pub unowned : owner_of m.catalog.owners (next_table m) ≡ None
  pub past : ends_by n m.catalog.tables ≡ true

-- the record under which a table goes on from a stamp
abbrev pub goes_on : TableRecord → List ℕ → Schema → ℕ → TableRecord
goes_on t name schema n = record t { name = name; schema = schema; from = n; to = None }

-- the record of a stamp may follow its table's current one
pub record ChangeFits (made : TableRecord) (n : ℕ) (m : Master) : Type 0 where
  pub from : made.from ≡ n
  pub current : made.to ≡ None
  pub past : ends_by n m.catalog.tables ≡ true
  pub free : is_free_for made.id (current_named m.catalog.tables made.namespace made.name) ≡ true

-- a restoration that begins by fencing the namespace's active tablets
abbrev pub new_restoration : Master → Schedule → ℕ → RestorationRecord
new_restoration m s to = record {
  id = next_restoration m;
  schedule = s.id;
  namespace = s.namespace;
  to = to;
  listed = listing Fence (active_tablets m.catalog.owners m.activity s.namespace);
  state = Fencing;
}

-- the tablet may be split at the code
pub record SplitFits (parent : Interval) (code : ℕ) (m : Master) : Type 0 where
  pub tablets : m.drawn.tablets + 2 < id_bound
  pub above : parent.low < code
  pub below : code < parent.high

-- what an act needs of the master at a stamp
abbrev pub May : MasterAct → ℕ → Master → Type 0
May act.Ticks n m = Unit {0}
May (act.MakesNamespace name) n m = NamespaceFits name m
May (act.DropsNamespace namespace) n m = Unit {0}
May (act.MakesTable namespace name columns schema slots) n m =
    TableFits namespace name slots n m × (first_schema columns ≡ schema)
May (act.AddsColumn table name kind made) n m =
    ChangeFits made n m × (goes_on table table.name (with_column name (column_kind_of kind) table.schema) n ≡ made)
May (act.DropsColumn table column made) n m =
    ChangeFits made n m × (goes_on table table.name (without_column column.name table.schema) n ≡ made)
May (act.RenamesTable table name made) n m = ChangeFits made n m × (goes_on table name table.schema n ≡ made)
May (act.DropsTable table) n m = Unit {0}
May (act.SplitsTablet parent code low_slot high_slot) n m = SplitFits parent code m
May (act.MakesSchedule namespace interval retention) n m =
    (m.drawn.schedules + 1 < id_bound) × IsPeriod interval retention
May (act.EditsSchedule schedule interval retention) n m = IsPeriod interval retention
May (act.DeletesSchedule schedule) n m = Unit {0}
May (act.TakesSnapshot schedule made) n m =
    (m.drawn.snapshots + 1 < id_bound) × (new_snapshot m schedule.namespace schedule.id n ≡ made)
May (act.BeginsRestoration schedule to made) n m =
    (m.drawn.restorations + 1 < id_bound) × (new_restoration m schedule to ≡ made)
May (act.Sends operation slot) n m = Unit {0}
May (act.Acks operation slot) n m = Unit {0}
May (act.Unsends operation slot) n m = Unit {0}
May (act.CompletesSnapshot operation) n m = operation.kind ≡ Snapshot
May (act.SnapshotsRestoration operation made) n m =
    IsRestoration operation m × OfRestoration operation m (λ r. MakesSnapshot made r n m)
May (act.MovesRestoration operation state listed) n m =
    IsRestoration operation m × OfRestoration operation m (λ r. Enters state listed r n m)
May (act.SwitchesRestoration operation switch) n m =
    IsRestoration operation m × OfRestoration operation m (λ r. SwitchesBy r.state switch r m)
May (act.BeginsClone namespace source target to made) n m =
    CloneFits made m × (new_clone namespace source target to m ≡ made)
May (act.SnapshotsClone operation made) n m =
    IsClone operation m × OfClone operation m (λ r. MakesServing made r n m)
May (act.MovesClone operation state listed) n m =
    IsClone operation m × OfClone operation m (λ r. CloneEnters state listed r n m)
May (act.ShowsClone operation name tables listed) n m =
    IsClone operation m × OfClone operation m (λ r. ShowsBy r.state name tables listed r n m)
May (act.Removes target) n m = Unit {0}
May (act.Prunes cuts) n m = CutsBy cuts n m
May act.Restarts n m = Unit {0}

-- and of the room that was made
abbrev pub HasRoom : MasterAct → MasterView → Type 0
HasRoom act.Ticks p = Unit {0}
HasRoom (act.MakesNamespace name) p = 1 ≤ p.catalog_room
HasRoom (act.DropsNamespace namespace) p = Unit {0}
HasRoom (act.MakesTable namespace name columns schema slots) p =
    (1 ≤ p.catalog_room) × (length slots ≤ p.activity_room)
HasRoom (act.AddsColumn table name kind made) p = 1 ≤ p.catalog_room
HasRoom (act.DropsColumn table column made) p = 1 ≤ p.catalog_room
HasRoom (act.RenamesTable table name made) p = 1 ≤ p.catalog_room
HasRoom (act.DropsTable table) p = Unit {0}
HasRoom (act.SplitsTablet parent code low_slot high_slot) p = 2 ≤ p.activity_room
HasRoom (act.MakesSchedule namespace interval retention) p = (1 ≤ p.schedule_room) × (1 ≤ p.scheduled_room)
HasRoom (act.EditsSchedule schedule interval retention) p = Unit {0}
HasRoom (act.DeletesSchedule schedule) p = Unit {0}
HasRoom (act.TakesSnapshot schedule made) p = 1 ≤ p.snapshot_room
HasRoom (act.BeginsRestoration schedule to made) p = 1 ≤ p.restoration_room
HasRoom (act.Sends operation slot) p = 1 ≤ p.sent_room
HasRoom (act.Acks operation slot) p = Unit {0}
HasRoom (act.Unsends operation slot) p = Unit {0}
HasRoom (act.CompletesSnapshot operation) p = Unit {0}
HasRoom (act.SnapshotsRestoration operation made) p = 1 ≤ p.snapshot_room
HasRoom (act.MovesRestoration operation state listed) p = Unit {0}
HasRoom (act.SwitchesRestoration operation switch) p =
    (length switch.tables ≤ p.catalog_room) × (length switch.active ≤ p.activity_room)
HasRoom (act.BeginsClone namespace source target to made) p =
    (length made.tables ≤ p.catalog_room) × (1 ≤ p.clone_room)
HasRoom (act.SnapshotsClone operation made) p = 1 ≤ p.snapshot_room
HasRoom (act.MovesClone operation state listed) p = Unit {0}
HasRoom (act.ShowsClone operation name tables listed) p =
    (1 ≤ p.catalog_room) × ((length tables ≤ p.catalog_room)
    × OfClone operation p.master (λ r. length r.tablets ≤ p.activity_room))
HasRoom (act.Removes target) p = Unit {0}
HasRoom (act.Prunes cuts) p = PruneRoom p
HasRoom act.Restarts p = Unit {0}
