-- Numbers that are drawn once, over the whole history, whatever is restored: identifiers, the ids of a table's
-- columns, and the versions of its schema.
use Rattle.std.specs.Prelude.{◌≡◌, ℕ, ◌≤◌, ◌<◌, Bool, false, List, [], ◌∷◌, ◌++◌, Option, Some, None, ◌+◌, ◌*◌, ◌==◌, ◌||◌, ◌&&◌, ◌⊎◌, nat_lt, max, fold, map, length, if◌then◌else◌, unwrap_or, ◌-◌, filter, option_to_list}
use Rattle.model.specs.Words.{option_map_or, Id, Kind, Namespace, Table, Tablet, Schedule, Snapshot, Restoration, Clone, id_bound, same, in_order, Column, Schema}
use Rattle.model.specs.Cluster.{namespace_named, tables_at, latest, SnapshotRecord, CloneRecord, TabletPair, State, Act, Reply, Drawn, Master, none_drawn, deed_of, Commands, Advances, Obeys, NoDeed, success_of, Makes, Enters, Does, NoSuccess, making_of, Making, ANamespace, ATable, TwoTablets, ASchedule, ASnapshot, ARestoration, AClone, Nothing, is_snapshotting, named_by_restoration, named_by_clone}
use Rattle.model.specs.Journal as made
use Rattle.model.specs.Acts.{Command}
use Rattle.model.specs.Lists.{by_table_and_range, numbered_as, tablets_active_at}
use Rattle.model.specs.Coordination.{unfinished_restoration, unfinished_clone}
use Rattle.model.specs.Moves.{anew}
use Rattle.model.specs.Journal.{ChangeAct, NamespaceMade, NamespaceDropped, TableMade, TableRenamed, TableDropped, ColumnAdded, ColumnDropped, RowChanged, NamespaceRestored, NamespaceCloned, TableView, is_in, source_of, table_at}
use Rattle.model.specs.Entries.{Entry}
use Rattle.model.specs.History.{replay, held, snapshots_taken}
pub use Rattle.model.specs.Journal.{first_version, version_after}

-- How many

-- how many identifiers of a kind were drawn
abbrev pub drawn_of : Kind → Drawn → ℕ
drawn_of Namespace drawn = drawn.namespaces
drawn_of Table drawn = drawn.tables
drawn_of Tablet drawn = drawn.tablets
drawn_of Schedule drawn = drawn.schedules
drawn_of Snapshot drawn = drawn.snapshots
drawn_of Restoration drawn = drawn.restorations
drawn_of Clone drawn = drawn.clones

-- the identifiers that a reply names as made
abbrev pub ids_made : Reply → List Id
ids_made reply = elim (success_of reply) [
  | Makes made ↦ made
  | Enters state ↦ []
  | Does operation kind ↦ []
  | NoSuccess ↦ []
]

-- the state into which a record moved
abbrev pub entered_by : Reply → List State
entered_by reply = elim (success_of reply) [
  | Enters state ↦ state ∷ []
  | Makes made ↦ []
  | Does operation kind ↦ []
  | NoSuccess ↦ []
]

-- a clone draws one for the namespace that it makes, and one for each table and tablet that its source had then
abbrev pub drawn_for_clone : ℕ → Master → Id → Drawn
drawn_for_clone to m source = record none_drawn {
  namespaces = 1;
  tables = length (tables_at m.catalog.tables source to);
  tablets = length (tablets_active_at m.catalog.owners m.activity source to);
  clones = 1;
}

-- how many identifiers of each kind an accepted command draws at a stamp, on this master
abbrev pub drawn_for : Command → ℕ → Master → Drawn
drawn_for command n m = elim (making_of command) [
  | ANamespace ↦ record none_drawn { namespaces = 1 }
  | ATable tablets ↦ record none_drawn { tables = 1; tablets = tablets }
  | TwoTablets ↦ record none_drawn { tablets = 2 }
  | ASchedule ↦ record none_drawn { schedules = 1 }
  | ASnapshot ↦ record none_drawn { snapshots = 1 }
  | ARestoration schedule to ↦ record none_drawn { restorations = 1 }
  | AClone source target to ↦
      option_map_or (drawn_for_clone (unwrap_or to (n - 1)) m) (namespace_named m.catalog.namespaces source) none_drawn
  | Nothing ↦ none_drawn
]

-- a command that makes nothing, as one that was refused, draws none
abbrev pub drawn_making : List Id → Command → ℕ → Master → Drawn
drawn_making [] command n m = none_drawn
drawn_making (id ∷ ids) command n m = drawn_for command n m

-- a restoration, or a clone, that moves on to a snapshot draws one for it
abbrev pub drawn_entering : List State → Drawn
drawn_entering [] = none_drawn
drawn_entering (state ∷ states) = if is_snapshotting state then record none_drawn { snapshots = 1 } else none_drawn

-- how many an event draws, by its reply
abbrev pub drawn_by : Act → Reply → ℕ → Master → Drawn
drawn_by act reply n m = elim (deed_of act) [
  | Commands command ↦ drawn_making (ids_made reply) command n m
  | Advances operation ↦ drawn_entering (entered_by reply)
  | Obeys slot ↦ none_drawn
  | NoDeed ↦ none_drawn
]

-- Which

-- those of a list beyond so many that were drawn
abbrev pub beyond : ℕ → List Id → List Id
beyond drawn ids = filter (λ id. nat_lt drawn id.number) ids

-- a clone's tablets stand in order of table, then of range
abbrev pub is_pair_before : TabletPair → TabletPair → Bool
is_pair_before p q = nat_lt p.table.number q.table.number || (p.table.number == q.table.number) && nat_lt p.low q.low

-- what a clone is to make: its namespace; its tables, in order of the source's table; its tablets
abbrev pub reserved_in : Kind → CloneRecord → List Id
reserved_in Namespace c = c.target_id ∷ []
reserved_in Table c = map (λ p. p.target) (in_order (λ p q. nat_lt p.source.number q.source.number) c.tables)
reserved_in Tablet c = map (λ p. p.target) (in_order is_pair_before c.tablets)
reserved_in Schedule c = []
reserved_in Snapshot c = []
reserved_in Restoration c = []
reserved_in Clone c = []

abbrev pub reserved_by : List CloneRecord → Kind → List Id
reserved_by [] kind = []
reserved_by (c ∷ cs) kind = reserved_in kind c ++ reserved_by cs kind

-- the identifiers of a kind that records have beyond so many drawn ones. Tablets stand in order of table, then of range
abbrev pub recorded_beyond : Kind → ℕ → Master → List Id
recorded_beyond Namespace drawn m = beyond drawn (map (λ r. r.id) m.catalog.namespaces)
recorded_beyond Table drawn m = beyond drawn (map (λ r. r.id) m.catalog.tables)
recorded_beyond Tablet drawn m =
    map (λ i. i.tablet) (by_table_and_range (filter (λ i. nat_lt drawn i.tablet.number) m.activity))
recorded_beyond Schedule drawn m = beyond drawn (map (λ s. s.id) m.schedules)
recorded_beyond Snapshot drawn m = beyond drawn (map (λ r. r.id) m.snapshots)
recorded_beyond Restoration drawn m = beyond drawn (map (λ r. r.id) m.restorations)
recorded_beyond Clone drawn m = beyond drawn (map (λ c. c.id) m.clones)

-- the identifiers of a kind that an event gave: those that the master has after it, in a record or kept for a clone,
-- beyond what was drawn before it
abbrev pub new_ids : Master → Master → Kind → List Id
new_ids before after kind =
    let drawn = drawn_of kind before.drawn in
    recorded_beyond kind drawn after ++ beyond drawn (reserved_by after.clones kind)

-- they are the next of their kind, in turn
abbrev pub AreNext : Kind → ℕ → List Id → Type 0
AreNext kind drawn [] = Unit {0}
AreNext kind drawn (id ∷ ids) = (id ≡ numbered_as kind (drawn + 1)) × AreNext kind (drawn + 1) ids

-- Which are named

-- what the reply to a command shows of what it made: of a split its children, in order of range
abbrev pub shown_of : Making → (Kind → List Id) → List Id
shown_of ANamespace made = made Namespace
shown_of (ATable tablets) made = made Table
shown_of TwoTablets made = made Tablet
shown_of ASchedule made = made Schedule
shown_of ASnapshot made = made Snapshot
shown_of (ARestoration schedule to) made = made Restoration
shown_of (AClone source target to) made = made Clone
shown_of Nothing made = []

-- the snapshot that an unfinished operation names: behind a move into the state in which it waits for its own, this one
abbrev pub own_of : Master → Id → List Id
own_of m operation =
    option_map_or
    (λ r. option_to_list (named_by_restoration r.state)) (unfinished_restoration m.restorations operation) []
    ++ option_map_or (λ c. option_to_list (named_by_clone c.state)) (unfinished_clone m.clones operation) []

abbrev pub own_in : List State → Master → Id → List Id
own_in [] m operation = []
own_in (state ∷ states) m operation = if is_snapshotting state then own_of m operation else []

-- the identifiers by which an event tells what it made: in its reply, and of a move in its record
abbrev pub named_by : Act → Reply → Master → List Id
named_by act reply after = elim (deed_of act) [
  | Commands command ↦ ids_made reply
  | Advances operation ↦ ids_made reply ++ own_in (entered_by reply) after operation
  | Obeys slot ↦ ids_made reply
  | NoDeed ↦ ids_made reply
]

-- and those that it has to tell
abbrev pub to_name : Act → (Kind → List Id) → List Id
to_name act made = elim (deed_of act) [
  | Commands command ↦ shown_of (making_of command) made
  | Advances operation ↦ made Snapshot
  | Obeys slot ↦ []
  | NoDeed ↦ []
]

-- an entry draws so many identifiers of each kind, gives just these, and names them
pub record DrawsNext (act : Act) (reply : Reply) (n : ℕ) (before after : Master) : Type 0 where
  pub count : (kind : Kind)
      → drawn_of kind after.drawn ≡ drawn_of kind before.drawn + drawn_of kind (drawn_by act reply n before)
  pub given : (kind : Kind)
      → length (new_ids before after kind) ≡ drawn_of kind (drawn_by act reply n before)
  pub next : (kind : Kind) → AreNext kind (drawn_of kind before.drawn) (new_ids before after kind)
  pub named : named_by act reply after ≡ to_name act (new_ids before after)

-- each entry of a history draws on from what the entries before it drew: so the numbers of a kind are those of 1, 2, 3
-- and so on, in the order in which their entries were accepted, and no number comes twice
abbrev pub DrawsInTurn : ℕ → List Entry → Type 0
DrawsInTurn slots [] = Unit {0}
DrawsInTurn slots (e ∷ earlier) =
    DrawsInTurn slots earlier
    × DrawsNext e.event.act e.reply e.stamp (replay slots earlier).master (replay slots (e ∷ earlier)).master

-- the most slots that a cluster has, and so the most identifiers of a kind that one entry draws
abbrev pub most_slots : ℕ
most_slots = 1024

-- what was drawn by a history is little: so many at most for each entry of the master's log
abbrev pub DrawnWithin : ℕ → List Entry → Type 0
DrawnWithin slots history =
    (kind : Kind) → drawn_of kind (replay slots history).master.drawn ≤ most_slots * held 0 history

-- and so numbers stay below their bound
abbrev pub DrawnBelow : Master → Type 0
DrawnBelow m = (kind : Kind) → drawn_of kind m.drawn < id_bound

-- the elements of a list are some of another's, in its order and each with its count
abbrev pub IsPartOf : {A : Type 0} → List A → List A → Type 0
IsPartOf [] all = Unit {0}
IsPartOf (x ∷ xs) [] = ⊥
IsPartOf (x ∷ xs) (y ∷ ys) = ((x ≡ y) × IsPartOf xs ys) ⊎ IsPartOf (x ∷ xs) ys

-- a snapshot but for what its coordination changes: its acks, and whether it is complete
abbrev pub as_taken : SnapshotRecord → SnapshotRecord
as_taken r = record r { complete = false; listed = anew r.listed }

-- the kept snapshots are some of those that were taken, in their order, and list the tablets that they listed then
abbrev pub SnapshotsAsTaken : ℕ → List Entry → Type 0
SnapshotsAsTaken slots history =
    IsPartOf (map as_taken (replay slots history).master.snapshots) (map as_taken (snapshots_taken slots history))

-- Columns and versions of schemas

abbrev pub greatest_id : List Column → ℕ
greatest_id columns = fold (λ greatest c. max greatest c.id) 0 columns

-- for a table of a clone, what holds of its source; for another one, what held before
abbrev pub of_source : Option Id → (Id → ℕ) → ℕ → ℕ
of_source None before own = own
of_source (Some source) before own = before source

abbrev pub given_after : ChangeAct → Id → (Id → ℕ) → ℕ
given_after (TableMade table namespace name columns) id before =
    if same table id then greatest_id columns else before id
given_after (ColumnAdded table column) id before = if same table id then max (before id) column.id else before id
given_after (NamespaceCloned source target name to tables) id before =
    of_source (source_of tables id) before (before id)
given_after (NamespaceMade namespace name) id before = before id
given_after (NamespaceDropped namespace) id before = before id
given_after (TableRenamed table name) id before = before id
given_after (TableDropped table) id before = before id
given_after (ColumnDropped table column) id before = before id
given_after (RowChanged table key op) id before = before id
given_after (NamespaceRestored namespace to) id before = before id

-- the greatest id ever given to a column of the table; a clone's table goes on from its source's at that moment
abbrev pub given_to : List made.Change → Id → ℕ
given_to [] id = 0
given_to (c ∷ earlier) id = given_after c.act id (given_to earlier)

-- a table's version: 1, the columns that were added and dropped, and the restores that made the table current
abbrev pub version_by : List made.Change → Id → ℕ
version_by [] id = 0
version_by (c ∷ earlier) id = version_after c.act id (version_by earlier id) (table_at earlier)

-- columns are numbered from one number on
abbrev pub NumberedFrom : ℕ → List Column → Type 0
NumberedFrom id [] = Unit {0}
NumberedFrom id (c ∷ cs) = (c.id ≡ id) × NumberedFrom (id + 1) cs

-- a new table's columns are numbered from 1, and an added one gets one more than the greatest id that its table gave
abbrev pub TakesNextColumn : ChangeAct → (Id → ℕ) → Type 0
TakesNextColumn (TableMade table namespace name columns) given = NumberedFrom 1 columns
TakesNextColumn (ColumnAdded table column) given = column.id ≡ given table + 1
TakesNextColumn (NamespaceMade namespace name) given = Unit {0}
TakesNextColumn (NamespaceDropped namespace) given = Unit {0}
TakesNextColumn (TableRenamed table name) given = Unit {0}
TakesNextColumn (TableDropped table) given = Unit {0}
TakesNextColumn (ColumnDropped table column) given = Unit {0}
TakesNextColumn (RowChanged table key op) given = Unit {0}
TakesNextColumn (NamespaceRestored namespace to) given = Unit {0}
TakesNextColumn (NamespaceCloned source target name to tables) given = Unit {0}

abbrev pub ColumnsNew : List made.Change → Type 0
ColumnsNew [] = Unit {0}
ColumnsNew (c ∷ earlier) = ColumnsNew earlier × TakesNextColumn c.act (given_to earlier)

-- the newest schema that the master keeps of a table, also of one that was dropped, has the version of the table, and
-- its next column an id that no column of it ever had
pub record SchemasDrawn (m : Master) (changes : List made.Change) : Type 0 where
  pub columns : ColumnsNew changes
  pub next : (table : Id) (s : Schema) → latest m.catalog.tables table ≡ Some s → s.next ≡ given_to changes table + 1
  pub version : (table : Id) (s : Schema) → latest m.catalog.tables table ≡ Some s
      → s.version ≡ version_by changes table
