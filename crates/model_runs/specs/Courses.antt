-- The course that each command of a script takes under the script's reading: what it looks for, the acts that follow,
-- and what its line shows.
use Rattle.std.specs.Prelude.{ℕ, ◌^◌, ◌<◌, List, [], ◌∷◌, ◌++◌, map, Option, Some, None}
use Rattle.row_values.specs.declared.value.Cell.{Cell}
use Rattle.row_values.specs.declared.value.RowOp.{RowOp}
use Rattle.row_values.specs.declared.value.RowOp.TheVariants.{Upsert, Delete}
use Rattle.row_values.specs.declared.value.Item.{Item}
use Rattle.row_values.specs.declared.rows.KeyedRow.{KeyedRow}
use Rattle.row_values.specs.Ids.{Id}
use Rattle.row_values.specs.Schema.{Column, column_named, column_ids}
use Rattle.model.specs.Acts as acts
use Rattle.model.specs.Acts.{NamedCell, NamedOp, NamedUpsert, NamedDelete, NamedItem, Command, Ask, AskPlan, AskKeys, AskTable, AskRemovable, AskPresent, At, Place, Removal, Act, Change, Write, Read, Cutoff, Compact, Remove, Prune, Restart, Stats, Reply}
use Rattle.model.specs.Parts.{Parts}
use Rattle.model.specs.Entries.{IsSlot, ActAsked, AskAsked}
use Rattle.model.specs.History.{id_of_column}
use Rattle.model.specs.Settling.{coordinated, settle}
use Rattle.model.specs.Scripts.{time_at, asked_at, ScriptCommand, Tick, Lag, CreateNamespace, DropNamespace, CreateTable, AddColumn, DropColumn, RenameTable, DropTable, WriteRows, ReadRow, ReadTable, Split, CreateSchedule, EditSchedule, DeleteSchedule, TakeSnapshot, Restore, CloneNamespace, ListSchedules, ListSnapshots, ListRestorations, ListClones, ListTablets, RaiseCutoffs, CompactTablets, CleanUp, Coordinate, Settle, RestartMaster, RestartTablet, ShowStats, ShowHistory}

-- What a look or a read answers

pub data Found : Type 0 where
  FoundSlots : (slots : List ℕ) → Found
  FoundPlaces : (places : List Place) (version : ℕ) (columns : List Column) → Found
  FoundTargets : (targets : List Removal) → Found
  FoundRows : (rows : List KeyedRow) → Found
  FoundNothing : Found

abbrev pub found_by : Reply → Found
found_by (acts.Ok made) = FoundNothing
found_by (acts.Planned slots) = FoundSlots slots
found_by (acts.Placed places version columns) = FoundPlaces places version columns
found_by (acts.Work item) = FoundNothing
found_by (acts.Removable targets) = FoundTargets targets
found_by (acts.Present slots) = FoundSlots slots
found_by (acts.Rows rows) = FoundRows rows
found_by (acts.CutoffAt cutoff) = FoundNothing
found_by (acts.Compacted before after) = FoundNothing
found_by acts.SentTo = FoundNothing
found_by (acts.Done operation kind) = FoundNothing
found_by acts.Acked = FoundNothing
found_by (acts.Advanced state) = FoundNothing
found_by acts.Removed = FoundNothing
found_by (acts.Pruned count) = FoundNothing
found_by (acts.Counts cutoff versions frozen inbox) = FoundNothing
found_by acts.NoTablet = FoundNothing
found_by (acts.Schedules lines) = FoundNothing
found_by (acts.Snapshots lines) = FoundNothing
found_by (acts.Restorations lines) = FoundNothing
found_by (acts.Clones lines) = FoundNothing
found_by (acts.Tablets lines) = FoundNothing
found_by (acts.Refused why) = FoundNothing

-- The acts that follow a look: none where it found nothing

-- a command under its plan
abbrev pub change_under : Command → Found → List Act
change_under command (FoundSlots slots) = Change command slots ∷ []
change_under command (FoundPlaces places version columns) = []
change_under command (FoundTargets targets) = []
change_under command (FoundRows rows) = []
change_under command FoundNothing = []

abbrev pub at_place : Place → At
at_place place = record { slot = place.slot; tablet = place.tablet }

-- cells, operations and items by the ids of their columns
abbrev pub cell_by_id : List Column → NamedCell → Cell
cell_by_id columns cell = record { column = id_of_column (column_named columns cell.column); value = cell.value }

abbrev pub op_by_id : List Column → NamedOp → RowOp
op_by_id columns (NamedUpsert cells) = Upsert (map (cell_by_id columns) cells)
op_by_id columns NamedDelete = Delete

abbrev pub item_by_id : List Column → NamedItem → Item
item_by_id columns item = record { key = item.key; op = op_by_id columns item.op }

-- a write goes to the one place of its keys
abbrev pub write_at : List Place → ℕ → List Item → List Act
write_at [] version batch = []
write_at (place ∷ places) version batch = Write (at_place place) version batch ∷ []

abbrev pub write_into : List NamedItem → Found → List Act
write_into batch (FoundSlots slots) = []
write_into batch (FoundPlaces places version columns) = write_at places version (map (item_by_id columns) batch)
write_into batch (FoundTargets targets) = []
write_into batch (FoundRows rows) = []
write_into batch FoundNothing = []

-- a read of a key, or of all rows, shows all columns
abbrev pub read_places : Option (List ℕ) → Option ℕ → Found → List Act
read_places key at (FoundSlots slots) = []
read_places key at (FoundPlaces places version columns) =
    Read (map at_place places) version key at (column_ids columns) ∷ []
read_places key at (FoundTargets targets) = []
read_places key at (FoundRows rows) = []
read_places key at FoundNothing = []

-- an act for each slot
abbrev pub at_each : (ℕ → Act) → Found → List Act
at_each act (FoundSlots slots) = map act slots
at_each act (FoundPlaces places version columns) = []
at_each act (FoundTargets targets) = []
at_each act (FoundRows rows) = []
at_each act FoundNothing = []

-- a removal of each target, and then a prune
abbrev pub remove_each : Found → List Act
remove_each (FoundSlots slots) = []
remove_each (FoundPlaces places version columns) = []
remove_each (FoundTargets targets) = map {A = Removal} (λ r. Remove r.target r.slots) targets ++ Prune ∷ []
remove_each (FoundRows rows) = []
remove_each FoundNothing = []

-- Courses

-- what a command's line shows: its last reply, the row of a key, the rows of a table, or how many events it made
pub data Showing : Type 0 where
  ShowReply : Showing
  ShowRow : Showing
  ShowTable : Showing
  ShowCount : Showing

-- a command sets the script's reading or the lag of a slot, performs an act, looks and performs the acts that follow,
-- performs the acts that work records off, or shows all entries
pub data Course : Type 0 where
  SetReading : (micros : ℕ) → Course
  SetLag : (slot micros : ℕ) → Course
  Perform : (act : Act) → Course
  LookFor : (ask : Ask) (follow : Found → List Act) (showing : Showing) → Course
  WorkOff : (work : Parts → List Act) → Course
  ShowEntries : Course

-- the master is told a command that touches no tablet
abbrev pub tell_alone : Command → Course
tell_alone command = Perform (Change command [])

-- the master is told a command under the plan that a look finds
abbrev pub plan_and_tell : Command → Course
plan_and_tell command = LookFor (AskPlan command) (change_under command) ShowReply

-- a key without cells, as a look for a read names it
abbrev pub key_alone : List ℕ → List NamedItem
key_alone key = record { key = key; op = NamedUpsert [] } ∷ []

-- the course of a command under the script's reading
abbrev pub course_of : ℕ → ScriptCommand → Course
course_of reading (Tick micros) = SetReading micros
course_of reading (Lag slot micros) = SetLag slot micros
course_of reading (CreateNamespace name) = tell_alone (acts.CreateNamespace name)
course_of reading (DropNamespace name) = tell_alone (acts.DropNamespace name)
course_of reading (CreateTable namespace table tablets columns) =
    plan_and_tell (acts.CreateTable namespace table tablets columns)
course_of reading (AddColumn namespace table name kind) = plan_and_tell (acts.AddColumn namespace table name kind)
course_of reading (DropColumn namespace table name) = plan_and_tell (acts.DropColumn namespace table name)
course_of reading (RenameTable namespace table name) = tell_alone (acts.RenameTable namespace table name)
course_of reading (DropTable namespace table) = plan_and_tell (acts.DropTable namespace table)
course_of reading (WriteRows namespace table batch) =
    LookFor (AskKeys namespace table batch None) (write_into batch) ShowReply
course_of reading (ReadRow namespace table key at) =
    let at = asked_at reading at in
    LookFor (AskKeys namespace table (key_alone key) at) (read_places (Some key) at) ShowRow
course_of reading (ReadTable namespace table at) =
    let at = asked_at reading at in LookFor (AskTable namespace table at) (read_places None at) ShowTable
course_of reading (Split namespace table code) = plan_and_tell (acts.Split namespace table code)
course_of reading (CreateSchedule interval retention namespace) =
    tell_alone (acts.CreateSchedule interval retention namespace)
course_of reading (EditSchedule schedule interval retention) =
    tell_alone (acts.EditSchedule schedule interval retention)
course_of reading (DeleteSchedule schedule) = tell_alone (acts.DeleteSchedule schedule)
course_of reading (TakeSnapshot schedule) = tell_alone (acts.TakeSnapshot schedule)
course_of reading (Restore schedule to) = tell_alone (acts.Restore schedule (time_at reading to))
course_of reading (CloneNamespace source target to) = tell_alone (acts.CloneNamespace source target (asked_at reading to))
course_of reading ListSchedules = tell_alone acts.ListSchedules
course_of reading ListSnapshots = tell_alone acts.ListSnapshots
course_of reading ListRestorations = tell_alone acts.ListRestorations
course_of reading ListClones = tell_alone acts.ListClones
course_of reading (ListTablets namespace) = tell_alone (acts.ListTablets namespace)
course_of reading RaiseCutoffs = LookFor AskPresent (at_each Cutoff) ShowCount
course_of reading CompactTablets = LookFor AskPresent (at_each Compact) ShowCount
course_of reading CleanUp = LookFor AskRemovable remove_each ShowCount
course_of reading (Coordinate count) = WorkOff (coordinated count reading)
course_of reading Settle = WorkOff (settle reading)
course_of reading RestartMaster = Perform (Restart 0)
course_of reading (RestartTablet slot) = Perform (Restart slot)
course_of reading (ShowStats slot) = Perform (Stats slot)
course_of reading ShowHistory = ShowEntries

-- what a step asks of what a command begins with
abbrev pub CourseAsked : ℕ → Course → Type 0
CourseAsked slots (SetReading micros) = micros < 2 ^ 50
CourseAsked slots (SetLag slot micros) = IsSlot slots slot
CourseAsked slots (Perform act) = ActAsked slots act
CourseAsked slots (LookFor ask follow showing) = AskAsked ask
CourseAsked slots (WorkOff work) = Unit {0}
CourseAsked slots ShowEntries = Unit {0}

-- what a command of a script must meet in a cluster of so many slots, whatever the script's reading is
abbrev pub ScriptAsked : ℕ → ScriptCommand → Type 0
ScriptAsked slots c = (reading : ℕ) → reading < 2 ^ 50 → CourseAsked slots (course_of reading c)
