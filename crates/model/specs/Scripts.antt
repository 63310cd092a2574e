-- What a script may say: its commands, and the times that they name.
use Rattle.std.specs.Prelude.{ℕ, ◌*◌, ◌-◌, List, Option, option_map}
use Rattle.model.specs.Cluster.{Id, ColumnKind, NewColumn, NamedItem}

-- a time as a script writes it: microseconds, so much before the script's reading, or a hybrid time
pub data Time : Type 0 where
  Micros : (micros : ℕ) → Time
  MinusMinutes : (minutes : ℕ) → Time
  MinusSeconds : (seconds : ℕ) → Time
  Exact : (time : ℕ) → Time

-- the hybrid time that is meant under a reading in microseconds; nothing comes before 0
abbrev pub time_at : ℕ → Time → ℕ
time_at reading (Micros micros) = micros * 4096
time_at reading (MinusMinutes minutes) = (reading - minutes * 60000000) * 4096
time_at reading (MinusSeconds seconds) = (reading - seconds * 1000000) * 4096
time_at reading (Exact time) = time

abbrev pub asked_at : ℕ → Option Time → Option ℕ
asked_at reading at = option_map (time_at reading) at

-- a command of a script. A put, a delete and a batch write rows; a get reads a row and a scan a table, now or at a time
pub data ScriptCommand : Type 0 where
  Tick : (micros : ℕ) → ScriptCommand
  Lag : (slot micros : ℕ) → ScriptCommand
  CreateNamespace : (name : List ℕ) → ScriptCommand
  DropNamespace : (name : List ℕ) → ScriptCommand
  CreateTable : (namespace table : List ℕ) (tablets : ℕ) (columns : List NewColumn) → ScriptCommand
  AddColumn : (namespace table name : List ℕ) (kind : ColumnKind) → ScriptCommand
  DropColumn : (namespace table name : List ℕ) → ScriptCommand
  RenameTable : (namespace table name : List ℕ) → ScriptCommand
  DropTable : (namespace table : List ℕ) → ScriptCommand
  WriteRows : (namespace table : List ℕ) (batch : List NamedItem) → ScriptCommand
  ReadRow : (namespace table key : List ℕ) (at : Option Time) → ScriptCommand
  ReadTable : (namespace table : List ℕ) (at : Option Time) → ScriptCommand
  Split : (namespace table : List ℕ) (code : ℕ) → ScriptCommand
  CreateSchedule : (interval retention : ℕ) (namespace : List ℕ) → ScriptCommand
  EditSchedule : (schedule : Id) (interval retention : ℕ) → ScriptCommand
  DeleteSchedule : (schedule : Id) → ScriptCommand
  TakeSnapshot : (schedule : Id) → ScriptCommand
  Restore : (schedule : Id) (to : Time) → ScriptCommand
  CloneNamespace : (source target : List ℕ) (to : Option Time) → ScriptCommand
  ListSchedules : ScriptCommand
  ListSnapshots : ScriptCommand
  ListRestorations : ScriptCommand
  ListClones : ScriptCommand
  ListTablets : (namespace : List ℕ) → ScriptCommand
  RaiseCutoffs : ScriptCommand
  CompactTablets : ScriptCommand
  CleanUp : ScriptCommand
  Coordinate : (count : ℕ) → ScriptCommand
  Settle : ScriptCommand
  RestartMaster : ScriptCommand
  RestartTablet : (slot : ℕ) → ScriptCommand
  ShowStats : (slot : ℕ) → ScriptCommand
  ShowHistory : ScriptCommand

-- a command with the number of its line
pub record Numbered : Type 0 where
  pub line : ℕ
  pub command : ScriptCommand
