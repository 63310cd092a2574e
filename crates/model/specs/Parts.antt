-- The parts of a cluster: the master, and a tablet's part in each slot from 1 on. What an act does is told as plain
-- data: its refusals in order, and else what each touched part is told, and the reply.
use Rattle.std.specs.Prelude.{ℕ, Bool, List, [], ◌∷◌, Option, Some, None, Result, Ok, Err, if◌then◌else◌, option_map, ok_or}
use Rattle.model.specs.Words.{option_or, Id, Column, ColumnKind, NewColumn}
use Rattle.model.specs.Catalog.{TableRecord, Catalog, empty_catalog}
use Rattle.model.specs.Activity.{Interval}
use Rattle.model.specs.Tablets.{Tablet as TabletPart, Told, emptied}
use Rattle.model.specs.Records.{Schedule as ScheduleRecord, ScheduledNamespace, SnapshotRecord, RestorationRecord, CloneRecord, Sent}
use Rattle.model.specs.Acts.{Refusal, Reply, Refused}

-- how many identifiers of each kind were ever drawn; none is drawn again
pub record Drawn : Type 0 where
  pub namespaces : ℕ
  pub tables : ℕ
  pub tablets : ℕ
  pub schedules : ℕ
  pub snapshots : ℕ
  pub restorations : ℕ
  pub clones : ℕ

pub record Master : Type 0 where
  pub clock : ℕ
  pub slots : ℕ
  pub catalog : Catalog
  pub activity : List Interval
  pub schedules : List ScheduleRecord
  pub scheduled : List ScheduledNamespace
  pub snapshots : List SnapshotRecord
  pub restorations : List RestorationRecord
  pub clones : List CloneRecord
  pub sent : List Sent
  pub drawn : Drawn

pub record Parts : Type 0 where
  pub master : Master
  pub tablet : ℕ → TabletPart

abbrev pub none_drawn : Drawn
none_drawn = record {
  namespaces = 0;
  tables = 0;
  tablets = 0;
  schedules = 0;
  snapshots = 0;
  restorations = 0;
  clones = 0;
}

abbrev pub empty_master : ℕ → Master
empty_master slots = record {
  clock = 0;
  slots = slots;
  catalog = empty_catalog;
  activity = [];
  schedules = [];
  scheduled = [];
  snapshots = [];
  restorations = [];
  clones = [];
  sent = [];
  drawn = none_drawn;
}

-- the empty cluster with this count of slots
abbrev pub start : ℕ → Parts
start slots = record { master = empty_master slots; tablet = λ slot. emptied 0 }

-- what the master is told: of a command what was found, so that no name is resolved again
pub data MasterAct : Type 0 where
  Ticks : MasterAct
  MakesNamespace : (name : List ℕ) → MasterAct
  DropsNamespace : (namespace : Id) → MasterAct
  MakesTable : (namespace : Id) (name : List ℕ) (columns : List NewColumn) (slots : List ℕ) → MasterAct
  AddsColumn : (table : TableRecord) (name : List ℕ) (kind : ColumnKind) → MasterAct
  DropsColumn : (table : TableRecord) (column : Column) → MasterAct
  RenamesTable : (table : TableRecord) (name : List ℕ) → MasterAct
  DropsTable : (table : Id) → MasterAct
  SplitsTablet : (parent : Interval) (code low_slot high_slot : ℕ) → MasterAct
  MakesSchedule : (namespace : Id) (interval retention : ℕ) → MasterAct
  EditsSchedule : (schedule : Id) (interval retention : ℕ) → MasterAct
  DeletesSchedule : (schedule : Id) → MasterAct
  TakesSnapshot : (schedule : ScheduleRecord) → MasterAct
  BeginsRestoration : (schedule : ScheduleRecord) (to : ℕ) → MasterAct
  BeginsClone : (namespace : Id) (source target : List ℕ) (to : ℕ) → MasterAct
  Sends : (operation : Id) (slot : ℕ) → MasterAct
  Acks : (operation : Id) (slot : ℕ) → MasterAct
  Unsends : (operation : Id) (slot : ℕ) → MasterAct
  Moves : (operation : Id) → MasterAct
  Removes : (target : Id) → MasterAct
  Prunes : MasterAct
  Restarts : MasterAct

-- what the master and the tablets are told, and the reply. A touched part that isn't named sets its clock
pub record Outcome : Type 0 where
  pub master : MasterAct
  pub tablets : List Told
  pub reply : Reply

-- a refusal that comes or not: by a test, where something is found that it names, or as a fault that may be there
pub data Check : Type 0 where
  If : (comes : Bool) (why : Refusal) → Check
  Names : (found : Option Id) (why : Id → Refusal) → Check
  Fault : (fault : Option Refusal) → Check

abbrev pub refusal_of : Check → Option Refusal
refusal_of (If comes why) = if comes then Some why else None
refusal_of (Names found why) = option_map why found
refusal_of (Fault fault) = fault

-- the first refusal that comes
abbrev pub refusal_in : List Check → Option Refusal
refusal_in [] = None
refusal_in (check ∷ checks) = option_or (refusal_of check) (refusal_in checks)

-- each part sets its clock, and the reply is the refusal
abbrev pub refused : Refusal → Outcome
refused why = record { master = Ticks; tablets = []; reply = Refused why }

-- the refusal, or what was found where there is none
abbrev pub either : {A : Type 0} → Option Refusal → A → Result A Refusal
either (Some why) found = Err why
either None found = Ok found

-- the refusal, or the outcome where there is none
abbrev pub unless : Option Refusal → Outcome → Outcome
unless (Some why) outcome = refused why
unless None outcome = outcome

-- the first refusal that comes, or else the outcome
abbrev pub judged : List Check → Outcome → Outcome
judged checks outcome = unless (refusal_in checks) outcome

-- A judgement is what was found, or the first refusal

-- what was found, unless a check of it comes
abbrev pub checked : {A : Type 0} → Result A Refusal → (A → List Check) → Result A Refusal
checked (Err why) checks = Err why
checked (Ok found) checks = either (refusal_in (checks found)) found

-- and what is looked for by it, or else a refusal
abbrev pub and_found : {A B : Type 0} → Result A Refusal → (A → Option B) → Refusal → Result B Refusal
and_found (Err why) look missing = Err why
and_found (Ok found) look missing = ok_or (look found) missing

-- the outcome of a judgement
abbrev pub decided : {A : Type 0} → Result A Refusal → (A → Outcome) → Outcome
decided (Err why) accept = refused why
decided (Ok found) accept = accept found

-- an outcome that leaves the parts as they are, but for their clocks
abbrev pub answered : Reply → Outcome
answered reply = record { master = Ticks; tablets = []; reply = reply }
