-- What may be asked of a cluster, and what it answers.
use Rattle.std.specs.Prelude.{ℕ, List, Option}
use Rattle.model.specs.Words.{Value, Item, KeyedRow, Id, Column, ColumnKind, NewColumn}
use Rattle.model.specs.Tablets.{Standing, BodyKind}
use Rattle.model.specs.Records.{State}

-- a cell, an operation and an item that name their columns, as a client writes them
pub record NamedCell : Type 0 where
  pub column : List ℕ
  pub value : Value

pub data NamedOp : Type 0 where
  NamedUpsert : (cells : List NamedCell) → NamedOp
  NamedDelete : NamedOp

pub record NamedItem : Type 0 where
  pub key : List ℕ
  pub op : NamedOp

-- a client's or an administrator's command to the master. A restore goes to a time by a schedule; a clone to a time, or
-- without one to just before its own stamp
pub data Command : Type 0 where
  CreateNamespace : (name : List ℕ) → Command
  DropNamespace : (name : List ℕ) → Command
  CreateTable : (namespace table : List ℕ) (tablets : ℕ) (columns : List NewColumn) → Command
  AddColumn : (namespace table name : List ℕ) (kind : ColumnKind) → Command
  DropColumn : (namespace table name : List ℕ) → Command
  RenameTable : (namespace table name : List ℕ) → Command
  DropTable : (namespace table : List ℕ) → Command
  Split : (namespace table : List ℕ) (code : ℕ) → Command
  CreateSchedule : (interval retention : ℕ) (namespace : List ℕ) → Command
  EditSchedule : (schedule : Id) (interval retention : ℕ) → Command
  DeleteSchedule : (schedule : Id) → Command
  TakeSnapshot : (schedule : Id) → Command
  Restore : (schedule : Id) (to : ℕ) → Command
  CloneNamespace : (source target : List ℕ) (to : Option ℕ) → Command
  ListSchedules : Command
  ListSnapshots : Command
  ListRestorations : Command
  ListClones : Command
  ListTablets : (namespace : List ℕ) → Command

-- what a look asks of the master
pub data Ask : Type 0 where
  AskPlan : (command : Command) → Ask
  AskKeys : (namespace table : List ℕ) (batch : List NamedItem) (at : Option ℕ) → Ask
  AskTable : (namespace table : List ℕ) (at : Option ℕ) → Ask
  AskWork : Ask
  AskRemovable : Ask
  AskPresent : Ask

-- the tablet that an event expects in a slot
pub record At : Type 0 where
  pub slot : ℕ
  pub tablet : Id

pub data Act : Type 0 where
  Look : (ask : Ask) → Act
  Change : (command : Command) (slots : List ℕ) → Act
  Write : (place : At) (version : ℕ) (batch : List Item) → Act
  Read : (places : List At) (version : ℕ) (key : Option (List ℕ)) (at : Option ℕ) (columns : List ℕ) → Act
  Cutoff : (slot : ℕ) → Act
  Compact : (slot : ℕ) → Act
  Send : (operation : Id) (slot : ℕ) → Act
  Process : (slot other : ℕ) → Act
  Ack : (operation : Id) (slot : ℕ) → Act
  Advance : (operation : Id) → Act
  Remove : (target : Id) (slots : List ℕ) → Act
  Prune : Act
  Restart : (slot : ℕ) → Act
  Stats : (slot : ℕ) → Act

pub record Event : Type 0 where
  pub caller : ℕ
  pub reading : ℕ
  pub act : Act

pub data Refusal : Type 0 where
  UnknownNamespace : Refusal
  UnknownTable : Refusal
  UnknownColumn : Refusal
  UnknownSchedule : Refusal
  UnknownSnapshot : Refusal
  WrongKind : Refusal
  BadPeriod : (interval retention : ℕ) → Refusal
  NameTaken : (by : Id) → Refusal
  NotEmpty : (table : Id) → Refusal
  UnderSchedule : (schedule : Id) → Refusal
  NoSchedule : (namespace : Id) → Refusal
  TooMany : (limit : ℕ) → Refusal
  SlotsFull : (free needed : ℕ) → Refusal
  TooEarly : (low : ℕ) → Refusal
  Future : (now : ℕ) → Refusal
  Busy : (operation : Id) → Refusal
  Fenced : (operation : Id) → Refusal
  Moved : (slot : ℕ) (standing : Standing) → Refusal
  StaleSchema : (kept : ℕ) → Refusal
  StalePlan : (kept : List ℕ) → Refusal
  CrossTablet : (first other : ℕ) → Refusal
  TooNarrow : (low : ℕ) → Refusal
  TooOld : (asked cutoff : ℕ) → Refusal
  NotDue : (next : ℕ) → Refusal
  NotPending : (operation : Id) → Refusal
  Idle : Refusal
  OtherSlot : (wanted : ℕ) → Refusal
  NotDone : Refusal
  Waiting : (on : Id) → Refusal
  InWindow : (at floor : ℕ) → Refusal
  IsListed : (by : Id) → Refusal

-- a tablet of a table with its place and range
pub record Place : Type 0 where
  pub slot : ℕ
  pub tablet : Id
  pub low : ℕ
  pub high : ℕ

-- what a coordinator does next
pub data WorkItem : Type 0 where
  SendWork : (operation : Id) (slot : ℕ) → WorkItem
  CollectWork : (operation : Id) (slot other : ℕ) → WorkItem
  AdvanceWork : (operation : Id) → WorkItem

-- a tablet or a snapshot that may be removed, with the slots that its removal touches
pub record Removal : Type 0 where
  pub target : Id
  pub slots : List ℕ

pub record ScheduleLine : Type 0 where
  pub id : Id
  pub namespace : List ℕ
  pub interval : ℕ
  pub retention : ℕ
  pub low : ℕ

pub record SnapshotLine : Type 0 where
  pub id : Id
  pub schedule : Id
  pub state : State
  pub after : ℕ
  pub at : ℕ

pub record RestorationLine : Type 0 where
  pub id : Id
  pub schedule : Id
  pub state : State
  pub to : ℕ
  pub point : Option ℕ

pub record CloneLine : Type 0 where
  pub id : Id
  pub source : List ℕ
  pub target : List ℕ
  pub state : State
  pub to : ℕ

pub record TabletLine : Type 0 where
  pub tablet : Id
  pub table : Id
  pub slot : ℕ
  pub low : ℕ
  pub high : ℕ
  pub ended : Option ℕ

pub data Reply : Type 0 where
  Ok : (made : List Id) → Reply
  Planned : (slots : List ℕ) → Reply
  Placed : (places : List Place) (version : ℕ) (columns : List Column) → Reply
  Work : (item : Option WorkItem) → Reply
  Removable : (targets : List Removal) → Reply
  Present : (slots : List ℕ) → Reply
  Rows : (rows : List KeyedRow) → Reply
  CutoffAt : (cutoff : ℕ) → Reply
  Compacted : (before after : ℕ) → Reply
  SentTo : Reply
  Done : (operation : Id) (kind : BodyKind) → Reply
  Acked : Reply
  Advanced : (state : State) → Reply
  Removed : Reply
  Pruned : (count : ℕ) → Reply
  Counts : (cutoff versions frozen inbox : ℕ) → Reply
  NoTablet : Reply
  Schedules : (lines : List ScheduleLine) → Reply
  Snapshots : (lines : List SnapshotLine) → Reply
  Restorations : (lines : List RestorationLine) → Reply
  Clones : (lines : List CloneLine) → Reply
  Tablets : (lines : List TabletLine) → Reply
  Refused : (why : Refusal) → Reply

-- What is counted over a whole history

-- of acts: commands, moves of an operation's record, and what a tablet does of its inbox
pub data Deed : Type 0 where
  Commands : (command : Command) → Deed
  Advances : (operation : Id) → Deed
  Obeys : (slot : ℕ) → Deed
  NoDeed : Deed

abbrev pub deed_of : Act → Deed
deed_of (Change command slots) = Commands command
deed_of (Advance operation) = Advances operation
deed_of (Process slot other) = Obeys slot
deed_of (Look ask) = NoDeed
deed_of (Write place version batch) = NoDeed
deed_of (Read places version key at columns) = NoDeed
deed_of (Cutoff slot) = NoDeed
deed_of (Compact slot) = NoDeed
deed_of (Send operation slot) = NoDeed
deed_of (Ack operation slot) = NoDeed
deed_of (Remove target slots) = NoDeed
deed_of Prune = NoDeed
deed_of (Restart slot) = NoDeed
deed_of (Stats slot) = NoDeed

-- of commands: what an accepted one makes that is numbered
pub data Making : Type 0 where
  ANamespace : Making
  ATable : (tablets : ℕ) → Making
  TwoTablets : Making
  ASchedule : Making
  ASnapshot : Making
  ARestoration : (schedule : Id) (to : ℕ) → Making
  AClone : (source target : List ℕ) (to : Option ℕ) → Making
  Nothing : Making

abbrev pub making_of : Command → Making
making_of (CreateNamespace name) = ANamespace
making_of (DropNamespace name) = Nothing
making_of (CreateTable namespace table tablets columns) = ATable tablets
making_of (AddColumn namespace table name kind) = Nothing
making_of (DropColumn namespace table name) = Nothing
making_of (RenameTable namespace table name) = Nothing
making_of (DropTable namespace table) = Nothing
making_of (Split namespace table code) = TwoTablets
making_of (CreateSchedule interval retention namespace) = ASchedule
making_of (EditSchedule schedule interval retention) = Nothing
making_of (DeleteSchedule schedule) = Nothing
making_of (TakeSnapshot schedule) = ASnapshot
making_of (Restore schedule to) = ARestoration schedule to
making_of (CloneNamespace source target to) = AClone source target to
making_of ListSchedules = Nothing
making_of ListSnapshots = Nothing
making_of ListRestorations = Nothing
making_of ListClones = Nothing
making_of (ListTablets namespace) = Nothing

-- of replies: what was made, the state that a record entered, and the command that a tablet did
pub data Success : Type 0 where
  Makes : (made : List Id) → Success
  Enters : (state : State) → Success
  Does : (operation : Id) (kind : BodyKind) → Success
  NoSuccess : Success

abbrev pub success_of : Reply → Success
success_of (Ok made) = Makes made
success_of (Advanced state) = Enters state
success_of (Done operation kind) = Does operation kind
success_of (Planned slots) = NoSuccess
success_of (Placed places version columns) = NoSuccess
success_of (Work item) = NoSuccess
success_of (Removable targets) = NoSuccess
success_of (Present slots) = NoSuccess
success_of (Rows rows) = NoSuccess
success_of (CutoffAt cutoff) = NoSuccess
success_of (Compacted before after) = NoSuccess
success_of SentTo = NoSuccess
success_of Acked = NoSuccess
success_of Removed = NoSuccess
success_of (Pruned count) = NoSuccess
success_of (Counts cutoff versions frozen inbox) = NoSuccess
success_of NoTablet = NoSuccess
success_of (Schedules lines) = NoSuccess
success_of (Snapshots lines) = NoSuccess
success_of (Restorations lines) = NoSuccess
success_of (Clones lines) = NoSuccess
success_of (Tablets lines) = NoSuccess
success_of (Refused why) = NoSuccess
