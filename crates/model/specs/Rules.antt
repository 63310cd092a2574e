-- What there is of each act, in a table each: which slots it names, what is asked of it, what it does, what it changes,
-- and which replies are right. An act that is added has a line in each.
use Rattle.std.specs.Prelude.{◌≡◌, ℕ, List, [], ◌∷◌, length, ◌≤◌, map, ◌≢◌, ◌⊎◌, ◌<◌, false, Option, Some, None, ◌^◌, bytes_eq}
use Rattle.model.specs.Cluster.{Id, Interval, Ask, AskPlan, AskKeys, AskTable, AskWork, AskRemovable, AskPresent, Act, Look, Change, Read, Cutoff, Send, Process, Ack, Advance, Remove, Prune, Stats, NotDone, Refused, Work, Removable, Master, Parts, Outcome, answered, Reply, BodyKind, State, UnknownSnapshot, Fenced, StaleSchema, StalePlan, NotPending, Idle, OtherSlot, Waiting, InWindow, IsListed, CutoffAt, Compacted, SentTo, Done, Acked, Advanced, Removed, Pruned, Counts, NoTablet, end_of_time, NamedOp, NamedUpsert, NamedDelete, NamedItem, CreateNamespace, DropNamespace, CreateTable, AddColumn, DropColumn, RenameTable, DropTable, Split, CreateSchedule, EditSchedule, DeleteSchedule, TakeSnapshot, Restore, CloneNamespace, ListSchedules, ListSnapshots, ListRestorations, ListClones, ListTablets, rising, Standing, Refusal, UnknownNamespace, UnknownTable, UnknownColumn, UnknownSchedule, BadPeriod, NameTaken, NotEmpty, UnderSchedule, TooMany, SlotsFull, Busy, Moved, TooNarrow, NotDue, Ok, Planned, Present, Schedules, Snapshots, Restorations, Clones, Tablets}
use Rattle.model.specs.Journal as made
use Rattle.model.specs.Acts.{Write, Compact, Restart, Command}
use Rattle.model.specs.Looks.{look_plan, look_keys, look_table, look_present, plan_of}
use Rattle.model.specs.Changes.{change, most_namespaces, most_tables, most_columns, most_schedules}
use Rattle.model.specs.RowActs.{write, read, cutoff, compact, stats, restart}
use Rattle.model.specs.Coordination.{send, process, ack}
use Rattle.model.specs.Moves.{advance}
use Rattle.model.specs.Work.{next_work}
use Rattle.model.specs.Cleanup.{remove, prune, removable}
use Rattle.model.specs.Words.{AllOf, IsBatch, Kind, Namespace, Table, Tablet, Schedule, Snapshot, Restoration, Clone, NewColumn, IsKey, IsValue}
use Rattle.model.specs.Answers.{ReadAnswer, TableLook, TableAnswer, KeysAnswer}
use Rattle.model.specs.Journaling.{with_master, with_rows}
use Rattle.model.specs.Right.{NamespaceFound}
use Rattle.model.specs.Lines.{schedule_lines, snapshot_lines, restoration_lines, clone_lines, tablet_lines}
use Rattle.model.specs.Windows.{RestoreAnswer, CloneAnswer}

-- What an event may name

abbrev pub IsSlot : ℕ → ℕ → Type 0
IsSlot slots slot = (1 ≤ slot) × (slot ≤ slots)

abbrev pub IsName : List ℕ → Type 0
IsName name = (1 ≤ length name) × (length name ≤ 32)

abbrev pub IsNamedOp : NamedOp → Type 0
IsNamedOp (NamedUpsert cells) = (length cells ≤ 16) × AllOf (λ c. IsName c.column × IsValue c.value) cells
IsNamedOp NamedDelete = Unit {0}

abbrev pub IsNamedBatch : List NamedItem → Type 0
IsNamedBatch batch = (1 ≤ length batch) × (length batch ≤ 64) × AllOf (λ i. IsKey i.key × IsNamedOp i.op) batch

abbrev pub NotNamed : List ℕ → List NewColumn → Type 0
NotNamed name [] = Unit {0}
NotNamed name (c ∷ cs) = (bytes_eq c.name name ≡ false) × NotNamed name cs

abbrev pub NamesDiffer : List NewColumn → Type 0
NamesDiffer [] = Unit {0}
NamesDiffer (c ∷ cs) = NotNamed c.name cs × NamesDiffer cs

abbrev pub IsTime : Option ℕ → Type 0
IsTime None = Unit {0}
IsTime (Some x) = x < end_of_time

abbrev pub MayHoldKey : Option (List ℕ) → Type 0
MayHoldKey None = Unit {0}
MayHoldKey (Some key) = IsKey key

-- what a command must meet
abbrev pub CommandAsked : Command → Type 0
CommandAsked (CreateNamespace name) = IsName name
CommandAsked (DropNamespace name) = IsName name
CommandAsked (CreateTable namespace table tablets columns) =
    IsName namespace × IsName table × ((1 ≤ tablets) × (tablets ≤ 64))
    × ((1 ≤ length columns) × (length columns ≤ 16)) × AllOf (λ c. IsName c.name) columns × NamesDiffer columns
CommandAsked (AddColumn namespace table name kind) = IsName namespace × IsName table × IsName name
CommandAsked (DropColumn namespace table name) = IsName namespace × IsName table × IsName name
CommandAsked (RenameTable namespace table name) = IsName namespace × IsName table × IsName name
CommandAsked (DropTable namespace table) = IsName namespace × IsName table
CommandAsked (Split namespace table code) = IsName namespace × IsName table × (code < 65536)
CommandAsked (CreateSchedule interval retention namespace) =
    IsName namespace × (interval < 2 ^ 64) × (retention < 2 ^ 64)
CommandAsked (EditSchedule schedule interval retention) = (interval < 2 ^ 64) × (retention < 2 ^ 64)
CommandAsked (DeleteSchedule schedule) = Unit {0}
CommandAsked (TakeSnapshot schedule) = Unit {0}
CommandAsked (Restore schedule to) = to < end_of_time
CommandAsked (CloneNamespace source target to) = IsName source × IsName target × IsTime to
CommandAsked (ListTablets namespace) = IsName namespace
CommandAsked ListSchedules = Unit {0}
CommandAsked ListSnapshots = Unit {0}
CommandAsked ListRestorations = Unit {0}
CommandAsked ListClones = Unit {0}

abbrev pub AskAsked : Ask → Type 0
AskAsked (AskPlan command) = CommandAsked command
AskAsked (AskKeys namespace table batch at) = IsName namespace × IsName table × IsNamedBatch batch × IsTime at
AskAsked (AskTable namespace table at) = IsName namespace × IsName table × IsTime at
AskAsked AskWork = Unit {0}
AskAsked AskRemovable = Unit {0}
AskAsked AskPresent = Unit {0}

-- a removal is of a tablet or of a snapshot
abbrev pub IsRemovable : Kind → Type 0
IsRemovable Tablet = Unit {0}
IsRemovable Snapshot = Unit {0}
IsRemovable Namespace = ⊥
IsRemovable Table = ⊥
IsRemovable Schedule = ⊥
IsRemovable Restoration = ⊥
IsRemovable Clone = ⊥

-- Which replies commands and looks can have

-- an acceptance that makes nothing, one thing, or two

abbrev pub MakesNone : Reply → Type 0
MakesNone reply = reply ≡ Ok []

abbrev pub MakesOne : Reply → Type 0
MakesOne reply = (made : Id) × (reply ≡ Ok (made ∷ []))

abbrev pub MakesTwo : Reply → Type 0
MakesTwo reply = (first : Id) × (second : Id) × (reply ≡ Ok (first ∷ second ∷ []))

-- a refusal of one of these
abbrev pub RefusedAs : (Refusal → Type 0) → Reply → Type 0
RefusedAs Why reply = (why : Refusal) × ((reply ≡ Refused why) × Why why)

abbrev pub IsBusy : Refusal → Type 0
IsBusy why = (operation : Id) × (why ≡ Busy operation)

abbrev pub IsNameTaken : Refusal → Type 0
IsNameTaken why = (taken_by : Id) × (why ≡ NameTaken taken_by)

abbrev pub IsSlotsFull : ℕ → Refusal → Type 0
IsSlotsFull needed why = (free : ℕ) × ((why ≡ SlotsFull free needed) × (free < needed))

abbrev pub IsMoved : ℕ → Refusal → Type 0
IsMoved slot why = (standing : Standing) × (why ≡ Moved slot standing)

-- the namespace is unknown, or an operation holds it
abbrev pub IsClosed : Refusal → Type 0
IsClosed why = (why ≡ UnknownNamespace) ⊎ IsBusy why

-- the table is unknown, or an operation holds its namespace
abbrev pub IsTableClosed : Refusal → Type 0
IsTableClosed why = (why ≡ UnknownTable) ⊎ IsClosed why

-- the schedule is unknown, or is used by an operation or by its unfinished snapshot
abbrev pub IsScheduleClosed : Refusal → Type 0
IsScheduleClosed why = (why ≡ UnknownSchedule) ⊎ IsBusy why

-- a command's replies under its plan; a restore and a clone have their causes
abbrev pub CommandAnswer : Command → Reply → ℕ → Parts → List Interval → List made.Change → Type 0
CommandAnswer (CreateNamespace name) reply n ps activity changes =
    MakesOne reply ⊎ RefusedAs (λ why. IsNameTaken why ⊎ (why ≡ TooMany most_namespaces)) reply
CommandAnswer (DropNamespace name) reply n ps activity changes =
    MakesNone reply
    ⊎ RefusedAs (λ why. IsClosed why ⊎ ((table : Id) × (why ≡ NotEmpty table))
    ⊎ ((schedule : Id) × (why ≡ UnderSchedule schedule))) reply
CommandAnswer (CreateTable namespace table tablets columns) reply n ps activity changes =
    MakesOne reply
    ⊎ RefusedAs (λ why. IsClosed why ⊎ IsNameTaken why ⊎ (why ≡ TooMany most_tables) ⊎ IsSlotsFull tablets why) reply
CommandAnswer (AddColumn namespace table name kind) reply n ps activity changes =
    MakesNone reply ⊎ RefusedAs (λ why. IsTableClosed why ⊎ IsNameTaken why ⊎ (why ≡ TooMany most_columns)) reply
CommandAnswer (DropColumn namespace table name) reply n ps activity changes =
    MakesNone reply ⊎ RefusedAs (λ why. IsTableClosed why ⊎ (why ≡ UnknownColumn)) reply
CommandAnswer (RenameTable namespace table name) reply n ps activity changes =
    MakesNone reply ⊎ RefusedAs (λ why. IsTableClosed why ⊎ IsNameTaken why) reply
CommandAnswer (DropTable namespace table) reply n ps activity changes = MakesNone reply ⊎ RefusedAs IsTableClosed reply
CommandAnswer (Split namespace table code) reply n ps activity changes =
    MakesTwo reply ⊎ RefusedAs (λ why. IsTableClosed why ⊎ (why ≡ TooNarrow code) ⊎ IsSlotsFull 2 why) reply
CommandAnswer (CreateSchedule interval retention namespace) reply n ps activity changes =
    MakesOne reply
    ⊎ RefusedAs (λ why. IsClosed why ⊎ (why ≡ TooMany most_schedules) ⊎ (why ≡ BadPeriod interval retention)) reply
CommandAnswer (EditSchedule schedule interval retention) reply n ps activity changes =
    MakesNone reply ⊎ RefusedAs (λ why. (why ≡ UnknownSchedule) ⊎ (why ≡ BadPeriod interval retention)) reply
CommandAnswer (DeleteSchedule schedule) reply n ps activity changes = MakesNone reply ⊎ RefusedAs IsScheduleClosed reply
CommandAnswer (TakeSnapshot schedule) reply n ps activity changes =
    MakesOne reply
    ⊎ RefusedAs (λ why. IsScheduleClosed why ⊎ ((next_due : ℕ) × ((why ≡ NotDue next_due) × (n < next_due)))) reply
CommandAnswer (Restore schedule to) reply n ps activity changes = RestoreAnswer schedule to n ps.master reply
CommandAnswer (CloneNamespace source target at) reply n ps activity changes =
    CloneAnswer (record {
      source = source;
      target = target;
      at = at;
      now = n;
      changes = changes;
      activity = activity;
      master = ps.master;
    }) reply
CommandAnswer ListSchedules reply n ps activity changes = reply ≡ Schedules (schedule_lines n ps.master)
CommandAnswer ListSnapshots reply n ps activity changes = reply ≡ Snapshots (snapshot_lines ps.master)
CommandAnswer ListRestorations reply n ps activity changes = reply ≡ Restorations (restoration_lines ps.master)
CommandAnswer ListClones reply n ps activity changes = reply ≡ Clones (clone_lines ps.master)
CommandAnswer (ListTablets namespace) reply n ps activity changes =
    ((ns : NamespaceFound changes n namespace) × (reply ≡ Tablets (tablet_lines ps.master ns.id)))
    ⊎ ((NamespaceFound changes n namespace → ⊥) × (reply ≡ Refused UnknownNamespace))

-- a change is refused as stale exactly where its slots aren't its plan
abbrev pub ChangeAnswer : Command → List ℕ → Reply → ℕ → Parts → List Interval → List made.Change → Type 0
ChangeAnswer command slots reply n ps activity changes = let plan = plan_of command ps.master in
    ((slots ≢ plan) × (reply ≡ Refused (StalePlan plan)))
    ⊎ ((slots ≡ plan) × CommandAnswer command reply n ps activity changes)

-- a look at a table of a name, against the journal, the activity of all tablets that ever were, and the master's part
abbrev pub look_at : List ℕ → List ℕ → Option ℕ → ℕ → Parts → List Interval → List made.Change → TableLook
look_at namespace table at n ps activity changes = record {
  namespace = namespace;
  table = table;
  at = at;
  now = n;
  changes = changes;
  marks = ps.master.catalog.kept_from;
  activity = activity;
}

abbrev pub LookAnswer : Ask → Reply → ℕ → Parts → List Interval → List made.Change → Type 0
LookAnswer (AskPlan command) reply n ps activity changes = reply ≡ Planned (plan_of command ps.master)
LookAnswer (AskKeys namespace table batch at) reply n ps activity changes =
    KeysAnswer (look_at namespace table at n ps activity changes) batch reply
LookAnswer (AskTable namespace table at) reply n ps activity changes =
    TableAnswer (look_at namespace table at n ps activity changes) reply
LookAnswer AskWork reply n ps activity changes = reply ≡ Work (next_work ps.master)
LookAnswer AskRemovable reply n ps activity changes = reply ≡ Removable (removable ps.master n)
LookAnswer AskPresent reply n ps activity changes = reply ≡ Present (rising (map (λ i. i.slot) ps.master.activity))

-- What it touches

-- the slots that an act names; 0 is the master's
abbrev pub slots_of : Act → List ℕ
slots_of (Look ask) = 0 ∷ []
slots_of (Change command slots) = 0 ∷ slots
slots_of (Write place version batch) = place.slot ∷ []
slots_of (Read places version key at columns) = map (λ place. place.slot) places
slots_of (Cutoff slot) = 0 ∷ slot ∷ []
slots_of (Compact slot) = slot ∷ []
slots_of (Send operation slot) = 0 ∷ slot ∷ []
slots_of (Process slot other) = slot ∷ other ∷ []
slots_of (Ack operation slot) = 0 ∷ slot ∷ []
slots_of (Advance operation) = 0 ∷ []
slots_of (Remove target slots) = 0 ∷ slots
slots_of Prune = 0 ∷ []
slots_of (Restart slot) = slot ∷ []
slots_of (Stats slot) = slot ∷ []

-- What is asked of it

-- what an act must meet in a cluster of so many slots
abbrev pub ActAsked : ℕ → Act → Type 0
ActAsked slots (Look ask) = AskAsked ask
ActAsked slots (Change command plan) = CommandAsked command × AllOf (λ slot. slot ≤ slots) plan
ActAsked slots (Write place version batch) = IsSlot slots place.slot × IsBatch batch
ActAsked slots (Read places version key at columns) =
    (1 ≤ length places) × AllOf (λ place. IsSlot slots place.slot) places × MayHoldKey key × IsTime at
ActAsked slots (Cutoff slot) = IsSlot slots slot
ActAsked slots (Compact slot) = IsSlot slots slot
ActAsked slots (Send operation slot) = IsSlot slots slot
ActAsked slots (Process slot other) = IsSlot slots slot × IsSlot slots other
ActAsked slots (Ack operation slot) = IsSlot slots slot
ActAsked slots (Advance operation) = Unit {0}
ActAsked slots (Remove target plan) = IsRemovable target.kind × AllOf (λ slot. slot ≤ slots) plan
ActAsked slots Prune = Unit {0}
ActAsked slots (Restart slot) = slot ≤ slots
ActAsked slots (Stats slot) = IsSlot slots slot

-- What it does

abbrev pub look : Ask → ℕ → Master → Outcome
look (AskPlan command) n m = look_plan command m
look (AskKeys namespace table batch at) n m = look_keys namespace table batch at n m
look (AskTable namespace table at) n m = look_table namespace table at n m
look AskWork n m = answered (Work (next_work m))
look AskRemovable n m = answered (Removable (removable m n))
look AskPresent n m = look_present m

-- what an act does at a stamp: what the touched parts are told, and the reply
abbrev pub outcome : Act → ℕ → Parts → Outcome
outcome (Look ask) n ps = look ask n ps.master
outcome (Change command slots) n ps = change command slots n ps
outcome (Write place version batch) n ps = write place version batch n ps
outcome (Read places version key at columns) n ps = read places version key at columns n ps
outcome (Cutoff slot) n ps = cutoff slot n ps
outcome (Compact slot) n ps = compact slot n ps
outcome (Send operation slot) n ps = send operation slot n ps
outcome (Process slot other) n ps = process slot other n ps
outcome (Ack operation slot) n ps = ack operation slot n ps
outcome (Advance operation) n ps = advance operation n ps
outcome (Remove target slots) n ps = remove target slots n ps
outcome Prune n ps = prune n ps
outcome (Restart slot) n ps = restart slot n ps
outcome (Stats slot) n ps = stats slot n ps

-- What it changes

-- the changes of an act in front of the earlier ones; one that was refused has none
abbrev pub with_changes : Act → Outcome → ℕ → Parts → List made.Change → List made.Change
with_changes (Change command slots) o n ps earlier = with_master o.master n ps.master earlier
with_changes (Advance operation) o n ps earlier = with_master o.master n ps.master earlier
with_changes (Write place version batch) o n ps earlier =
    with_rows o.tablets n (ps.tablet place.slot).table batch earlier
with_changes (Look ask) o n ps earlier = earlier
with_changes (Read places version key at columns) o n ps earlier = earlier
with_changes (Cutoff slot) o n ps earlier = earlier
with_changes (Compact slot) o n ps earlier = earlier
with_changes (Send operation slot) o n ps earlier = earlier
with_changes (Process slot other) o n ps earlier = earlier
with_changes (Ack operation slot) o n ps earlier = earlier
with_changes (Remove target slots) o n ps earlier = earlier
with_changes Prune o n ps earlier = earlier
with_changes (Restart slot) o n ps earlier = earlier
with_changes (Stats slot) o n ps earlier = earlier

-- When its reply is right

-- the reply is one that the act can have, and is right against the journal of the entries before it
abbrev pub AnswerRight : Act → Reply → ℕ → Parts → List Interval → List made.Change → Type 0
AnswerRight (Look ask) reply n ps activity changes = LookAnswer ask reply n ps activity changes
AnswerRight (Change command slots) reply n ps activity changes = ChangeAnswer command slots reply n ps activity changes
AnswerRight (Write place version batch) reply n ps activity changes =
    MakesNone reply
    ⊎ RefusedAs
    (λ why. IsMoved place.slot why ⊎ ((operation : Id) × (why ≡ Fenced operation))
    ⊎ ((kept : ℕ) × ((why ≡ StaleSchema kept) × (kept ≢ version))))
    reply
AnswerRight (Read places version key at columns) reply n ps activity changes = ReadAnswer (record {
  places = places;
  version = version;
  key = key;
  at = at;
  columns = columns;
  now = n;
  tablets = ps.tablet;
}) changes reply
AnswerRight (Cutoff slot) reply n ps activity changes =
    ((cutoff : ℕ) × (reply ≡ CutoffAt cutoff)) ⊎ RefusedAs (IsMoved slot) reply
AnswerRight (Compact slot) reply n ps activity changes =
    ((before : ℕ) × (after : ℕ) × (reply ≡ Compacted before after)) ⊎ RefusedAs (IsMoved slot) reply
AnswerRight (Send operation slot) reply n ps activity changes =
    (reply ≡ SentTo) ⊎ (reply ≡ Refused (NotPending operation))
AnswerRight (Process slot other) reply n ps activity changes =
    ((operation : Id) × (kind : BodyKind) × (reply ≡ Done operation kind))
    ⊎ (reply ≡ Refused Idle)
    ⊎ ((wanted : ℕ) × ((reply ≡ Refused (OtherSlot wanted)) × (wanted ≢ other)))
AnswerRight (Ack operation slot) reply n ps activity changes =
    (reply ≡ Acked) ⊎ (reply ≡ Refused (NotPending operation)) ⊎ (reply ≡ Refused NotDone)
AnswerRight (Advance operation) reply n ps activity changes =
    ((state : State) × (reply ≡ Advanced state))
    ⊎ (reply ≡ Refused (NotPending operation))
    ⊎ ((on : Id) × (reply ≡ Refused (Waiting on)))
AnswerRight (Remove target slots) reply n ps activity changes =
    (reply ≡ Removed)
    ⊎ RefusedAs
    (λ why. ((kept : List ℕ) × ((why ≡ StalePlan kept) × (kept ≢ slots)))
    ⊎ ((slot : ℕ) × IsMoved slot why)
    ⊎ (why ≡ UnknownSnapshot)
    ⊎ ((at : ℕ) × (floor : ℕ) × ((why ≡ InWindow at floor) × (floor ≤ at)))
    ⊎ ((lister : Id) × (why ≡ IsListed lister)))
    reply
AnswerRight Prune reply n ps activity changes = (count : ℕ) × (reply ≡ Pruned count)
AnswerRight (Restart slot) reply n ps activity changes = MakesNone reply
AnswerRight (Stats slot) reply n ps activity changes =
    ((cutoff : ℕ) × (versions : ℕ) × (frozen : ℕ) × (inbox : ℕ) × (reply ≡ Counts cutoff versions frozen inbox))
    ⊎ (reply ≡ NoTablet)
