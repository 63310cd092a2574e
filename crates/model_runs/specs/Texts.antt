-- The texts of replies, on the line of a command and in a history. Further lines of a command begin with two spaces; a
-- history has what they say behind ` | `.
use Rattle.std.specs.Prelude.{ℕ, ◌/◌, ◌%◌, nat_lt, if◌then◌else◌, List, [], ◌∷◌, ◌++◌, length, Option, Some, None, codes, flat_map}
use Rattle.std.specs.Fmt.{decimal, signed_decimal}
use Rattle.std.specs.List.{join_by}
use Rattle.row_values.specs.declared.rows.KeyedRow.{KeyedRow}
use Rattle.row_values.specs.declared.value.Value.{Value}
use Rattle.row_values.specs.declared.value.Value.TheVariants.{Int, Text, Null}
use Rattle.row_values.specs.declared.value.Cell.{Cell}
use Rattle.row_values.specs.Ids.{Id, id_text}
use Rattle.row_values.specs.Schema.{Column, ColumnKind, IntColumn, TextColumn}
use Rattle.model.specs.Tablets.{Standing, Empty, Serving, Hidden, BodyKind, FenceKind, FreezeKind, RestoreFromKind, HideKind, CopyKind, ReleaseKind}
use Rattle.model.specs.Records.{State, IsCreating, IsComplete, IsFencing, IsSnapshot, IsSwitching, IsRestoring, IsReleasing, IsRestored, IsAccepted, IsCopying}
use Rattle.model.specs.Acts as acts
use Rattle.model.specs.Acts.{Place, WorkItem, SendWork, CollectWork, AdvanceWork, Removal, Refusal, Reply, ScheduleLine, SnapshotLine, RestorationLine, CloneLine, TabletLine}

-- Words

-- a word behind a space
abbrev pub word : List ℕ → List ℕ
word text = codes " " ++ text

abbrev pub number_word : ℕ → List ℕ
number_word n = word (decimal n)

abbrev pub id_word : Id → List ℕ
id_word id = word (id_text id)

abbrev pub id_words : List Id → List ℕ
id_words ids = flat_map id_word ids

-- `<micros>.<logical>`
abbrev pub time_text : ℕ → List ℕ
time_text time = decimal (time / 4096) ++ codes "." ++ decimal (time % 4096)

abbrev pub time_word : ℕ → List ℕ
time_word time = word (time_text time)

-- `<low>..<high>`
abbrev pub range_word : ℕ → ℕ → List ℕ
range_word low high = word (decimal low ++ codes ".." ++ decimal high)

-- numbers with commas between them
abbrev pub numbers_text : List ℕ → List ℕ
numbers_text numbers = join_by decimal (codes ",") numbers

-- `[1,2]`
abbrev pub slots_word : List ℕ → List ℕ
slots_word slots = word (codes "[" ++ numbers_text slots ++ codes "]")

-- `v<version>`
abbrev pub version_word : ℕ → List ℕ
version_word version = word (codes "v" ++ decimal version)

-- Rows

abbrev pub value_text : Value → List ℕ
value_text (Int number) = signed_decimal number
value_text (Text text) = codes "'" ++ text ++ codes "'"
value_text Null = codes "null"

-- the name of the column with this id
abbrev pub name_in : List Column → ℕ → List ℕ
name_in [] id = []
name_in (c ∷ cs) id = if nat_lt c.id id then name_in cs id else if nat_lt id c.id then name_in cs id else c.name

-- ` <column>=<value>` for each cell, its column as it is told
abbrev pub cell_words : (ℕ → List ℕ) → List Cell → List ℕ
cell_words column cells = flat_map {X = Cell} (λ c. word (column c.column ++ codes "=" ++ value_text c.value)) cells

-- the row of one key, whose columns are these
abbrev pub row_text : List Column → List KeyedRow → List ℕ
row_text columns [] = codes "none"
row_text columns (r ∷ rs) = codes "row" ++ cell_words (name_in columns) r.row.cells

-- rows behind a gap each, by key
abbrev pub row_parts : List ℕ → (ℕ → List ℕ) → List KeyedRow → List ℕ
row_parts gap column rows = flat_map {X = KeyedRow} (λ r. gap ++ r.key ++ cell_words column r.row.cells) rows

-- what a line goes on with on a further line, and a history in its one line
abbrev pub line_gap : List ℕ
line_gap = 10 ∷ codes "  "

abbrev pub history_gap : List ℕ
history_gap = codes " | "

abbrev pub rows_text : List Column → List KeyedRow → List ℕ
rows_text columns rows = decimal (length rows) ++ codes " rows" ++ row_parts line_gap (name_in columns) rows

-- Refusals

abbrev pub standing_text : Standing → List ℕ
standing_text Empty = codes "empty"
standing_text (Serving tablet low high) = codes "serving" ++ id_word tablet ++ range_word low high
standing_text (Hidden tablet ended) = codes "hidden" ++ id_word tablet ++ time_word ended

-- its name, and its values in their order
abbrev pub refusal_text : Refusal → List ℕ
refusal_text acts.UnknownNamespace = codes "unknown_namespace"
refusal_text acts.UnknownTable = codes "unknown_table"
refusal_text acts.UnknownColumn = codes "unknown_column"
refusal_text acts.UnknownSchedule = codes "unknown_schedule"
refusal_text acts.UnknownSnapshot = codes "unknown_snapshot"
refusal_text acts.WrongKind = codes "wrong_kind"
refusal_text (acts.BadPeriod interval retention) = codes "bad_period" ++ number_word interval ++ number_word retention
refusal_text (acts.NameTaken by) = codes "name_taken" ++ id_word by
refusal_text (acts.NotEmpty table) = codes "not_empty" ++ id_word table
refusal_text (acts.UnderSchedule schedule) = codes "under_schedule" ++ id_word schedule
refusal_text (acts.NoSchedule namespace) = codes "no_schedule" ++ id_word namespace
refusal_text (acts.TooMany limit) = codes "too_many" ++ number_word limit
refusal_text (acts.SlotsFull free needed) = codes "slots_full" ++ number_word free ++ number_word needed
refusal_text (acts.TooEarly low) = codes "too_early" ++ time_word low
refusal_text (acts.Future now) = codes "future" ++ time_word now
refusal_text (acts.Busy operation) = codes "busy" ++ id_word operation
refusal_text (acts.Fenced operation) = codes "fenced" ++ id_word operation
refusal_text (acts.Moved slot standing) = codes "moved" ++ number_word slot ++ word (standing_text standing)
refusal_text (acts.StaleSchema kept) = codes "stale_schema" ++ number_word kept
refusal_text (acts.StalePlan kept) = codes "stale_plan" ++ slots_word kept
refusal_text (acts.CrossTablet first other) = codes "cross_tablet" ++ number_word first ++ number_word other
refusal_text (acts.TooNarrow low) = codes "too_narrow" ++ number_word low
refusal_text (acts.TooOld asked cutoff) = codes "too_old" ++ time_word asked ++ time_word cutoff
refusal_text (acts.NotDue next) = codes "not_due" ++ time_word next
refusal_text (acts.NotPending operation) = codes "not_pending" ++ id_word operation
refusal_text acts.Idle = codes "idle"
refusal_text (acts.OtherSlot wanted) = codes "other_slot" ++ number_word wanted
refusal_text acts.NotDone = codes "not_done"
refusal_text (acts.Waiting on) = codes "waiting" ++ id_word on
refusal_text (acts.InWindow at floor) = codes "in_window" ++ time_word at ++ time_word floor
refusal_text (acts.IsListed by) = codes "listed" ++ id_word by

-- Lists

abbrev pub state_text : State → List ℕ
state_text IsCreating = codes "CREATING"
state_text IsComplete = codes "COMPLETE"
state_text IsFencing = codes "FENCING"
state_text IsSnapshot = codes "SNAPSHOT"
state_text IsSwitching = codes "SWITCHING"
state_text IsRestoring = codes "RESTORING"
state_text IsReleasing = codes "RELEASING"
state_text IsRestored = codes "RESTORED"
state_text IsAccepted = codes "ACCEPTED"
state_text IsCopying = codes "COPYING"

-- `-` where there is no time yet
abbrev pub point_word : Option ℕ → List ℕ
point_word None = word (codes "-")
point_word (Some point) = time_word point

abbrev pub end_word : Option ℕ → List ℕ
end_word None = word (codes "active")
end_word (Some ended) = word (codes "hidden") ++ time_word ended

abbrev pub schedule_text : ScheduleLine → List ℕ
schedule_text s =
    id_text s.id ++ word s.namespace ++ codes " interval" ++ number_word s.interval
    ++ codes " retention" ++ number_word s.retention ++ codes " low" ++ time_word s.low

abbrev pub snapshot_text : SnapshotLine → List ℕ
snapshot_text s =
    id_text s.id ++ id_word s.schedule ++ word (state_text s.state)
    ++ codes " after" ++ time_word s.after ++ codes " at" ++ time_word s.at

abbrev pub restoration_text : RestorationLine → List ℕ
restoration_text r =
    id_text r.id ++ id_word r.schedule ++ word (state_text r.state)
    ++ codes " to" ++ time_word r.to ++ codes " at" ++ point_word r.point

abbrev pub clone_text : CloneLine → List ℕ
clone_text c =
    id_text c.id ++ word c.source ++ word c.target ++ word (state_text c.state) ++ codes " to" ++ time_word c.to

abbrev pub tablet_text : TabletLine → List ℕ
tablet_text t =
    id_text t.tablet ++ id_word t.table ++ codes " slot" ++ number_word t.slot
    ++ range_word t.low t.high ++ end_word t.ended

-- `<n> <things>`, and a part for each behind a gap
abbrev pub list_text : {A : Type 0} → List ℕ → List ℕ → (A → List ℕ) → List A → List ℕ
list_text gap things text xs = decimal (length xs) ++ word things ++ flat_map (λ x. gap ++ text x) xs

-- Looks and acts

abbrev pub column_kind_text : ColumnKind → List ℕ
column_kind_text IntColumn = codes "int"
column_kind_text TextColumn = codes "text"

-- `<id>:<name>:<kind>`
abbrev pub column_word : Column → List ℕ
column_word c = word (decimal c.id ++ codes ":" ++ c.name ++ codes ":" ++ column_kind_text c.kind)

abbrev pub place_words : Place → List ℕ
place_words p = number_word p.slot ++ id_word p.tablet ++ range_word p.low p.high

abbrev pub work_text : Option WorkItem → List ℕ
work_text None = codes "none"
work_text (Some (SendWork operation slot)) = codes "send" ++ id_word operation ++ number_word slot
work_text (Some (CollectWork operation slot other)) =
    codes "collect" ++ id_word operation ++ number_word slot ++ number_word other
work_text (Some (AdvanceWork operation)) = codes "advance" ++ id_word operation

abbrev pub removal_words : Removal → List ℕ
removal_words r = id_word r.target ++ slots_word r.slots

abbrev pub body_text : BodyKind → List ℕ
body_text FenceKind = codes "fence"
body_text FreezeKind = codes "freeze"
body_text RestoreFromKind = codes "restore_from"
body_text HideKind = codes "hide"
body_text CopyKind = codes "copy"
body_text ReleaseKind = codes "release"

-- Replies

-- a reply, its parts behind a gap each; an accepted one says when, if that is to be told
abbrev pub reply_text : List ℕ → List ℕ → Reply → List ℕ
reply_text gap when (acts.Ok made) = codes "ok" ++ when ++ id_words made
reply_text gap when (acts.Planned slots) = codes "planned" ++ slots_word slots
reply_text gap when (acts.Placed places version columns) =
    codes "placed" ++ flat_map place_words places ++ version_word version ++ flat_map column_word columns
reply_text gap when (acts.Work item) = codes "work " ++ work_text item
reply_text gap when (acts.Removable targets) = codes "removable" ++ flat_map removal_words targets
reply_text gap when (acts.Present slots) = codes "present" ++ slots_word slots
reply_text gap when (acts.Rows rows) = codes "rows" ++ number_word (length rows) ++ row_parts gap decimal rows
reply_text gap when (acts.CutoffAt cutoff) = codes "cutoff_at" ++ time_word cutoff
reply_text gap when (acts.Compacted before after) = codes "compacted" ++ number_word before ++ number_word after
reply_text gap when acts.SentTo = codes "sent"
reply_text gap when (acts.Done operation kind) = codes "done" ++ id_word operation ++ word (body_text kind)
reply_text gap when acts.Acked = codes "acked"
reply_text gap when (acts.Advanced state) = codes "advanced" ++ word (state_text state)
reply_text gap when acts.Removed = codes "removed"
reply_text gap when (acts.Pruned count) = codes "pruned" ++ number_word count
reply_text gap when (acts.Counts cutoff versions frozen inbox) =
    codes "stats cutoff" ++ time_word cutoff ++ codes " versions" ++ number_word versions
    ++ codes " frozen" ++ number_word frozen ++ codes " inbox" ++ number_word inbox
reply_text gap when acts.NoTablet = codes "empty"
reply_text gap when (acts.Schedules lines) = list_text gap (codes "schedules") schedule_text lines
reply_text gap when (acts.Snapshots lines) = list_text gap (codes "snapshots") snapshot_text lines
reply_text gap when (acts.Restorations lines) = list_text gap (codes "restorations") restoration_text lines
reply_text gap when (acts.Clones lines) = list_text gap (codes "clones") clone_text lines
reply_text gap when (acts.Tablets lines) = list_text gap (codes "tablets") tablet_text lines
reply_text gap when (acts.Refused why) = codes "refused " ++ refusal_text why

-- the reply of an entry with this stamp, on the line of a command
abbrev pub told_text : ℕ → Reply → List ℕ
told_text n reply = reply_text line_gap (time_word n) reply
