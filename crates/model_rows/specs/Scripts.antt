-- The words of scripts: identifiers, names, times, and the events of each line with what they show.
use Rattle.std.specs.Prelude.{ℕ, pos, true, List, [], ◌∷◌, Option, None, Some, ◌+◌, ◌*◌, ◌++◌, map}
use Rattle.std.specs.Option.{option_map_or}
use Rattle.row_values.specs.declared.value.Value.{Value}
use Rattle.row_values.specs.declared.value.Value.TheVariants.{Int}
use Rattle.row_values.specs.declared.value.Cell.{Cell}
use Rattle.row_values.specs.declared.value.RowOp.TheVariants.{Upsert, Delete}
use Rattle.row_values.specs.declared.rows.KeyedRow.{KeyedRow}
use Rattle.row_values.specs.Ids.{Id, Namespace, Table, Tablet, Schedule, Snapshot, Restoration, Clone}
use Rattle.row_values.specs.Schema.{Column, IntColumn, TextColumn, NewColumn, column_named, column_ids}
use Rattle.model.specs.Activity.{Interval}
use Rattle.model.specs.Acts.{Act, NamedCell, NamedItem, NamedUpsert, NamedDelete, Command, CreateNamespace, CreateTable, CreateSchedule, Restore, TakeSnapshot, AskPlan, AskKeys, AskPresent, AskRemovable, At, Look, Change, Write, Read, Cutoff, Compact, Ack, Remove, Prune, Restart, Stats, Place, Ok, Planned, Placed, Rows, Refusal, Refused, Reply}
use Rattle.model_rows.specs.Runs.{Line, Tick, Do, Coordinate, Shown, Gave, Did, Run, begun, after, shown_newest}

-- identifiers of each kind by number

abbrev pub N : ℕ → Id
N number = record { kind = Namespace; number = number }

abbrev pub T : ℕ → Id
T number = record { kind = Table; number = number }

abbrev pub B : ℕ → Id
B number = record { kind = Tablet; number = number }

abbrev pub S : ℕ → Id
S number = record { kind = Schedule; number = number }

abbrev pub P : ℕ → Id
P number = record { kind = Snapshot; number = number }

abbrev pub R : ℕ → Id
R number = record { kind = Restoration; number = number }

abbrev pub K : ℕ → Id
K number = record { kind = Clone; number = number }

-- a hybrid time as it is printed: microseconds, and the logical counter
abbrev pub ht : ℕ → ℕ → ℕ
ht micros logical = micros * 4096 + logical

-- a time of the reading at which most rows stand, by its logical counter
abbrev pub early : ℕ → ℕ
early logical = ht 1000000 logical

-- names and keys

abbrev pub a : List ℕ
a = 97 ∷ []

abbrev pub b : List ℕ
b = 98 ∷ []

abbrev pub c : List ℕ
c = 99 ∷ []

abbrev pub d : List ℕ
d = 100 ∷ []

abbrev pub t : List ℕ
t = 116 ∷ []

abbrev pub u : List ℕ
u = 117 ∷ []

abbrev pub v : List ℕ
v = 118 ∷ []

abbrev pub w : List ℕ
w = 119 ∷ []

-- a text value
abbrev pub q : List ℕ
q = 113 ∷ []

abbrev pub x : List ℕ
x = 120 ∷ []

abbrev pub zz : List ℕ
zz = 122 ∷ 122 ∷ []

abbrev pub zzz : List ℕ
zzz = 122 ∷ 122 ∷ 122 ∷ []

-- columns and cells

abbrev pub new_int : List ℕ → NewColumn
new_int name = record { name = name; kind = IntColumn }

abbrev pub new_text : List ℕ → NewColumn
new_text name = record { name = name; kind = TextColumn }

abbrev pub int_column : ℕ → List ℕ → Column
int_column id name = record { id = id; name = name; kind = IntColumn }

abbrev pub text_column : ℕ → List ℕ → Column
text_column id name = record { id = id; name = name; kind = TextColumn }

abbrev pub set : List ℕ → Value → NamedCell
set column value = record { column = column; value = value }

abbrev pub cell : ℕ → Value → Cell
cell column value = record { column = column; value = value }

-- what a look for keys or for a table answers: the events after it are made from this
pub record Seen : Type 0 where
  pub places : List Place
  pub version : ℕ
  pub columns : List Column

abbrev pub place : ℕ → Id → ℕ → ℕ → Place
place slot tablet low high = record { slot = slot; tablet = tablet; low = low; high = high }

abbrev pub at_place : Place → At
at_place p = record { slot = p.slot; tablet = p.tablet }

abbrev pub first_place : List Place → At
first_place [] = record { slot = 0; tablet = record { kind = Tablet; number = 0 } }
first_place (p ∷ ps) = at_place p

-- named cells under the ids of their columns
abbrev pub by_id : List Column → List NamedCell → List Cell
by_id columns cells = map (λ s. record { column = option_map_or {T = Column} (λ k. k.id) (column_named columns s.column) 0; value = s.value }) cells

-- the lines' events, and what they show

abbrev pub tick : ℕ → List Line
tick micros = Tick micros ∷ []

abbrev pub coordinate : ℕ → List Line
coordinate count = Coordinate count ∷ []

-- more events than any row here takes
abbrev pub settle : List Line
settle = coordinate 60

-- a command that has an empty plan
abbrev pub change : Command → List Line
change command = Do (Change command []) ∷ []

-- a command after a look for its plan
abbrev pub planned_change : Command → List ℕ → List Line
planned_change command slots = Do (Look (AskPlan command)) ∷ Do (Change command slots) ∷ []

abbrev pub look_for : List ℕ → List ℕ → List ℕ → List NamedCell → Option ℕ → List Line
look_for namespace table key cells time = Do (Look (AskKeys namespace table (record { key = key; op = NamedUpsert cells } ∷ []) time)) ∷ []

abbrev pub put : List ℕ → List ℕ → Seen → List ℕ → List NamedCell → List Line
put namespace table seen key cells =
    look_for namespace table key cells None
    ++ Do (Write (first_place seen.places) seen.version (record { key = key; op = Upsert (by_id seen.columns cells) } ∷ [])) ∷ []

abbrev pub delete : List ℕ → List ℕ → Seen → List ℕ → List Line
delete namespace table seen key =
    Do (Look (AskKeys namespace table (record { key = key; op = NamedDelete } ∷ []) None))
    ∷ Do (Write (first_place seen.places) seen.version (record { key = key; op = Delete } ∷ []))
    ∷ []

abbrev pub get_at : List ℕ → List ℕ → Seen → List ℕ → Option ℕ → List Line
get_at namespace table seen key time =
    look_for namespace table key [] time
    ++ Do (Read (map at_place seen.places) seen.version (Some key) time (column_ids seen.columns)) ∷ []

abbrev pub get : List ℕ → List ℕ → Seen → List ℕ → List Line
get namespace table seen key = get_at namespace table seen key None

abbrev pub gave : ℕ → Reply → List Shown
gave stamp reply = Gave stamp reply ∷ []

abbrev pub ok : ℕ → List Id → List Shown
ok stamp made = gave stamp (Ok made)

abbrev pub planned : ℕ → List ℕ → List Shown
planned stamp slots = gave stamp (Planned slots)

abbrev pub placed : ℕ → Seen → List Shown
placed stamp seen = gave stamp (Placed seen.places seen.version seen.columns)

abbrev pub refused : ℕ → Refusal → List Shown
refused stamp why = gave stamp (Refused why)

abbrev pub did : ℕ → List Shown
did events = Did events ∷ []

-- a present row under its key
abbrev pub row : List ℕ → List Cell → KeyedRow
row key cells = record { key = key; row = record { present = true; cells = cells } }

abbrev pub rows : ℕ → List KeyedRow → List Shown
rows stamp found = gave stamp (Rows found)

-- the newest event of a run
abbrev pub last_shown : Run → List Shown
last_shown run = shown_newest run.entries

-- lines

abbrev pub create_namespace : List ℕ → List Line
create_namespace name = change (CreateNamespace name)

abbrev pub create_schedule : ℕ → ℕ → List ℕ → List Line
create_schedule interval retention namespace = change (CreateSchedule interval retention namespace)

abbrev pub take_snapshot : List Line
take_snapshot = change (TakeSnapshot (S 1))

abbrev pub restore : ℕ → List Line
restore to = change (Restore (S 1) to)

abbrev pub write : ℕ → Id → ℕ → List ℕ → List Cell → List Line
write slot tablet version key cells =
    Do (Write (record { slot = slot; tablet = tablet }) version (record { key = key; op = Upsert cells } ∷ [])) ∷ []

abbrev pub cutoff : ℕ → List Line
cutoff slot = Do (Cutoff slot) ∷ []

abbrev pub compact : ℕ → List Line
compact slot = Do (Compact slot) ∷ []

abbrev pub ack : Id → ℕ → List Line
ack operation slot = Do (Ack operation slot) ∷ []

abbrev pub remove : Id → List ℕ → List Line
remove target slots = Do (Remove target slots) ∷ []

abbrev pub prune : List Line
prune = Do Prune ∷ []

abbrev pub restart : ℕ → List Line
restart slot = Do (Restart slot) ∷ []

abbrev pub stats : ℕ → List Line
stats slot = Do (Stats slot) ∷ []

-- a look for the present tablets, or for what is removable
abbrev pub look_present : List Line
look_present = Do (Look AskPresent) ∷ []

abbrev pub look_removable : List Line
look_removable = Do (Look AskRemovable) ∷ []

-- the script that most rows begin with, and what it shows
abbrev pub prelude : List Line
prelude =
    tick 1000000
    ++ create_namespace a
    ++ planned_change (CreateTable a t 1 (new_int v ∷ [])) (1 ∷ [])
    ++ create_schedule 1 10 a

-- the run after the prelude
abbrev pub ready : Run
ready = after prelude (begun 64)

-- the prelude's one column
abbrev pub v_alone : List Column
v_alone = int_column 1 v ∷ []

-- the prelude's table in one tablet of slot 1, as looks see it under a version of its schema
abbrev pub home : ℕ → Seen
home version = record { places = place 1 (B 1) 0 65536 ∷ []; version = version; columns = v_alone }

-- a number
abbrev pub number : ℕ → Value
number n = Int (pos n)

-- a cell of the prelude's one column, as it is written and as it is kept
abbrev pub v_is : ℕ → List NamedCell
v_is n = set v (number n) ∷ []

abbrev pub kept_v : ℕ → List Cell
kept_v n = cell 1 (number n) ∷ []

-- the acts of a look for a key of a table named t, and of a read of a key at one place

abbrev pub asked : List ℕ → List NamedCell → List NamedItem
asked key cells = record { key = key; op = NamedUpsert cells } ∷ []

abbrev pub asking : List ℕ → List ℕ → List NamedCell → Act
asking namespace key cells = Look (AskKeys namespace t (asked key cells) None)

abbrev pub reading : At → ℕ → List ℕ → List ℕ → Act
reading p version key columns = Read (p ∷ []) version (Some key) None columns

-- the prelude's tablet, active from a time on
abbrev pub since : ℕ → Interval
since logical = record { slot = 1; tablet = B 1; table = T 1; low = 0; high = 65536; from = early logical; to = None }
