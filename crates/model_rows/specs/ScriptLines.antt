-- Scripts and what they write, line by line.
use Rattle.std.specs.Prelude.{ℕ, ◌+◌, List, [], ◌∷◌, ◌++◌, None, Some, codes, flat_map}
use Rattle.std.specs.Fmt.{decimal}
use Rattle.row_values.specs.Ids.{Id, kind_digit}
use Rattle.model.specs.Acts.{NamedCell, NamedUpsert, NamedDelete}
use Rattle.model.specs.Scripts.{ScriptCommand, Numbered, Exact, Tick, CreateNamespace, CreateTable, CreateSchedule, TakeSnapshot, Restore, WriteRows, ReadRow}
use Rattle.model_runs.specs.Running.{run_of}
use Rattle.model_rows.specs.Scripts.{N, T, S, a, t, v, new_int}

-- the commands of lines that follow each other, from a line on
abbrev pub numbered_from : ℕ → List ScriptCommand → List Numbered
numbered_from line [] = []
numbered_from line (c ∷ cs) = record { line = line; command = c } ∷ numbered_from (line + 1) cs

-- what a script writes in a cluster of so many slots, and in one of 64
abbrev pub written_in : ℕ → List ScriptCommand → List ℕ
written_in slots commands = (run_of slots (numbered_from 1 commands)).text

abbrev pub written_by : List ScriptCommand → List ℕ
written_by commands = written_in 64 commands

-- lines that end with a line feed
abbrev pub lines : List (List ℕ) → List ℕ
lines ls = flat_map (λ l. l ++ 10 ∷ []) ls

-- an identifier behind a space, whose number has one digit
abbrev pub uuid : Id → List ℕ
uuid id = codes " 0000000" ++ decimal (kind_digit id.kind) ++ codes "-0000-4000-8000-00000000000" ++ decimal id.number

-- Commands on the table t of the namespace a

abbrev pub put : List ℕ → List NamedCell → ScriptCommand
put key cells = WriteRows a t (record { key = key; op = NamedUpsert cells } ∷ [])

abbrev pub delete : List ℕ → ScriptCommand
delete key = WriteRows a t (record { key = key; op = NamedDelete } ∷ [])

abbrev pub get : List ℕ → ScriptCommand
get key = ReadRow a t key None

abbrev pub get_at : List ℕ → ℕ → ScriptCommand
get_at key time = ReadRow a t key (Some (Exact time))

abbrev pub take_snapshot : ScriptCommand
take_snapshot = TakeSnapshot (S 1)

abbrev pub restore : ℕ → ScriptCommand
restore to = Restore (S 1) (Exact to)

-- the script that most rows begin with, and what it writes

abbrev pub first_lines : List ScriptCommand
first_lines = Tick 1000000 ∷ CreateNamespace a ∷ CreateTable a t 1 (new_int v ∷ []) ∷ []

abbrev pub first_written : List (List ℕ)
first_written = (codes "2: ok 1000000.0" ++ uuid (N 1)) ∷ (codes "3: ok 1000000.2" ++ uuid (T 1)) ∷ []

abbrev pub prelude : List ScriptCommand
prelude = first_lines ++ CreateSchedule 1 10 a ∷ []

abbrev pub prelude_written : List (List ℕ)
prelude_written = first_written ++ (codes "4: ok 1000000.3" ++ uuid (S 1)) ∷ []
