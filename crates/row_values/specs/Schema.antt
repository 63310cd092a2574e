-- The columns of a table, under a version that rises with each change of them.
use Rattle.std.specs.Prelude.{ℕ, Bool, true, false, List, [], ◌∷◌, ◌++◌, Option, Some, None, ◌+◌, not, length, if◌then◌else◌, map}
use Rattle.std.specs.List.{filter}
use Rattle.std.specs.Str.{bytes_eq}
use Rattle.row_values.specs.declared.value.Value.{Value}
use Rattle.row_values.specs.declared.value.Value.TheVariants.{Int, Text, Null}

pub data ColumnKind : Type 0 where
  IntColumn : ColumnKind
  TextColumn : ColumnKind

pub record Column : Type 0 where
  pub id : ℕ
  pub name : List ℕ
  pub kind : ColumnKind

-- a column that is to be made, before it has an id
pub record NewColumn : Type 0 where
  pub name : List ℕ
  pub kind : ColumnKind

-- the columns in order of id, and one more than the greatest id that was ever given to the table
pub record Schema : Type 0 where
  pub version : ℕ
  pub next : ℕ
  pub columns : List Column

abbrev pub column_named : List Column → List ℕ → Option Column
column_named [] name = None
column_named (c ∷ cs) name = if bytes_eq c.name name then Some c else column_named cs name

abbrev pub numbered : ℕ → List NewColumn → List Column
numbered id [] = []
numbered id (c ∷ cs) = record { id = id; name = c.name; kind = c.kind } ∷ numbered (id + 1) cs

-- the schema of a new table: its columns are numbered from 1
abbrev pub first_schema : List NewColumn → Schema
first_schema columns = record { version = 1; next = length columns + 1; columns = numbered 1 columns }

-- with one more column, under a new id
abbrev pub with_column : List ℕ → ColumnKind → Schema → Schema
with_column name kind s = record { version = s.version + 1; next = s.next + 1; columns = s.columns ++ record { id = s.next; name = name; kind = kind } ∷ [] }

-- without the column of this name
abbrev pub without_column : List ℕ → Schema → Schema
without_column name s = record s { version = s.version + 1; columns = filter (λ c. not (bytes_eq c.name name)) s.columns }

-- whether a column of this kind takes the value: null is of every kind
abbrev pub is_of_kind : ColumnKind → Value → Bool
is_of_kind kind Null = true
is_of_kind IntColumn (Int number) = true
is_of_kind IntColumn (Text text) = false
is_of_kind TextColumn (Int number) = false
is_of_kind TextColumn (Text text) = true

abbrev pub column_ids : List Column → List ℕ
column_ids columns = map (λ c. c.id) columns
