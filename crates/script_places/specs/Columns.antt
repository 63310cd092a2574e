-- New columns.
use Rattle.std.specs.Prelude.{ℕ, Bool, if◌then◌else◌, List, [], ◌∷◌, ◌++◌, Option, Some, None, Result, Ok, Err, codes, bytes_eq}
use Rattle.std.specs.List.{list_any}
use Rattle.row_values.specs.Schema.{ColumnKind, IntColumn, TextColumn, NewColumn}
use Rattle.script_words.specs.declared.cause.Cause.{Cause}
use Rattle.script_words.specs.declared.cause.Cause.TheVariants.{BadName, RepeatedColumn}
use Rattle.script_words.specs.Reading.{◌>>=◌}
use Rattle.script_places.specs.Words.{Word, next_of, before, behind, wanted}
use Rattle.script_places.specs.Names.{is_name}

unfoldable pub kind_of : List ℕ → Option ColumnKind
kind_of w =
    if bytes_eq w (codes "int") then Some IntColumn
    else if bytes_eq w (codes "text") then Some TextColumn
    else None

-- `name:kind`
unfoldable pub column_of : List ℕ → Result NewColumn Cause
column_of w =
    if is_name (before 58 w)
    then (wanted BadName (kind_of (behind 58 w)) >>= λ kind. Ok (record { name = before 58 w; kind = kind }))
    else Err BadName

unfoldable pub column_at : List Word → Result (NewColumn × List Word) Cause
column_at ws = next_of ws >>= λ x. column_of x.0 >>= λ column. Ok (column, x.1)

-- whether one of the columns has this name
unfoldable pub has_name : List NewColumn → Word → Bool
has_name columns name = list_any (λ column. bytes_eq column.name name) columns

-- a column that has the name of none that is kept
unfoldable pub column_behind : List NewColumn → Word → Result NewColumn Cause
column_behind kept w = column_of w >>= λ column.
    if has_name kept column.name then Err RepeatedColumn else Ok column

-- the columns, behind those that are kept, from which they differ
unfoldable pub columns_from : List NewColumn → List Word → Result (List NewColumn) Cause
columns_from kept [] = Ok kept
columns_from kept (w ∷ ws) = column_behind kept w >>= λ column. columns_from (kept ++ column ∷ []) ws
