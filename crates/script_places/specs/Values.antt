-- Values and cells.
use Rattle.std.specs.Prelude.{ℕ, ◌-◌, ◌^◌, Bool, not, ◌==◌, ◌&&◌, if◌then◌else◌, nat_le, List, [], ◌∷◌, ◌++◌, length, take, drop, get_or, Option, Some, None, Result, Ok, Err, codes, bytes_eq, option_map, pos, negsuc}
use Rattle.std.specs.List.{list_all}
use Rattle.row_values.specs.declared.value.Value.{Value}
use Rattle.row_values.specs.declared.value.Value.TheVariants.{Int, Text, Null}
use Rattle.script_words.specs.declared.cause.Cause.{Cause}
use Rattle.script_words.specs.declared.cause.Cause.TheVariants.{BadName, BadValue}
use Rattle.script_words.specs.Reading.{◌>>=◌}
use Rattle.model.specs.Acts.{NamedCell}
use Rattle.script_places.specs.Words.{Word, before, behind, wanted}
use Rattle.script_places.specs.Names.{is_name}
use Rattle.script_places.specs.Numbers.{number_of}

abbrev pub has_no_quote : List ℕ → Bool
has_no_quote bytes = list_all (λ b. not (b == 39)) bytes

-- the bytes within the quotes of `'text'`
abbrev pub unquoted : List ℕ → List ℕ
unquoted w = take (length w - 1 - 1) (drop 1 w)

-- a text of at most 256 bytes in its quotes
abbrev pub is_quoted : List ℕ → Bool
is_quoted w = nat_le 2 (length w) && nat_le (length w) 258 && (get_or w 0 0 == 39)
    && (get_or w (length w - 1) 0 == 39) && has_no_quote (unquoted w)

abbrev pub negative : Option ℕ → Option Value
negative None = None
negative (Some n) = if n == 0 then None else Some (Int (negsuc (n - 1)))

abbrev pub signed_of : List ℕ → Option Value
signed_of w =
    if get_or w 0 0 == 45 then negative (number_of (2 ^ 63) (drop 1 w))
    else option_map (λ n. Int (pos n)) (number_of (2 ^ 63 - 1) w)

-- `null`, a text in its quotes, or a signed number of 64 bits
unfoldable pub value_of : List ℕ → Option Value
value_of w =
    if bytes_eq w (codes "null") then Some Null
    else if get_or w 0 0 == 39 then (if is_quoted w then Some (Text (unquoted w)) else None)
    else signed_of w

-- `name=value`
unfoldable pub cell_of : List ℕ → Result NamedCell Cause
cell_of w =
    if is_name (before 61 w)
    then (wanted BadValue (value_of (behind 61 w)) >>= λ value. Ok (record { column = before 61 w; value = value }))
    else Err BadName

-- the cells, behind those that are kept
unfoldable pub cells_from : List NamedCell → List Word → Result (List NamedCell) Cause
cells_from kept [] = Ok kept
cells_from kept (w ∷ ws) = cell_of w >>= λ cell. cells_from (kept ++ cell ∷ []) ws
