-- The words in which a meaning is written.
use Rattle.std.specs.Prelude.{◌≡◌, ℕ, ◌≤◌, ◌<◌, ◌^◌, ◌+◌, true, false, List, [], ◌∷◌, ◌++◌, length, map, Option, Some, None, ◌⊎◌, codes, decimal, pos, negsuc}
use Rattle.std.specs.List.{AllByRecursion}
use Rattle.row_values.specs.declared.value.Value.{Value}
use Rattle.row_values.specs.declared.value.Value.TheVariants as values
use Rattle.row_values.specs.Schema.{ColumnKind, IntColumn, TextColumn, NewColumn}
use Rattle.row_values.specs.Ids as ids
use Rattle.yb_ident.specs.Seen.{kind_of}
use Rattle.yb_ident.specs.Layout.{Reads}
use Rattle.model.specs.Acts.{NamedCell, NamedItem, NamedOp, NamedUpsert, NamedDelete}
use Rattle.model.specs.Scripts.{Time, Micros, MinusMinutes, MinusSeconds, Exact}
use Rattle.script_places.specs.declared.place.Place.{Place}
use Rattle.script_places.specs.declared.place.Place.TheVariants as places
use Rattle.script_places.specs.Words.{Word}
use Rattle.script_places.specs.Names.{prefix, is_name, is_key}
use Rattle.script_places.specs.Values.{has_no_quote}
use Rattle.script_places.specs.Columns.{has_name}
use Rattle.script_places.specs.Groups.{slash}
use Rattle.script_places.specs.Places.{Meaning}

-- The word is a name, before which `ysql.` may stand.
abbrev pub WritesDatabase : Word → Word → Type 0
WritesDatabase name w = (is_name name ≡ true) × ((w ≡ name) ⊎ (w ≡ prefix ++ name))

abbrev pub value_word : Value → Word
value_word (values.Int (pos n)) = decimal n
value_word (values.Int (negsuc n)) = 45 ∷ decimal (n + 1)
value_word (values.Text text) = 39 ∷ (text ++ 39 ∷ [])
value_word values.Null = codes "null"

-- a number of 64 bits, or a text of at most 256 bytes without quotes
abbrev pub FitsValue : Value → Type 0
FitsValue (values.Int (pos n)) = n < 2 ^ 63
FitsValue (values.Int (negsuc n)) = n < 2 ^ 63
FitsValue (values.Text text) = (length text ≤ 256) × (has_no_quote text ≡ true)
FitsValue values.Null = Unit {0}

abbrev pub cell_word : NamedCell → Word
cell_word cell = cell.column ++ (61 ∷ value_word cell.value)

abbrev pub FitsCell : NamedCell → Type 0
FitsCell cell = (is_name cell.column ≡ true) × FitsValue cell.value

abbrev pub kind_word : ColumnKind → Word
kind_word IntColumn = codes "int"
kind_word TextColumn = codes "text"

abbrev pub column_word : NewColumn → Word
column_word column = column.name ++ (58 ∷ kind_word column.kind)

abbrev pub FitsColumn : NewColumn → Type 0
FitsColumn column = is_name column.name ≡ true

-- Each column has a name that none before it has.
abbrev pub AreNew : List NewColumn → List NewColumn → Type 0
AreNew earlier [] = Unit {0}
AreNew earlier (column ∷ columns) = (has_name earlier column.name ≡ false) × AreNew (earlier ++ (column ∷ [])) columns

abbrev pub time_words : Time → List Word
time_words (Micros n) = decimal n ∷ []
time_words (MinusMinutes n) = codes "minus" ∷ (decimal n ++ codes "m") ∷ []
time_words (MinusSeconds n) = codes "minus" ∷ (decimal n ++ codes "s") ∷ []
time_words (Exact n) = codes "ht" ∷ decimal n ∷ []

abbrev pub FitsTime : Time → Type 0
FitsTime (Micros n) = n < 2 ^ 50
FitsTime (MinusMinutes n) = n ≤ 10000000
FitsTime (MinusSeconds n) = n ≤ 10000000
FitsTime (Exact n) = n < 2 ^ 62

abbrev pub maybe_words : Option Time → List Word
maybe_words None = []
maybe_words (Some time) = time_words time

abbrev pub FitsMaybe : Option Time → Type 0
FitsMaybe None = Unit {0}
FitsMaybe (Some time) = FitsTime time

-- The word is one of the four forms in which the identifier, of this kind, is written as a UUID.
abbrev pub WritesIdent : ids.Kind → ids.Id → Word → Type 0
WritesIdent kind i w = (i.kind ≡ kind) × Reads w i

abbrev pub op_words : NamedOp → List Word
op_words (NamedUpsert cells) = map cell_word cells
op_words NamedDelete = codes "delete" ∷ []

-- 1 to 16 cells, or a delete
abbrev pub FitsOp : NamedOp → Type 0
FitsOp (NamedUpsert cells) = AllByRecursion FitsCell cells × (1 ≤ length cells) × (length cells ≤ 16)
FitsOp NamedDelete = Unit {0}

abbrev pub item_words : NamedItem → List Word
item_words item = item.key ∷ op_words item.op

abbrev pub FitsItem : NamedItem → Type 0
FitsItem item = (is_key item.key ≡ true) × FitsOp item.op

-- the groups one after the other, with a slash between each two
abbrev pub joined : List (List Word) → List Word
joined [] = []
joined (group ∷ []) = group
joined (group ∷ other ∷ groups) = group ++ (slash ∷ joined (other ∷ groups))

-- These are the words of the place that mean this.
abbrev pub Writes : ℕ → (place : Place) → Meaning place → List Word → Type 0
Writes slots places.Tablets _ ws = ws ≡ codes "tablets" ∷ []
Writes slots places.Name name ws = (ws ≡ name ∷ []) × (is_name name ≡ true)
Writes slots places.Database name ws = (w : Word) × (ws ≡ w ∷ []) × WritesDatabase name w
Writes slots places.Key key ws = (ws ≡ key ∷ []) × (is_key key ≡ true)
Writes slots (places.Number least most) n ws = (ws ≡ decimal n ∷ []) × (least ≤ n) × (n ≤ most)
Writes slots places.Slot n ws = (ws ≡ decimal n ∷ []) × (1 ≤ n) × (n ≤ slots)
Writes slots (places.Identifier kind) i ws = (w : Word) × (ws ≡ w ∷ []) × WritesIdent (kind_of kind) i w
Writes slots places.Column column ws = (ws ≡ column_word column ∷ []) × FitsColumn column
Writes slots places.Time time ws = (ws ≡ time_words time) × FitsTime time
Writes slots places.MaybeTime time ws = (ws ≡ maybe_words time) × FitsMaybe time
Writes slots places.Cells cells ws =
    (ws ≡ map cell_word cells) × AllByRecursion FitsCell cells × (1 ≤ length cells) × (length cells ≤ 16)
Writes slots places.Columns columns ws =
    (ws ≡ map column_word columns) × AllByRecursion FitsColumn columns × AreNew [] columns
    × (1 ≤ length columns) × (length columns ≤ 16)
Writes slots places.Items items ws =
    (ws ≡ joined (map item_words items)) × AllByRecursion FitsItem items × (1 ≤ length items) × (length items ≤ 64)
