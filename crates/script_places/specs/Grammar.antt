-- Which words spell which command, and which is the first wrong one where they spell none.
use Rattle.std.specs.Prelude.{◌≡◌, ℕ, ◌≤◌, ◌^◌, Bool, true, false, not, ◌&&◌, ◌||◌, nat_lt, List, [], ◌∷◌, ◌++◌, ◌⊎◌, codes, decimal, bytes_eq}
use Rattle.row_values.specs.declared.value.Value.{Value}
use Rattle.row_values.specs.Schema.{NewColumn}
use Rattle.row_values.specs.Ids.{Kind, Id}
use Rattle.yb_ident.specs.Seen.{kind_of}
use Rattle.script_words.specs.declared.cause.Cause.{Cause}
use Rattle.script_words.specs.declared.cause.Cause.TheVariants.{UnknownCommand, WrongWords, BadName, BadKey, BadValue, BadNumber, BadIdentifier, BadTime, NoSuchSlot, RepeatedColumn}
use Rattle.model.specs.Acts.{NamedCell, NamedItem}
use Rattle.model.specs.Scripts.{Time}
use Rattle.script_places.specs.declared.place.Place.{Place}
use Rattle.script_places.specs.declared.place.Place.TheVariants as places
use Rattle.script_places.specs.Words.{Word, before, behind}
use Rattle.script_places.specs.Names.{is_name, is_key}
use Rattle.script_places.specs.Columns.{has_name}
use Rattle.script_places.specs.Groups.{groups}
use Rattle.script_places.specs.Counts.{takes_rest, fits}
use Rattle.script_places.specs.Places.{Meaning, Makes, Form}
use Rattle.script_places.specs.Spelling.{value_word, FitsValue, cell_word, FitsCell, column_word, FitsColumn, time_words, FitsTime, WritesDatabase, WritesIdent, item_words, FitsItem, Writes}

-- The words are those of the places, one after the other, and the command is made of their meanings.
abbrev pub Spells : {C : Type 0} → ℕ → (places : List Place) → Makes C places → C → List Word → Type 0
Spells slots [] made command ws = (ws ≡ []) × (made ≡ command)
Spells slots (place ∷ rest) make command ws =
    (x : Meaning place) × (front : List Word) × (others : List Word)
    × (ws ≡ front ++ others) × Writes slots place x front × Spells slots rest (make x) command others

-- There is a first word, and this is so of it.
abbrev pub First : List Word → (Word → Type 0) → Type 0
First [] P = ⊥
First (w ∷ ws) P = P w

-- the decimal text of a number within these bounds
abbrev pub IsNumber : ℕ → ℕ → Word → Type 0
IsNumber least most w = (n : ℕ) × (w ≡ decimal n) × (least ≤ n) × (n ≤ most)

-- the name of a database
abbrev pub IsDatabase : Word → Type 0
IsDatabase w = (name : Word) × WritesDatabase name w

-- an identifier of this kind
abbrev pub IsIdentifier : Kind → Word → Type 0
IsIdentifier kind w = (i : Id) × WritesIdent kind i w

abbrev pub IsValue : Word → Type 0
IsValue w = (value : Value) × (w ≡ value_word value) × FitsValue value

abbrev pub IsCell : Word → Type 0
IsCell w = (cell : NamedCell) × (w ≡ cell_word cell) × FitsCell cell

abbrev pub IsColumn : Word → Type 0
IsColumn w = (column : NewColumn) × (w ≡ column_word column) × FitsColumn column

abbrev pub IsTime : List Word → Type 0
IsTime ws = (time : Time) × (ws ≡ time_words time) × FitsTime time

-- a time, or no word
abbrev pub IsMaybeTime : List Word → Type 0
IsMaybeTime ws = (ws ≡ []) ⊎ IsTime ws

abbrev pub IsItem : List Word → Type 0
IsItem ws = (item : NamedItem) × (ws ≡ item_words item) × FitsItem item

-- What stands before the first `=` is no name, or else what stands behind it is no value.
abbrev pub CellRefused : Cause → Word → Type 0
CellRefused cause w =
    ((is_name (before 61 w) ≡ false) × (cause ≡ BadName))
    ⊎ ((is_name (before 61 w) ≡ true) × ¬ (IsValue (behind 61 w)) × (cause ≡ BadValue))

-- A word is no cell, and those before it are cells.
abbrev pub CellsRefused : Cause → List Word → Type 0
CellsRefused cause [] = ⊥
CellsRefused cause (w ∷ ws) = CellRefused cause w ⊎ (IsCell w × CellsRefused cause ws)

-- A word is no column, or is one with the name of an earlier one, and those before it are columns.
abbrev pub ColumnsRefused : List NewColumn → Cause → List Word → Type 0
ColumnsRefused earlier cause [] = ⊥
ColumnsRefused earlier cause (w ∷ ws) =
    (¬ (IsColumn w) × (cause ≡ BadName))
    ⊎ ((column : NewColumn) × (w ≡ column_word column) × FitsColumn column
    × (((has_name earlier column.name ≡ true) × (cause ≡ RepeatedColumn))
    ⊎ ((has_name earlier column.name ≡ false) × ColumnsRefused (earlier ++ (column ∷ [])) cause ws)))

-- The first word is no key, or else what follows is not `delete` alone, and a word of it is no cell.
abbrev pub ItemRefused : Cause → List Word → Type 0
ItemRefused cause [] = ⊥
ItemRefused cause (w ∷ ws) =
    ((is_key w ≡ false) × (cause ≡ BadKey)) ⊎ ((is_key w ≡ true) × ¬ (ws ≡ codes "delete" ∷ []) × CellsRefused cause ws)

-- What stands between two slashes is no item, and what stands before it are items.
abbrev pub ItemsRefused : Cause → List (List Word) → Type 0
ItemsRefused cause [] = ⊥
ItemsRefused cause (group ∷ groups) = ItemRefused cause group ⊎ (IsItem group × ItemsRefused cause groups)

-- The place has no meaning here, for this cause.
abbrev pub RefusedAt : ℕ → Place → Cause → List Word → Type 0
RefusedAt slots places.Tablets cause ws = ⊥
RefusedAt slots places.Name cause ws = First ws (λ w. (is_name w ≡ false) × (cause ≡ BadName))
RefusedAt slots places.Database cause ws = First ws (λ w. ¬ (IsDatabase w) × (cause ≡ BadName))
RefusedAt slots places.Key cause ws = First ws (λ w. (is_key w ≡ false) × (cause ≡ BadKey))
RefusedAt slots (places.Number least most) cause ws = First ws (λ w. ¬ (IsNumber least most w) × (cause ≡ BadNumber))
RefusedAt slots places.Slot cause ws = First ws (λ w. ¬ (IsNumber 1 slots w) × (cause ≡ NoSuchSlot))
RefusedAt slots (places.Identifier kind) cause ws =
    First ws (λ w. ¬ (IsIdentifier (kind_of kind) w) × (cause ≡ BadIdentifier))
RefusedAt slots places.Column cause ws = First ws (λ w. ¬ (IsColumn w) × (cause ≡ BadName))
RefusedAt slots places.Time cause ws = ¬ (IsTime ws) × (cause ≡ BadTime)
RefusedAt slots places.MaybeTime cause ws = ¬ (IsMaybeTime ws) × (cause ≡ BadTime)
RefusedAt slots places.Cells cause ws = CellsRefused cause ws
RefusedAt slots places.Columns cause ws = ColumnsRefused [] cause ws
RefusedAt slots places.Items cause ws = ItemsRefused cause (groups ws)

-- The first place that has no meaning has none for this cause.
abbrev pub Refused : ℕ → List Place → Cause → List Word → Type 0
Refused slots [] cause ws = ⊥
Refused slots (place ∷ rest) cause ws =
    RefusedAt slots place cause ws
    ⊎ ((x : Meaning place) × (front : List Word) × (others : List Word)
    × (ws ≡ front ++ others) × Writes slots place x front × Refused slots rest cause others)

-- The words are refused for their count or a fixed word, or else for the first wrong one.
abbrev pub FormRefused : {C : Type 0} → ℕ → Form C → Cause → List Word → Type 0
FormRefused slots form cause ws =
    ((fits form.places ws ≡ false) × (cause ≡ WrongWords))
    ⊎ ((fits form.places ws ≡ true) × Refused slots form.places cause ws)

-- whether the bounds of a number are those of a `u64`
abbrev pub is_bounded : Place → Bool
is_bounded (places.Number least most) = nat_lt most (2 ^ 64)
is_bounded place = true

abbrev pub is_empty : List Place → Bool
is_empty [] = true
is_empty (place ∷ rest) = false

-- whether the places can be read: numbers are bounded, and a place that takes all words that are left
-- is the last
abbrev pub are_right : List Place → Bool
are_right [] = true
are_right (place ∷ rest) = is_bounded place && ((not (takes_rest place) || is_empty rest) && are_right rest)

-- whether each form of the table can be read
abbrev pub all_right : {C : Type 0} → List (Form C) → Bool
all_right [] = true
all_right (form ∷ forms) = are_right form.places && all_right forms

abbrev pub has_word : {C : Type 0} → List (Form C) → Word → Bool
has_word [] w = false
has_word (form ∷ forms) w = bytes_eq w form.word || has_word forms w

-- whether no two forms of the table have the same word
abbrev pub words_differ : {C : Type 0} → List (Form C) → Bool
words_differ [] = true
words_differ (form ∷ forms) = not (has_word forms form.word) && words_differ forms

-- It is so of a form of the table.
abbrev pub SomeForm : {C : Type 0} → (Form C → Type 0) → List (Form C) → Type 0
SomeForm P [] = ⊥
SomeForm P (form ∷ forms) = P form ⊎ SomeForm P forms

-- A form of the table has the first word, and the others spell the command as it says.
abbrev pub SpelledIn : {C : Type 0} → ℕ → List (Form C) → C → Word → List Word → Type 0
SpelledIn slots table command w ws =
    SomeForm (λ form. (w ≡ form.word) × Spells slots form.places form.makes command ws) table

-- No form of the table has the first word, or one has, and the others are refused by it.
abbrev pub RefusedIn : {C : Type 0} → ℕ → List (Form C) → Cause → Word → List Word → Type 0
RefusedIn slots table cause w ws =
    ((has_word table w ≡ false) × (cause ≡ UnknownCommand))
    ⊎ SomeForm (λ form. (w ≡ form.word) × FormRefused slots form cause ws) table
