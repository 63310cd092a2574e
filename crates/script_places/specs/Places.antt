-- What the places of a command make of its words, from left to right.
use Rattle.std.specs.Prelude.{ℕ, Option, if◌then◌else◌, List, [], ◌∷◌, Result, Ok, Err, bytes_eq}
use Rattle.row_values.specs.Schema.{NewColumn}
use Rattle.row_values.specs.Ids.{Id}
use Rattle.yb_ident.specs.Seen.{kind_of}
use Rattle.script_words.specs.declared.cause.Cause.{Cause}
use Rattle.script_words.specs.declared.cause.Cause.TheVariants.{WrongWords, BadNumber, BadTime, NoSuchSlot}
use Rattle.script_words.specs.Reading.{◌>>=◌}
use Rattle.model.specs.Acts.{NamedCell, NamedItem}
use Rattle.model.specs.Scripts.{Time}
use Rattle.script_places.specs.declared.place.Place.{Place}
use Rattle.script_places.specs.declared.place.Place.TheVariants as places
use Rattle.script_places.specs.Words.{Word, next_of, wanted}
use Rattle.script_places.specs.Names.{name_at, database_at, key_at}
use Rattle.script_places.specs.Numbers.{number_at}
use Rattle.script_places.specs.Identifiers.{identifier_at}
use Rattle.script_places.specs.Values.{cells_from}
use Rattle.script_places.specs.Columns.{column_at, columns_from}
use Rattle.script_places.specs.Times.{time_of, maybe_time}
use Rattle.script_places.specs.Groups.{groups}
use Rattle.script_places.specs.Items.{items_from}
use Rattle.script_places.specs.Counts.{fits}

-- what the words of a place mean
abbrev pub Meaning : Place → Type 0
Meaning places.Tablets = Unit {0}
Meaning places.Name = Word
Meaning places.Database = Word
Meaning places.Key = Word
Meaning (places.Number least most) = ℕ
Meaning places.Slot = ℕ
Meaning (places.Identifier kind) = Id
Meaning places.Column = NewColumn
Meaning places.Time = Time
Meaning places.MaybeTime = Option Time
Meaning places.Cells = List NamedCell
Meaning places.Columns = List NewColumn
Meaning places.Items = List NamedItem

-- the meaning of the place's words, which are the first of these, and the words behind them
abbrev pub at : ℕ → (place : Place) → List Word → Result (Meaning place × List Word) Cause
at slots places.Tablets ws = next_of ws >>= λ x. Ok (tt, x.1)
at slots places.Name ws = name_at ws
at slots places.Database ws = database_at ws
at slots places.Key ws = key_at ws
at slots (places.Number least most) ws = number_at BadNumber least most ws
at slots places.Slot ws = number_at NoSuchSlot 1 slots ws
at slots (places.Identifier kind) ws = identifier_at (kind_of kind) ws
at slots places.Column ws = column_at ws
at slots places.Time ws = wanted BadTime (time_of ws) >>= λ time. Ok (time, [])
at slots places.MaybeTime ws = wanted BadTime (maybe_time ws) >>= λ time. Ok (time, [])
at slots places.Cells ws = cells_from [] ws >>= λ cells. Ok (cells, [])
at slots places.Columns ws = columns_from [] ws >>= λ columns. Ok (columns, [])
at slots places.Items ws = items_from [] (groups ws) >>= λ items. Ok (items, [])

-- what makes a command of the meanings of these places
abbrev pub Makes : Type 0 → List Place → Type 0
Makes C [] = C
Makes C (place ∷ rest) = Meaning place → Makes C rest

-- the command of the words, or the cause of the first wrong word from the left
abbrev pub read : {C : Type 0} → ℕ → (places : List Place) → Makes C places → List Word → Result C Cause
read slots [] command ws = Ok command
read slots (place ∷ rest) make ws = at slots place ws >>= λ x. read slots rest (make x.0) x.1

-- a command: its word, the places of its other words, and what makes it of their meanings
pub record Form (C : Type 0) : Type 0 where
  pub word : Word
  pub places : List Place
  pub makes : Makes C places

-- The command of the words behind its own. A wrong count or fixed word comes before the cause of
-- a single word.
unfoldable pub read_form : {C : Type 0} → ℕ → Form C → List Word → Result C Cause
read_form slots form ws = if fits form.places ws then read slots form.places form.makes ws else Err WrongWords

-- the command of a word and those behind it, as these forms say, or else this
abbrev pub look_up : {C : Type 0} → ℕ → List (Form C) → Word → List Word → Result C Cause → Result C Cause
look_up slots [] w ws otherwise = otherwise
look_up slots (form ∷ forms) w ws otherwise =
    if bytes_eq w form.word then read_form slots form ws else look_up slots forms w ws otherwise
