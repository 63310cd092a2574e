-- What keeps a schema right, and what a schema refuses.
use Rattle.std.specs.Prelude.{ℕ, ◌<◌, ◌≤◌, ◌≡◌, ◌≢◌, ⊤, nat_le, if◌then◌else◌, is_some, List, length, All, AllPairs, Contains, Option, Some, None, Result, Ok, Err}
use Rattle.row_values.specs.declared.value.Value.{Value}
use Rattle.row_values.specs.Schema.{Column, Schema, column_named, is_of_kind}
use Rattle.table_schema.specs.declared.schema.SchemaRefused.{SchemaRefused}
use Rattle.table_schema.specs.declared.schema.SchemaRefused.TheVariants.{NameTaken, TooMany, UnknownColumn, WrongKind, NoMemory}

-- each id is below the next one, the ids rise, and no two columns have one name
pub record IsSchema (s : Schema) : Type 0 where
  pub below : All (λ c. c.id < s.next) s.columns
  pub rising : AllPairs (λ c d. c.id < d.id) s.columns
  pub apart : AllPairs (λ c d. c.name ≢ d.name) s.columns

-- why no column of this name can be added, if so
abbrev pub add_refusal : Schema → List ℕ → Option SchemaRefused
add_refusal s name =
    if is_some (column_named s.columns name) then Some NameTaken
    else if nat_le 16 (length s.columns) then Some (TooMany 16)
    else None

-- an answer is the refusal that comes; want of memory may stand in its place
abbrev pub Answers : Option SchemaRefused → SchemaRefused → Type 0
Answers refusal NoMemory = ⊤
Answers refusal NameTaken = refusal ≡ Some NameTaken
Answers refusal (TooMany limit) = refusal ≡ Some (TooMany limit)
Answers refusal UnknownColumn = refusal ≡ Some UnknownColumn
Answers refusal WrongKind = refusal ≡ Some WrongKind

-- the id of a column that is asked for
abbrev pub id_of : Option Column → Result ℕ SchemaRefused
id_of None = Err UnknownColumn
id_of (Some c) = Ok c.id

-- the id of a column for a value
abbrev pub fitting : Option Column → Value → Result ℕ SchemaRefused
fitting None value = Err UnknownColumn
fitting (Some c) value = if is_of_kind c.kind value then Ok c.id else Err WrongKind

-- the second schema has no id again that was given before the first and stands no more
pub record NoIdReturns (before after : Schema) : Type 0 where
  pub rises : before.next ≤ after.next
  pub kept : All (λ c. c.id < before.next → Contains before.columns c) after.columns
