-- Items: what is done to the rows of a batch.
use Rattle.std.specs.Prelude.{Bool, false, if◌then◌else◌, List, [], ◌∷◌, ◌++◌, Result, Ok, codes, bytes_eq}
use Rattle.script_words.specs.declared.cause.Cause.{Cause}
use Rattle.script_words.specs.Reading.{◌>>=◌}
use Rattle.model.specs.Acts.{NamedItem, NamedOp, NamedUpsert, NamedDelete}
use Rattle.script_places.specs.Words.{Word}
use Rattle.script_places.specs.Names.{key_at}
use Rattle.script_places.specs.Values.{cells_from}

-- the one word `delete`
abbrev pub is_delete : List Word → Bool
is_delete [] = false
is_delete (w ∷ []) = bytes_eq w (codes "delete")
is_delete (w ∷ v ∷ ws) = false

-- `delete`, or cells
unfoldable pub op_of : List Word → Result NamedOp Cause
op_of ws = if is_delete ws then Ok NamedDelete else (cells_from [] ws >>= λ cells. Ok (NamedUpsert cells))

-- a key, and what is done to its row
unfoldable pub item_of : List Word → Result NamedItem Cause
item_of ws = key_at ws >>= λ key. op_of key.1 >>= λ op. Ok (record { key = key.0; op = op })

-- the items, behind those that are kept
unfoldable pub items_from : List NamedItem → List (List Word) → Result (List NamedItem) Cause
items_from kept [] = Ok kept
items_from kept (group ∷ groups) = item_of group >>= λ item. items_from (kept ++ item ∷ []) groups
