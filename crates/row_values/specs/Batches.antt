-- What a batch of writes may hold: at most 64 items, each with a key of 1 to 64 bytes and at most 16 cells, whose texts
-- have at most 256 bytes.
use Rattle.std.specs.Prelude.{ℕ, ◌≤◌, List, length}
use Rattle.row_values.specs.Elements.{AllOf}
use Rattle.row_values.specs.declared.value.Value.{Value}
use Rattle.row_values.specs.declared.value.Value.TheVariants.{Int, Text, Null}
use Rattle.row_values.specs.declared.value.RowOp.{RowOp}
use Rattle.row_values.specs.declared.value.RowOp.TheVariants.{Upsert, Delete}
use Rattle.row_values.specs.declared.value.Item.{Item}

abbrev pub IsKey : List ℕ → Type 0
IsKey key = (1 ≤ length key) × (length key ≤ 64)

abbrev pub IsValue : Value → Type 0
IsValue (Int number) = Unit {0}
IsValue (Text text) = length text ≤ 256
IsValue Null = Unit {0}

abbrev pub IsOp : RowOp → Type 0
IsOp (Upsert cells) = (length cells ≤ 16) × AllOf (λ c. IsValue c.value) cells
IsOp Delete = Unit {0}

-- what a store takes
abbrev pub FitsStore : List Item → Type 0
FitsStore items = (length items ≤ 64) × AllOf (λ i. IsKey i.key × IsOp i.op) items

-- a batch of writes has an item besides
abbrev pub IsBatch : List Item → Type 0
IsBatch batch = (1 ≤ length batch) × FitsStore batch
