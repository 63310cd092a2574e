-- The rows of which a store is made.
use Rattle.std.specs.Prelude.{List}
use Rattle.std.specs.List.{filter}
use Rattle.row_values.specs.Elements.{AllOf}
use Rattle.row_values.specs.Batches.{IsKey, IsValue}
use Rattle.row_values.specs.declared.rows.KeyedRow.{KeyedRow}
use Rattle.law_store.specs.Sorted.{SortedCells}

-- each key has 1 to 64 bytes, and the cells of each row rise by column and have texts of at most 256 bytes
abbrev pub FitsRows : List KeyedRow → Type 0
FitsRows rows = AllOf (λ r. IsKey r.key × SortedCells r.row.cells × AllOf (λ c. IsValue c.value) r.row.cells) rows

abbrev pub present_rows : List KeyedRow → List KeyedRow
present_rows rows = filter (λ r. r.row.present) rows
