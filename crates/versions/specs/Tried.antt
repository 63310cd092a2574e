-- What the tests write.
use Rattle.std.specs.Prelude.{true, ℕ, ℤ, List, [], ◌∷◌}
use Rattle.row_values.specs.declared.value.Value.TheVariants.{Int}
use Rattle.row_values.specs.declared.value.RowOp.TheVariants.{Upsert}
use Rattle.row_values.specs.declared.value.Item.{Item}
use Rattle.row_values.specs.declared.rows.KeyedRow.{KeyedRow}
use Rattle.row_values.specs.Rows.{absent_row}

-- puts a number into column 1 of a row
abbrev pub number_item : List ℕ → ℤ → Item
number_item key number = record { key = key; op = Upsert (record { column = 1; value = Int number } ∷ []) }

-- a row with that number in column 1
abbrev pub number_row : List ℕ → ℤ → KeyedRow
number_row key number =
    record { key = key; row = record { present = true; cells = record { column = 1; value = Int number } ∷ [] } }

abbrev pub no_row : List ℕ → KeyedRow
no_row key = record { key = key; row = absent_row }
