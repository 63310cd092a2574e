-- Numbers in rows, by which rows are told apart.
use Rattle.std.proofs.Common.{◌≡◌, ℕ, pos, arith, List, [], ◌∷◌}
use Rattle.row_values.specs.declared.rows.KeyedRow.{KeyedRow}
use Rattle.row_values.specs.declared.value.Value.{Value}
use Rattle.row_values.specs.declared.value.Value.TheVariants.{Int}
use Rattle.row_values.specs.declared.value.Cell.{Cell}

-- the number in the first cell of the first row
abbrev pub number_in : Value → ℕ
number_in (Int (pos n)) = n
number_in _ = 0

abbrev pub first_cell : List Cell → ℕ
first_cell [] = 0
first_cell (kept ∷ cells) = number_in kept.value

abbrev pub first_number : List KeyedRow → ℕ
first_number [] = 0
first_number (r ∷ rs) = first_cell r.row.cells

pub two_is_not_one : ◌≡◌ {A = ℕ} 2 1 → ⊥
two_is_not_one e = omega arith

pub none_is_not_one : ◌≡◌ {A = ℕ} 0 1 → ⊥
none_is_not_one e = omega arith
