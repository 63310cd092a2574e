use Rattle.std.proofs.Common.{◌≡◌, ◌++◌, drop}
use Rattle.row_values.specs.Store.{of_rows}
use Rattle.versions.specs.Rows.{present_rows}
use Rattle.versions.proofs.copies.row_copies.Given as goal

abbrev pub invariant-loop-keyed : goal.invariant-loop-keyed
invariant-loop-keyed l = l.copies.items ++ of_rows (present_rows (drop l.keyed-index l.rows)) l.stamp ≡ of_rows (present_rows l.rows) l.stamp
