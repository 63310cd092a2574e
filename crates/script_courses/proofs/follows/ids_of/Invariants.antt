use Rattle.std.proofs.Common.{◌≡◌, take}
use Rattle.row_values.specs.Schema.{column_ids}
use Rattle.script_courses.proofs.follows.ids_of.Given as goal

abbrev pub invariant-loop-column : goal.invariant-loop-column
invariant-loop-column l = l.ids ≡ column_ids (take l.column-index l.columns)
