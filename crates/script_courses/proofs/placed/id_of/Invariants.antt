use Rattle.std.proofs.Common.{◌≡◌, drop}
use Rattle.row_values.specs.Schema.{column_named}
use Rattle.script_courses.proofs.placed.id_of.Given as goal

abbrev pub invariant-loop-column : goal.invariant-loop-column
invariant-loop-column l = column_named l.columns l.name ≡ column_named (drop l.column-index l.columns) l.name
