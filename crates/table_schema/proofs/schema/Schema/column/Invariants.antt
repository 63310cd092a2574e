use Rattle.std.proofs.Common.{◌≡◌, drop}
use Rattle.row_values.specs.Schema.{column_named}
use Rattle.table_schema.proofs.schema.Schema.column.Given as goal

abbrev pub invariant-loop-column : goal.invariant-loop-column
invariant-loop-column l = column_named l.column-items l.name ≡ column_named (drop l.column-index l.column-items) l.name
