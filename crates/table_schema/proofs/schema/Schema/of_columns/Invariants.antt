use Rattle.std.proofs.Common.{◌≡◌, ◌+◌, ◌++◌, drop}
use Rattle.row_values.specs.Schema.{numbered}
use Rattle.table_schema.proofs.schema.Schema.of_columns.Given as goal

abbrev pub invariant-loop-column : goal.invariant-loop-column
invariant-loop-column l = record {
  made : l.made ++ numbered l.next (drop l.column-index l.columns) ≡ numbered 1 l.columns;
  counted : l.next ≡ 1 + l.column-index;
}
