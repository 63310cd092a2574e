use Rattle.std.proofs.Common.{◌≡◌, ◌+◌, length, arith}
use Rattle.std.proofs.lemmas.Grind.{common_steps}
use Rattle.row_values.specs.Schema.{numbered}
use Rattle.table_schema.proofs.Ids.{schema_first}
use Rattle.table_schema.proofs.schema.Schema.of_columns.Goals as goal

pub invariant_of-result : goal.invariant_of-result
invariant_of-result c =
    let made : c.loop-column.made ≡ numbered 1 c.args.columns.now = grind (arith, common_steps, c.loop-column.invariant.made, c.loop-column-test.false) in
    let next : c.loop-column.next ≡ length c.args.columns.now + 1 = grind (arith, common_steps, c.loop-column.invariant.counted, c.loop-column-test.false) in
    rw (made, next) (schema_first c.args.columns.now c.requires.apart)
