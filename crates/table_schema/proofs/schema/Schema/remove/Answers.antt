use Rattle.row_values.specs.Schema.{Schema}
use Rattle.table_schema.proofs.Ids.{schema_without_column, no_id_returns_without}
use Rattle.table_schema.proofs.schema.Schema.remove.Goals as goal

pub invariant_of-self : goal.invariant_of-self
invariant_of-self c =
    let s : Schema = record { version = c.self.inside.version; next = c.self.inside.next; columns = c.self.inside.columns } in
    rw (c.without.ensures, c.replace-columns.ensures.value) (schema_without_column s c.args.name.now c.self.invariant)

pub returns-clause-ids : goal.returns-clause-ids
returns-clause-ids c =
    let s : Schema = record { version = c.self.inside.version; next = c.self.inside.next; columns = c.self.inside.columns } in
    rw (← c.self.view_is, c.without.ensures, c.replace-columns.ensures.value) (no_id_returns_without s c.args.name.now)
