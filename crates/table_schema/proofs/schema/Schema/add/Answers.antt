use Rattle.std.proofs.Common.{◌≡◌, None, rules}
use Rattle.row_values.specs.Schema.{Schema, column_named}
use Rattle.table_schema.specs.Seen.{column_kind_of}
use Rattle.table_schema.proofs.Ids.{schema_with_column, no_id_returns_with}
use Rattle.table_schema.proofs.schema.Schema.add.Goals as goal

pub invariant_of-self-2 : goal.invariant_of-self-2
invariant_of-self-2 c =
    let s : Schema = record { version = c.self.inside.version; next = c.self.inside.next; columns = c.self.inside.columns } in
    let free : column_named s.columns c.args.name ≡ None = search rules in
    rw c.in-Ok.ensures.pushed (schema_with_column s c.args.name (column_kind_of c.args.kind) c.self.invariant free)

pub returns-clause-ids : goal.returns-clause-ids
returns-clause-ids c =
    let s : Schema = record { version = c.self.inside.version; next = c.self.inside.next; columns = c.self.inside.columns } in
    rw (← c.self.view_is, c.in-Ok.ensures.pushed) (no_id_returns_with s c.args.name (column_kind_of c.args.kind))
