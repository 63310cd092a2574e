use Rattle.std.proofs.Common.{ℕ, ◌≡◌, List, sym, ap, ap₂, subst, ◌∙◌}
use Rattle.row_values.specs.Schema.{Schema, with_column}
use Rattle.table_schema.specs.Seen.{column_kind_of}
use Rattle.model.specs.Catalog.{TableRecord}
use Rattle.master_part.specs.Acts.{ChangeFits, goes_on}
use Rattle.master_acts.proofs.Changing.{added_fits}
use Rattle.master_acts.proofs.columns.decide_add_column.Goals as goal

pub returns-clause-may : goal.returns-clause-may
returns-clause-may c =
    let a = c.args in
    let m = a.master.now.master in
    let found = c.in-Ok.found.now in
    let schema = with_column a.name.now (column_kind_of a.kind) found.schema in
    let is : c.going_on.result ≡ goes_on found found.name schema a.stamp =
    c.going_on.ensures.exact
    ∙ ap₂ (λ (name : List ℕ) (s : Schema). goes_on found name s a.stamp) (c.in_ok-copy-3.ensures ∙ c.name_of.ensures.exact)
    (c.in_ok-schema.ensures.exact ∙ ap (with_column a.name.now (column_kind_of a.kind)) c.schema_of.ensures.exact) in
    let fits = added_fits m a.namespace.now a.table.now a.name.now found (sym c.in-Ok.ensures.exact) c.requires.lawful schema a.stamp c.requires.later in (
      subst (λ (r : TableRecord). ChangeFits r a.stamp m) (sym is) fits,
      ap₂ (λ (t : TableRecord) (name : List ℕ). goes_on t t.name (with_column name (column_kind_of a.kind) t.schema) a.stamp) c.in_ok-copy.ensures c.in_ok-copy-2.ensures
          ∙ sym is,
    )
