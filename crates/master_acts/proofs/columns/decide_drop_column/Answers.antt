use Rattle.std.proofs.Common.{ℕ, ◌≡◌, List, sym, ap, ap₂, subst, ◌∙◌}
use Rattle.row_values.specs.Schema.{Schema, Column, without_column}
use Rattle.model.specs.Catalog.{TableRecord}
use Rattle.master_part.specs.Acts.{ChangeFits, goes_on}
use Rattle.master_acts.specs.Founds.{column_seen}
use Rattle.master_acts.proofs.Changing.{dropped_fits, dropped_name}
use Rattle.master_acts.proofs.columns.decide_drop_column.Goals as goal

pub returns-clause-may : goal.returns-clause-may
returns-clause-may c =
    let a = c.args in
    let m = a.master.now.master in
    let found = c.in-Ok.found.table.now in
    let column = c.in-Ok.found.column.now in
    let judged = sym c.in-Ok.ensures.exact in
    let named : column.name ≡ a.name.now = dropped_name m a.namespace.now a.table.now a.name.now (column_seen c.in-Ok.found) judged in
    let schema = without_column a.name.now found.schema in
    let is : c.going_on.result ≡ goes_on found found.name schema a.stamp =
    c.going_on.ensures.exact
    ∙ ap₂ (λ (name : List ℕ) (s : Schema). goes_on found name s a.stamp) (c.in_ok-copy-3.ensures ∙ c.name_of.ensures.exact)
    (c.in_ok-schema.ensures.exact ∙ ap (without_column a.name.now) c.schema_of.ensures.exact) in
    let fits = dropped_fits m a.namespace.now a.table.now a.name.now (column_seen c.in-Ok.found) judged schema a.stamp c.requires.lawful c.requires.later in (
      subst (λ (r : TableRecord). ChangeFits r a.stamp m) (sym is) fits,
      ap₂ (λ (t : TableRecord) (k : Column). goes_on t t.name (without_column k.name t.schema) a.stamp) c.in_ok-copy.ensures c.in_ok-copy-2.ensures
          ∙ ap (λ (name : List ℕ). goes_on found found.name (without_column name found.schema) a.stamp) named
          ∙ sym is,
    )
