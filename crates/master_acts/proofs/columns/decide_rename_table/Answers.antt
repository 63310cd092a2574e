use Rattle.std.proofs.Common.{ℕ, ◌≡◌, List, sym, ap₂, subst, ◌∙◌}
use Rattle.row_values.specs.Schema.{Schema}
use Rattle.model.specs.Catalog.{TableRecord}
use Rattle.master_part.specs.Acts.{ChangeFits, goes_on}
use Rattle.master_acts.proofs.Changing.{renamed_fits}
use Rattle.master_acts.proofs.columns.decide_rename_table.Goals as goal

pub returns-clause-may : goal.returns-clause-may
returns-clause-may c =
    let a = c.args in
    let m = a.master.now.master in
    let found = c.in-Ok.found.now in
    let is : c.going_on.result ≡ goes_on found a.name.now found.schema a.stamp =
    c.going_on.ensures.exact
    ∙ ap₂ (λ (name : List ℕ) (schema : Schema). goes_on found name schema a.stamp) c.in_ok-copy-3.ensures (c.in_ok-copy-4.ensures ∙ c.schema_of.ensures.exact) in
    let fits = renamed_fits m a.namespace.now a.table.now a.name.now found a.stamp (sym c.in-Ok.ensures.exact) c.requires.lawful c.requires.later in (
      subst (λ (r : TableRecord). ChangeFits r a.stamp m) (sym is) fits,
      ap₂ (λ (t : TableRecord) (name : List ℕ). goes_on t name t.schema a.stamp) c.in_ok-copy.ensures c.in_ok-copy-2.ensures ∙ sym is,
    )
