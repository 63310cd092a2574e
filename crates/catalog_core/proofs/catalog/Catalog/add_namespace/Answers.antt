use Rattle.std.proofs.Common.{refl, ap, ◌∙◌}
use Rattle.model.specs.Catalog.{NamespaceRecord, set_kept_from}
use Rattle.catalog_core.proofs.catalog.Catalog.add_namespace.Goals as goal

pub returns-clause-catalog : goal.returns-clause-catalog
returns-clause-catalog c =
    let ks = c.self.inside.kept_from.items in
    let marks = c.set.ensures.items ∙ ap (λ (r : NamespaceRecord). set_kept_from ks r.id r.from) c.namespace.view_is in
    rw (← c.self.view_is) (rw (marks, c.add.ensures.items) refl)
