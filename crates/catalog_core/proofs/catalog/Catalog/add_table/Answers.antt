use Rattle.std.proofs.Common.{[], ◌∷◌, ◌++◌, refl, ap, ◌∙◌}
use Rattle.model.specs.Catalog.{TableRecord, owner_of}
use Rattle.catalog_core.proofs.Found.{clears_all}
use Rattle.catalog_core.proofs.catalog.Catalog.add_table.Goals as goal

pub add-requires-clause-fresh : goal.add-requires-clause-fresh
add-requires-clause-fresh c =
    let unowned = rw (← c.self.view_is) at c.requires.unowned in
    ap (λ (t : TableRecord). owner_of c.self.inside.owners.items t.id) c.table.view_is ∙ unowned

pub returns-clause-catalog : goal.returns-clause-catalog
returns-clause-catalog c =
    let os = c.self.inside.owners.items in
    let owners = c.add.ensures.items ∙ ap (λ (t : TableRecord). os ++ record { table = t.id; namespace = t.namespace } ∷ []) c.table.view_is in
    rw (← c.self.view_is) (rw (owners, c.add-2.ensures.items) refl)

pub add-requires-2-clause-past : goal.add-requires-2-clause-past
add-requires-2-clause-past c = clears_all c.self.inside.tables.items c.args.table (rw (← c.self.view_is) at c.requires.past)
