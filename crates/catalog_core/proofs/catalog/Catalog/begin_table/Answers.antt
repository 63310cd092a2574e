use Rattle.catalog_core.proofs.Found.{clears_all}
use Rattle.catalog_core.proofs.catalog.Catalog.begin_table.Goals as goal

pub add-requires-clause-past : goal.add-requires-clause-past
add-requires-clause-past c = clears_all c.self.inside.tables.items c.args.table (rw (← c.self.view_is) at c.requires.past)
