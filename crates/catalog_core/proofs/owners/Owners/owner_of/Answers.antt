use Rattle.std.proofs.Common.{◌∙◌}
use Rattle.catalog_core.proofs.Entries.{owner_here}
use Rattle.catalog_core.proofs.owners.Owners.owner_of.Goals as goal

pub returns : goal.returns
returns c = rw (← c.self.view_is)
    (c.copied.ensures ∙ c.get.ensures.value
    ∙ owner_here _ c.keys_agree.ensures.laws c.keys_agree.ensures.idents c.self.inside.entries.entries c.args.table.now)
