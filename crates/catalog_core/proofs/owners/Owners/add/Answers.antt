use Rattle.std.proofs.Common.{[], ◌∷◌, map, ap, ◌∙◌}
use Rattle.std.proofs.lemmas.List.{map-append}
use Rattle.indexmap.proofs.CallerLemmas.{insert_entry-new}
use Rattle.catalog_core.specs.Kept.{owner_entry}
use Rattle.catalog_core.proofs.Entries.{owner_here}
use Rattle.catalog_core.proofs.owners.Owners.add.Goals as goal

pub returns-clause-items : goal.returns-clause-items
returns-clause-items c =
    let es = c.self.inside.entries.entries in
    let fresh = rw (← c.self.view_is) at c.requires.fresh in
    let none = owner_here _ c.keys_agree.ensures.laws c.keys_agree.ensures.idents es c.args.table ∙ fresh in
    let entries = rw c.unwrap.ensures at c.insert.ensures.entries in
    rw (← c.self.view_is)
    (ap (map owner_entry) (entries ∙ insert_entry-new _ c.self.inside.entries c.args.table c.args.namespace none)
    ∙ map-append owner_entry es ((c.args.table, c.args.namespace) ∷ []))
