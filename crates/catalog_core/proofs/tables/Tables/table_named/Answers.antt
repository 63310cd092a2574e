use Rattle.std.proofs.Common.{sym, ap, ◌∙◌}
use Rattle.newest_index.specs.Newest.{open_at}
use Rattle.catalog_core.specs.Kept.{stood_at}
use Rattle.catalog_core.proofs.Found.{past_here}
use Rattle.catalog_core.proofs.tables.Tables.table_named.Goals as goal

pub returns : goal.returns
returns c =
    let k = c.keys_agree.ensures in
    let rs = c.self.inside.records.items in
    rw (← c.self.view_is)
    (c.held_at.ensures
    ∙ ap (open_at (stood_at c.args.x) rs) c.place_named-place.ensures.last
    ∙ sym (past_here _ k.laws k.idents k.equal rs c.args.namespace.now c.args.name.now c.args.x c.self.invariant.names))
