use Rattle.std.proofs.Common.{sym, ap, ◌∙◌}
use Rattle.newest_index.specs.Newest.{open_at}
use Rattle.catalog_core.specs.Kept.{stood_at}
use Rattle.catalog_core.proofs.Found.{record_here}
use Rattle.catalog_core.proofs.tables.Tables.record_at.Goals as goal

pub returns : goal.returns
returns c =
    let k = c.keys_agree.ensures in
    let rs = c.self.inside.records.items in
    rw (← c.self.view_is)
    (c.held_at.ensures
    ∙ ap (open_at (stood_at c.args.x) rs) c.place_begun-place.ensures.last
    ∙ sym (record_here _ k.laws k.idents k.equal rs c.args.id.now c.args.x c.self.invariant.ids))
