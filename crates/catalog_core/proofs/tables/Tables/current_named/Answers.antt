use Rattle.std.proofs.Common.{sym, ap, ◌∙◌}
use Rattle.newest_index.specs.Newest.{open_at}
use Rattle.catalog_core.specs.Kept.{is_current_table}
use Rattle.catalog_core.proofs.Found.{named_here}
use Rattle.catalog_core.proofs.tables.Tables.current_named.Goals as goal

pub returns : goal.returns
returns c =
    let k = c.keys_agree.ensures in
    let rs = c.self.inside.records.items in
    rw (← c.self.view_is)
    (c.current_at.ensures
    ∙ ap (open_at is_current_table rs) c.place_named-place.ensures.last
    ∙ sym (named_here _ k.laws k.idents k.equal rs c.args.namespace.now c.args.name.now c.self.invariant.names))
