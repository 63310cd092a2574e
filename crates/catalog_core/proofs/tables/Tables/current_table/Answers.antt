use Rattle.std.proofs.Common.{map, sym, ap, ◌∙◌}
use Rattle.newest_index.specs.Newest.{open_at}
use Rattle.catalog_core.specs.Kept.{is_current_table, table_id}
use Rattle.catalog_core.proofs.Found.{table_here}
use Rattle.catalog_core.proofs.tables.Tables.current_table.Goals as goal

pub returns : goal.returns
returns c =
    let k = c.keys_agree.ensures in
    let rs = c.self.inside.records.items in
    rw (← c.self.view_is)
    (c.current_at.ensures
    ∙ ap (open_at is_current_table rs) (c.newest-place.ensures (map table_id rs) c.self.invariant.by_id)
    ∙ sym (table_here _ k.laws k.idents k.equal rs c.args.id.now c.self.invariant.ids))
