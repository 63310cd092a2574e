use Rattle.std.proofs.Common.{is_some, map, ap, ◌∙◌}
use Rattle.catalog_core.specs.Kept.{table_space}
use Rattle.catalog_core.proofs.InSpaces.{any_here}
use Rattle.catalog_core.proofs.tables.Tables.has_records.Goals as goal

pub returns : goal.returns
returns c =
    let k = c.keys_agree.ensures in
    let rs = c.self.inside.records.items in
    record {
      exact = rw (← c.self.view_is)
          (c.is_some.ensures ∙ ap is_some (c.newest.ensures (map table_space rs) c.self.invariant.by_space) ∙ any_here _ k.laws k.idents rs c.args.namespace.now);
    }
