use Rattle.std.proofs.Common.{is_some, map, ap, ◌∙◌}
use Rattle.catalog_core.specs.Kept.{space_id}
use Rattle.catalog_core.proofs.Leaving.{space_here}
use Rattle.catalog_core.proofs.namespaces.Namespaces.has_records.Goals as goal

pub returns : goal.returns
returns c =
    let k = c.keys_agree.ensures in
    let rs = c.self.inside.records.items in
    record {
      exact = rw (← c.self.view_is)
          (c.is_some.ensures ∙ ap is_some (c.newest.ensures (map space_id rs) c.self.invariant.by_id) ∙ space_here _ k.laws k.idents rs c.args.namespace.now);
    }
