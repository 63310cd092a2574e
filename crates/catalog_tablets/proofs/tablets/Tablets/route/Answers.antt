use Rattle.std.proofs.Common.{List, map, ap, ◌∙◌}
use Rattle.model.specs.Activity.{Interval, route}
use Rattle.newest_index.proofs.Opens.{indexes-of}
use Rattle.kept_records.specs.declared.records.Kept.{Kept}
use Rattle.kept_records.specs.Gathered.{present_of, kept_key}
use Rattle.catalog_tablets.specs.View.{table_of}
use Rattle.catalog_tablets.proofs.Active.{routes}
use Rattle.catalog_tablets.proofs.tablets.Tablets.route.Goals as goal

pub returns : goal.returns
returns c =
    let e = c.as_slice.ensures.value in
    record {
      exact = rw (← c.self.view_is)
          (c.gather.ensures.all table_of (indexes-of _ _ (ap (map (kept_key table_of)) e) c.self.invariant.by_table)
          ∙ routes _ c.keys_agree.ensures.laws c.keys_agree.ensures.same c.args.table.now c.args.code c.args.x (present_of c.as_slice.result.now)
          ∙ ap (λ (ks : List (Kept Interval)). route (present_of ks) c.args.table.now c.args.code c.args.x) e);
    }
