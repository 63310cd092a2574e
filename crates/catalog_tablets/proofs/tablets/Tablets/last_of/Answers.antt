use Rattle.std.proofs.Common.{List, map, ap, ◌∙◌}
use Rattle.model.specs.Activity.{Interval, last_of}
use Rattle.newest_index.proofs.Opens.{indexes-of}
use Rattle.kept_records.specs.declared.records.Kept.{Kept}
use Rattle.kept_records.specs.Gathered.{present_of, kept_key}
use Rattle.catalog_tablets.specs.View.{tablet_of}
use Rattle.catalog_tablets.proofs.Active.{last_is}
use Rattle.catalog_tablets.proofs.tablets.Tablets.last_of.Goals as goal

pub returns : goal.returns
returns c =
    let e = c.as_slice.ensures.value in
    record {
      exact = rw (← c.self.view_is)
          (c.gather.ensures.all tablet_of (indexes-of _ _ (ap (map (kept_key tablet_of)) e) c.self.invariant.by_tablet)
          ∙ last_is _ c.keys_agree.ensures.laws c.keys_agree.ensures.same c.args.tablet.now (present_of c.as_slice.result.now)
          ∙ ap (λ (ks : List (Kept Interval)). last_of (present_of ks) c.args.tablet.now) e);
    }
