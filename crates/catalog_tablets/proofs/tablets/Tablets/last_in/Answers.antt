use Rattle.std.proofs.Common.{List, None, map, ap, ◌∙◌}
use Rattle.model.specs.Activity.{Interval}
use Rattle.model.specs.Cleanup.{last_in}
use Rattle.newest_index.proofs.Opens.{indexes-of}
use Rattle.kept_records.specs.declared.records.Kept.{Kept}
use Rattle.kept_records.specs.Gathered.{present_of, kept_key}
use Rattle.catalog_tablets.specs.View.{slot_of}
use Rattle.catalog_tablets.proofs.Active.{slot_is}
use Rattle.catalog_tablets.proofs.tablets.Tablets.last_in.Goals as goal

pub returns : goal.returns
returns c =
    let e = c.as_slice.ensures.value in
    record {
      exact = rw (← c.self.view_is)
          (c.gather.ensures.all slot_of (indexes-of _ _ (ap (map (kept_key slot_of)) e) c.self.invariant.by_slot)
          ∙ slot_is _ c.keys_agree.ensures.slot_laws c.keys_agree.ensures.slots c.args.slot (present_of c.as_slice.result.now)
          ∙ ap (λ (ks : List (Kept Interval)). last_in (present_of ks) c.args.slot None) e);
    }
