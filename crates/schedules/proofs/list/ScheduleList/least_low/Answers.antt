use Rattle.std.proofs.Common.{List, map, ap, ◌∙◌}
use Rattle.model.specs.Records.{Schedule}
use Rattle.model.specs.Schedules.{least_low}
use Rattle.newest_index.proofs.Opens.{indexes-of}
use Rattle.kept_records.specs.declared.records.Kept.{Kept}
use Rattle.kept_records.specs.Gathered.{present_of, kept_key}
use Rattle.schedules.specs.Seen.{space_of}
use Rattle.schedules.proofs.Listed.{least}
use Rattle.schedules.proofs.list.ScheduleList.least_low.Goals as goal

pub returns : goal.returns
returns c =
    let e = c.as_slice.ensures.value in
    let k = c.keys_agree.ensures in
    record {
      exact = rw (← c.self.view_is)
          (c.gather.ensures.all space_of (indexes-of _ _ (ap (map (kept_key space_of)) e) c.self.invariant.by_namespace)
          ∙ least _ k.laws k.same c.args.namespace.now c.args.now (present_of c.as_slice.result.now)
          ∙ ap (λ (ks : List (Kept Schedule)). least_low (present_of ks) c.args.namespace.now c.args.now) e);
    }
