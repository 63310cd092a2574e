use Rattle.std.proofs.Common.{List, map, min, ap, ◌∙◌}
use Rattle.model.specs.Records.{Schedule}
use Rattle.model.specs.Changes.{count_schedules}
use Rattle.newest_index.proofs.Opens.{indexes-of}
use Rattle.kept_records.specs.declared.records.Kept.{Kept}
use Rattle.kept_records.specs.Gathered.{present_of, kept_key}
use Rattle.schedules.specs.Seen.{space_of}
use Rattle.schedules.proofs.Listed.{counted, eight}
use Rattle.schedules.proofs.list.ScheduleList.is_full.Goals as goal

pub returns : goal.returns
returns c =
    let e = c.as_slice.ensures.value in
    let k = c.keys_agree.ensures in
    let ns = c.args.namespace.now in
    record {
      exact = rw (← c.self.view_is)
          (eight c.count.result (count_schedules (present_of c.self.inside.schedules.items) ns)
          (c.count.ensures.count space_of (indexes-of _ _ (ap (map (kept_key space_of)) e) c.self.invariant.by_namespace)
          ∙ ap (λ n. min n 9) (counted _ k.laws k.same ns (present_of c.as_slice.result.now)
          ∙ ap (λ (ks : List (Kept Schedule)). count_schedules (present_of ks) ns) e)));
    }
