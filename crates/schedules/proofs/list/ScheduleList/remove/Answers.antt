use Rattle.std.proofs.Common.{refl, ap, ◌∙◌}
use Rattle.kept_records.specs.Gathered.{present_of, taken_out}
use Rattle.kept_records.proofs.Gathering.{taken_out_present, stays}
use Rattle.schedules.specs.Seen.{id_of, space_of}
use Rattle.schedules.proofs.Listed.{gone}
use Rattle.schedules.proofs.list.ScheduleList.remove.Goals as goal

pub invariant_of-self : goal.invariant_of-self
invariant_of-self c =
    let old = c.self.inside.schedules.items in
    let new = c.take_out.new.records.items in
    let i = c.self.invariant in
    let e = c.take_out.ensures.all id_of i.by_id in
    record {
      by_id = stays id_of _ (taken_out) old new (λ k. refl) e i.by_id;
      by_namespace = stays space_of _ (taken_out) old new (λ k. refl) e i.by_namespace;
      list_room = rw c.take_out.ensures.room i.list_room;
      id_room = i.id_room;
      id_links = i.id_links;
      namespace_room = i.namespace_room;
      namespace_links = i.namespace_links;
    }

pub returns-clause-schedules : goal.returns-clause-schedules
returns-clause-schedules c =
    let old = c.self.inside.schedules.items in
    let k = c.keys_agree.ensures in
    rw (← c.self.view_is)
    (ap present_of (c.take_out.ensures.all id_of c.self.invariant.by_id)
    ∙ taken_out_present _ old
    ∙ gone _ k.laws k.same c.args.id.now (present_of old))
