use Rattle.std.proofs.Common.{refl, ap, ◌∙◌}
use Rattle.kept_records.specs.Gathered.{present_of, changes_record}
use Rattle.kept_records.proofs.Gathering.{changed_present, stays}
use Rattle.schedules.specs.Seen.{id_of, space_of}
use Rattle.schedules.proofs.Listed.{periods}
use Rattle.model.specs.Schedules.{edited}
use Rattle.model.specs.Changed.{with_periods}
use Rattle.schedules.proofs.list.ScheduleList.set_periods.Goals as goal

pub invariant_of-self : goal.invariant_of-self
invariant_of-self c =
    let old = c.self.inside.schedules.items in
    let new = c.change.new.records.items in
    let i = c.self.invariant in
    let e = c.change.ensures.all id_of i.by_id in
    record {
      by_id = stays id_of _ (changes_record (edited c.new-edits.result.interval c.new-edits.result.retention c.new-edits.result.now)) old new (λ k. refl) e i.by_id;
      by_namespace = stays space_of _ (changes_record (edited c.new-edits.result.interval c.new-edits.result.retention c.new-edits.result.now)) old new (λ k. refl) e i.by_namespace;
      list_room = rw c.change.ensures.room i.list_room;
      id_room = i.id_room;
      id_links = i.id_links;
      namespace_room = i.namespace_room;
      namespace_links = i.namespace_links;
    }

pub returns-clause-schedules : goal.returns-clause-schedules
returns-clause-schedules c =
    let old = c.self.inside.schedules.items in
    let k = c.keys_agree.ensures in
    rw (← c.self.view_is)
    (ap present_of (c.change.ensures.all id_of c.self.invariant.by_id)
    ∙ changed_present _ (edited c.new-edits.result.interval c.new-edits.result.retention c.new-edits.result.now) old
    ∙ periods _ k.laws k.same c.args.id.now c.new-edits.result.interval c.new-edits.result.retention c.new-edits.result.now (present_of old)
    ∙ ap (λ n. with_periods c.args.id.now n c.new-edits.result.retention c.new-edits.result.now (present_of old)) c.new-edits.ensures.interval
    ∙ ap (λ n. with_periods c.args.id.now c.args.interval n c.new-edits.result.now (present_of old)) c.new-edits.ensures.retention
    ∙ ap (λ n. with_periods c.args.id.now c.args.interval c.args.retention n (present_of old)) c.new-edits.ensures.now)
