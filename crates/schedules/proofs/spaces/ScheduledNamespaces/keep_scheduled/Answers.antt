use Rattle.std.proofs.Common.{not, is_some, refl, ap, ◌∙◌}
use Rattle.kept_records.specs.Gathered.{present_of, taken_out}
use Rattle.kept_records.proofs.Gathering.{taken_out_present, stays}
use Rattle.schedules.specs.Seen.{scheduled_space}
use Rattle.schedules.proofs.Listed.{kept_scheduled}
use Rattle.model.specs.Records.{ScheduledNamespace, schedule_of}
use Rattle.schedules.proofs.spaces.ScheduledNamespaces.keep_scheduled.Goals as goal

pub invariant_of-self : goal.invariant_of-self
invariant_of-self c =
    let old = c.self.inside.scheduled.items in
    let new = c.keep_all.new.records.items in
    let i = c.self.invariant in
    record {
      by_namespace = stays scheduled_space _ (taken_out) old new (λ k. refl) c.keep_all.ensures.all i.by_namespace;
      list_room = rw c.keep_all.ensures.room i.list_room;
      namespace_room = i.namespace_room;
      namespace_links = i.namespace_links;
    }

pub returns-clause-scheduled : goal.returns-clause-scheduled
returns-clause-scheduled c =
    let old = c.self.inside.scheduled.items in
    let i = c.self.invariant in
    rw (← c.self.view_is)
    (ap present_of c.keep_all.ensures.all
    ∙ taken_out_present (λ (k : ScheduledNamespace). not (is_some (schedule_of c.args.schedules.now.schedules k.namespace))) old
    ∙ kept_scheduled c.args.schedules.now.schedules (present_of old))
