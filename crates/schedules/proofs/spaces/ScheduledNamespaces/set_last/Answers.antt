use Rattle.std.proofs.Common.{refl, ap, ◌∙◌}
use Rattle.kept_records.specs.Gathered.{present_of, changes_record}
use Rattle.kept_records.proofs.Gathering.{changed_present, stays}
use Rattle.schedules.specs.Seen.{scheduled_space}
use Rattle.schedules.proofs.Listed.{space_lasts, space_taken}
use Rattle.schedules.proofs.spaces.ScheduledNamespaces.set_last.Goals as goal

pub invariant_of-self : goal.invariant_of-self
invariant_of-self c =
    let old = c.self.inside.scheduled.items in
    let new = c.change.new.records.items in
    let i = c.self.invariant in
    record {
      by_namespace = stays scheduled_space _ (changes_record (space_taken c.args.at)) old new (λ k. refl) (c.change.ensures.all scheduled_space i.by_namespace) i.by_namespace;
      list_room = rw c.change.ensures.room i.list_room;
      namespace_room = i.namespace_room;
      namespace_links = i.namespace_links;
    }

pub returns-clause-scheduled : goal.returns-clause-scheduled
returns-clause-scheduled c =
    let old = c.self.inside.scheduled.items in
    let i = c.self.invariant in
    let k = c.keys_agree.ensures in
    rw (← c.self.view_is)
    (ap present_of (c.change.ensures.all scheduled_space i.by_namespace)
    ∙ changed_present _ (space_taken c.args.at) old
    ∙ space_lasts _ k.laws k.same c.args.namespace.now c.args.at (present_of old))
