use Rattle.std.proofs.Common.{◌≡◌, ◌++◌, ◌∷◌, [], true, ap, ◌∙◌}
use Rattle.model.specs.Records.{ScheduledNamespace}
use Rattle.kept_records.specs.declared.records.Kept.{Kept}
use Rattle.kept_records.specs.Gathered.{present_of}
use Rattle.kept_records.proofs.Gathering.{present_next}
use Rattle.schedules.proofs.spaces.ScheduledNamespaces.add.Goals as goal

pub returns-clause-scheduled : goal.returns-clause-scheduled
returns-clause-scheduled c =
    let ks = c.self.inside.scheduled.items in
    let k : Kept ScheduledNamespace = record { item = c.args.scheduled; present = true } in
    let e : c.push.new.self.items ≡ ks ++ k ∷ [] = rw c.unwrap.ensures at c.push.ensures.items in
    rw (← c.self.view_is) (ap present_of e ∙ present_next ks c.args.scheduled)
