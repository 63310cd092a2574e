use Rattle.std.proofs.Common.{◌≡◌, ◌++◌, ◌∷◌, [], true, ap, ◌∙◌}
use Rattle.model.specs.Records.{Schedule}
use Rattle.kept_records.specs.declared.records.Kept.{Kept}
use Rattle.kept_records.specs.Gathered.{present_of}
use Rattle.kept_records.proofs.Gathering.{present_next}
use Rattle.schedules.proofs.list.ScheduleList.add.Goals as goal

pub returns-clause-schedules : goal.returns-clause-schedules
returns-clause-schedules c =
    let ks = c.self.inside.schedules.items in
    let k : Kept Schedule = record { item = c.args.schedule; present = true } in
    let e : c.push.new.self.items ≡ ks ++ k ∷ [] = rw c.unwrap.ensures at c.push.ensures.items in
    rw (← c.self.view_is) (ap present_of e ∙ present_next ks c.args.schedule)
