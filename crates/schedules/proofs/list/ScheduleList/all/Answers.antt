use Rattle.std.proofs.Common.{ap, ◌∙◌}
use Rattle.std.proofs.lemmas.Result.{IfOk-weaker}
use Rattle.kept_records.specs.Gathered.{present_of}
use Rattle.schedules.specs.Seen.{SchedulesView}
use Rattle.schedules.proofs.Listed.{all_pass}
use Rattle.schedules.proofs.list.ScheduleList.all.Goals as goal

pub returns : goal.returns
returns c = record {
  exact = IfOk-weaker c.passing.result _ _
      (λ v found.
      found ∙ all_pass (present_of c.as_slice.result.now) ∙ ap present_of c.as_slice.ensures.value
      ∙ ap (λ (w : SchedulesView). w.schedules) c.self.view_is)
      c.passing.ensures.all;
}
