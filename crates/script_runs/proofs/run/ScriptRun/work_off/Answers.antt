use Rattle.model_runs.specs.Courses.{WorkOff}
use Rattle.script_courses.specs.SeenCourses.{work_seen}
use Rattle.script_runs.specs.declared.stop.Stop.TheVariants.{NoMemory}
use Rattle.script_runs.proofs.Going.{handed_on}
use Rattle.script_runs.proofs.Working.{taken_done}
use Rattle.script_runs.proofs.run.ScriptRun.work_off.Goals as goal

pub returns-in_err-tell_work_line-clause-came : goal.returns-in_err-tell_work_line-clause-came
returns-in_err-tell_work_line-clause-came g c =
    handed_on c.from_residual-in_err-tell_work_line.result NoMemory _ _ _ c.from_residual-in_err-tell_work_line.ensures.1
    (taken_done (WorkOff (work_seen c.args.self.now.reading c.args.work)) c.args.self.now c.perform_work.new.self c.in_ok-perform_work.ensures.came)
