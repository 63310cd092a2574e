use Rattle.std.proofs.Common.{subst}
use Rattle.model_runs.specs.Courses.{Perform}
use Rattle.cluster_events.specs.SeenActs.{act_of}
use Rattle.script_courses.specs.SeenCourses.{course_seen}
use Rattle.script_runs.specs.Asking.{IsAskedCourse}
use Rattle.script_runs.proofs.Asking.{asked_is}
use Rattle.script_runs.proofs.run.ScriptRun.take.Goals as goal

pub tell-requires : goal.tell-requires
tell-requires g c =
    let course = subst (λ k. IsAskedCourse c.args.self.now.slots c.args.self.now.reading (course_seen c.args.self.now.reading k)) c.in-Perform.is c.requires.course in
    record { asked = asked_is c.args.self.now.slots c.args.self.now.reading (Perform (act_of c.in-Perform.act)) course course.less }
