use Rattle.std.proofs.Common.{◌≡◌, subst}
use Rattle.model_runs.specs.Courses.{course_of}
use Rattle.commands.specs.Scripts.{script_command_of}
use Rattle.script_courses.specs.SeenCourses.{course_seen}
use Rattle.script_runs.specs.Runs.{RunState, numbered}
use Rattle.script_runs.proofs.Ending.{came_ran, came_full, came_part, wrote_text, unbegun}
use Rattle.script_runs.proofs.run.ScriptRun.perform.Goals as goal

pub returns-in_err-course-clause-part : goal.returns-in_err-course-clause-part
returns-in_err-course-clause-part g c = unbegun c.from_residual.result (numbered c.args.line (script_command_of c.args.command)) c.args.self.now

pub returns-clause-ran : goal.returns-clause-ran
returns-clause-ran g c =
    came_ran c.take.result (numbered c.args.line (script_command_of c.args.command)) c.args.self.now c.take.new.self (course_seen c.args.self.now.reading c.in_ok-course.course)
    (subst (λ (s : RunState). course_seen s.reading c.in_ok-course.course ≡ course_of s.reading (script_command_of c.args.command)) c.self.view_is c.in_ok-course.ensures.exact) c.take.ensures.came

pub returns-clause-text : goal.returns-clause-text
returns-clause-text g c =
    wrote_text c.take.result (numbered c.args.line (script_command_of c.args.command)) c.args.self.now c.take.new.self (course_seen c.args.self.now.reading c.in_ok-course.course) _ _
    (subst (λ (s : RunState). course_seen s.reading c.in_ok-course.course ≡ course_of s.reading (script_command_of c.args.command)) c.self.view_is c.in_ok-course.ensures.exact) c.take.ensures.wrote

pub returns-clause-full : goal.returns-clause-full
returns-clause-full g c =
    came_full c.take.result (numbered c.args.line (script_command_of c.args.command)) c.args.self.now c.take.new.self (course_seen c.args.self.now.reading c.in_ok-course.course)
    (subst (λ (s : RunState). course_seen s.reading c.in_ok-course.course ≡ course_of s.reading (script_command_of c.args.command)) c.self.view_is c.in_ok-course.ensures.exact) c.take.ensures.came

pub returns-clause-part : goal.returns-clause-part
returns-clause-part g c =
    came_part c.take.result (numbered c.args.line (script_command_of c.args.command)) c.args.self.now c.take.new.self (course_seen c.args.self.now.reading c.in_ok-course.course)
    (subst (λ (s : RunState). course_seen s.reading c.in_ok-course.course ≡ course_of s.reading (script_command_of c.args.command)) c.self.view_is c.in_ok-course.ensures.exact) c.take.ensures.came
