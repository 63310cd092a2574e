-- The courses that a run takes.
use Rattle.std.specs.Prelude.{◌≡◌, ℕ, ◌<◌, ◌^◌}
use Rattle.model.specs.Scripts.{ScriptCommand}
use Rattle.model_runs.specs.Courses.{Course, ScriptAsked, course_of}

-- the course of a command that may be asked of a cluster of so many slots
pub record IsAskedCourse (slots reading : ℕ) (course : Course) : Type 0 where
  pub less : reading < 2 ^ 50
  pub command : ScriptCommand
  pub asked : ScriptAsked slots command
  pub is : course ≡ course_of reading command
