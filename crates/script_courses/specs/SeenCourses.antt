-- The course of a script's command as the book has it: what follows a look is a function of what was found, and work is
-- a function of the parts.
use Rattle.std.specs.Prelude.{ℕ, List, Some, None}
use Rattle.model.specs.Acts as acts
use Rattle.model.specs.Parts.{Parts}
use Rattle.model.specs.Settling.{coordinated, settle}
use Rattle.model_runs.specs.Courses as book
use Rattle.model_runs.specs.Courses.{Found, change_under, write_into, read_places, at_each, remove_each}
use Rattle.commands.specs.Seen.{command_of, ask_of}
use Rattle.cluster_events.specs.SeenActs.{act_of}
use Rattle.script_courses.specs.declared.course.Follow.{Follow}
use Rattle.script_courses.specs.declared.course.Follow.TheVariants as follow
use Rattle.script_courses.specs.declared.follows.OnTablet.{OnTablet}
use Rattle.script_courses.specs.declared.follows.OnTablet.TheVariants as on
use Rattle.script_courses.specs.declared.course.Showing.{Showing}
use Rattle.script_courses.specs.declared.course.Showing.TheVariants as showing
use Rattle.script_courses.specs.declared.course.Work.{Work}
use Rattle.script_courses.specs.declared.course.Work.TheVariants as work
use Rattle.script_courses.specs.declared.course.Course.{Course}
use Rattle.script_courses.specs.declared.course.Course.TheVariants as course

-- the acts that follow what was found
abbrev pub follow_of : Follow → Found → List acts.Act
follow_of (follow.Change command) = change_under (command_of command)
follow_of (follow.Write batch) = write_into batch
follow_of (follow.ReadKey key at) = read_places (Some key) at
follow_of (follow.ReadTable at) = read_places None at
follow_of follow.CutoffEach = at_each acts.Cutoff
follow_of follow.CompactEach = at_each acts.Compact
follow_of follow.RemoveEach = remove_each

-- what is done on the tablet of a slot
abbrev pub act_on : OnTablet → ℕ → acts.Act
act_on on.Cutoff = acts.Cutoff
act_on on.Compact = acts.Compact

-- what a line shows
abbrev pub showing_of : Showing → book.Showing
showing_of showing.Reply = book.ShowReply
showing_of showing.Row = book.ShowRow
showing_of showing.Table = book.ShowTable
showing_of showing.Count = book.ShowCount

-- the acts of a coordinator under the script's reading, by the parts that it finds
abbrev pub work_seen : ℕ → Work → Parts → List acts.Act
work_seen reading (work.Coordinate count) = coordinated count reading
work_seen reading work.Settle = settle reading

-- a course under the script's reading
abbrev pub course_seen : ℕ → Course → book.Course
course_seen reading (course.SetReading micros) = book.SetReading micros
course_seen reading (course.SetLag slot micros) = book.SetLag slot micros
course_seen reading (course.Perform act) = book.Perform (act_of act)
course_seen reading (course.LookFor ask follow showing) = book.LookFor (ask_of ask) (follow_of follow) (showing_of showing)
course_seen reading (course.WorkOff work) = book.WorkOff (work_seen reading work)
course_seen reading course.ShowEntries = book.ShowEntries
