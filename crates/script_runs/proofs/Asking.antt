-- The courses of commands that may be asked: the acts that follow a look may be asked too, and a read's line shows at
-- most one act behind its look.
use Rattle.std.proofs.Common.{ℕ, ◌≤◌, ◌<◌, ◌^◌, List, [], ◌∷◌, length, Option, Some, None, sym, subst, arith}
use Rattle.row_values.specs.Elements.{AllOf}
use Rattle.model.specs.Acts.{Act, Look, Ask}
use Rattle.model.specs.Entries.{ActAsked}
use Rattle.model.specs.History.{Legal}
use Rattle.model.specs.Scripts.{ScriptCommand, CreateTable, AddColumn, DropColumn, DropTable, WriteRows, ReadRow, ReadTable, Split, RaiseCutoffs, CompactTablets, CleanUp, asked_at}
use Rattle.model_runs.specs.Courses.{Found, FoundSlots, FoundPlaces, FoundTargets, FoundRows, FoundNothing, found_by, Showing, ShowReply, ShowRow, ShowTable, ShowCount, Course, SetReading, SetLag, Perform, LookFor, WorkOff, ShowEntries, course_of, read_places, CourseAsked}
use Rattle.law.proofs.Following.{IsFit, CourseFits, course_fits}
use Rattle.law.proofs.Runs.{look_answers}
use Rattle.script_runs.specs.Runs.{RunState, run_at, entry_under}
use Rattle.script_runs.specs.Asking.{IsAskedCourse}

-- how many acts may follow, so that the line shows them
abbrev pub FollowsFew : Showing → ℕ → Type 0
FollowsFew ShowReply count = Unit {0}
FollowsFew ShowRow count = count ≤ 1
FollowsFew ShowTable count = count ≤ 1
FollowsFew ShowCount count = Unit {0}

abbrev CourseFew : Course → Type 0
CourseFew (SetReading micros) = Unit {0}
CourseFew (SetLag slot micros) = Unit {0}
CourseFew (Perform act) = Unit {0}
CourseFew (LookFor ask follow showing) = (found : Found) → FollowsFew showing (length (follow found))
CourseFew (WorkOff work) = Unit {0}
CourseFew ShowEntries = Unit {0}

read_few : (key : Option (List ℕ)) (at : Option ℕ) (found : Found) → length (read_places key at found) ≤ 1
read_few key at (FoundSlots slots) = omega arith
read_few key at (FoundPlaces places version columns) = omega arith
read_few key at (FoundTargets targets) = omega arith
read_few key at (FoundRows rows) = omega arith
read_few key at FoundNothing = omega arith

course_few : (c : ScriptCommand) (reading : ℕ) → CourseFew (course_of reading c)
course_few (CreateTable namespace table tablets columns) reading = λ found. tt
course_few (AddColumn namespace table name kind) reading = λ found. tt
course_few (DropColumn namespace table name) reading = λ found. tt
course_few (DropTable namespace table) reading = λ found. tt
course_few (WriteRows namespace table batch) reading = λ found. tt
course_few (ReadRow namespace table key at) reading = read_few (Some key) (asked_at reading at)
course_few (ReadTable namespace table at) reading = read_few None (asked_at reading at)
course_few (Split namespace table code) reading = λ found. tt
course_few RaiseCutoffs reading = λ found. tt
course_few CompactTablets reading = λ found. tt
course_few CleanUp reading = λ found. tt
course_few _ reading = tt

-- What a course asks

pub asked_is : (slots reading : ℕ) (course : Course) → IsAskedCourse slots reading course → reading < 2 ^ 50 → CourseAsked slots course
asked_is slots reading course h less = subst (CourseAsked slots) (sym h.is) (h.asked reading less)

fits_is : (slots reading : ℕ) (course : Course) → IsAskedCourse slots reading course → reading < 2 ^ 50 → CourseFits slots reading course
fits_is slots reading course h less =
    subst (CourseFits slots reading) (sym h.is) (course_fits h.command slots reading (h.asked reading less))

-- the acts that follow a look may be asked

all_asked : (slots : ℕ) (acts : List Act) → AllOf (IsFit slots) acts → AllOf (ActAsked slots) acts
all_asked slots [] fit = tt
all_asked slots (act ∷ acts) fit = (fit.0.asked, all_asked slots acts fit.1)

pub follow_asked : (s : RunState) (ask : Ask) (follow : Found → List Act) (showing : Showing) → IsAskedCourse s.slots s.reading (LookFor ask follow showing)
    → s.reading < 2 ^ 50 → Legal s.slots (entry_under (Look ask) s ∷ s.history) → AllOf (ActAsked s.slots) (follow (found_by (entry_under (Look ask) s).reply))
follow_asked s ask follow showing h less legal =
    let fits = fits_is s.slots s.reading (LookFor ask follow showing) h less in
    let answers = look_answers s.slots ask (run_at s [] 0) (record { legal = legal; reading = less }) in
    all_asked s.slots (follow (found_by (entry_under (Look ask) s).reply)) (fits.1 (entry_under (Look ask) s).reply answers)

-- the line shows them

pub follow_few : (slots reading : ℕ) (ask : Ask) (follow : Found → List Act) (showing : Showing) (found : Found) → IsAskedCourse slots reading (LookFor ask follow showing) → FollowsFew showing (length (follow found))
follow_few slots reading ask follow showing found h = subst CourseFew (sym h.is) (course_few h.command reading) found
