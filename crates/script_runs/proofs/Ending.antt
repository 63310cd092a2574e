-- A command comes to what its course does.
use Rattle.std.proofs.Common.{◌≡◌, ℕ, ◌+◌, List, ◌++◌, refl, sym, ap, ◌∙◌, [], arith}
use Rattle.model.specs.Entries.{Entry}
use Rattle.model.specs.Scripts.{ScriptCommand, Numbered}
use Rattle.model_runs.specs.Courses.{Course, course_of}
use Rattle.model_runs.specs.Running.{Run, taken, made_by, with_text, text_of, course_text}
use Rattle.std.specs.Prelude.{Result, Ok, Err, OnOk, OnErr}
use Rattle.law.proofs.Running.{taken_keeps}
use Rattle.script_runs.specs.declared.stop.Stop.{Stop}
use Rattle.script_runs.specs.declared.stop.Stop.TheVariants.{NoMemory, Full}
use Rattle.script_runs.specs.Runs.{RunState, run_at, GoesTo, StopsAt, PartOf, Came, Wrote, Ran, RanFull, RanInPart, text_between}

made_is : (c : ScriptCommand) (s : RunState) (course : Course) (told : List ℕ) (done : ℕ) → course ≡ course_of s.reading c → made_by s.slots c (run_at s told done) ≡ taken s.slots course (run_at s told done)
unfolding made_by
made_is c s course told done is = ap (λ k. taken s.slots k (run_at s told done)) (sym is)

pub text_is : (c : Numbered) (s new : RunState) (course : Course) → course ≡ course_of s.reading c.command → course_text course c.line s.history new.history ≡ text_between c s new
unfolding text_of
text_is c s new course is = ap (λ k. course_text k c.line s.history new.history) is

same_text : (c : Numbered) (s : RunState) (told : List ℕ) (done : ℕ) (now : List Entry) → text_of c.line c.command (run_at s told done) now ≡ text_of c.line c.command (run_at s [] 0) now
unfolding text_of
same_text c s told done now = refl

-- the command's part of a run
abbrev ended : Numbered → Run → Run → Run
ended c r after = with_text (text_of c.line c.command r after.history) after

pub course_ran : (c : Numbered) (s new : RunState) (course : Course) → course ≡ course_of s.reading c.command → GoesTo (taken s.slots course) s new → Ran c s new
course_ran c s new course is goes told done =
    let r = run_at s told done in
    ap (ended c r) (made_is c.command s course told done is ∙ goes told done)
    ∙ ap (λ text. run_at new (told ++ text) (done + 1)) (same_text c s told done new.history)

pub course_full : (c : Numbered) (s new : RunState) (course : Course) → course ≡ course_of s.reading c.command → StopsAt (taken s.slots course) s new → RanFull c s new
course_full c s new course is stops told done = ap (ended c (run_at s told done)) (made_is c.command s course told done is ∙ stops told done)

pub course_part : (c : Numbered) (s new : RunState) (course : Course) → course ≡ course_of s.reading c.command → PartOf (taken s.slots course) s new → RanInPart c s new
course_part c s new course is p told done =
    let k = p told done in record {
      more = k.more;
      behind = k.behind;
      rest = k.rest;
      within = ap (λ (r : Run). r.history) (made_is c.command s course told done is) ∙ k.within;
    }

-- by what the course came to

pub came_ran : {A : Type 0} (r : Result A Stop) (c : Numbered) (s new : RunState) (course : Course) → course ≡ course_of s.reading c.command → Came r (taken s.slots course) s new → OnOk r (Ran c s new)
came_ran (Ok made) c s new course is came = course_ran c s new course is came
came_ran (Err why) c s new course is came = tt

pub came_full : {A : Type 0} (r : Result A Stop) (c : Numbered) (s new : RunState) (course : Course) → course ≡ course_of s.reading c.command → Came r (taken s.slots course) s new → r ≡ Err Full → RanFull c s new
came_full (Ok made) c s new course is came full = absurd (let q : Ok made ≡ Err Full = full in grind arith)
came_full (Err NoMemory) c s new course is came full = absurd (let q : Err NoMemory ≡ Err Full = full in grind arith)
came_full (Err Full) c s new course is came full = course_full c s new course is came.0

pub came_part : {A : Type 0} (r : Result A Stop) (c : Numbered) (s new : RunState) (course : Course) → course ≡ course_of s.reading c.command → Came r (taken s.slots course) s new → OnErr r (RanInPart c s new)
came_part (Ok made) c s new course is came = tt
came_part (Err NoMemory) c s new course is came = course_part c s new course is came
came_part (Err Full) c s new course is came = course_part c s new course is came.1

pub wrote_text : {A : Type 0} (r : Result A Stop) (c : Numbered) (s new : RunState) (course : Course) (before after : List ℕ) → course ≡ course_of s.reading c.command
    → Wrote r before after (course_text course c.line s.history new.history) → OnOk r (after ≡ before ++ text_between c s new)
wrote_text (Ok made) c s new course before after is wrote = wrote ∙ ap (λ text. before ++ text) (text_is c s new course is)
wrote_text (Err why) c s new course before after is wrote = tt

-- nothing was begun
pub unbegun : {A : Type 0} (r : Result A Stop) (c : Numbered) (s : RunState) → OnErr r (RanInPart c s s)
unbegun (Ok made) c s = tt
unbegun (Err why) c s = course_part c s s (course_of s.reading c.command) refl
    (λ told done. let k = taken_keeps (course_of s.reading c.command) s.slots (run_at s told done) in record { more = []; behind = refl; rest = k.later; within = k.is })
