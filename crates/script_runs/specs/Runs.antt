-- The state of a script's run, the book's run in it, and what a command comes to.
use Rattle.std.specs.Prelude.{◌≡◌, ℕ, ◌+◌, ◌<◌, ◌^◌, false, true, List, [], ◌∷◌, ◌++◌, length, get_or, Result, Ok, Err}
use Rattle.model.specs.Acts.{Act}
use Rattle.model.specs.Entries.{Entry, touches}
use Rattle.model.specs.History.{Legal, entry_of}
use Rattle.model.specs.Settling.{event_of}
use Rattle.model.specs.Scripts.{ScriptCommand, Numbered}
use Rattle.model_runs.specs.Running.{Run, reading_for, made_by, text_of, ran}
use Rattle.machine_laws.specs.Views.{AnswerView}
use Rattle.admin_words.specs.Growing.{Begins}
use Rattle.script_runs.specs.declared.stop.Stop.{Stop}
use Rattle.script_runs.specs.declared.stop.Stop.TheVariants.{NoMemory, Full}

pub record RunState : Type 0 where
  -- how many slots there are for tablets
  pub slots : ℕ
  -- the script's reading, in microseconds
  pub reading : ℕ
  -- how far each slot's readings lag behind it; the first is the master's
  pub lags : List ℕ
  -- the newest entry first
  pub history : List Entry

-- what holds between two commands
pub record IsRunning (s : RunState) : Type 0 where
  pub legal : Legal s.slots s.history
  pub reading : s.reading < 2 ^ 50
  pub lags : length s.lags ≡ s.slots + 1

-- the book's run in a state, when so much was told and so many commands were done
abbrev pub run_at : RunState → List ℕ → ℕ → Run
run_at s told done = record {
  reading = s.reading;
  lag = λ slot. get_or s.lags slot 0;
  history = s.history;
  text = told;
  done = done;
  stopped = false;
}

-- Changes of the book's run, whatever was told and done before

-- the change leads from one state to the other
abbrev pub GoesTo : (Run → Run) → RunState → RunState → Type 0
GoesTo change old new = (told : List ℕ) (done : ℕ) → change (run_at old told done) ≡ run_at new told done

-- the change stops in the other state: an event can't be stamped, or finds its log full
abbrev pub StopsAt : (Run → Run) → RunState → RunState → Type 0
StopsAt change old new =
    (told : List ℕ) (done : ℕ) → change (run_at old told done) ≡ record (run_at new told done) { stopped = true }

-- the history has some more entries than an earlier one had, the oldest of those that a whole one has
pub record IsPart (earlier now whole : List Entry) : Type 0 where
  pub more : List Entry
  pub behind : now ≡ more ++ earlier
  pub rest : List Entry
  pub within : whole ≡ rest ++ now

-- some of the change's events were performed
abbrev pub PartOf : (Run → Run) → RunState → RunState → Type 0
PartOf change old new =
    (told : List ℕ) (done : ℕ) → IsPart old.history new.history (change (run_at old told done)).history

-- what a change that is not made to its end leaves
abbrev pub Stopped : Stop → (Run → Run) → RunState → RunState → Type 0
Stopped NoMemory change old new = PartOf change old new
Stopped Full change old new = StopsAt change old new × PartOf change old new

-- what a change comes to: it is made, or it stops with some of its events performed
abbrev pub Came : {A : Type 0} → Result A Stop → (Run → Run) → RunState → RunState → Type 0
Came (Ok made) change old new = GoesTo change old new
Came (Err why) change old new = Stopped why change old new

-- what stands behind a text: all that was to be added, or a part of it
abbrev pub Wrote : {A : Type 0} → Result A Stop → (old new added : List ℕ) → Type 0
Wrote (Ok made) old new added = new ≡ old ++ added
Wrote (Err why) old new added = Begins old new

-- the entry that an act makes in a state
abbrev pub entry_under : Act → RunState → Entry
entry_under act s = entry_of s.slots (event_of (reading_for (touches act) (run_at s [] 0)) act) s.history

-- the state has that entry more, and the answer is its
pub record IsEntry (e : Entry) (old new : RunState) (a : AnswerView) : Type 0 where
  pub history : new.history ≡ e ∷ old.history
  pub stamp : a.stamp ≡ e.stamp
  pub reply : a.reply ≡ e.reply

-- Commands

abbrev pub numbered : ℕ → ScriptCommand → Numbered
numbered line command = record { line = line; command = command }

-- what a command writes that led from one state to the other
abbrev pub text_between : Numbered → RunState → RunState → List ℕ
text_between c old new = text_of c.line c.command (run_at old [] 0) new.history

-- the command was done
abbrev pub Ran : Numbered → RunState → RunState → Type 0
Ran c old new = (told : List ℕ) (done : ℕ)
    → ran old.slots c (run_at old told done) ≡ run_at new (told ++ text_between c old new) (done + 1)

-- it stopped at an event that can't be
abbrev pub RanFull : Numbered → RunState → RunState → Type 0
RanFull c old new = StopsAt (ran old.slots c) old new

-- some of its events were performed
abbrev pub RanInPart : Numbered → RunState → RunState → Type 0
RanInPart c old new = PartOf (made_by old.slots c.command) old new
