-- Runs of a script over the definitions: what its lines show, and the history that they make.
use Rattle.std.specs.Prelude.{◌≡◌, ℕ, zero, suc, List, [], ◌∷◌, ◌++◌, ◌+◌, ◌-◌, length}
use Rattle.std.specs.Option.{option_map_or}
use Rattle.model.specs.Acts.{Act, Event, Reply}
use Rattle.model.specs.Parts.{Parts, start}
use Rattle.model.specs.Entries.{Entry, stamp_of}
use Rattle.model.specs.History.{outcome, next, replay, entry_of}
use Rattle.model.specs.Work.{next_act}

-- a line sets the reading, is one event, or has a coordinator perform so many, fewer where no record is unfinished
pub data Line : Type 0 where
  Tick : (micros : ℕ) → Line
  Do : (act : Act) → Line
  Coordinate : (count : ℕ) → Line

-- what a line shows: the stamp and the reply of its event, or how many there were
pub data Shown : Type 0 where
  Gave : (stamp : ℕ) (reply : Reply) → Shown
  Did : (events : ℕ) → Shown

-- the reading, the history, the newest entry first, and the parts that it leaves
pub record Run : Type 0 where
  pub reading : ℕ
  pub entries : List Entry
  pub parts : Parts

-- a run before its first line
abbrev pub begun : ℕ → Run
begun slots = record { reading = 0; entries = []; parts = start slots }

abbrev pub event_of : Act → Run → Event
event_of act run = record { caller = 0; reading = run.reading; act = act }

-- the entry that an event makes on these parts
abbrev pub entry_on : Event → List Entry → Parts → Entry
entry_on event earlier ps = let n = stamp_of event ps in record {
  number = length earlier + 1;
  event = event;
  stamp = n;
  reply = (outcome event.act n ps).reply;
}

abbrev pub with_entry : Entry → Run → Run
with_entry e run = record run { entries = e ∷ run.entries; parts = next e run.parts }

-- the run after an act
abbrev pub done : Act → Run → Run
done act run = with_entry (entry_on (event_of act run) run.entries run.parts) run

-- the run after so many events of a coordinator
abbrev pub coordinated : ℕ → Run → Run
coordinated zero run = run
coordinated (suc count) run = option_map_or (λ act. coordinated count (done act run)) (next_act run.parts) run

abbrev pub after_line : Line → Run → Run
after_line (Tick micros) run = record run { reading = micros }
after_line (Do act) run = done act run
after_line (Coordinate count) run = coordinated count run

-- the run after the lines
abbrev pub after : List Line → Run → Run
after [] run = run
after (line ∷ lines) run = after lines (after_line line run)

abbrev pub shown_newest : List Entry → List Shown
shown_newest [] = []
shown_newest (e ∷ earlier) = Gave e.stamp e.reply ∷ []

abbrev pub shown_line : Line → Run → Run → List Shown
shown_line (Tick micros) before run = []
shown_line (Do act) before run = shown_newest run.entries
shown_line (Coordinate count) before run = Did (length run.entries - length before.entries) ∷ []

-- what the lines show, in their order
abbrev pub shown : List Line → Run → List Shown
shown [] run = []
shown (line ∷ lines) run = shown_line line run (after_line line run) ++ shown lines (after_line line run)

-- each entry is the one that its event makes after the earlier ones
abbrev pub Given : ℕ → List Entry → Type 0
Given slots [] = Unit {0}
Given slots (e ∷ earlier) = (e ≡ entry_of slots e.event earlier) × Given slots earlier

-- a run is the history of its entries, and its parts are those that they leave
pub record IsHistory (slots : ℕ) (run : Run) : Type 0 where
  pub parts : run.parts ≡ replay slots run.entries
  pub given : Given slots run.entries

-- a history whose newest entry answers this
abbrev pub answered : Reply → List Entry → List Entry
answered reply [] = []
answered reply (e ∷ earlier) = record e { reply = reply } ∷ earlier
