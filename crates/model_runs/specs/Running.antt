-- The run of a script: the entries and the text that its commands make, one after the other, from the empty cluster.
use Rattle.std.specs.Prelude.{ℕ, ◌+◌, ◌-◌, ◌&&◌, ◌==◌, Bool, true, false, nat_lt, if◌then◌else◌, List, [], ◌∷◌, ◌++◌, length, codes}
use Rattle.std.specs.Fmt.{decimal}
use Rattle.row_values.specs.declared.rows.KeyedRow.{KeyedRow}
use Rattle.row_values.specs.Schema.{Column}
use Rattle.model.specs.Times.{end_of_time}
use Rattle.model.specs.Acts.{Act, Look, Event, Reply}
use Rattle.model.specs.Entries.{Entry, touches, log_of, stamp_of}
use Rattle.model.specs.History.{replay, held, most_entries, entry_of}
use Rattle.model.specs.Settling.{event_of}
use Rattle.model.specs.Scripts.{ScriptCommand, Numbered}
use Rattle.model_runs.specs.Courses.{Found, FoundSlots, FoundPlaces, FoundTargets, FoundRows, FoundNothing, found_by, Showing, ShowReply, ShowRow, ShowTable, ShowCount, Course, SetReading, SetLag, Perform, LookFor, WorkOff, ShowEntries, course_of}
use Rattle.model_runs.specs.Texts.{told_text, row_text, rows_text}
use Rattle.model_runs.specs.HistoryTexts.{history_text}

-- the script's reading, how far each slot's lags behind it, the entries so far, the newest first, the text of the
-- commands that were done, and how many these are. A run stops where an event would be stamped at the end of time or
-- find its log full
pub record Run : Type 0 where
  pub reading : ℕ
  pub lag : ℕ → ℕ
  pub history : List Entry
  pub text : List ℕ
  pub done : ℕ
  pub stopped : Bool

abbrev pub begun : Run
begun = record { reading = 0; lag = λ slot. 0; history = []; text = []; done = 0; stopped = false }

-- Events

-- whether an event gets a stamp, and room in its log
unfoldable pub may_follow : ℕ → Event → List Entry → Bool
may_follow slots event earlier =
    nat_lt (stamp_of event (replay slots earlier)) end_of_time && nat_lt (held (log_of event.act) earlier) most_entries

-- the run after one more event
abbrev pub with_event : ℕ → Event → Run → Run
with_event slots event r =
    if r.stopped then r
    else if may_follow slots event r.history then record r { history = entry_of slots event r.history ∷ r.history }
    else record r { stopped = true }

-- the reading of an event that touches these slots: where it is one slot alone, that slot's lag comes off
abbrev pub reading_for : List ℕ → Run → ℕ
reading_for [] r = r.reading
reading_for (slot ∷ []) r = r.reading - r.lag slot
reading_for (slot ∷ other ∷ slots) r = r.reading

-- the run after one more act of a command
abbrev pub performed : ℕ → Act → Run → Run
performed slots act r = with_event slots (event_of (reading_for (touches act) r) act) r

abbrev pub performed_all : ℕ → List Act → Run → Run
performed_all slots [] r = r
performed_all slots (act ∷ acts) r = performed_all slots acts (performed slots act r)

-- the run after acts of a coordinator, to which no lag matters
abbrev pub worked_off : ℕ → List Act → Run → Run
worked_off slots [] r = r
worked_off slots (act ∷ acts) r = worked_off slots acts (with_event slots (event_of r.reading act) r)

-- Commands

-- the acts that follow the newest entry, a look
abbrev pub after_look : (Found → List Act) → List Entry → List Act
after_look follow [] = []
after_look follow (look ∷ earlier) = follow (found_by look.reply)

-- the run after the acts that follow a look
abbrev pub followed : ℕ → (Found → List Act) → Run → Run
followed slots follow r = performed_all slots (after_look follow r.history) r

-- the run after a course
abbrev pub taken : ℕ → Course → Run → Run
taken slots (SetReading micros) r = record r { reading = micros }
taken slots (SetLag slot micros) r = record r { lag = λ s. if s == slot then micros else r.lag s }
taken slots (Perform act) r = performed slots act r
taken slots (LookFor ask follow showing) r = followed slots follow (performed slots (Look ask) r)
taken slots (WorkOff work) r = worked_off slots (work (replay slots r.history)) r
taken slots ShowEntries r = r

-- the run after the events of a command
unfoldable pub made_by : ℕ → ScriptCommand → Run → Run
made_by slots c r = taken slots (course_of r.reading c) r

-- Texts

-- the columns that a look placed
abbrev pub columns_in : Found → List Column
columns_in (FoundSlots slots) = []
columns_in (FoundPlaces places version columns) = columns
columns_in (FoundTargets targets) = []
columns_in (FoundRows rows) = []
columns_in FoundNothing = []

abbrev pub columns_before : List Entry → List Column
columns_before [] = []
columns_before (look ∷ earlier) = columns_in (found_by look.reply)

-- the text of rows where there are some, and else the other one
abbrev pub rows_or : (List KeyedRow → List ℕ) → Found → List ℕ → List ℕ
rows_or text (FoundSlots slots) other = other
rows_or text (FoundPlaces places version columns) other = other
rows_or text (FoundTargets targets) other = other
rows_or text (FoundRows rows) other = text rows
rows_or text FoundNothing other = other

-- the text of the reply to a read
abbrev pub read_text : (List KeyedRow → List ℕ) → ℕ → Reply → List ℕ
read_text text n reply = rows_or text (found_by reply) (told_text n reply)

-- the text of the newest reply; rows show the columns that the look before it placed
abbrev pub newest_reply : List Entry → List ℕ
newest_reply [] = []
newest_reply (e ∷ earlier) = told_text e.stamp e.reply

abbrev pub newest_rows : (List Column → List KeyedRow → List ℕ) → List Entry → List ℕ
newest_rows text [] = []
newest_rows text (e ∷ earlier) = read_text (text (columns_before earlier)) e.stamp e.reply

-- `<n> events`
abbrev pub events_text : ℕ → List ℕ
events_text count = decimal count ++ codes " events"

-- what is shown of a look and the acts behind it, by the entries before the command and after it; a count leaves the
-- look out
abbrev pub shown_text : Showing → List Entry → List Entry → List ℕ
shown_text ShowReply before now = newest_reply now
shown_text ShowRow before now = newest_rows row_text now
shown_text ShowTable before now = newest_rows rows_text now
shown_text ShowCount before now = events_text (length now - length before - 1)

-- `<line>: <text>`
abbrev pub reply_line : ℕ → List ℕ → List ℕ
reply_line line text = decimal line ++ codes ": " ++ text ++ 10 ∷ []

-- what a course writes
abbrev pub course_text : Course → ℕ → List Entry → List Entry → List ℕ
course_text (SetReading micros) line before now = []
course_text (SetLag slot micros) line before now = []
course_text (Perform act) line before now = reply_line line (newest_reply now)
course_text (LookFor ask follow showing) line before now = reply_line line (shown_text showing before now)
course_text (WorkOff work) line before now = reply_line line (events_text (length now - length before))
course_text ShowEntries line before now = history_text now

-- what a command on this line writes, by the run before it and the entries after it
unfoldable pub text_of : ℕ → ScriptCommand → Run → List Entry → List ℕ
text_of line c r now = course_text (course_of r.reading c) line r.history now

-- The script

-- a command that was not stopped is done
abbrev pub with_text : List ℕ → Run → Run
with_text text r = if r.stopped then r else record r { text = r.text ++ text; done = r.done + 1 }

-- the run after one more command
abbrev pub ran : ℕ → Numbered → Run → Run
ran slots c r =
    let after = made_by slots c.command r in
    if r.stopped then r else with_text (text_of c.line c.command r after.history) after

abbrev pub run_from : ℕ → List Numbered → Run → Run
run_from slots [] r = r
run_from slots (c ∷ cs) r = run_from slots cs (ran slots c r)

-- the run of a script
unfoldable pub run_of : ℕ → List Numbered → Run
run_of slots commands = run_from slots commands begun
