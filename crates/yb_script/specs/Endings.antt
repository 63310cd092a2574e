-- What each end of a run means.
use Rattle.std.specs.Prelude.{◌≡◌, ℕ, ◌+◌, ◌<◌, ◌≤◌, ⊤, true, false, List, [], ◌∷◌, ◌++◌, length, take, codes, Option, Some, None, Ok, Err, Result}
use Rattle.std.specs.Fmt.{decimal}
use Rattle.std.specs.Io.KnownBytes.{Appends}
use Rattle.script_io.specs.Causes.{Rose}
use Rattle.script_io.specs.Streams.{AppendsPart}
use Rattle.script_words.specs.declared.cause.Cause.{Cause}
use Rattle.script_words.specs.declared.cause.Cause.TheVariants.{LineTooLong, BadByte, OpenQuote, UnknownCommand, WrongWords, BadName, BadKey, BadValue, BadNumber, BadIdentifier, BadTime, NoSuchSlot, RepeatedColumn}
use Rattle.model.specs.Entries.{Entry}
use Rattle.model.specs.Scripts.{Numbered}
use Rattle.model_runs.specs.Running.{Run, run_of}
use Rattle.script_asked.specs.Numbered.{numbered_of}
use Rattle.script_runs.specs.Runs.{RunState, IsPart, Ran, RanFull, RanInPart, text_between}
use Rattle.script_lang.specs.declared.script.ScriptLine.{ScriptLine}
use Rattle.yb_script.specs.declared.performing.Halt.{Halt}
use Rattle.yb_script.specs.declared.performing.Halt.TheVariants.{WriteFault, Full, NoMemory}

-- what a text says: the commands of its lines, or the number of the first line that is refused, and its cause
abbrev pub Program : Type 0
Program = Result (List ScriptLine) (ℕ × Cause)

-- this holds of what is left, where it is told
abbrev pub OfTold : Option (List ℕ) → (List ℕ → Type 0) → Type 0
OfTold None P = ⊤
OfTold (Some bytes) P = P bytes

-- The line of status 3

abbrev pub cause_text : Cause → List ℕ
cause_text LineTooLong = codes "line too long"
cause_text BadByte = codes "bad byte"
cause_text OpenQuote = codes "open quote"
cause_text UnknownCommand = codes "unknown command"
cause_text WrongWords = codes "wrong words"
cause_text BadName = codes "bad name"
cause_text BadKey = codes "bad key"
cause_text BadValue = codes "bad value"
cause_text BadNumber = codes "bad number"
cause_text BadIdentifier = codes "bad identifier"
cause_text BadTime = codes "bad time"
cause_text NoSuchSlot = codes "no such slot"
cause_text RepeatedColumn = codes "repeated column"

-- `line <n>: <cause>`
abbrev pub fault_line : ℕ → Cause → List ℕ
fault_line line cause = codes "line " ++ decimal line ++ codes ": " ++ cause_text cause ++ 10 ∷ []

-- Ends of a run of these commands, whose history has the newest entry first. `done` of them were done, and what was
-- written stands behind the old text

-- the book's run of the first commands
abbrev pub run_first : ℕ → List Numbered → ℕ → Run
run_first slots commands count = run_of slots (take count commands)

-- a whole run: every command was done, and the text was written whole
pub record IsWhole (slots : ℕ) (commands : List Numbered) (history : List Entry) (done : ℕ)
    (old new : Option (List ℕ)) : Type 0 where
  pub goes_on : (run_of slots commands).stopped ≡ false
  pub all : done ≡ length commands
  pub counted : (run_of slots commands).done ≡ done
  pub entries : history ≡ (run_of slots commands).history
  pub text : Appends old new (run_of slots commands).text

-- a run in which an event can't be stamped, or finds its log full: the lines of the commands before it are written
pub record IsFull (slots : ℕ) (commands : List Numbered) (history : List Entry) (done : ℕ)
    (old new : Option (List ℕ)) : Type 0 where
  pub stops : (run_of slots commands).stopped ≡ true
  pub next : done < length commands
  pub counted : (run_of slots commands).done ≡ done
  pub entries : history ≡ (run_of slots commands).history
  pub text : Appends old new (run_of slots commands).text

-- a run that a write stopped: the next command was done, and its line was written in part
pub record IsCut (slots : ℕ) (commands : List Numbered) (history : List Entry) (done : ℕ)
    (old new : Option (List ℕ)) : Type 0 where
  pub next : done < length commands
  pub goes_on : (run_first slots commands (done + 1)).stopped ≡ false
  pub entries : history ≡ (run_first slots commands (done + 1)).history
  pub line : List ℕ
  pub behind : (run_first slots commands (done + 1)).text ≡ (run_first slots commands done).text ++ line
  pub bytes : ℕ
  pub part : bytes ≤ length line
  pub text : Appends old new ((run_first slots commands done).text ++ take bytes line)

-- a run that want of memory stopped: the lines of the commands that were done are written, and no more. The entries are
-- theirs, and some of the next one's
pub record IsBroken (slots : ℕ) (commands : List Numbered) (history : List Entry) (done : ℕ)
    (old new : Option (List ℕ)) : Type 0 where
  pub within : done ≤ length commands
  pub goes_on : (run_first slots commands done).stopped ≡ false
  pub entries : IsPart (run_first slots commands done).history history (run_first slots commands (done + 1)).history
  pub text : Appends old new (run_first slots commands done).text

-- nothing was done, and this was written
abbrev pub IsUndone : List ℕ → List Entry → ℕ → Option (List ℕ) → Option (List ℕ) → Type 0
IsUndone text history done old new = (history ≡ []) × (done ≡ 0) × Appends old new text

-- nothing was done, and the front of this was written
abbrev pub IsUndoneInPart : List ℕ → List Entry → ℕ → Option (List ℕ) → Option (List ℕ) → Type 0
IsUndoneInPart text history done old new = (history ≡ []) × (done ≡ 0) × AppendsPart old new text

-- What each status of a run means, by what the text says to the program

abbrev pub IsRun : ℕ → Program → List Entry → ℕ → Option (List ℕ) → Option (List ℕ) → Type 0
IsRun slots (Ok lines) history done old new = IsWhole slots (numbered_of lines) history done old new
IsRun slots (Err refused) history done old new = ⊥

-- a line was refused: it was named with its cause, and nothing was done
abbrev pub IsFault : Program → List Entry → ℕ → Option (List ℕ) → Option (List ℕ) → Type 0
IsFault (Ok lines) history done old new = ⊥
IsFault (Err (line, cause)) history done old new = IsUndone (fault_line line cause) history done old new

abbrev pub IsWriteFault : ℕ → Program → List Entry → ℕ → Option (List ℕ) → Option (List ℕ) → Type 0
IsWriteFault slots (Ok lines) history done old new = IsCut slots (numbered_of lines) history done old new
IsWriteFault slots (Err (line, cause)) history done old new = IsUndoneInPart (fault_line line cause) history done old new

abbrev pub IsMemoryFault : ℕ → Program → List Entry → ℕ → Option (List ℕ) → Option (List ℕ) → Type 0
IsMemoryFault slots (Ok lines) history done old new = IsBroken slots (numbered_of lines) history done old new
IsMemoryFault slots (Err refused) history done old new = IsUndone [] history done old new

abbrev pub IsFullRun : ℕ → Program → List Entry → ℕ → Option (List ℕ) → Option (List ℕ) → Type 0
IsFullRun slots (Ok lines) history done old new = IsFull slots (numbered_of lines) history done old new
IsFullRun slots (Err refused) history done old new = ⊥

-- no line is refused, and the book's run of the commands stops nowhere
abbrev pub GoesThrough : ℕ → Program → Type 0
GoesThrough slots (Ok lines) = (run_of slots (numbered_of lines)).stopped ≡ false
GoesThrough slots (Err refused) = ⊥

-- Why a command halts

abbrev pub HaltedBy : ℕ → ℕ → Halt → Type 0
HaltedBy before now WriteFault = Rose before now
HaltedBy before now Full = ⊤
HaltedBy before now NoMemory = ⊤

abbrev pub status_of : Halt → ℕ
status_of WriteFault = 5
status_of Full = 8
status_of NoMemory = 6

-- what a command that halts leaves: a write that failed comes behind its events; else it wrote nothing
abbrev pub IsHalted : Numbered → RunState → RunState → Option (List ℕ) → Option (List ℕ) → Halt → Type 0
IsHalted c old new before after WriteFault = Ran c old new × AppendsPart before after (text_between c old new)
IsHalted c old new before after Full = RanFull c old new × (after ≡ before)
IsHalted c old new before after NoMemory = RanInPart c old new × (after ≡ before)
