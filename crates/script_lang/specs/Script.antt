-- A script: the commands of its lines, or the first line that is refused and its cause.
use Rattle.std.specs.Prelude.{◌≡◌, ℕ, ◌+◌, List, [], ◌∷◌, ◌++◌, Option, Some, None, Result, Ok, Err}
use Rattle.script_words.specs.declared.cause.Cause.{Cause}
use Rattle.script_words.specs.Lines.{lines_of}
use Rattle.script_words.specs.Reading.{◌>>=◌, words_of_line}
use Rattle.model.specs.Scripts.{ScriptCommand}
use Rattle.script_lang.specs.declared.script.ScriptLine.{ScriptLine}
use Rattle.script_lang.specs.declared.script.ScriptLine.TheVariants.{Single}
use Rattle.script_lang.specs.declared.script.ScriptRefused.{ScriptRefused}
use Rattle.script_lang.specs.declared.script.ScriptRefused.TheVariants as refused
use Rattle.script_lang.specs.Table.{command_of}

-- the command of a line's words, None where there are none
abbrev pub of_words : ℕ → List (List ℕ) → Result (Option ScriptCommand) Cause
of_words slots [] = Ok None
of_words slots (w ∷ ws) = command_of slots w ws >>= λ command. Ok (Some command)

-- the command of a line, None where it does nothing, or the first cause for which it is in no
-- command's grammar
unfoldable pub line_of : ℕ → List ℕ → Result (Option ScriptCommand) Cause
line_of slots line = words_of_line line >>= λ words. of_words slots words

-- a command with the number of its line
abbrev pub numbered : ℕ → ScriptCommand → ScriptLine
numbered n command = Single (record { line = n; command = command })

-- how reading goes on behind line n, by what that line gave
abbrev pub after_line : ℕ → List ScriptLine → Result (Option ScriptCommand) Cause
    → (List ScriptLine → Result (List ScriptLine) (ℕ × Cause)) → Result (List ScriptLine) (ℕ × Cause)
after_line n kept (Err cause) rest = Err (n, cause)
after_line n kept (Ok None) rest = rest kept
after_line n kept (Ok (Some command)) rest = rest (kept ++ numbered n command ∷ [])

-- the commands of these lines, of which the first is line n, behind those that are kept
unfoldable pub script_from : ℕ → List (List ℕ) → ℕ → List ScriptLine → Result (List ScriptLine) (ℕ × Cause)
script_from slots [] n kept = Ok kept
script_from slots (line ∷ lines) n kept = after_line n kept (line_of slots line) (script_from slots lines (n + 1))

-- The commands of a text, or the first line that isn't in the grammar, and its first cause. Lines are
-- counted from 1.
abbrev pub script_of : ℕ → List ℕ → Result (List ScriptLine) (ℕ × Cause)
script_of slots text = script_from slots (lines_of text) 1 []

-- why a text is refused, unless memory ran out
abbrev pub RefusedFor : Result (List ScriptLine) (ℕ × Cause) → ScriptRefused → Type 0
RefusedFor read (refused.Line line cause) = read ≡ Err (line, cause)
RefusedFor read refused.NoMemory = Unit {0}
