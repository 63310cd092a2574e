-- The grammar of a script in its own words: which lines are lines of which command, which texts are
-- scripts, and for which cause a line is none.
use Rattle.std.specs.Prelude.{◌≡◌, ℕ, ◌+◌, ◌<◌, ◌≤◌, Bool, true, false, ◌==◌, ◌&&◌, ◌||◌, List, [], ◌∷◌, ◌++◌, length, Option, Some, None, ◌⊎◌}
use Rattle.std.specs.List.{AllByRecursion}
use Rattle.script_words.specs.declared.cause.Cause.{Cause}
use Rattle.script_words.specs.declared.cause.Cause.TheVariants.{LineTooLong, BadByte, OpenQuote}
use Rattle.script_words.specs.Lines.{begins_with, lines_of}
use Rattle.script_words.specs.Words.{is_printed, is_plain, is_comment, is_open}
use Rattle.script_words.specs.Layout.{IsLaidOut}
use Rattle.script_places.specs.Words.{Word}
use Rattle.script_places.specs.Grammar.{SpelledIn, RefusedIn}
use Rattle.model.specs.Scripts.{ScriptCommand}
use Rattle.script_lang.specs.declared.script.ScriptLine.{ScriptLine}
use Rattle.script_lang.specs.declared.script.ScriptRefused.{ScriptRefused}
use Rattle.script_lang.specs.declared.script.ScriptRefused.TheVariants as refused
use Rattle.script_lang.specs.Table.{table}
use Rattle.script_lang.specs.Script.{numbered}

-- At most 4096 bytes, each from 0x20 to 0x7e.
abbrev pub IsPlainLine : List ℕ → Type 0
IsPlainLine line = (length line ≤ 4096) × (is_plain line ≡ true)

-- The line is in the grammar. It is a comment or blank and does nothing, or its words, with spaces
-- between them, spell the command.
abbrev pub IsLine : ℕ → List ℕ → Option ScriptCommand → Type 0
IsLine slots line None = IsPlainLine line × ((is_comment line ≡ true) ⊎ IsLaidOut [] line)
IsLine slots line (Some command) =
    IsPlainLine line × (is_comment line ≡ false)
    × ((w : Word) × (ws : List Word) × IsLaidOut (w ∷ ws) line × SpelledIn slots table command w ws)

-- The line is not in the grammar, and this is its first cause. The causes stand in their order, and
-- each but the first is looked for where none before it holds.
abbrev pub LineRefused : ℕ → List ℕ → Cause → Type 0
LineRefused slots line cause =
    ((4096 < length line) × (cause ≡ LineTooLong))
    ⊎ (((length line ≤ 4096) × (is_plain line ≡ false) × (cause ≡ BadByte))
    ⊎ ((IsPlainLine line × (is_comment line ≡ false) × (is_open false line ≡ true) × (cause ≡ OpenQuote))
    ⊎ (IsPlainLine line × (is_comment line ≡ false)
    × ((w : Word) × (ws : List Word) × IsLaidOut (w ∷ ws) line × RefusedIn slots table cause w ws))))

-- Each of these lines, of which the first is line n, is in the grammar, and these are their commands.
abbrev pub AreLines : ℕ → List (List ℕ) → ℕ → List ScriptLine → Type 0
AreLines slots [] n found = found ≡ []
AreLines slots (line ∷ lines) n found =
    (IsLine slots line None × AreLines slots lines (n + 1) found)
    ⊎ ((command : ScriptCommand) × (others : List ScriptLine) × IsLine slots line (Some command)
    × (found ≡ numbered n command ∷ others) × AreLines slots lines (n + 1) others)

-- The text is a script, and these are its commands. Lines are counted from 1.
abbrev pub IsScript : ℕ → List ℕ → List ScriptLine → Type 0
IsScript slots text found = AreLines slots (lines_of text) 1 found

abbrev pub IsAnyLine : ℕ → List ℕ → Type 0
IsAnyLine slots line = (found : Option ScriptCommand) × IsLine slots line found

-- Of these lines, of which the first is line n, line m is the first that is not in the grammar.
pub record IsFirstRefused (slots : ℕ) (lines : List (List ℕ)) (n m : ℕ) (cause : Cause) : Type 0 where
  pub before : List (List ℕ)
  pub line : List ℕ
  pub behind : List (List ℕ)
  pub whole : lines ≡ before ++ (line ∷ behind)
  pub place : n + length before ≡ m
  pub read : AllByRecursion (IsAnyLine slots) before
  pub refused : LineRefused slots line cause

-- The text is no script, since this line is its first that is not in the grammar, for this cause.
abbrev pub IsRefusedAt : ℕ → List ℕ → ℕ → Cause → Type 0
IsRefusedAt slots text line cause = IsFirstRefused slots (lines_of text) 1 line cause

abbrev pub IsRefusedFor : ℕ → List ℕ → ScriptRefused → Type 0
IsRefusedFor slots text (refused.Line line cause) = IsRefusedAt slots text line cause
IsRefusedFor slots text refused.NoMemory = Unit {0}

-- whether each byte is a printed one, a line feed, or a carriage return just before a line feed
abbrev pub is_text : List ℕ → Bool
is_text [] = true
is_text (b ∷ bs) = (is_printed b || b == 10 || (b == 13 && begins_with 10 bs)) && is_text bs
