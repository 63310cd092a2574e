-- The words that are left, and the bytes of a word.
use Rattle.std.specs.Prelude.{ℕ, ◌==◌, if◌then◌else◌, List, [], ◌∷◌, Option, Some, None, Result, Ok, Err}
use Rattle.script_words.specs.declared.cause.Cause.{Cause}
use Rattle.script_words.specs.declared.cause.Cause.TheVariants.{WrongWords}

abbrev pub Word : Type 0
Word = List ℕ

-- the next word and those behind it
abbrev pub next_of : List Word → Result (Word × List Word) Cause
next_of [] = Err WrongWords
next_of (w ∷ ws) = Ok (w, ws)

-- what stands before the first such byte, and what stands behind it
abbrev pub before : ℕ → List ℕ → List ℕ
before b [] = []
before b (c ∷ cs) = if c == b then [] else c ∷ before b cs

abbrev pub behind : ℕ → List ℕ → List ℕ
behind b [] = []
behind b (c ∷ cs) = if c == b then cs else behind b cs

-- what is there, or else this cause
abbrev pub wanted : {A : Type 0} → Cause → Option A → Result A Cause
wanted cause None = Err cause
wanted cause (Some x) = Ok x
