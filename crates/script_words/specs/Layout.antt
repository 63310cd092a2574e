-- The lines in which words stand.
use Rattle.std.specs.Prelude.{◌≡◌, ℕ, ◌<◌, Bool, true, false, not, ◌==◌, ◌&&◌, List, [], ◌∷◌, ◌++◌, length}
use Rattle.std.specs.List.{list_all}
use Rattle.script_words.specs.Words.{after}

-- Each byte is a space.
abbrev pub is_blank : List ℕ → Bool
is_blank bytes = list_all (λ b. b == 32) bytes

-- Each space stands within quotes, and each quoted run is ended.
abbrev pub is_closed : Bool → List ℕ → Bool
is_closed quoted [] = not quoted
is_closed quoted (b ∷ bs) = not (b == 32 && not quoted) && is_closed (after b quoted) bs

-- a word: at least one byte, each space within quotes, each quoted run ended
abbrev pub IsWord : List ℕ → Type 0
IsWord w = (0 < length w) × (is_closed false w ≡ true)

-- whether a word may end before this: there is nothing more, or a space
abbrev pub ends_word : List ℕ → Bool
ends_word [] = true
ends_word (b ∷ bs) = b == 32

-- The line has these words: spaces stand between them, and may stand before the first and behind the
-- last.
abbrev pub IsLaidOut : List (List ℕ) → List ℕ → Type 0
IsLaidOut [] line = is_blank line ≡ true
IsLaidOut (w ∷ ws) line =
    (spaces : List ℕ) × (rest : List ℕ) × (line ≡ spaces ++ (w ++ rest)) × (is_blank spaces ≡ true) × IsWord w × (ends_word rest ≡ true) × IsLaidOut ws rest
