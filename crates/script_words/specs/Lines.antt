-- The lines of a text. Each ends with a line feed (10), which the last may lack. A carriage return
-- (13) just before a line feed is dropped.
use Rattle.std.specs.Prelude.{ℕ, Bool, false, ◌==◌, ◌&&◌, if◌then◌else◌, List, [], ◌∷◌}
use Rattle.std.specs.List.{list_any}

abbrev pub begins_with : ℕ → List ℕ → Bool
begins_with b [] = false
begins_with b (c ∷ cs) = c == b

-- the lines with this byte before the first of them
abbrev pub onto : ℕ → List (List ℕ) → List (List ℕ)
onto b [] = (b ∷ []) ∷ []
onto b (line ∷ lines) = (b ∷ line) ∷ lines

abbrev pub lines_of : List ℕ → List (List ℕ)
lines_of [] = []
lines_of (b ∷ bs) =
    if b == 10 then [] ∷ lines_of bs
    else if b == 13 && begins_with 10 bs then lines_of bs
    else onto b (lines_of bs)

-- a line that a line feed ends, without a carriage return at its end
abbrev pub chop : List ℕ → List ℕ
chop [] = []
chop (b ∷ []) = if b == 13 then [] else b ∷ []
chop (b ∷ c ∷ cs) = b ∷ chop (c ∷ cs)

-- whether a line feed is among the bytes
abbrev pub has_feed : List ℕ → Bool
has_feed bytes = list_any (λ b. b == 10) bytes
