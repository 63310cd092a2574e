-- Which lists name one slot alone.
use Rattle.std.specs.Prelude.{ℕ, Bool, true, ◌==◌, ◌&&◌, List, [], ◌∷◌, Option, Some, None, if◌then◌else◌}

-- whether all are this one
abbrev pub are_all : ℕ → List ℕ → Bool
are_all slot [] = true
are_all slot (other ∷ others) = (other == slot) && are_all slot others

abbrev pub lone_among : ℕ → List ℕ → Option ℕ
lone_among slot others = if are_all slot others then Some slot else None

-- the one slot that is named, as often as may be
abbrev pub lone_in : List ℕ → Option ℕ
lone_in [] = None
lone_in (slot ∷ others) = lone_among slot others

-- the one item of a list that has one
abbrev pub only : List ℕ → Option ℕ
only [] = None
only (slot ∷ []) = Some slot
only (slot ∷ other ∷ others) = None
