-- The parts that a call holds, each with its slot.
use Rattle.std.specs.Prelude.{ℕ, zero, suc, List, [], ◌∷◌, map}
use Rattle.step_table.specs.Lists.{fst, snd}

module _ {P : Type 0} where
  abbrev pub slots_of : List (ℕ × P) → List ℕ
  slots_of held = map fst held

  abbrev pub parts_of : List (ℕ × P) → List P
  parts_of held = map snd held

  -- another part in the place i; the slots stay
  abbrev pub with_part : List (ℕ × P) → ℕ → P → List (ℕ × P)
  with_part [] i part = []
  with_part (x ∷ xs) zero part = (x.0, part) ∷ xs
  with_part (x ∷ xs) (suc i) part = x ∷ with_part xs i part
