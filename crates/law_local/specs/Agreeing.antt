-- Parts that agree on slots.
use Rattle.std.specs.Prelude.{◌≡◌, ℕ, true, List}
use Rattle.row_values.specs.Slots.{has}
use Rattle.model.specs.Parts.{Parts}

-- the parts of these slots are equal; 0 is the master's, and the others are tablets'
pub record Agree (slots : List ℕ) (p q : Parts) : Type 0 where
  pub master : has slots 0 ≡ true → p.master ≡ q.master
  pub tablets : (slot : ℕ) → has slots slot ≡ true → p.tablet slot ≡ q.tablet slot
