-- Places with parts, some of them out.
use Rattle.std.specs.Prelude.{ℕ, ◌≡◌, List, [], ◌∷◌, Option, Some, None, slice_set, map, ◌++◌}
use Rattle.step_table.specs.Lists.{Every, Rising, pick}
use Rattle.step_table.specs.Helds.{slots_of, parts_of}
use mathlib.Core.Option.{some}
use lib.ListN.{get_elem?}

-- the parts that are in their places
abbrev pub found : {P : Type 0} → List (Option P) → List P
found [] = []
found (None ∷ places) = found places
found (Some p ∷ places) = p ∷ found places

-- the places of these slots, emptied
abbrev pub without : {P : Type 0} → List ℕ → List (Option P) → List (Option P)
without [] places = places
without (k ∷ ks) places = without ks (slice_set places k None)

-- a part is in the place of the slot
abbrev pub IsThere : {P : Type 0} → List (Option P) → ℕ → Type 0
IsThere {P} places k = (p : P) × (get_elem? places k ≡ some (Some p))

-- what the parts in their places mean
abbrev pub means : {P : Type 0} → (P → P) → List (Option P) → List P
means meaning places = map meaning (found places)

-- some of the slots' parts are held, and the others are still in their places
pub record Taking {P : Type 0} (slots : List ℕ) (before places : List (Option P)) (held : List (ℕ × P)) (rest : List ℕ)
    : Type 0 where
  pub there : Every (IsThere places) rest
  pub rising : Rising rest
  pub out : without rest places ≡ without slots before
  pub taken : slots_of held ++ rest ≡ slots
  pub moved : map Some (parts_of held) ++ pick rest places ≡ pick slots before
