-- Entries in the places of their numbers.
use Rattle.std.specs.Prelude.{ℕ, ◌-◌, ◌==◌, List, [], ◌∷◌, Option, Some, None, slice_set}
use Rattle.std.specs.List.{find}
use Rattle.std.specs.Option.{option_or}
use Rattle.step_table.specs.declared.known.Entry.{Entry}
use Rattle.step_table.specs.Machines.{Core}

-- the places, with each entry of a log in that of its number, counted from 1
abbrev pub placed : {E R : Type 0} → List (Entry E R) → List (Option (Entry E R)) → List (Option (Entry E R))
placed [] places = places
placed (e ∷ log) places = placed log (slice_set places (e.number - 1) (Some e))

module _ {P E D R F : Type 0} (c : Core P E D R F) where
  -- with those of all logs
  abbrev pub all_placed : List P → List (Option (Entry E R)) → List (Option (Entry E R))
  all_placed [] places = places
  all_placed (p ∷ ps) places = all_placed ps (placed (c.log p) places)

  -- the first entry with this number in any log
  abbrev pub in_logs : ℕ → List P → Option (Entry E R)
  in_logs n [] = None
  in_logs n (p ∷ ps) = option_or (find (λ e. e.number == n) (c.log p)) (in_logs n ps)
