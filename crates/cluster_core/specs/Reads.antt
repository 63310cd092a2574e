-- What a read of rows finds at its places.
use Rattle.std.specs.Prelude.{ℕ, ◌≡◌, ◌≤◌, ◌<◌, Bool, true, List, [], ◌∷◌, Option, Some, None, option_map}
use Rattle.row_values.specs.declared.rows.KeyedRow.{KeyedRow}
use Rattle.row_values.specs.Elements.{put_in}
use Rattle.row_values.specs.Slots.{has}
use Rattle.row_values.specs.Store.{precedes}
use Rattle.model.specs.Times.{time_of, is_future}
use Rattle.model.specs.Tablets.{Tablet}
use Rattle.model.specs.Acts.{At, Fenced, StaleSchema, Future, TooOld}
use Rattle.model.specs.Parts.{Check, If, Names, Fault}
use Rattle.model.specs.RowActs.{first_moved, first_fence, stale, first_cutoff}
use Rattle.cluster_core.specs.Held.{Holding, laid}

-- the tablets of held parts in their slots
abbrev pub tablets_in : Holding → ℕ → Tablet
tablets_in held = (laid held).tablet

-- a place is a tablet's, and its part is held
abbrev pub IsHeld : List ℕ → At → Type 0
IsHeld ks place = (1 ≤ place.slot) × (has ks place.slot ≡ true)

-- a tablet's rows can be had at the asked time, or at the stamp
abbrev pub MayRead : Option ℕ → ℕ → Tablet → Type 0
MayRead None n t = t.clock < n
MayRead (Some x) n t = t.cutoff ≤ x

-- the refusals of a read
abbrev pub read_checks : List At → ℕ → Option (List ℕ) → Option ℕ → ℕ → (ℕ → Tablet) → List Check
read_checks places version key at n tablet =
    Fault (first_moved key places tablet)
    ∷ Names (first_fence places tablet) Fenced
    ∷ Fault (option_map StaleSchema (stale at places version tablet))
    ∷ If (is_future at n) (Future n)
    ∷ Fault (option_map (TooOld (time_of at n)) (first_cutoff places at tablet))
    ∷ []

abbrev pub comes_before : KeyedRow → KeyedRow → Bool
comes_before r s = precedes r.key s.key

-- rows with more put in, each in front of all that don't come before it, the last first
abbrev pub put_all : List KeyedRow → List KeyedRow → List KeyedRow
put_all [] rows = rows
put_all (r ∷ more) rows = put_in comes_before r (put_all more rows)
