-- How often each slot is used.
use Rattle.std.specs.Prelude.{ℕ, ◌≡◌, ◌+◌, ◌-◌, ◌==◌, ◌||◌, not, map, filter, Bool, List, [], ◌∷◌, if◌then◌else◌, Some, slice_get, slice_set, slice_index_or, nat_lt}
use Rattle.model.specs.Activity.{Interval}
use Rattle.model.specs.Records.{CloneRecord}
use Rattle.row_values.specs.Slots.{has}
use Rattle.model.specs.Looks.{is_reserved, counting}
use Rattle.catalog_tablets.specs.View.{slot_of}

-- the count of a slot; 0 of one that isn't counted
abbrev pub count_of : List ℕ → ℕ → ℕ
count_of counts slot = slice_index_or counts slot 0

abbrev pub raised : ℕ → List ℕ → List ℕ
raised slot counts = slice_set counts slot (count_of counts slot + 1)

abbrev pub lowered : ℕ → List ℕ → List ℕ
lowered slot counts = slice_set counts slot (count_of counts slot - 1)

-- each slot that is counted has this number
abbrev pub Counts : List ℕ → (ℕ → ℕ) → Type 0
Counts counts number = (slot n : ℕ) → slice_get counts slot ≡ Some n → n ≡ number slot

-- how many intervals are in a slot
abbrev pub number_in : List Interval → ℕ → ℕ
number_in [] slot = 0
number_in (i ∷ is) slot = (if i.slot == slot then 1 else 0) + number_in is slot

-- counts of the slots that unfinished clones have reserved
abbrev pub Reserves : List ℕ → List CloneRecord → Type 0
Reserves counts clones = (slot : ℕ) → nat_lt 0 (count_of counts slot) ≡ is_reserved clones slot

-- whether no interval has the slot, and it isn't reserved
abbrev pub is_free : List Interval → List ℕ → ℕ → Bool
is_free activity reserved slot = not (has (map slot_of activity) slot || nat_lt 0 (count_of reserved slot))

-- the free ones of so many slots, from one on
abbrev pub free_from : List Interval → List ℕ → ℕ → ℕ → List ℕ
free_from activity reserved slots from = filter (is_free activity reserved) (counting slots from)

-- the used ones of so many slots, from one on
abbrev pub used_from : List Interval → ℕ → ℕ → List ℕ
used_from activity slots from = filter (has (map slot_of activity)) (counting slots from)
