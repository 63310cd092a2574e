-- Which slot has the tablet that is to be removed, and what its part says of itself.
use Rattle.std.specs.Prelude.{ℕ, ◌≡◌, ◌∷◌, [], false, List, Option, Some, None}
use Rattle.std.specs.Option.{option_map}
use Rattle.row_values.specs.Ids.{Id, Kind, Namespace, Table, Tablet, Schedule, Snapshot, Restoration, Clone}
use Rattle.row_values.specs.Slots.{same_slots}
use Rattle.model.specs.Activity.{last_of}
use Rattle.model.specs.Tablets as book
use Rattle.model.specs.Tablets.{standing}
use Rattle.model.specs.Parts.{Master}
use Rattle.tablet_inbox.specs.Seen.{standing_seen}
use Rattle.tablet_inbox.specs.declared.standing.Standing.{Standing}

abbrev pub slot_by : Kind → Master → Id → Option ℕ
slot_by Namespace m target = None
slot_by Table m target = None
slot_by Tablet m target = option_map (λ i. i.slot) (last_of m.activity target)
slot_by Schedule m target = None
slot_by Snapshot m target = None
slot_by Restoration m target = None
slot_by Clone m target = None

-- the slot of a tablet that is to be removed
abbrev pub slot_of_removal : Master → Id → Option ℕ
slot_of_removal m target = slot_by target.kind m target

-- what the part in that slot says of itself; nothing is seen where the slot isn't the removal's
abbrev pub IsSeen : Option Standing → Option ℕ → List ℕ → (ℕ → book.Tablet) → Type 0
IsSeen seen None slots parts = Unit {0}
IsSeen None (Some slot) slots parts = same_slots slots (slot ∷ []) ≡ false
IsSeen (Some seen) (Some slot) slots parts = standing_seen seen ≡ standing (parts slot)
