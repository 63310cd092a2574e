-- What the removal of a tablet comes to in the slot of its plan, by what the part there says of itself.
use Rattle.std.specs.Prelude.{ℕ, ◌∷◌, [], Option, Some, None, if◌then◌else◌}
use Rattle.row_values.specs.Ids.{Id, same}
use Rattle.model.specs.Activity.{Interval}
use Rattle.model.specs.Tablets.{Standing, Empty, Serving, Hidden, Clear}
use Rattle.model.specs.Acts.{Moved, Removed}
use Rattle.model.specs.Parts.{Master, Outcome, Removes, Fault, judged, refused}
use Rattle.model.specs.Cleanup.{removable_tablet, floor_of_table, lister_of_tablet}

-- since when the part has the tablet hidden
abbrev pub hidden_since : Id → Standing → Option ℕ
hidden_since target Empty = None
hidden_since target (Serving tablet low high) = None
hidden_since target (Hidden tablet ended) = if same tablet target then Some ended else None

abbrev pub clearing : ℕ → Id → Outcome
clearing slot target =
    record { master = Removes target; tablets = record { slot = slot; act = Clear } ∷ []; reply = Removed }

abbrev pub removing_since : Option ℕ → Interval → Id → Standing → ℕ → Master → Outcome
removing_since None i target seen n m = refused (Moved i.slot seen)
removing_since (Some ended) i target seen n m =
    judged
    (Fault (removable_tablet ended (floor_of_table m i.table n) (lister_of_tablet m target)) ∷ [])
    (clearing i.slot target)

abbrev pub removing_planned : Interval → Id → Standing → ℕ → Master → Outcome
removing_planned i target seen n m = removing_since (hidden_since target seen) i target seen n m
