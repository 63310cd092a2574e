-- The parts that a step holds, each with its slot.
use Rattle.std.specs.Prelude.{ℕ, List}
use Rattle.step_table.specs.Helds.{slots_of, parts_of}
use Rattle.model.specs.Parts.{Parts}
use Rattle.machine_laws.specs.Views.{PartView}
use Rattle.machine_laws.specs.Laid.{lay}
use Rattle.cluster_core.specs.declared.room.PartRoom.{PartRoom}

abbrev pub Part : Type 0
Part = PartView PartRoom

abbrev pub Holding : Type 0
Holding = List (ℕ × Part)

-- them in their slots, and empty parts in the others
abbrev pub laid : Holding → Parts
laid held = lay (slots_of held) (parts_of held)
