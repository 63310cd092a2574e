-- The parts of the empty cluster.
use Rattle.std.specs.Prelude.{ℕ, List, [], ◌∷◌, replicate}
use Rattle.model.specs.Tablets.{emptied}
use Rattle.model.specs.Parts.{empty_master}
use Rattle.machine_laws.specs.Views.{PartView, OfMaster, OfTablet}
use Rattle.cluster_core.specs.declared.room.PartRoom.{PartRoom}
use Rattle.cluster_core.specs.Tellings.{no_room}

abbrev pub vacant_part : PartView PartRoom
vacant_part = record { kept = OfTablet (emptied 0); log = []; room = no_room }

-- the master's part, and those of so many slots
abbrev pub parts_up_to : ℕ → ℕ → List (PartView PartRoom)
parts_up_to slots n =
    record { kept = OfMaster (empty_master slots); log = []; room = no_room } ∷ replicate n vacant_part

abbrev pub first_parts : ℕ → List (PartView PartRoom)
first_parts slots = parts_up_to slots slots
