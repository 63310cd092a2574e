use Rattle.std.proofs.Common.{◌≡◌, ◌+◌, ◌-◌, ◌++◌}
use Rattle.std.specs.List.{filter}
use Rattle.model.specs.Looks.{free_slots, is_free, counting}
use Rattle.master_part.proofs.part.MasterPart.free_slots.Given as goal

abbrev pub invariant-loop-index : goal.invariant-loop-index
invariant-loop-index l =
    l.free ++ filter (is_free l.self.master) (counting (l.slots - l.index) (l.index + 1)) ≡ free_slots l.self.master
