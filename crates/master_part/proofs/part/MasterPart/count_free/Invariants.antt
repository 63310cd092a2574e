use Rattle.std.proofs.Common.{◌≡◌, ◌+◌, ◌-◌, ◌≤◌, length}
use Rattle.std.specs.List.{filter}
use Rattle.model.specs.Looks.{free_slots, is_free, counting}
use Rattle.master_part.proofs.part.MasterPart.count_free.Given as goal

abbrev pub invariant-loop-index : goal.invariant-loop-index
invariant-loop-index l = record {
  count : l.count + length (filter (is_free l.self.master) (counting (l.slots - l.index) (l.index + 1)))
      ≡ length (free_slots l.self.master);
  within : l.count ≤ l.index;
}
