use Rattle.std.proofs.Common.{◌≡◌}
use Rattle.master_part.specs.Free.{free_above}
use Rattle.master_part.proofs.part.MasterPart.first_free.Given as goal

abbrev pub invariant-loop-index : goal.invariant-loop-index
invariant-loop-index l = free_above l.self.master l.index ≡ free_above l.self.master l.after
