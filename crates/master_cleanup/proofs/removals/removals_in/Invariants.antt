use Rattle.std.proofs.Common.{◌≡◌, ◌++◌, drop}
use Rattle.model.specs.Cleanup.{removals_in}
use Rattle.master_cleanup.proofs.removals.removals_in.Given as goal

abbrev pub invariant-loop-slot : goal.invariant-loop-slot
invariant-loop-slot l =
    l.removals ++ removals_in (drop l.slot-index l.slots) l.master.master l.stamp ≡ removals_in l.slots l.master.master l.stamp
