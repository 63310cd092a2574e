use Rattle.std.proofs.Common.{◌≡◌, ◌-◌, ◌++◌}
use Rattle.step_counters.specs.Adds.{slots_from}
use Rattle.step_counters.proofs.machine.CountersMachine.touches.Given as goal

abbrev pub invariant-loop-slot : goal.invariant-loop-slot
invariant-loop-slot l = l.slots ++ slots_from l.slot (l.count - l.slot) ≡ slots_from 0 l.count
