use Rattle.std.proofs.Common.{◌≡◌, drop}
use Rattle.step_table.specs.Helds.{slots_of}
use Rattle.row_values.specs.Slots.{has}
use Rattle.cluster_core.proofs.held.is_held.Given as goal

abbrev pub invariant-loop-i : goal.invariant-loop-i
invariant-loop-i g l = has (drop l.i (slots_of l.held)) l.slot ≡ has (slots_of l.held) l.slot
