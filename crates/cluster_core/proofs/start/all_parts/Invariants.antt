use Rattle.std.proofs.Common.{◌≡◌, map}
use Rattle.cluster_core.specs.Tellings.{meaning}
use Rattle.cluster_core.specs.Starts.{parts_up_to}
use Rattle.cluster_core.proofs.start.all_parts.Given as goal

abbrev pub invariant-loop : goal.invariant-loop
invariant-loop g l = map meaning l.parts.items ≡ parts_up_to l.slots l.counter
