use Rattle.std.proofs.Common.{◌≡◌, ◌≤◌, drop, length}
use Rattle.model.specs.Lists.{once}
use Rattle.master_part.proofs.within.once.Given as goal

abbrev pub invariant-intervals : goal.invariant-intervals
invariant-intervals l = record {
  found : l.found.items ≡ once (drop l.upto l.intervals);
  within : l.upto ≤ length l.intervals;
}

abbrev pub decreases-intervals : goal.decreases-intervals
decreases-intervals l = l.upto
