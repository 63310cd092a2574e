use Rattle.std.proofs.Common.{◌≡◌, ◌≤◌, drop, map, length}
use Rattle.row_values.specs.Slots.{rising}
use Rattle.model.specs.Activity.{Interval}
use Rattle.master_acts.proofs.plans.slots_of.Given as goal

abbrev pub invariant-slots : goal.invariant-slots
invariant-slots l = record {
  found : l.found ≡ rising (map {A = Interval} (λ i. i.slot) (drop l.upto l.active));
  within : l.upto ≤ length l.active;
}

abbrev pub decreases-slots : goal.decreases-slots
decreases-slots l = l.upto
