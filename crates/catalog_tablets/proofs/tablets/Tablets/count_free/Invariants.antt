use Rattle.std.proofs.Common.{◌≡◌, ◌+◌, ◌-◌, ◌≤◌, length}
use Rattle.catalog_tablets.specs.Slots.{free_from}
use Rattle.catalog_tablets.proofs.tablets.Tablets.count_free.Given as goal

abbrev pub invariant-loop-before : goal.invariant-loop-before
invariant-loop-before l = record {
  count : l.count + length (free_from l.self.activity l.reserved (l.slots - l.before) (l.before + 1)) ≡ length (free_from l.self.activity l.reserved l.slots 1);
  within : l.count ≤ l.before;
}
