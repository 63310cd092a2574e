use Rattle.std.proofs.Common.{◌≡◌, ◌+◌, ◌-◌, ◌++◌}
use Rattle.catalog_tablets.specs.Slots.{free_from}
use Rattle.catalog_tablets.proofs.tablets.Tablets.free_slots.Given as goal

abbrev pub invariant-loop-before : goal.invariant-loop-before
invariant-loop-before l =
    l.found ++ free_from l.self.activity l.reserved (l.slots - l.before) (l.before + 1) ≡ free_from l.self.activity l.reserved l.slots 1
