use Rattle.std.proofs.Common.{◌≡◌, ◌+◌, ◌-◌, ◌++◌}
use Rattle.catalog_tablets.specs.Slots.{used_from}
use Rattle.catalog_tablets.proofs.tablets.Tablets.used_slots.Given as goal

abbrev pub invariant-loop-before : goal.invariant-loop-before
invariant-loop-before l =
    l.found ++ used_from l.self.activity (l.slots - l.before) (l.before + 1) ≡ used_from l.self.activity l.slots 1
