use Rattle.std.proofs.Common.{◌≡◌, ◌++◌}
use Rattle.std.specs.Vec.Iter.{into_iter_items}
use Rattle.master_cleanup.proofs.removals.append.Given as goal

abbrev pub invariant-loop-removal : goal.invariant-loop-removal
invariant-loop-removal l =
    (goal.iterator-loop-removal).can_next l.removal-iterator ×
    (goal.iterator-loop-removal).is_finite l.removal-iterator ×
    (l.removals ++ into_iter_items l.removal-iterator ≡ l.fn.removals ++ l.fn.others)
