use Rattle.std.proofs.Common.{◌≡◌, ◌++◌}
use Rattle.std.specs.Vec.Iter.{into_iter_items}
use Rattle.row_values.specs.Store.{of_rows}
use Rattle.versions.proofs.copies.upserts.Given as goal

abbrev pub invariant-loop-keyed : goal.invariant-loop-keyed
invariant-loop-keyed l =
    (goal.iterator-loop-keyed).can_next l.keyed-iterator ×
    (goal.iterator-loop-keyed).is_finite l.keyed-iterator ×
    (l.versions.items ++ of_rows (into_iter_items l.keyed-iterator) l.stamp ≡ of_rows (into_iter_items l.initial.keyed-iterator) l.stamp)
