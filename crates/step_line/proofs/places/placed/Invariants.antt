use Rattle.std.proofs.Common.{◌≡◌, ◌++◌, map, Some}
use Rattle.std.specs.Vec.Iter.{into_iter_items}
use Rattle.step_line.proofs.places.placed.Given as goal

abbrev pub invariant-loop-part : goal.invariant-loop-part
invariant-loop-part g l =
    (goal.iterator-loop-part g).can_next l.part-iterator ×
    (goal.iterator-loop-part g).is_finite l.part-iterator ×
    (l.places.items ++ map Some (into_iter_items l.part-iterator) ≡ map Some l.fn.parts)
