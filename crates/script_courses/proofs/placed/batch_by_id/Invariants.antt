use Rattle.std.proofs.Common.{◌≡◌, ◌++◌, map}
use Rattle.std.specs.Vec.Iter.{into_iter_items}
use Rattle.model_runs.specs.Courses.{item_by_id}
use Rattle.script_courses.proofs.placed.batch_by_id.Given as goal

abbrev pub invariant-loop-item : goal.invariant-loop-item
invariant-loop-item l =
    (goal.iterator-loop-item).can_next l.item-iterator ×
    (goal.iterator-loop-item).is_finite l.item-iterator ×
    (l.placed ++ map (item_by_id l.columns) (into_iter_items l.item-iterator) ≡ map (item_by_id l.columns) l.fn.batch)
