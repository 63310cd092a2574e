use Rattle.std.proofs.Common.{◌≡◌, ◌++◌, map}
use Rattle.std.specs.Vec.Iter.{into_iter_items}
use Rattle.model_runs.specs.Courses.{cell_by_id}
use Rattle.script_courses.proofs.placed.cells_by_id.Given as goal

abbrev pub invariant-loop-cell : goal.invariant-loop-cell
invariant-loop-cell l =
    (goal.iterator-loop-cell).can_next l.cell-iterator ×
    (goal.iterator-loop-cell).is_finite l.cell-iterator ×
    (l.placed ++ map (cell_by_id l.columns) (into_iter_items l.cell-iterator) ≡ map (cell_by_id l.columns) l.fn.cells)
