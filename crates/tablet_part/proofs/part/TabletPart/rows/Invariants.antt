use Rattle.std.proofs.Common.{◌≡◌, ◌++◌}
use Rattle.std.specs.List.{filter}
use Rattle.std.specs.Vec.Iter.{into_iter_items}
use Rattle.row_values.specs.declared.rows.KeyedRow.{KeyedRow}
use Rattle.model.specs.RowActs.{covers}
use Rattle.tablet_part.proofs.part.TabletPart.rows.Given as goal

abbrev pub invariant-loop-row : goal.invariant-loop-row
invariant-loop-row g l =
    (goal.iterator-loop-row g).can_next l.row-iterator ×
    (goal.iterator-loop-row g).is_finite l.row-iterator ×
    (l.inside ++ filter (λ (r : KeyedRow). covers l.self.tablet r.key) (into_iter_items l.row-iterator) ≡ filter (λ (r : KeyedRow). covers l.self.tablet r.key) (into_iter_items l.initial.row-iterator))
