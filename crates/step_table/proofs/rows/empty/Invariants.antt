use Rattle.std.proofs.Common.{◌≡◌, ◌+◌, ◌≤◌, ◌++◌, List, map, length, Some}
use Rattle.std.specs.Prelude.{vec_capacity}
use Rattle.std.specs.Vec.Iter.{into_iter_items}
use Rattle.step_table.proofs.rows.empty.Given as goal

abbrev pub invariant-loop-slot : goal.invariant-loop-slot
invariant-loop-slot g l =
    (goal.iterator-loop-slot g).can_next l.slot-iterator ×
    (goal.iterator-loop-slot g).is_finite l.slot-iterator ×
    ((left : List g.row.P.Denot) × (into_iter_items l.slot-iterator ≡ map (λ (p : g.row.P.Denot). Some p) left)) ×
    (map (λ (p : g.row.P.Denot). Some p) l.room.items ++ into_iter_items l.slot-iterator ≡ l.fn.slots.items) ×
    (length l.room.items + length (into_iter_items l.slot-iterator) ≤ vec_capacity l.room)
