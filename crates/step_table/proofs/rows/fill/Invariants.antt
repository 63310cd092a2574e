use Rattle.std.proofs.Common.{◌≡◌, ◌≤◌, ◌++◌, List, map, length, replicate, Some, None}
use Rattle.std.specs.Prelude.{vec_capacity}
use Rattle.step_table.proofs.rows.fill.Given as goal

abbrev pub invariant-loop-part : goal.invariant-loop-part
invariant-loop-part g l = record {
  slots : (done : List g.row.P.Denot) × (l.fn.parts.items ≡ l.parts.items ++ done) × (l.slots.items ≡ replicate (length l.parts.items) None ++ map (λ (p : g.row.P.Denot). Some p) done);
  room : vec_capacity l.fn.parts ≤ vec_capacity l.parts;
}

abbrev pub decreases-loop-part : goal.decreases-loop-part
decreases-loop-part g l = length l.parts.items
