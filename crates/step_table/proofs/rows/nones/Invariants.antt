use Rattle.std.proofs.Common.{◌≡◌, ◌≤◌, replicate, None}
use Rattle.std.specs.Prelude.{vec_capacity}
use Rattle.step_table.proofs.rows.nones.Given as goal

abbrev pub invariant-loop-i : goal.invariant-loop-i
invariant-loop-i g l = record {
  slots : l.slots.items ≡ replicate l._i None;
  room : l.count ≤ vec_capacity l.slots;
}
