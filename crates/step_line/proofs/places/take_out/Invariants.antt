use Rattle.std.proofs.Common.{◌≤◌, ◌+◌, length, drop}
use Rattle.std.specs.Prelude.{vec_capacity, vec_len}
use Rattle.step_line.specs.Places.{Taking}
use Rattle.step_line.proofs.places.take_out.Given as goal

abbrev pub invariant-loop-slot : goal.invariant-loop-slot
invariant-loop-slot g l = record {
  taking : Taking l.slots l.fn.places.items l.places.items l.held.items (drop l.slot-index l.slots);
  room : vec_len l.held + length (drop l.slot-index l.slots) ≤ vec_capacity l.held;
}
