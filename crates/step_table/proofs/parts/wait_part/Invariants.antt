use Rattle.std.proofs.Common.{◌≡◌}
use Rattle.step_table.specs.Seats.{IsStill}
use Rattle.step_table.proofs.parts.wait_part.Given as goal

abbrev pub invariant-loop : goal.invariant-loop
invariant-loop g l = record {
  table : l.seat.table_id ≡ l.fn.seat.table_id;
  id : l.seat.id ≡ l.fn.seat.id;
  still : IsStill l.fn.seat.me l.seat.me;
}
