use Rattle.std.proofs.Common.{◌≡◌, ◌≤◌, take, length}
use Rattle.std.specs.Prelude.{vec_capacity}
use mathlib.Core.List.{IsPrefix}
use Rattle.step_table.specs.Helds.{slots_of}
use Rattle.step_table.specs.Seats.{IsAlike, IsOut}
use Rattle.step_table.proofs.parts.take_all.Given as goal

abbrev pub invariant-loop-slot : goal.invariant-loop-slot
invariant-loop-slot g l = record {
  table : l.seat.table_id ≡ l.fn.seat.table_id;
  id : l.seat.id ≡ l.fn.seat.id;
  alike : IsAlike l.fn.seat.me.0 l.seat.me.0;
  findings : IsPrefix l.fn.seat.me.0.findings l.seat.me.0.findings;
  out : IsOut g.M.Machine.core g.N.Announced.event l.seat.me l.held.items;
  slots : slots_of l.held.items ≡ take l.slot-index l.slots;
  count : length l.held.items ≡ l.slot-index;
  room : length l.slots ≤ vec_capacity l.held;
}
