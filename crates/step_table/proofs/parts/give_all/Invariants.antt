use Rattle.std.proofs.Common.{◌≡◌, ◌<◌, length}
use Rattle.step_table.specs.Lists.{Every}
use Rattle.step_table.specs.Helds.{slots_of}
use Rattle.step_table.specs.Seats.{IsBack, HasOut}
use Rattle.step_table.proofs.parts.give_all.Given as goal

abbrev pub invariant-loop-slot : goal.invariant-loop-slot
invariant-loop-slot g l = record {
  table : l.seat.table_id ≡ l.fn.seat.table_id;
  id : l.seat.id ≡ l.fn.seat.id;
  back : IsBack l.fn.seat.me l.seat.me;
  out : HasOut g.M.Machine.core l.seat.me l.held.items;
  below : Every (λ k. k < l.top.table_id.slots) (slots_of l.held.items);
}

abbrev pub decreases-loop-slot : goal.decreases-loop-slot
decreases-loop-slot g l = length l.held.items
