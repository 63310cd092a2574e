use Rattle.std.proofs.Common.{◌≡◌, ℕ, ◌<◌, ◌≤◌, false, get_or, map, take, Some}
use Rattle.std.specs.Prelude.{vec_capacity}
use Rattle.std.specs.Mem.Slots.{slots_filled, slots_len, slots_items}
use Rattle.std.specs.Mem.Slots.Ownership.{Filled}
use Rattle.step_table.proofs.rows.unload.Given as goal

abbrev pub invariant-loop-i : goal.invariant-loop-i
invariant-loop-i g l = record {
  full : Filled (slots_filled l.closed.slots) l.i (slots_len l.closed.slots);
  taken : (k : ℕ) → k < l.i → get_or (slots_filled l.closed.slots) k false ≡ false;
  items : slots_items l.closed.slots ≡ slots_items l.fn.closed.slots;
  len : slots_len l.closed.slots ≡ slots_len l.fn.closed.slots;
  parts : map (λ (p : g.row.P.Denot). Some p) l.room.items ≡ take l.i (slots_items l.fn.closed.slots);
  room : slots_len l.fn.closed.slots ≤ vec_capacity l.room;
}
