use Rattle.std.proofs.Common.{◌≡◌, ◌≤◌}
use Rattle.step_counters.proofs.turns.perform_many.Given as goal

abbrev pub invariant-loop-turn : goal.invariant-loop-turn
invariant-loop-turn g l = record {
  table : l.pass.table ≡ l.fn.pass.table;
  shares : l.pass.shares ≡ l.fn.pass.shares;
  done : l.done ≤ l._turn;
}
