use Rattle.std.proofs.Common.{◌≡◌, ◌+◌, map, drop}
use Rattle.step_table.specs.Machines.{logged}
use Rattle.step_table.proofs.rows.count_entries.Given as goal

abbrev pub invariant-loop-part : goal.invariant-loop-part
invariant-loop-part g l = l.sum + logged g.M.Machine.core (map g.M.Machine.core.meaning (drop l.part-index l.parts)) ≡ logged g.M.Machine.core (map g.M.Machine.core.meaning l.parts)
