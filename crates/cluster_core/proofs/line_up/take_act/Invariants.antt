use Rattle.std.proofs.Common.{◌≡◌, drop}
use Rattle.cluster_core.specs.Plans.{telling_for}
use Rattle.cluster_core.proofs.line_up.take_act.Given as goal

abbrev pub invariant-loop-i : goal.invariant-loop-i
invariant-loop-i g l = record {
  same : l.tablets.items ≡ l.fn.tablets.items;
  ahead : telling_for (drop l.i l.tablets.items) l.slot ≡ telling_for l.tablets.items l.slot;
}
