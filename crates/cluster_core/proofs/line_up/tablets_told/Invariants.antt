use Rattle.std.proofs.Common.{◌≡◌, ◌≤◌, ◌++◌, drop}
use Rattle.step_table.specs.Helds.{slots_of}
use Rattle.master_part.specs.declared.act.MasterAct.{MasterAct}
use Rattle.cluster_core.specs.SeenTold.{tellings_of}
use Rattle.cluster_core.specs.Plans.{tell_all}
use Rattle.cluster_core.proofs.line_up.tablets_told.Given as goal

abbrev pub invariant-loop-i : goal.invariant-loop-i
invariant-loop-i g l = record {
  first : l.first ≤ l.i;
  told : (master : MasterAct) → tellings_of l.acts.items ++ tell_all master l.tablets.items (drop l.i (slots_of l.held)) ≡ tellings_of l.fn.acts.items ++ tell_all master l.fn.tablets.items (drop l.first (slots_of l.held));
}
