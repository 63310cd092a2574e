use Rattle.std.proofs.Common.{◌≡◌, drop}
use Rattle.cluster_core.specs.SeenTold.{tellings_of}
use Rattle.cluster_core.proofs.Loops.{Preparing}
use Rattle.cluster_core.proofs.parts.prepare_all.Given as goal

abbrev pub invariant-loop-act : goal.invariant-loop-act
invariant-loop-act g l = record {
  at : l.i ≡ l.act-index;
  doing : Preparing l.fn.held l.held (tellings_of l.acts) (tellings_of (drop l.act-index l.acts)) l.fn.stamp l.i;
}
