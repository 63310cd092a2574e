use Rattle.std.proofs.Common.{◌≡◌, drop}
use Rattle.master_cleanup.specs.Cuts.{has_cut}
use Rattle.master_cleanup.proofs.cuts.has_cut.Given as goal

abbrev pub invariant-loop-cut : goal.invariant-loop-cut
invariant-loop-cut l = has_cut (drop l.cut-index l.made) l.namespace ≡ has_cut l.made l.namespace
