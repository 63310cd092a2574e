use Rattle.std.proofs.Common.{◌≡◌, drop}
use Rattle.master_part.specs.Going.{cut_of}
use Rattle.master_cleanup.proofs.cuts.cut_in.Given as goal

abbrev pub invariant-loop-cut : goal.invariant-loop-cut
invariant-loop-cut l = cut_of (drop l.cut-index l.made) l.namespace ≡ cut_of l.made l.namespace
