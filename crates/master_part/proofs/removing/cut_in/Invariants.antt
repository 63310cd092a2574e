use Rattle.std.proofs.Common.{◌≡◌, drop}
use Rattle.master_part.specs.Going.{cut_of}
use Rattle.master_part.proofs.removing.cut_in.Given as goal

abbrev pub invariant-loop-cut : goal.invariant-loop-cut
invariant-loop-cut l = cut_of (drop l.cut-index l.cuts) l.namespace ≡ cut_of l.cuts l.namespace
