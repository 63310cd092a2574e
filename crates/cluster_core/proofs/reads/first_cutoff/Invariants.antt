use Rattle.std.proofs.Common.{◌≡◌, drop}
use Rattle.model.specs.RowActs.{first_cutoff}
use Rattle.cluster_core.specs.Reads.{tablets_in}
use Rattle.cluster_core.proofs.reads.first_cutoff.Given as goal

abbrev pub invariant-loop-place : goal.invariant-loop-place
invariant-loop-place g l = first_cutoff (drop l.place-index l.places) l.at (tablets_in l.held) ≡ first_cutoff l.places l.at (tablets_in l.held)
