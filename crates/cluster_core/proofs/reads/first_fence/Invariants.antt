use Rattle.std.proofs.Common.{◌≡◌, drop}
use Rattle.model.specs.RowActs.{first_fence}
use Rattle.cluster_core.specs.Reads.{tablets_in}
use Rattle.cluster_core.proofs.reads.first_fence.Given as goal

abbrev pub invariant-loop-place : goal.invariant-loop-place
invariant-loop-place g l = first_fence (drop l.place-index l.places) (tablets_in l.held) ≡ first_fence l.places (tablets_in l.held)
