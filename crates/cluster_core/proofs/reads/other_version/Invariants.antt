use Rattle.std.proofs.Common.{◌≡◌, drop}
use Rattle.model.specs.RowActs.{other_version}
use Rattle.cluster_core.specs.Reads.{tablets_in}
use Rattle.cluster_core.proofs.reads.other_version.Given as goal

abbrev pub invariant-loop-place : goal.invariant-loop-place
invariant-loop-place g l = other_version (drop l.place-index l.places) l.version (tablets_in l.held) ≡ other_version l.places l.version (tablets_in l.held)
