use Rattle.std.proofs.Common.{◌≡◌, drop}
use Rattle.model.specs.RowActs.{moved_from_key}
use Rattle.cluster_core.specs.Reads.{tablets_in}
use Rattle.cluster_core.proofs.reads.moved_from_key.Given as goal

abbrev pub invariant-loop-place : goal.invariant-loop-place
invariant-loop-place g l = moved_from_key (drop l.place-index l.places) l.key (tablets_in l.held) ≡ moved_from_key l.places l.key (tablets_in l.held)
