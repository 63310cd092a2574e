use Rattle.std.proofs.Common.{◌≡◌, drop}
use Rattle.model.specs.Tablets.{set_of}
use Rattle.tablet_part.proofs.frozen.set_of.Given as goal

abbrev pub invariant-loop-set : goal.invariant-loop-set
invariant-loop-set g l = set_of (drop l.set-index l.sets) l.snapshot ≡ set_of l.sets l.snapshot
