use Rattle.std.proofs.Common.{◌≡◌, drop}
use Rattle.model.specs.Looks.{has_target}
use Rattle.clone_coord.proofs.list.has_target.Given as goal

abbrev pub invariant-loop-pair : goal.invariant-loop-pair
invariant-loop-pair l = has_target (drop l.pair-index l.pairs) l.slot ≡ has_target l.pairs l.slot
