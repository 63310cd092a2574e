use Rattle.std.proofs.Common.{◌≡◌, ◌++◌, drop}
use Rattle.model.specs.Moves.{released}
use Rattle.master_moves.proofs.lists.released.Given as goal

abbrev pub invariant-loop-item : goal.invariant-loop-item
invariant-loop-item l = l.found ++ released l.cutoff (drop l.item-index l.listed) ≡ released l.cutoff l.listed
