use Rattle.std.proofs.Common.{◌≡◌, ◌++◌, drop}
use Rattle.model.specs.Moves.{brought_back}
use Rattle.master_moves.proofs.lists.brought_back.Given as goal

abbrev pub invariant-loop-item : goal.invariant-loop-item
invariant-loop-item l = l.found ++ brought_back (drop l.item-index l.listed) ≡ brought_back l.listed
