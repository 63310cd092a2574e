use Rattle.std.proofs.Common.{◌≡◌, ◌++◌, drop}
use Rattle.model.specs.Moves as moves
use Rattle.master_moves.proofs.targets.copies.Given as goal

abbrev pub invariant-loop-pair : goal.invariant-loop-pair
invariant-loop-pair l =
    l.listed ++ moves.copies l.snapshot l.to l.stamp (drop l.pair-index l.pairs) ≡ moves.copies l.snapshot l.to l.stamp l.pairs
