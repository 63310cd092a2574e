use Rattle.std.proofs.Common.{◌≡◌, drop}
use Rattle.versions.specs.Indexed.{chosen, row_on}
use Rattle.versions.proofs.index.row_from.Given as goal

abbrev pub invariant-loop-one : goal.invariant-loop-one
invariant-loop-one l = row_on l.row (chosen l.log (drop l.one-index l.rest)) ≡ row_on l.before (chosen l.log l.past)
