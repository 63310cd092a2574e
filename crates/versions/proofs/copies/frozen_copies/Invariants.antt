use Rattle.std.proofs.Common.{◌≡◌, ◌++◌, drop}
use Rattle.row_values.specs.Store.{frozen}
use Rattle.versions.proofs.copies.frozen_copies.Given as goal

abbrev pub invariant-loop-version : goal.invariant-loop-version
invariant-loop-version l = l.copies.items ++ frozen l.at (drop l.version-index l.versions) ≡ frozen l.at l.versions
