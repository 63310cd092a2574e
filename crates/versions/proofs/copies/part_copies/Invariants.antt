use Rattle.std.proofs.Common.{◌≡◌, ◌++◌, drop}
use Rattle.row_values.specs.Store.{part_of}
use Rattle.versions.proofs.copies.part_copies.Given as goal

abbrev pub invariant-loop-version : goal.invariant-loop-version
invariant-loop-version l =
    l.copies.items ++ part_of l.range-inside.low l.range-inside.high (drop l.version-index l.versions) ≡ part_of l.range-inside.low l.range-inside.high l.versions
