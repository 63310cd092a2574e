use Rattle.std.proofs.Common.{◌≡◌, ◌++◌, drop}
use Rattle.model.specs.Restored.{cloned_tables}
use Rattle.master_moves.proofs.targets.cloned_tables.Given as goal

abbrev pub invariant-loop-pair : goal.invariant-loop-pair
invariant-loop-pair l =
    l.tables ++ cloned_tables (drop l.pair-index l.pairs) l.master.master.catalog.tables l.target l.to l.stamp
    ≡ cloned_tables l.pairs l.master.master.catalog.tables l.target l.to l.stamp
