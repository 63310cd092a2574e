use Rattle.std.proofs.Common.{◌≡◌, drop}
use Rattle.master_cleanup.specs.Cuts.{with_tables}
use Rattle.master_cleanup.proofs.cuts.add_tables.Given as goal

abbrev pub invariant-loop-table : goal.invariant-loop-table
invariant-loop-table l =
    with_tables l.master.master l.stamp (drop l.table-index l.tables) l.made ≡ with_tables l.master.master l.stamp l.tables l.fn.made
