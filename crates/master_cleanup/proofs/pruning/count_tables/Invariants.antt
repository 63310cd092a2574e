use Rattle.std.proofs.Common.{◌≡◌, ◌+◌, ◌≤◌, drop, length}
use Rattle.std.specs.Prelude.{filter}
use Rattle.catalog_core.specs.Pruned.{table_goes}
use Rattle.master_part.specs.Going.{cut_of}
use Rattle.master_cleanup.proofs.pruning.count_tables.Given as goal

abbrev pub invariant-loop-table : goal.invariant-loop-table
invariant-loop-table l = record {
  count : l.count + length (filter (table_goes (cut_of l.cuts)) (drop l.table-index l.tables)) ≡ length (filter (table_goes (cut_of l.cuts)) l.tables);
  within : l.count ≤ l.table-index;
}
