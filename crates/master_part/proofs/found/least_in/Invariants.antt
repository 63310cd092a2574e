use Rattle.std.proofs.Common.{◌≡◌, ◌≤◌, drop, length}
use Rattle.model.specs.Catalog.{by_id, current_tables}
use Rattle.model.specs.Changes.{first_table}
use Rattle.master_part.proofs.found.least_in.Given as goal

abbrev pub invariant-tables : goal.invariant-tables
invariant-tables l = record {
  least : l.least ≡ first_table (by_id (current_tables (drop l.upto l.tables) l.namespace));
  within : l.upto ≤ length l.tables;
}

abbrev pub decreases-tables : goal.decreases-tables
decreases-tables l = l.upto
