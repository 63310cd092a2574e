use Rattle.std.proofs.Common.{◌≡◌, drop}
use Rattle.catalog_core.specs.Kept.{ends_by}
use Rattle.catalog_core.proofs.tables.Tables.ends_by.Given as goal

abbrev pub invariant-loop-table : goal.invariant-loop-table
invariant-loop-table l = ends_by l.at (drop l.table-index l.table-items) ≡ ends_by l.at l.table-items
