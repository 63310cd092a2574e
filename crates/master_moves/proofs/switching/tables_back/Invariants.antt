use Rattle.std.proofs.Common.{◌≡◌, ◌++◌, map, drop}
use Rattle.model.specs.Restored.{back_at}
use Rattle.master_moves.proofs.switching.tables_back.Given as goal

abbrev pub invariant-loop-table : goal.invariant-loop-table
invariant-loop-table l =
    l.back ++ map (back_at l.catalog.catalog.tables l.point) (drop l.table-index l.table-items)
    ≡ map (back_at l.catalog.catalog.tables l.point) l.table-items
