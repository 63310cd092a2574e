use Rattle.std.proofs.Common.{◌≡◌, drop}
use Rattle.model.specs.Looks.{cells_fault}
use Rattle.master_acts.proofs.batches.cells_fault.Given as goal

abbrev pub invariant-loop-cell : goal.invariant-loop-cell
invariant-loop-cell l =
    cells_fault l.schema.columns (drop l.cell-index l.cells) ≡ cells_fault l.schema.columns l.cells
