use Rattle.std.proofs.Common.{◌≡◌, drop}
use Rattle.model.specs.Looks.{batch_fault}
use Rattle.master_acts.proofs.batches.batch_fault.Given as goal

abbrev pub invariant-loop-item : goal.invariant-loop-item
invariant-loop-item l =
    batch_fault l.schema.columns (drop l.item-index l.batch) ≡ batch_fault l.schema.columns l.batch
