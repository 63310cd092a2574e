use Rattle.std.proofs.Common.{◌≡◌, drop}
use Rattle.model.specs.Looks.{code_outside}
use Rattle.master_acts.proofs.batches.code_outside.Given as goal

abbrev pub invariant-loop-item : goal.invariant-loop-item
invariant-loop-item l = code_outside l.home (drop l.item-index l.batch) ≡ code_outside l.home l.batch
