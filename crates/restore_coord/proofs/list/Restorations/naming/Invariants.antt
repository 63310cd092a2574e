use Rattle.std.proofs.Common.{◌≡◌, drop}
use Rattle.model.specs.Cleanup.{naming_restoration}
use Rattle.restore_coord.proofs.list.Restorations.naming.Given as goal

abbrev pub invariant-loop-record : goal.invariant-loop-record
invariant-loop-record l = naming_restoration (drop l.record-index l.record-items) l.snapshot ≡ naming_restoration l.record-items l.snapshot
