use Rattle.std.proofs.Common.{◌≡◌, drop}
use Rattle.model.specs.Cleanup.{naming_clone}
use Rattle.clone_coord.proofs.list.Clones.naming.Given as goal

abbrev pub invariant-loop-record : goal.invariant-loop-record
invariant-loop-record l = naming_clone (drop l.record-index l.record-items) l.snapshot ≡ naming_clone l.record-items l.snapshot
