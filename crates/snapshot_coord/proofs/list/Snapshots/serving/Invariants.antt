use Rattle.std.proofs.Common.{◌≡◌, drop}
use Rattle.model.specs.Schedules.{serving}
use Rattle.snapshot_coord.proofs.list.Snapshots.serving.Given as goal

abbrev pub invariant-loop-record : goal.invariant-loop-record
invariant-loop-record l = serving (drop l.record-index l.record-items) l.namespace l.to ≡ serving l.record-items l.namespace l.to
