use Rattle.std.proofs.Common.{◌≡◌, ◌++◌, take, drop}
use Rattle.model.specs.Coordination.{acked_snapshot}
use Rattle.snapshot_coord.proofs.list.Snapshots.ack.Given as goal

abbrev pub invariant-loop-record : goal.invariant-loop-record
invariant-loop-record l =
    take l.record-index l.record-items ++ acked_snapshot l.id l.slot (drop l.record-index l.record-items)
    ≡ acked_snapshot l.id l.slot l.fn.self.snapshots
