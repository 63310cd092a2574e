use Rattle.std.proofs.Common.{◌≡◌, ◌++◌, take, drop}
use Rattle.snapshot_coord.specs.View.{completed_in}
use Rattle.snapshot_coord.proofs.list.Snapshots.complete.Given as goal

abbrev pub invariant-loop-record : goal.invariant-loop-record
invariant-loop-record l =
    take l.record-index l.record-items ++ completed_in l.id (drop l.record-index l.record-items)
    ≡ completed_in l.id l.fn.self.snapshots
