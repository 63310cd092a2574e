use Rattle.std.proofs.Common.{◌≡◌, drop}
use Rattle.model.specs.Coordination.{unfinished_snapshot}
use Rattle.snapshot_coord.proofs.list.Snapshots.unfinished.Given as goal

abbrev pub invariant-loop-record : goal.invariant-loop-record
invariant-loop-record l =
    unfinished_snapshot (drop l.record-index l.self.snapshots) l.id ≡ unfinished_snapshot l.self.snapshots l.id
