use Rattle.std.proofs.Common.{◌≡◌, drop}
use Rattle.model.specs.Records.{snapshot_with}
use Rattle.snapshot_coord.proofs.list.Snapshots.find.Given as goal

abbrev pub invariant-loop-record : goal.invariant-loop-record
invariant-loop-record l =
    snapshot_with (drop l.record-index l.self.snapshots) l.id ≡ snapshot_with l.self.snapshots l.id
