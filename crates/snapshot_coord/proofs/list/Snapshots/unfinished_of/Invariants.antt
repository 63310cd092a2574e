use Rattle.std.proofs.Common.{◌≡◌, drop}
use Rattle.model.specs.Records.{unfinished_of}
use Rattle.snapshot_coord.proofs.list.Snapshots.unfinished_of.Given as goal

abbrev pub invariant-loop-record : goal.invariant-loop-record
invariant-loop-record l =
    unfinished_of (drop l.record-index l.self.snapshots) l.namespace ≡ unfinished_of l.self.snapshots l.namespace
