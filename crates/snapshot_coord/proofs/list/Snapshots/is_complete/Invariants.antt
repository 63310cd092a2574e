use Rattle.std.proofs.Common.{◌≡◌, drop}
use Rattle.model.specs.Moves.{is_complete}
use Rattle.snapshot_coord.proofs.list.Snapshots.is_complete.Given as goal

abbrev pub invariant-loop-record : goal.invariant-loop-record
invariant-loop-record l = is_complete (drop l.record-index l.record-items) l.id ≡ is_complete l.record-items l.id
