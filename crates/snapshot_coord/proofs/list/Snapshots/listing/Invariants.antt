use Rattle.std.proofs.Common.{◌≡◌, drop}
use Rattle.model.specs.Cleanup.{listing_snapshot}
use Rattle.snapshot_coord.proofs.list.Snapshots.listing.Given as goal

abbrev pub invariant-loop-record : goal.invariant-loop-record
invariant-loop-record l = listing_snapshot (drop l.record-index l.record-items) l.tablet ≡ listing_snapshot l.record-items l.tablet
