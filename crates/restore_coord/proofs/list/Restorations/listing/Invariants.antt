use Rattle.std.proofs.Common.{◌≡◌, drop}
use Rattle.model.specs.Cleanup.{listing_restoration}
use Rattle.restore_coord.proofs.list.Restorations.listing.Given as goal

abbrev pub invariant-loop-record : goal.invariant-loop-record
invariant-loop-record l = listing_restoration (drop l.record-index l.record-items) l.tablet ≡ listing_restoration l.record-items l.tablet
