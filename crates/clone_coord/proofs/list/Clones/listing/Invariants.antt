use Rattle.std.proofs.Common.{◌≡◌, drop}
use Rattle.model.specs.Cleanup.{listing_clone}
use Rattle.clone_coord.proofs.list.Clones.listing.Given as goal

abbrev pub invariant-loop-record : goal.invariant-loop-record
invariant-loop-record l = listing_clone (drop l.record-index l.record-items) l.tablet ≡ listing_clone l.record-items l.tablet
