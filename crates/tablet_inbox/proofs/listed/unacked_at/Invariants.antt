use Rattle.std.proofs.Common.{◌≡◌, drop}
use Rattle.model.specs.Records.{unacked_at}
use Rattle.tablet_inbox.proofs.listed.unacked_at.Given as goal

abbrev pub invariant-loop-item : goal.invariant-loop-item
invariant-loop-item l = unacked_at (drop l.item-index l.listed) l.slot ≡ unacked_at l.listed l.slot
