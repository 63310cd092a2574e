use Rattle.std.proofs.Common.{◌≡◌, drop}
use Rattle.model.specs.Records.{first_unacked}
use Rattle.tablet_inbox.proofs.listed.first_unacked.Given as goal

abbrev pub invariant-loop-item : goal.invariant-loop-item
invariant-loop-item l = first_unacked (drop l.item-index l.listed) ≡ first_unacked l.listed
