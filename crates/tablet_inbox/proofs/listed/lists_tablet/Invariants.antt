use Rattle.std.proofs.Common.{◌≡◌, drop}
use Rattle.model.specs.Records.{lists_tablet}
use Rattle.tablet_inbox.proofs.listed.lists_tablet.Given as goal

abbrev pub invariant-loop-item : goal.invariant-loop-item
invariant-loop-item l = lists_tablet l.tablet (drop l.item-index l.listed) ≡ lists_tablet l.tablet l.listed
