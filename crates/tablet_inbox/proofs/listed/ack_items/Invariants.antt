use Rattle.std.proofs.Common.{◌≡◌, ◌++◌, take, drop}
use Rattle.model.specs.Records.{acked_at}
use Rattle.tablet_inbox.proofs.listed.ack_items.Given as goal

abbrev pub invariant-loop-item : goal.invariant-loop-item
invariant-loop-item l =
    take l.item-index l.item-items ++ acked_at l.slot (drop l.item-index l.item-items) ≡ acked_at l.slot l.fn.items.items
