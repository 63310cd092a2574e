use Rattle.std.proofs.Common.{◌≡◌, ◌++◌, take, drop}
use Rattle.model.specs.Moves.{anew}
use Rattle.tablet_inbox.proofs.listed.clear_items.Given as goal

abbrev pub invariant-loop-item : goal.invariant-loop-item
invariant-loop-item l =
    take l.item-index l.item-items ++ anew (drop l.item-index l.item-items) ≡ anew l.fn.items.items
