use Rattle.std.proofs.Common.{◌≡◌, [], length}
use Rattle.script_places.specs.Groups.{groups}
use Rattle.script_places.specs.Items.{items_from}
use Rattle.script_places.proofs.item.items.Given as goal

abbrev pub invariant-loop-items : goal.invariant-loop-items
invariant-loop-items l = items_from l.items (groups l.rest) ≡ items_from [] (groups l.words)

abbrev pub decreases-loop-items : goal.decreases-loop-items
decreases-loop-items l = length l.rest
