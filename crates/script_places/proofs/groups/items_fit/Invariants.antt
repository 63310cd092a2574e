use Rattle.std.proofs.Common.{◌≡◌, ◌+◌, ◌≤◌, ◌&&◌, length}
use Rattle.std.specs.Prelude.{nat_le}
use Rattle.std.specs.List.{list_all}
use Rattle.script_places.specs.Groups.{groups, item_fits, items_fit}
use Rattle.script_places.proofs.groups.items_fit.Given as goal

abbrev pub invariant-loop-behind : goal.invariant-loop-behind
invariant-loop-behind l = record {
  fit : (list_all item_fits (groups l.rest) && nat_le (l.count + length (groups l.rest)) 64) ≡ items_fit (groups l.words);
  bound : l.count + length l.rest ≤ length l.words;
}

abbrev pub decreases-loop-behind : goal.decreases-loop-behind
decreases-loop-behind l = length l.rest
