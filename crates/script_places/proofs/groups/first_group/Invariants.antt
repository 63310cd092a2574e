use Rattle.std.proofs.Common.{◌≡◌, ℕ, ◌<◌, get_or, [], false}
use Rattle.script_places.specs.Groups.{is_slash}
use Rattle.script_places.proofs.groups.first_group.Given as goal

abbrev pub invariant-loop-i : goal.invariant-loop-i
invariant-loop-i l = (k : ℕ) → k < l.i → is_slash (get_or l.words k []) ≡ false
