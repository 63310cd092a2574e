use Rattle.std.proofs.Common.{◌≡◌, drop}
use Rattle.script_runs.specs.Lone.{are_all}
use Rattle.script_runs.proofs.lone.are_all.Given as goal

abbrev pub invariant-loop-other : goal.invariant-loop-other
invariant-loop-other l = are_all l.slot (drop l.other-index l.others) ≡ are_all l.slot l.others
