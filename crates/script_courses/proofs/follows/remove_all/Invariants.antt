use Rattle.std.proofs.Common.{◌≡◌, ◌++◌, map, drop}
use Rattle.model_runs.specs.Courses.{remove_each, FoundTargets}
use Rattle.cluster_events.specs.SeenActs.{act_of}
use Rattle.script_courses.proofs.follows.remove_all.Given as goal

abbrev pub invariant-loop-removal : goal.invariant-loop-removal
invariant-loop-removal l =
    map act_of l.made.items ++ remove_each (FoundTargets (drop l.removal-index l.targets))
    ≡ remove_each (FoundTargets l.targets)
