use Rattle.std.proofs.Common.{◌≡◌, ◌++◌, map, drop}
use Rattle.cluster_events.specs.SeenActs.{act_of}
use Rattle.script_courses.specs.SeenCourses.{act_on}
use Rattle.script_courses.proofs.follows.on_slots.Given as goal

abbrev pub invariant-loop-slot : goal.invariant-loop-slot
invariant-loop-slot l = map act_of l.made.items ++ map (act_on l.on) (drop l.slot-index l.slots) ≡ map (act_on l.on) l.slots
