use Rattle.std.proofs.Common.{◌≡◌, map, take}
use Rattle.model_runs.specs.Courses.{at_place}
use Rattle.script_courses.proofs.follows.places_at.Given as goal

abbrev pub invariant-loop-place : goal.invariant-loop-place
invariant-loop-place l = l.at ≡ map at_place (take l.place-index l.places)
