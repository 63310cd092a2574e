use Rattle.std.proofs.Common.{◌≡◌, drop, map}
use Rattle.model.specs.Acts.{At}
use Rattle.script_runs.specs.Lone.{are_all}
use Rattle.script_runs.proofs.lone.are_in.Given as goal

abbrev pub invariant-loop-place : goal.invariant-loop-place
invariant-loop-place l = are_all l.slot (map {A = At} (λ place. place.slot) (drop l.place-index l.places)) ≡ are_all l.slot (map {A = At} (λ place. place.slot) l.places)
