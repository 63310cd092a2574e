use Rattle.std.proofs.Common.{◌≡◌, drop, map, not}
use Rattle.std.specs.Prelude.{filter}
use Rattle.model.specs.Records as records
use Rattle.model.specs.Moves.{clone_progress}
use Rattle.model.specs.Work.{first_work}
use Rattle.master_moves.proofs.working.work_of_clones.Given as goal

abbrev pub invariant-loop-clone : goal.invariant-loop-clone
invariant-loop-clone l =
    first_work (map (clone_progress l.master.master) (filter (λ r. not (records.is_cloned r.state)) (drop l.clone-index l.clones))) l.master.master.sent
    ≡ first_work (map (clone_progress l.master.master) (filter (λ r. not (records.is_cloned r.state)) l.clones)) l.master.master.sent
