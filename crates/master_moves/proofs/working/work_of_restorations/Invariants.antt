use Rattle.std.proofs.Common.{◌≡◌, drop, map, not}
use Rattle.std.specs.Prelude.{filter}
use Rattle.model.specs.Records as records
use Rattle.model.specs.Moves.{restoration_progress}
use Rattle.model.specs.Work.{first_work}
use Rattle.master_moves.proofs.working.work_of_restorations.Given as goal

abbrev pub invariant-loop-restoration : goal.invariant-loop-restoration
invariant-loop-restoration l =
    first_work (map (restoration_progress l.master.master) (filter (λ r. not (records.is_restored r.state)) (drop l.restoration-index l.restorations))) l.master.master.sent
    ≡ first_work (map (restoration_progress l.master.master) (filter (λ r. not (records.is_restored r.state)) l.restorations)) l.master.master.sent
