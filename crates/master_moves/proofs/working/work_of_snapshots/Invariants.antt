use Rattle.std.proofs.Common.{◌≡◌, drop, map, not}
use Rattle.std.specs.Prelude.{filter}
use Rattle.model.specs.Moves.{snapshot_progress}
use Rattle.model.specs.Work.{first_work}
use Rattle.master_moves.proofs.working.work_of_snapshots.Given as goal

abbrev pub invariant-loop-snapshot : goal.invariant-loop-snapshot
invariant-loop-snapshot l =
    first_work (map snapshot_progress (filter (λ r. not r.complete) (drop l.snapshot-index l.snapshots))) l.master.master.sent
    ≡ first_work (map snapshot_progress (filter (λ r. not r.complete) l.snapshots)) l.master.master.sent
