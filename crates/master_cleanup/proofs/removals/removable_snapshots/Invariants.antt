use Rattle.std.proofs.Common.{◌≡◌, ◌++◌, drop, map}
use Rattle.std.specs.Prelude.{filter}
use Rattle.model.specs.Cleanup.{is_removable_snapshot}
use Rattle.master_cleanup.specs.Staying.{snapshot_removal}
use Rattle.master_cleanup.proofs.removals.removable_snapshots.Given as goal

abbrev pub invariant-loop-snapshot : goal.invariant-loop-snapshot
invariant-loop-snapshot l =
    l.removals ++ map (snapshot_removal l.master.master l.tablets) (filter (is_removable_snapshot l.master.master l.stamp) (drop l.snapshot-index l.snapshots))
    ≡ map (snapshot_removal l.master.master l.tablets) (filter (is_removable_snapshot l.master.master l.stamp) l.snapshots)
