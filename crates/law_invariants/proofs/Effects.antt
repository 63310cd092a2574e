-- What a move, an ack or a removal makes of the master: what holds of it in each case. So a law of the master goes
-- through these cases once.
use Rattle.std.proofs.Common.{◌≡◌, ℕ, Option, Some, None, refl, not}
use Rattle.std.specs.List.{filter}
use Rattle.std.specs.Option.{option_map_or}
use Rattle.model.specs.Cluster.{Id, Kind, TabletKind as Tablet, Snapshot, RestorationKind as Restoration, CloneKind as Clone, Schedule, SnapshotRecord, RestorationRecord, CloneRecord, Accepted, schedule_of, Master, forget, same}
use Rattle.model.specs.Cleanup.{removed_of}
use Rattle.model.specs.Coordination.{acked_by, acked_snapshot, acked_restoration, acked_clone, unfinished_snapshot, unfinished_restoration, unfinished_clone}
use Rattle.model.specs.Lists.{with_snapshot}
use Rattle.model.specs.Moves.{begins_clone, clone_goes, clone_moved, completed, moved_of, restoration_moved, serving_clone, with_clones_snapshot}

-- of a record that is found, or where none is
found_each : {A : Type 0} (P : Master → Type 0) (f : A → Master) (found : Option A) (other : Master)
    → ((a : A) → found ≡ Some a → P (f a)) → P other → P (option_map_or f found other)
found_each P f None other each rest = rest
found_each P f (Some a) other each rest = each a refl

pub moved_each : (P : Master → Type 0) (kind : Kind) (operation : Id) (n : ℕ) (m : Master)
    → P (record m { clock = n })
    → ((r : SnapshotRecord) → unfinished_snapshot m.snapshots operation ≡ Some r → P (completed r n m))
    → ((r : RestorationRecord) → unfinished_restoration m.restorations operation ≡ Some r
    → P (restoration_moved r.state r n m))
    → ((c : CloneRecord) → unfinished_clone m.clones operation ≡ Some c → P (clone_moved c.state c n m))
    → P (moved_of kind operation n m)
moved_each P Snapshot operation n m rest snapshot restoration clone =
    found_each P (λ r. completed r n m) (unfinished_snapshot m.snapshots operation) (record m { clock = n }) snapshot rest
moved_each P Restoration operation n m rest snapshot restoration clone =
    found_each P (λ r. restoration_moved r.state r n m) (unfinished_restoration m.restorations operation)
    (record m { clock = n }) restoration rest
moved_each P Clone operation n m rest snapshot restoration clone =
    found_each P (λ c. clone_moved c.state c n m) (unfinished_clone m.clones operation) (record m { clock = n }) clone rest
moved_each P _ operation n m rest snapshot restoration clone = rest

-- a clone begins to copy from a snapshot that serves its time, or makes one, or has no schedule to make one by
pub begins_each : (P : Master → Type 0) (c : CloneRecord) (n : ℕ) (m : Master)
    → ((serving : SnapshotRecord) → P (clone_goes Accepted (Some serving.id) c n m m))
    → ((s : Schedule) → P (clone_goes Accepted None c n m (with_snapshot c.source s.id n m)))
    → P (clone_goes Accepted None c n m m) → P (begins_clone (serving_clone m c) c n m)
begins_each P c n m served own none = begun (serving_clone m c)
  where
    made : (s : Option Schedule) → P (clone_goes Accepted None c n m (with_clones_snapshot s c n m))
    made None = none
    made (Some s) = own s

    begun : (serving : Option SnapshotRecord) → P (begins_clone serving c n m)
    begun (Some s) = served s
    begun None = made (schedule_of m.schedules c.source)

pub acked_each : (P : Master → Type 0) (kind : Kind) (operation : Id) (slot n : ℕ) (m : Master)
    → P (record m { clock = n })
    → P (record m { clock = n; snapshots = acked_snapshot operation slot m.snapshots })
    → P (record m { clock = n; restorations = acked_restoration operation slot m.restorations })
    → P (record m { clock = n; clones = acked_clone operation slot m.clones }) → P (acked_by kind operation slot n m)
acked_each P Snapshot operation slot n m rest snapshot restoration clone = snapshot
acked_each P Restoration operation slot n m rest snapshot restoration clone = restoration
acked_each P Clone operation slot n m rest snapshot restoration clone = clone
acked_each P _ operation slot n m rest snapshot restoration clone = rest

pub removed_each : (P : Master → Type 0) (kind : Kind) (target : Id) (n : ℕ) (m : Master)
    → P (record m { clock = n }) → P (record m { clock = n; activity = forget target m.activity })
    → P (record m { clock = n; snapshots = filter (λ r. not (same r.id target)) m.snapshots })
    → P (removed_of kind target n m)
removed_each P Tablet target n m rest tablet snapshot = tablet
removed_each P Snapshot target n m rest tablet snapshot = snapshot
removed_each P _ target n m rest tablet snapshot = rest
