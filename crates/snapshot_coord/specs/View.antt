-- What contracts see of the records of snapshots.
use Rattle.std.specs.Prelude.{ℕ, List, map, if◌then◌else◌}
use Rattle.row_values.specs.Ids.{Id, same}
use Rattle.model.specs.Records.{SnapshotRecord, acked_at}
use Rattle.model.specs.Moves.{snapshot_advanced}

-- the book's records, and for how many more there is room
pub record SnapshotsView : Type 0 where
  pub snapshots : List SnapshotRecord
  pub room : ℕ

-- a record, where the tablet of a slot of a snapshot froze
abbrev pub acked_if : Id → ℕ → SnapshotRecord → SnapshotRecord
acked_if id slot r = record r { listed = if same r.id id then acked_at slot r.listed else r.listed }

-- and where that snapshot is complete
abbrev pub completed_if : Id → SnapshotRecord → SnapshotRecord
completed_if id r = record r {
  complete = if same r.id id then (snapshot_advanced r).complete else r.complete;
  listed = if same r.id id then (snapshot_advanced r).listed else r.listed;
}

abbrev pub completed_in : Id → List SnapshotRecord → List SnapshotRecord
completed_in id rs = map {A = SnapshotRecord} (λ r. completed_if id r) rs
