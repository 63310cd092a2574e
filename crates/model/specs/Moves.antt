-- How the records of snapshots, restorations and clones move from state to state. A move waits for the listed tablets,
-- and some for a snapshot. It clears the acks and the sent marks of its record.
use Rattle.std.specs.Prelude.{ℕ, Bool, true, false, List, [], ◌++◌, Option, Some, None, ◌&&◌, ◌+◌, is_some, map, if◌then◌else◌, unwrap_or, option_map, filter}
use Rattle.model.specs.Cluster.{same, Clone, Restoration, Snapshot, ScheduleKind, TabletKind as Tablet, Table, Namespace, Kind, Id, list_any, option_map_or, Body, Fence, Freeze, RestoreFrom, Hide, Copy, Release, Listed, Schedule, ScheduledNamespace, SnapshotRecord, RestorationRecord, CloneRecord, TabletPair, RestorationState, Fencing, Snapshotting, Switching, Restoring, Releasing, Restored, CloneState, Accepted, CloneSnapshot, Copying, CloneReleasing, CloneComplete, State, IsComplete, first_unacked, unsent, schedule_of, unfinished_of, NotPending, Waiting, Advanced, Master, Parts, Outcome, Moves, refused, restoration_state, clone_state}
use Rattle.model.specs.Schedules.{serving}
use Rattle.model.specs.Lists.{next_snapshot, with_snapshot}
use Rattle.model.specs.Coordination.{unfinished_snapshot, unfinished_restoration, unfinished_clone}
use Rattle.model.specs.Restored.{restored_tables, restored_activity, switch_list, target_added, cloned_activity}

-- What a record asks of its tablets, and waits for

-- what a move waits for: the first listed tablet without ack, and else an unfinished snapshot
abbrev pub waits_for : Option Listed → Option Id → Option Id
waits_for (Some l) awaited = Some l.tablet
waits_for None awaited = awaited

-- what the master found for the next move of a record: its stamp, the snapshot that serves the record's time, the
-- identifier of the snapshot that it may make, and the tablets that are listed next
pub record Given : Type 0 where
  pub stamp : ℕ
  pub serving : Option Id
  pub made : Id
  pub listed : List Listed

-- What a move makes of a record

-- the tablets are to do this, none of them has done it
abbrev pub anew : List Listed → List Listed
anew ls = map {A = Listed} (λ l. record l { acked = false }) ls

abbrev pub snapshot_advanced : SnapshotRecord → SnapshotRecord
snapshot_advanced r = record r { complete = true; listed = anew r.listed }

-- the state that a restoration enters: its point is just after its own snapshot, and the first complete snapshot at or
-- after the time serves it, at the latest its own
abbrev pub restoration_next : RestorationState → Given → RestorationState
restoration_next Fencing g = Snapshotting (g.stamp + 1) g.made
restoration_next (Snapshotting point own) g = Switching point (unwrap_or g.serving own)
restoration_next (Switching point serving) g = Restoring point serving
restoration_next (Restoring point serving) g = Releasing point serving
restoration_next (Releasing point serving) g = Restored point serving
restoration_next (Restored point serving) g = Restored point serving

abbrev pub restoration_advanced : RestorationState → Given → RestorationRecord → RestorationRecord
restoration_advanced state g r = record r { state = restoration_next state g; listed = g.listed }

-- a clone copies the rows of the snapshot that serves its time; where none does, it makes one first
abbrev pub clone_begins : Option Id → Given → CloneState
clone_begins (Some serving) g = Copying serving g.stamp
clone_begins None g = CloneSnapshot g.made

-- the state that a clone enters
abbrev pub clone_next : CloneState → Given → CloneState
clone_next Accepted g = clone_begins g.serving g
clone_next (CloneSnapshot own) g = Copying (unwrap_or g.serving own) g.stamp
clone_next (Copying serving copied_at) g = CloneReleasing serving copied_at
clone_next (CloneReleasing serving copied_at) g = CloneComplete serving copied_at
clone_next (CloneComplete serving copied_at) g = CloneComplete serving copied_at

abbrev pub clone_advanced : CloneState → Given → CloneRecord → CloneRecord
clone_advanced state g r = record r { state = clone_next state g; listed = g.listed }

-- What the master finds for a move

abbrev pub is_complete : List SnapshotRecord → Id → Bool
is_complete rs id = list_any (λ r. same r.id id && r.complete) rs

-- the snapshot, unless it is complete
abbrev pub incomplete : List SnapshotRecord → Id → Option Id
incomplete rs id = if is_complete rs id then None else Some id

abbrev pub id_of_snapshot : Option SnapshotRecord → Option Id
id_of_snapshot found = option_map {T = SnapshotRecord} (λ s. s.id) found

abbrev pub serving_restoration : Master → RestorationRecord → Option SnapshotRecord
serving_restoration m r = serving m.snapshots r.namespace r.to

abbrev pub serving_clone : Master → CloneRecord → Option SnapshotRecord
serving_clone m r = serving m.snapshots r.source r.to

abbrev pub awaited_by_restoration : RestorationState → Master → RestorationRecord → Option Id
awaited_by_restoration Fencing m r = unfinished_of m.snapshots r.namespace
awaited_by_restoration (Snapshotting point own) m r = incomplete m.snapshots own
awaited_by_restoration (Switching point serving) m r = None
awaited_by_restoration (Restoring point serving) m r = None
awaited_by_restoration (Releasing point serving) m r = None
awaited_by_restoration (Restored point serving) m r = None

abbrev pub awaited_by_clone : CloneState → Master → CloneRecord → Option Id
awaited_by_clone Accepted m r = if is_some (serving_clone m r) then None else unfinished_of m.snapshots r.source
awaited_by_clone (CloneSnapshot own) m r = incomplete m.snapshots own
awaited_by_clone (Copying serving copied_at) m r = None
awaited_by_clone (CloneReleasing serving copied_at) m r = None
awaited_by_clone (CloneComplete serving copied_at) m r = None

abbrev pub released : ℕ → List Listed → List Listed
released cutoff ls =
    map (λ l. record { tablet = l.tablet; slot = l.slot; body = Release cutoff; acked = false }) ls

-- whether a tablet takes back its rows
abbrev pub is_restore : Body → Bool
is_restore (RestoreFrom snapshot to point version) = true
is_restore Fence = false
is_restore (Freeze snapshot at) = false
is_restore (Hide ended) = false
is_restore (Copy source snapshot to stamp table low high version) = false
is_restore (Release cutoff) = false

-- the tablets that took back their rows
abbrev pub brought_back : List Listed → List Listed
brought_back ls = filter (λ l. is_restore l.body) ls

-- the target tablets are to copy their sources' rows
abbrev pub copies : Id → ℕ → ℕ → List TabletPair → List Listed
copies snapshot to stamp pairs = map (λ p. record {
  tablet = p.target;
  slot = p.slot;
  body = Copy p.source_slot snapshot to stamp p.table p.low p.high 1;
  acked = false;
}) pairs

-- the tablets that a restoration lists next
abbrev pub restoration_lists : RestorationState → RestorationRecord → Master → List Listed
restoration_lists Fencing r m = []
restoration_lists (Snapshotting point own) r m = []
restoration_lists (Switching point serving) r m =
    let tables = restored_tables m.catalog.tables r.namespace r.to point in
    switch_list m.catalog.owners m.activity r.namespace r.to point serving tables
restoration_lists (Restoring point serving) r m = released point (brought_back r.listed)
restoration_lists (Releasing point serving) r m = []
restoration_lists (Restored point serving) r m = []

abbrev pub given_restoration : RestorationState → RestorationRecord → ℕ → Master → Given
given_restoration state r n m = record {
  stamp = n;
  serving = id_of_snapshot (serving_restoration m r);
  made = next_snapshot m;
  listed = restoration_lists state r m;
}

-- the tablets that a clone lists next, with the snapshot that serves its time
abbrev pub clone_lists : CloneState → Option Id → CloneRecord → ℕ → List Listed
clone_lists Accepted (Some serving) r n = copies serving r.to n r.tablets
clone_lists Accepted None r n = []
clone_lists (CloneSnapshot own) serving r n = copies (unwrap_or serving own) r.to n r.tablets
clone_lists (Copying serving copied_at) found r n = released n r.listed
clone_lists (CloneReleasing serving copied_at) found r n = []
clone_lists (CloneComplete serving copied_at) found r n = []

abbrev pub given_clone : CloneState → Option Id → CloneRecord → ℕ → Master → Given
given_clone state serving r n m = record {
  stamp = n;
  serving = serving;
  made = next_snapshot m;
  listed = clone_lists state serving r n;
}

-- the states that the next moves of records enter, as they are printed

abbrev pub after_restoration : Master → RestorationRecord → State
after_restoration m r = restoration_state (restoration_next r.state (given_restoration r.state r m.clock m))

abbrev pub after_clone : Master → CloneRecord → State
after_clone m r =
    clone_state (clone_next r.state (given_clone r.state (id_of_snapshot (serving_clone m r)) r m.clock m))

-- An advance

-- how far an unfinished record is: the tablets that it lists, the unfinished snapshot that its next move has to wait
-- for, and the state that this move enters
pub record Progress : Type 0 where
  pub id : Id
  pub listed : List Listed
  pub awaited : Option Id
  pub next : State

abbrev pub snapshot_progress : SnapshotRecord → Progress
snapshot_progress r = record { id = r.id; listed = r.listed; awaited = None; next = IsComplete }

abbrev pub restoration_progress : Master → RestorationRecord → Progress
restoration_progress m r = record {
  id = r.id;
  listed = r.listed;
  awaited = awaited_by_restoration r.state m r;
  next = after_restoration m r;
}

abbrev pub clone_progress : Master → CloneRecord → Progress
clone_progress m r = record {
  id = r.id;
  listed = r.listed;
  awaited = awaited_by_clone r.state m r;
  next = after_clone m r;
}

-- of the unfinished record of an id
abbrev pub progress_of : Kind → Master → Id → Option Progress
progress_of Namespace m id = None
progress_of Table m id = None
progress_of Tablet m id = None
progress_of ScheduleKind m id = None
progress_of Snapshot m id = option_map snapshot_progress (unfinished_snapshot m.snapshots id)
progress_of Restoration m id = option_map (restoration_progress m) (unfinished_restoration m.restorations id)
progress_of Clone m id = option_map (clone_progress m) (unfinished_clone m.clones id)

abbrev pub moving : Option Id → Id → State → Outcome
moving (Some on) operation next = refused (Waiting on)
moving None operation next = record { master = Moves operation; tablets = []; reply = Advanced next }

abbrev pub advancing : Option Progress → Id → Outcome
advancing None operation = refused (NotPending operation)
advancing (Some p) operation = moving (waits_for (first_unacked p.listed) p.awaited) operation p.next

-- the record moves to its next state
unfoldable pub advance : Id → ℕ → Parts → Outcome
advance operation n ps = advancing (progress_of operation.kind ps.master operation) operation

-- What a move makes of the master

-- a record enters a state, with the tablets that it lists there

abbrev pub restoration_enters : RestorationRecord → RestorationState → List Listed → ℕ → Master → Master
restoration_enters r state listed n m = record m {
  clock = n;
  restorations = map {A = RestorationRecord} (λ x. record x {
    listed = if same x.id r.id then listed else x.listed;
    state = if same x.id r.id then state else x.state;
  }) m.restorations;
  sent = unsent r.id m.sent;
}

abbrev pub clone_enters : CloneRecord → CloneState → List Listed → ℕ → Master → Master
clone_enters r state listed n m = record m {
  clock = n;
  clones = map {A = CloneRecord} (λ x. record x {
    listed = if same x.id r.id then listed else x.listed;
    state = if same x.id r.id then state else x.state;
  }) m.clones;
  sent = unsent r.id m.sent;
}

-- a snapshot is complete, and its time is that of the namespace's last complete one
abbrev pub completed : SnapshotRecord → ℕ → Master → Master
completed r n m = record m {
  clock = n;
  scheduled = map {A = ScheduledNamespace}
      (λ k. record k { complete = if same k.namespace r.namespace then Some r.at else k.complete })
      m.scheduled;
  snapshots = map {A = SnapshotRecord} (λ x. record x {
    complete = if same x.id r.id then (snapshot_advanced x).complete else x.complete;
    listed = if same x.id r.id then (snapshot_advanced x).listed else x.listed;
  }) m.snapshots;
  sent = unsent r.id m.sent;
}

-- the move of a restoration's record, beside what else becomes of the master
abbrev pub restoration_goes : RestorationState → RestorationRecord → ℕ → Master → Master → Master
restoration_goes state r n m beside =
    let moved = restoration_advanced state (given_restoration state r n m) r in
    restoration_enters r moved.state moved.listed n beside

-- all is fenced: a restoration makes its own snapshot, so that what it undoes can be brought back
abbrev pub with_restorations_snapshot : RestorationRecord → ℕ → Master → Master
with_restorations_snapshot r n m = with_snapshot r.namespace r.schedule n m

-- the switch: from the point on, the catalog and the active tablets are those of the time
abbrev pub switched : RestorationRecord → ℕ → Master → Master
switched r point m = record m {
  catalog = record m.catalog { tables = restored_tables m.catalog.tables r.namespace r.to point };
  activity = restored_activity m.catalog.owners m.activity r.namespace r.to point;
}

abbrev pub restoration_moved : RestorationState → RestorationRecord → ℕ → Master → Master
restoration_moved Fencing r n m = restoration_goes Fencing r n m (with_restorations_snapshot r n m)
restoration_moved (Snapshotting point own) r n m = restoration_goes (Snapshotting point own) r n m m
restoration_moved (Switching point serving) r n m =
    restoration_goes (Switching point serving) r n m (switched r point m)
restoration_moved (Restoring point serving) r n m = restoration_goes (Restoring point serving) r n m m
restoration_moved (Releasing point serving) r n m = restoration_goes (Releasing point serving) r n m m
restoration_moved (Restored point serving) r n m = record m { clock = n }

-- the move of a clone's record, with the snapshot that serves its time, beside what else becomes of the master
abbrev pub clone_goes : CloneState → Option Id → CloneRecord → ℕ → Master → Master → Master
clone_goes state serving r n m beside =
    let moved = clone_advanced state (given_clone state serving r n m) r in
    clone_enters r moved.state moved.listed n beside

-- where no snapshot serves its time, a clone makes one, by the source's schedule with the least number
abbrev pub with_clones_snapshot : Option Schedule → CloneRecord → ℕ → Master → Master
with_clones_snapshot (Some s) r n m = with_snapshot r.source s.id n m
with_clones_snapshot None r n m = m

abbrev pub begins_clone : Option SnapshotRecord → CloneRecord → ℕ → Master → Master
begins_clone (Some s) r n m = clone_goes Accepted (Some s.id) r n m m
begins_clone None r n m =
    clone_goes Accepted None r n m
    (with_clones_snapshot (schedule_of m.schedules r.source) r n m)

-- the target becomes current, its tablets active
abbrev pub with_target : CloneRecord → ℕ → Master → Master
with_target r n m = record m {
  catalog = target_added r n m.catalog;
  activity = m.activity ++ cloned_activity n r.tablets;
}

abbrev pub clone_moved : CloneState → CloneRecord → ℕ → Master → Master
clone_moved Accepted r n m = begins_clone (serving_clone m r) r n m
clone_moved (CloneSnapshot own) r n m = clone_goes (CloneSnapshot own) (id_of_snapshot (serving_clone m r)) r n m m
clone_moved (Copying serving copied_at) r n m = clone_goes (Copying serving copied_at) None r n m (with_target r n m)
clone_moved (CloneReleasing serving copied_at) r n m = clone_goes (CloneReleasing serving copied_at) None r n m m
clone_moved (CloneComplete serving copied_at) r n m = record m { clock = n }

-- the move of the record that was found
abbrev pub moved_of : Kind → Id → ℕ → Master → Master
moved_of Namespace id n m = record m { clock = n }
moved_of Table id n m = record m { clock = n }
moved_of Tablet id n m = record m { clock = n }
moved_of ScheduleKind id n m = record m { clock = n }
moved_of Snapshot id n m =
    option_map_or (λ r. completed r n m) (unfinished_snapshot m.snapshots id) (record m { clock = n })
moved_of Restoration id n m =
    option_map_or
    (λ r. restoration_moved r.state r n m)
    (unfinished_restoration m.restorations id)
    (record m { clock = n })
moved_of Clone id n m =
    option_map_or
    (λ r. clone_moved r.state r n m)
    (unfinished_clone m.clones id)
    (record m { clock = n })

-- what the master is told by an advance: the operation's record moves
abbrev pub moved : Id → ℕ → Master → Master
moved operation n m = moved_of operation.kind operation n m
