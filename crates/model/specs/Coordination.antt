-- A coordinator brings a record's commands to the listed tablets: it sends one, has the tablet do it, and tells the
-- master that it is done.
use Rattle.std.specs.Prelude.{ℕ, List, [], ◌∷◌, ◌++◌, Option, Some, None, ◌==◌, ◌&&◌, not, map, if◌then◌else◌, option_and_then, find}
use Rattle.model.specs.Words.{KeyedRow, Id, Kind, Namespace, Table, Tablet, Schedule, Snapshot, Restoration, Clone, same}
use Rattle.model.specs.Cluster.{Tablet as TabletPart, FrozenSet, Body, Fence, Freeze, RestoreFrom, Hide, Copy, Release, Offer, set_of, rows_of_set, kind_of, is_done, Listed, SnapshotRecord, RestorationRecord, CloneRecord, unacked_at, acked_at, is_restored, is_cloned, is_sent, unsent_at, NotPending, Idle, OtherSlot, NotDone, SentTo, Done, Acked, Refused, Master, Parts, Outcome, If, Ticks, Sends, Acks, Unsends, judged, refused}
use Rattle.model.specs.Tablets as tell
use Rattle.model.specs.Tablets.{Command}

-- the unfinished record of an id

abbrev pub unfinished_snapshot : List SnapshotRecord → Id → Option SnapshotRecord
unfinished_snapshot rs id = find (λ r. same r.id id && not r.complete) rs

abbrev pub unfinished_restoration : List RestorationRecord → Id → Option RestorationRecord
unfinished_restoration rs id = find (λ r. same r.id id && not (is_restored r.state)) rs

abbrev pub unfinished_clone : List CloneRecord → Id → Option CloneRecord
unfinished_clone rs id = find (λ r. same r.id id && not (is_cloned r.state)) rs

-- the tablet of the slot that the unfinished record of an id lists without ack, with what it is to do
abbrev pub pending_of : Kind → List SnapshotRecord → List RestorationRecord → List CloneRecord → Id → ℕ → Option Listed
pending_of Snapshot snapshots restorations clones operation slot =
    option_and_then (λ r. unacked_at r.listed slot) (unfinished_snapshot snapshots operation)
pending_of Restoration snapshots restorations clones operation slot =
    option_and_then (λ r. unacked_at r.listed slot) (unfinished_restoration restorations operation)
pending_of Clone snapshots restorations clones operation slot =
    option_and_then (λ r. unacked_at r.listed slot) (unfinished_clone clones operation)
pending_of Namespace snapshots restorations clones operation slot = None
pending_of Table snapshots restorations clones operation slot = None
pending_of Tablet snapshots restorations clones operation slot = None
pending_of Schedule snapshots restorations clones operation slot = None

abbrev pub pending_in : List SnapshotRecord → List RestorationRecord → List CloneRecord → Id → ℕ → Option Listed
pending_in snapshots restorations clones operation slot =
    pending_of operation.kind snapshots restorations clones operation slot

abbrev pub pending : Master → Id → ℕ → Option Listed
pending m operation slot = pending_in m.snapshots m.restorations m.clones operation slot

-- the command of a listed tablet
abbrev pub command_for : Id → Listed → Command
command_for operation l = record { operation = operation; tablet = l.tablet; body = l.body }

abbrev pub sending : Option Listed → Id → ℕ → Outcome
sending None operation slot = refused (NotPending operation)
sending (Some l) operation slot =
    record {
      master = Sends operation slot;
      tablets = record { slot = slot; act = Offer (command_for operation l) } ∷ [];
      reply = SentTo;
    }

-- the pending command goes into the tablet's inbox, and the master marks it as sent
unfoldable pub send : Id → ℕ → ℕ → Parts → Outcome
send operation slot n ps = sending (pending ps.master operation slot) operation slot

-- the slot of the tablet whose frozen rows a command takes: of a copy its source, else the tablet's own
abbrev pub source_slot : ℕ → Body → ℕ
source_slot slot (Copy source snapshot to stamp table low high version) = source
source_slot slot Fence = slot
source_slot slot (Freeze snapshot at) = slot
source_slot slot (RestoreFrom snapshot to point version) = slot
source_slot slot (Hide ended) = slot
source_slot slot (Release cutoff) = slot

-- the rows that a copy takes from its source
abbrev pub rows_for : Body → List FrozenSet → List KeyedRow
rows_for (Copy source snapshot to stamp table low high version) frozen = rows_of_set (set_of frozen snapshot) to
rows_for Fence frozen = []
rows_for (Freeze snapshot at) frozen = []
rows_for (RestoreFrom snapshot to point version) frozen = []
rows_for (Hide ended) frozen = []
rows_for (Release cutoff) frozen = []

abbrev pub processing : List Command → ℕ → ℕ → TabletPart → Outcome
processing [] slot other source = refused Idle
processing (c ∷ cs) slot other source = judged
    (If (not (other == source_slot slot c.body)) (OtherSlot (source_slot slot c.body)) ∷ [])
    (record {
      master = Ticks;
      tablets = record { slot = slot; act = tell.Process (rows_for c.body source.frozen) } ∷ [];
      reply = Done c.operation (kind_of c.body);
    })

-- the tablet does the first command of its inbox; the other slot is that of the rows' source
unfoldable pub process : ℕ → ℕ → ℕ → Parts → Outcome
process slot other n ps = processing (ps.tablet slot).inbox slot other (ps.tablet other)

abbrev pub acknowledging : Option Listed → Id → ℕ → TabletPart → Outcome
acknowledging None operation slot t = refused (NotPending operation)
acknowledging (Some l) operation slot t =
    if is_done t.done operation (kind_of l.body)
    then record { master = Acks operation slot; tablets = []; reply = Acked }
    else record { master = Unsends operation slot; tablets = []; reply = Refused NotDone }

-- the master notes that the tablet did its command; where it didn't, the sent mark goes, so it is sent again
unfoldable pub ack : Id → ℕ → ℕ → Parts → Outcome
ack operation slot n ps = acknowledging (pending ps.master operation slot) operation slot (ps.tablet slot)

-- what the master is told gets its meaning: each effect sets the clock to the stamp, besides what it says

abbrev pub sent_to : Id → ℕ → ℕ → Master → Master
sent_to operation slot n m = record m {
  clock = n;
  sent = if is_sent m.sent operation slot then m.sent else m.sent ++ record { operation = operation; slot = slot } ∷ [];
}

abbrev pub unsent_by : Id → ℕ → ℕ → Master → Master
unsent_by operation slot n m = record m { clock = n; sent = unsent_at operation slot m.sent }

-- the operation's record notes the ack of the slot's tablet

abbrev pub acked_snapshot : Id → ℕ → List SnapshotRecord → List SnapshotRecord
acked_snapshot id slot rs =
    map {A = SnapshotRecord} (λ r. record r {
      listed = if same r.id id then acked_at slot r.listed else r.listed;
    }) rs

abbrev pub acked_restoration : Id → ℕ → List RestorationRecord → List RestorationRecord
acked_restoration id slot rs =
    map {A = RestorationRecord} (λ r. record r {
      listed = if same r.id id then acked_at slot r.listed else r.listed;
    }) rs

abbrev pub acked_clone : Id → ℕ → List CloneRecord → List CloneRecord
acked_clone id slot rs =
    map {A = CloneRecord} (λ r. record r {
      listed = if same r.id id then acked_at slot r.listed else r.listed;
    }) rs

abbrev pub acked_by : Kind → Id → ℕ → ℕ → Master → Master
acked_by Snapshot operation slot n m =
    record m { clock = n; snapshots = acked_snapshot operation slot m.snapshots }
acked_by Restoration operation slot n m =
    record m { clock = n; restorations = acked_restoration operation slot m.restorations }
acked_by Clone operation slot n m =
    record m { clock = n; clones = acked_clone operation slot m.clones }
acked_by Namespace operation slot n m = record m { clock = n }
acked_by Table operation slot n m = record m { clock = n }
acked_by Tablet operation slot n m = record m { clock = n }
acked_by Schedule operation slot n m = record m { clock = n }

abbrev pub acked : Id → ℕ → ℕ → Master → Master
acked operation slot n m = acked_by operation.kind operation slot n m

-- a restart of the master loses the sent marks and nothing else
abbrev pub restarted_master : ℕ → Master → Master
restarted_master n m = record m { clock = n; sent = [] }
