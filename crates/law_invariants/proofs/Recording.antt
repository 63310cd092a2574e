-- The master's records of schedules, snapshots and restorations change while its catalog, its activity and its clones stay: what holds
-- of the others goes on to hold, and what is asked of the new ones and of those that moved is said here.
use Rattle.std.proofs.Common.{ℕ, ◌≡◌, ◌≤◌, ◌<◌, ◌+◌, List, Some, None, true, false, refl, ◌⊎◌}
use Rattle.model.specs.Cluster.{Kind, Snapshot, RestorationKind as Restoration, Id, In, Interval, owner_of, Mark, is_empty, Listed, Schedule, SnapshotRecord, RestorationRecord, Fencing, CloneRecord, Sent, is_restored, is_cloned, is_visible, point_of, ScheduledNamespace, Master, Drawn, Parts}
use Rattle.model.specs.Journal.{Change}
use Rattle.model.specs.Schedules.{complete_to}
use Rattle.model.specs.Stands.{awaited_in, awaited_of}
use Rattle.model.specs.Cleanup.{floor_of}
use Rattle.model.specs.Drawn.{drawn_of}
use Rattle.model.specs.Coordination.{pending}
use Rattle.law_invariants.specs.Operations.{is_switched, IsSwitchedBy, IsSent, AfterRowsOf, IsKnown, ScheduleGood, SnapshotGood, RestorationGood, OperationsApart, ScheduledGood}
use Rattle.law_invariants.specs.Orders.{IsFence, RestorationSlot, stage_of_restoration}

-- the records, with the clock and the drawn numbers
pub record Records : Type 0 where
  pub clock : ℕ
  pub schedules : List Schedule
  pub scheduled : List ScheduledNamespace
  pub snapshots : List SnapshotRecord
  pub restorations : List RestorationRecord
  pub sent : List Sent
  pub drawn : Drawn

abbrev pub recorded : Master → Records → Master
recorded m w = record m { clock = w.clock; schedules = w.schedules; scheduled = w.scheduled; snapshots = w.snapshots; restorations = w.restorations; sent = w.sent; drawn = w.drawn }

-- Schedules

-- a schedule was there, of its namespace
pub record WasSchedule (m : Master) (s : Schedule) : Type 0 where
  pub was : Schedule
  pub kept : In was m.schedules
  pub namespace_is : s.namespace ≡ was.namespace

-- or it is new, and its namespace is none that a clone is yet to make current
pub record NewSchedule (m : Master) (s : Schedule) : Type 0 where
  pub unmade : (c : CloneRecord) → In c m.clones → is_visible c.state ≡ false → c.target_id ≡ s.namespace → ⊥

-- no operation that is unfinished has the schedule's namespace
pub record IsUnused (m : Master) (s : Schedule) : Type 0 where
  pub restoration : (r : RestorationRecord) → In r m.restorations → is_restored r.state ≡ false → s.namespace ≡ r.namespace → ⊥
  pub clone : (c : CloneRecord) → In c m.clones → is_cloned c.state ≡ false → s.namespace ≡ c.source → ⊥

-- a schedule stays, under its id and of its namespace
abbrev pub Stays : List Schedule → Schedule → Type 0
Stays ss s = (k : Schedule) × (In k ss × ((k.id ≡ s.id) × (k.namespace ≡ s.namespace)))

-- a namespace stays scheduled, since the same stamp
abbrev pub StaysScheduled : List ScheduledNamespace → ScheduledNamespace → Type 0
StaysScheduled ks k = (j : ScheduledNamespace) × (In j ks × ((j.namespace ≡ k.namespace) × (j.since ≡ k.since)))

-- Snapshots

-- a snapshot goes on, and may become complete
pub record SnapshotOn (q r : SnapshotRecord) : Type 0 where
  pub id_is : r.id ≡ q.id
  pub namespace_is : r.namespace ≡ q.namespace
  pub after_is : r.after ≡ q.after
  pub at_is : r.at ≡ q.at
  pub complete : q.complete ≡ true → r.complete ≡ true
  pub lines : (l : Listed) → In l q.listed → (k : Listed) × (In k r.listed × (k.tablet ≡ l.tablet))

pub same_on : (q : SnapshotRecord) → SnapshotOn q q
same_on q = record { id_is = refl; namespace_is = refl; after_is = refl; at_is = refl; complete = λ e. e; lines = λ l isin. (l, (isin, refl)) }

-- a new one lists tablets that the master knows, and its namespace is not that of a restoration that has a point
pub record NewSnapshot (m : Master) (r : SnapshotRecord) : Type 0 where
  pub kind_is : r.id.kind ≡ Snapshot
  pub drawn : m.drawn.snapshots < r.id.number
  pub unfinished : r.complete ≡ false
  pub known : (l : Listed) → In l r.listed → IsKnown m l
  pub unacked : (l : Listed) → In l r.listed → l.acked ≡ false
  pub apart : (k : RestorationRecord) (point : ℕ) → In k m.restorations → is_restored k.state ≡ false → point_of k.state ≡ Some point → r.namespace ≡ k.namespace → ⊥

-- one became complete: all that it lists were acked
pub record Completed (m : Master) (r : SnapshotRecord) : Type 0 where
  pub was : SnapshotRecord
  pub kept : In was m.snapshots
  pub on : SnapshotOn was r
  pub now : r.complete ≡ true
  pub acked : (l : Listed) → In l was.listed → l.acked ≡ true
  pub lines : (l : Listed) → In l r.listed → (k : Listed) × (In k was.listed × ((k.tablet ≡ l.tablet) × (k.slot ≡ l.slot)))

pub record SnapshotCame (m : Master) (w : Records) (r : SnapshotRecord) : Type 0 where
  pub how : NewSnapshot m r ⊎ Completed m r
  pub good : SnapshotGood (recorded m w) r

-- Restorations

pub record NewRestoration (m : Master) (r : RestorationRecord) : Type 0 where
  pub kind_is : r.id.kind ≡ Restoration
  pub drawn : m.drawn.restorations < r.id.number
  pub fencing : r.state ≡ Fencing
  pub unacked : (l : Listed) → In l r.listed → l.acked ≡ false

-- one moved: all that it listed were acked
pub record MovedRestoration (m : Master) (changes : List Change) (r : RestorationRecord) : Type 0 where
  pub was : RestorationRecord
  pub kept : In was m.restorations
  pub id_is : r.id ≡ was.id
  pub to_is : r.to ≡ was.to
  pub acked : (l : Listed) → In l was.listed → l.acked ≡ true
  pub unfinished : is_restored was.state ≡ false
  pub stage : stage_of_restoration was.state ≤ stage_of_restoration r.state
  pub point : (at : ℕ) → point_of r.state ≡ Some at → (point_of was.state ≡ Some at) ⊎ (stage_of_restoration was.state ≡ 1)
  pub moving : r.state ≡ Fencing → ⊥
  pub undone : (point : ℕ) → point_of r.state ≡ Some point → AfterRowsOf m.catalog.owners r.namespace point changes

pub record RestorationCame (ps : Parts) (changes : List Change) (w : Records) (r : RestorationRecord) : Type 0 where
  pub how : NewRestoration ps.master r ⊎ MovedRestoration ps.master changes r
  pub known : (l : Listed) → In l r.listed → IsKnown ps.master l
  pub listed_of : (l : Listed) (i : Interval) → In l r.listed → In i ps.master.activity → i.tablet ≡ l.tablet → owner_of ps.master.catalog.owners i.table ≡ Some r.namespace
  pub unawaited : (tablet : Id) (done : List Mark) → awaited_of r.state r tablet done ≡ None
  pub good : RestorationGood (recorded ps.master w) changes r
  pub slots : (slot : ℕ) → RestorationSlot r.state (recorded ps.master w) changes r slot (ps.tablet slot)

-- What the new records are to what was there
pub record Onto (ps : Parts) (changes : List Change) (w : Records) : Type 0 where
  pub clock : ps.master.clock ≤ w.clock
  pub drawn : (kind : Kind) → drawn_of kind ps.master.drawn ≤ drawn_of kind w.drawn
  pub floors : (ns : Id) → floor_of ps.master ns ps.master.clock ≤ floor_of (recorded ps.master w) ns w.clock
  pub apart : OperationsApart w.schedules w.scheduled w.snapshots w.restorations ps.master.clones
  pub complete : (k : ScheduledNamespace) → In k w.scheduled → complete_to k + 1 ≤ w.clock
  pub schedule : (s : Schedule) → In s w.schedules → ScheduleGood (recorded ps.master w) s
  pub scheduled : (k : ScheduledNamespace) → In k w.scheduled → ScheduledGood (recorded ps.master w) k
  pub schedule_came : (s : Schedule) → In s w.schedules → WasSchedule ps.master s ⊎ NewSchedule ps.master s
  pub schedule_kept : (s : Schedule) → In s ps.master.schedules → Stays w.schedules s ⊎ IsUnused ps.master s
  -- the last complete snapshot of a namespace is before the point of an unfinished restoration
  pub points : (r : RestorationRecord) (point : ℕ) (k : ScheduledNamespace) → In r ps.master.restorations → is_restored r.state ≡ false → point_of r.state ≡ Some point → In k w.scheduled → k.namespace ≡ r.namespace → complete_to k + 1 ≤ point
  -- an unfinished snapshot stays the last one of its namespace
  pub last : (q : SnapshotRecord) → In q ps.master.snapshots → In q w.snapshots → q.complete ≡ false → (k : ScheduledNamespace) → In k ps.master.scheduled → k.namespace ≡ q.namespace → k.last ≡ Some q.at
      → (j : ScheduledNamespace) × (In j w.scheduled × ((j.namespace ≡ q.namespace) × (j.last ≡ Some q.at)))
  pub sent : (mark : Sent) → In mark w.sent → IsSent w.snapshots w.restorations ps.master.clones mark
  pub snapshot_came : (q : SnapshotRecord) → In q w.snapshots → In q ps.master.snapshots ⊎ SnapshotCame ps.master w q
  pub snapshot_kept : (q : SnapshotRecord) → In q ps.master.snapshots → (r : SnapshotRecord) × (In r w.snapshots × SnapshotOn q r)
  pub restoration_came : (r : RestorationRecord) → In r w.restorations → In r ps.master.restorations ⊎ RestorationCame ps changes w r
  -- a restore of the journal is that of a restoration that has switched, and points of a namespace differ
  pub restored : (ns : Id) (point : ℕ) → is_switched changes ns point ≡ true → IsSwitchedBy w.restorations ns point
  pub one_point : (q r : RestorationRecord) (point : ℕ) → In q w.restorations → In r w.restorations → q.namespace ≡ r.namespace → point_of q.state ≡ Some point → point_of r.state ≡ Some point → q ≡ r
  pub awaits : (slot : ℕ) → is_empty (ps.tablet slot).presence ≡ false
      → awaited_in w.restorations (ps.tablet slot).tablet (ps.tablet slot).done ≡ awaited_in ps.master.restorations (ps.tablet slot).tablet (ps.tablet slot).done
  pub fences : (slot : ℕ) (operation : Id) → IsFence ps.master slot (ps.tablet slot).table (ps.tablet slot).done operation → IsFence (recorded ps.master w) slot (ps.tablet slot).table (ps.tablet slot).done operation
  pub pendings : (operation : Id) (slot : ℕ) (l : Listed) → pending ps.master operation slot ≡ Some l → pending (recorded ps.master w) operation slot ≡ Some l
  -- what is pending is of an operation that was drawn, and of none that moves
  pub given : (operation : Id) (slot : ℕ) (l : Listed) → pending ps.master operation slot ≡ Some l → operation.number ≤ drawn_of operation.kind ps.master.drawn
  pub unmoved : (operation : Id) (slot : ℕ) (l : Listed) (r : RestorationRecord) → pending ps.master operation slot ≡ Some l → (v : MovedRestoration ps.master changes r) → v.was.id ≡ operation → ⊥
