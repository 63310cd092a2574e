-- What retention keeps: nothing that a retained time needs is removed: version, frozen set, tablet or catalog record.
use Rattle.std.specs.Prelude.{nat_lt, ◌-◌, ◌<◌, ◌≡◌, ℕ, ◌≤◌, true, false, List, [], ◌∷◌, Option, Some, None, ◌+◌, max, nat_le, unwrap_or, if◌then◌else◌, is_some, option_map}
use Rattle.model.specs.Cluster.{option_map_or, Id, same, In, Version, owns, kept_from, Interval, active_at, last_of, Tablet, FrozenSet, Body, Fence, Freeze, RestoreFrom, Hide, Copy, Release, set_of, is_empty, Schedule, ScheduledNamespace, schedule_of, scheduled_in, Listed, SnapshotRecord, RestorationRecord, CloneRecord, TabletPair, is_restored, is_cloned, lists_tablet, unfinished, Master, Parts}
use Rattle.model.specs.Schedules.{low, after_of, complete_to, serving}
use Rattle.model.specs.Cleanup.{floor_of}
use Rattle.model.specs.Coordination.{source_slot}
use Rattle.model.specs.Tablets.{Command}

-- a tablet is present: its slot's part holds it, and the master knows it there
pub record IsPresent (ps : Parts) (slot : ℕ) (tablet : Id) : Type 0 where
  pub held : is_empty (ps.tablet slot).presence ≡ false
  pub tablet_is : (ps.tablet slot).tablet ≡ tablet
  pub known : (i : Interval) × (In i ps.master.activity × ((i.slot ≡ slot) × (i.tablet ≡ tablet)))

-- a store from which a tablet's rows are had, and how far back it goes
pub record Source : Type 0 where
  pub versions : List Version
  pub cutoff : ℕ

abbrev pub live : Tablet → Source
live t = record { versions = t.versions; cutoff = t.cutoff }

abbrev pub from_set : FrozenSet → Source
from_set set = record { versions = set.versions; cutoff = set.cutoff }

-- where no complete snapshot serves the time: the frozen set of the unfinished one that will, or before that set is
-- made the live store; and the live store where none will
abbrev pub not_yet_served : Option SnapshotRecord → Tablet → ℕ → Source
not_yet_served None t to = live t
not_yet_served (Some r) t to =
    if nat_le to r.at then unwrap_or (option_map from_set (set_of t.frozen r.id)) (live t) else live t

-- the store from which a tablet's rows at a time are had, by the snapshot that serves it and the unfinished one
abbrev pub source_at : Option SnapshotRecord → Option SnapshotRecord → Tablet → ℕ → Option Source
source_at (Some r) left t to = option_map from_set (set_of t.frozen r.id)
source_at None left t to = Some (not_yet_served left t to)

abbrev pub source_for : Parts → Id → ℕ → ℕ → Option Source
source_for ps ns slot to =
    source_at (serving ps.master.snapshots ns to) (unfinished ps.master.snapshots ns) (ps.tablet slot) to

-- there is such a store, and it goes back to the time
abbrev pub ReachesBack : Option Source → ℕ → Type 0
ReachesBack None to = ⊥
ReachesBack (Some source) to = source.cutoff ≤ to

-- the rows that a command takes of a frozen set are there: the set is, and goes back to the time that it asks for
abbrev pub FindsRows : Body → List FrozenSet → Type 0
FindsRows (RestoreFrom snapshot to point version) frozen = ReachesBack (option_map from_set (set_of frozen snapshot)) to
FindsRows (Copy source snapshot to stamp table low high version) frozen =
    ReachesBack (option_map from_set (set_of frozen snapshot)) to
FindsRows Fence frozen = Unit {0}
FindsRows (Freeze snapshot at) frozen = Unit {0}
FindsRows (Hide ended) frozen = Unit {0}
FindsRows (Release cutoff) frozen = Unit {0}

-- each command in an inbox finds its rows
abbrev pub RowsFound : Parts → Type 0
RowsFound ps = (slot : ℕ) (c : Command) → In c (ps.tablet slot).inbox
    → FindsRows c.body (ps.tablet (source_slot slot c.body)).frozen

-- an unfinished snapshot that will serve the time lists the tablet
abbrev pub WillServe : Option SnapshotRecord → Option SnapshotRecord → Id → ℕ → Type 0
WillServe None (Some r) tablet to = to ≤ r.at → lists_tablet tablet r.listed ≡ true
WillServe None None tablet to = Unit {0}
WillServe (Some r) left tablet to = Unit {0}

-- the time of the snapshot before the next one among those that were made since a stamp, the last of all being of this
-- time; just before the stamp for the first
abbrev pub before_next : ℕ → ℕ → ℕ
before_next since last = if nat_lt last since then since - 1 else last

-- all snapshots of a namespace that were ever taken, behind one of a time: times rise, and each that was made since the
-- stamp names the time of the one before it
abbrev pub TimesRise : List SnapshotRecord → Id → ℕ → ℕ → Type 0
TimesRise [] ns since last = Unit {0}
TimesRise (r ∷ rs) ns since last =
    (same r.namespace ns ≡ true → (last < r.at) × (since ≤ r.at → r.after ≡ before_next since last))
    × TimesRise rs ns since (if same r.namespace ns then r.at else last)

-- the time of the last of a namespace's snapshots, behind one of a time
abbrev pub last_time : List SnapshotRecord → Id → ℕ → ℕ
last_time [] ns last = last
last_time (r ∷ rs) ns last = last_time rs ns (if same r.namespace ns then r.at else last)

-- at most one snapshot of the namespace is unfinished
abbrev pub OneUnfinished : List SnapshotRecord → Id → Type 0
OneUnfinished [] ns = Unit {0}
OneUnfinished (r ∷ rs) ns =
    (same r.namespace ns ≡ true → r.complete ≡ false → unfinished rs ns ≡ None) × OneUnfinished rs ns

-- the floor of a namespace at this moment
abbrev pub floor_now : Master → Id → ℕ
floor_now m ns = floor_of m ns m.clock

-- the interval is of a tablet of the namespace
abbrev pub IsTabletOf : Master → Id → Interval → Type 0
IsTabletOf m ns i = owns m.catalog.owners ns i.table ≡ true

-- what is kept for a namespace with a schedule. `activity` has the intervals of all tablets that ever were, `taken` the
-- records of all snapshots, as they were made, and `since` the stamp since which it has a schedule
pub record RetainedFor (ps : Parts) (activity : List Interval) (taken : List SnapshotRecord) (since : ℕ)
    (k : ScheduledNamespace) : Type 0 where
  -- each tablet that was active from the floor on is present, and that activity is known
  pub active_present : (i : Interval) (x : ℕ) → In i activity → IsTabletOf ps.master k.namespace i
      → floor_now ps.master k.namespace ≤ x → active_at x i ≡ true
      → In i ps.master.activity × IsPresent ps i.slot i.tablet
  -- its rows at each time from the floor on can be had
  pub reaches : (i : Interval) (to : ℕ) → In i activity → IsTabletOf ps.master k.namespace i
      → floor_now ps.master k.namespace ≤ to → to ≤ ps.master.clock → active_at to i ≡ true
      → ReachesBack (source_for ps k.namespace i.slot to) to
      × WillServe
      (serving ps.master.snapshots k.namespace to)
      (unfinished ps.master.snapshots k.namespace)
      i.tablet
      to
  -- a cutoff goes at most just past what is complete, or to the start of its tablet's last activity
  pub cutoffs : (slot : ℕ) (i : Interval) → is_empty (ps.tablet slot).presence ≡ false
      → last_of ps.master.activity (ps.tablet slot).tablet ≡ Some i → IsTabletOf ps.master k.namespace i
      → (ps.tablet slot).cutoff ≤ max (complete_to k + 1) i.from
  pub times : TimesRise taken k.namespace k.since 0
  -- the time before the next snapshot is that of the last one
  pub last : after_of k ≡ before_next k.since (last_time taken k.namespace 0)
  -- that of the last complete one is that of the one before the unfinished one, or of the last one where none is
  -- unfinished, and no kept one that is complete is later
  pub complete : complete_to k
      ≡ option_map_or (λ r. r.after) (unfinished ps.master.snapshots k.namespace) (after_of k)
  pub none_later : (r : SnapshotRecord) → In r ps.master.snapshots → r.namespace ≡ k.namespace → r.complete ≡ true
      → r.at ≤ complete_to k
  pub unfinished_one : OneUnfinished ps.master.snapshots k.namespace
  pub since_is : k.since ≡ since
  -- the windows of its schedules begin since then
  pub windows : (s : Schedule) → In s ps.master.schedules → s.namespace ≡ k.namespace → k.since ≤ low s ps.master.clock
  -- the catalog is kept from the floor on
  pub catalog : kept_from ps.master.catalog.kept_from k.namespace ≤ floor_now ps.master k.namespace

-- a record in progress finds its tablets
pub record ListedPresent (ps : Parts) : Type 0 where
  pub snapshots : (r : SnapshotRecord) (l : Listed) → In r ps.master.snapshots → r.complete ≡ false
      → In l r.listed → IsPresent ps l.slot l.tablet
  pub restorations : (r : RestorationRecord) (l : Listed) → In r ps.master.restorations → is_restored r.state ≡ false
      → In l r.listed → IsPresent ps l.slot l.tablet
  pub clones : (c : CloneRecord) (p : TabletPair) → In c ps.master.clones → is_cloned c.state ≡ false
      → In p c.tablets → IsPresent ps p.source_slot p.source

-- what retention keeps at each moment
pub record Retained (ps : Parts) (activity : List Interval) (taken : List SnapshotRecord)
    (since : Id → ℕ) : Type 0 where
  pub scheduled : (k : ScheduledNamespace) → In k ps.master.scheduled
      → RetainedFor ps activity taken (since k.namespace) k
  -- these are the namespaces that have schedules
  pub have_schedules : (ns : Id)
      → is_some (scheduled_in ps.master.scheduled ns) ≡ is_some (schedule_of ps.master.schedules ns)
  pub listed : ListedPresent ps
  -- also without a schedule no cutoff, and no mark of the catalog, passes the master's clock
  pub cutoffs : (slot : ℕ) → is_empty (ps.tablet slot).presence ≡ false → (ps.tablet slot).cutoff ≤ ps.master.clock
  pub catalog : (ns : Id) → kept_from ps.master.catalog.kept_from ns ≤ ps.master.clock
