-- What retention rests on, besides what holds after each entry anyway: how far back each tablet goes, and how the times
-- of snapshots follow each other.
use Rattle.std.specs.Prelude.{◌≡◌, ℕ, ◌≤◌, ◌<◌, true, false, List, Option, Some, None, ◌+◌, max}
use Rattle.row_values.specs.Elements.{In}
use Rattle.row_values.specs.Ids.{Id}
use Rattle.model.specs.Activity.{Interval, active_at, last_of}
use Rattle.model.specs.Parts.{Master, Parts}
use Rattle.model.specs.Records.{RestorationRecord, RestorationState, Fencing, Snapshotting, Switching, Restoring, Releasing, Restored, ScheduledNamespace, SnapshotRecord}
use Rattle.model.specs.Retained.{IsTabletOf, TimesRise, before_next, last_time}
use Rattle.model.specs.Schedules.{after_of, complete_to}
use Rattle.model.specs.Tablets.{FrozenSet, Tablet, is_empty}

-- how far back a tablet goes
pub record GoesBack (m : Master) (t : Tablet) : Type 0 where
  -- its live store: past the last complete snapshot by one at most, or to the start of the tablet's last activity
  pub live : (k : ScheduledNamespace) (i : Interval) → In k m.scheduled → last_of m.activity t.tablet ≡ Some i
      → IsTabletOf m k.namespace i → t.cutoff ≤ max (complete_to k + 1) i.from
  pub now : t.cutoff ≤ m.clock
  -- a frozen set: to each time after the snapshot before at which the tablet was active
  pub sets : (f : FrozenSet) (r : SnapshotRecord) (i : Interval) (x : ℕ) → In f t.frozen → In r m.snapshots
      → r.id ≡ f.snapshot → In i m.activity → i.tablet ≡ t.tablet → active_at x i ≡ true
      → r.after < x → x ≤ r.at → f.cutoff ≤ x

-- after the last complete snapshot a tablet is active in its last interval alone
abbrev pub LastSince : Master → Type 0
LastSince m = (k : ScheduledNamespace) (i j : Interval) (x : ℕ) → In k m.scheduled → In i m.activity
    → IsTabletOf m k.namespace i → active_at x i ≡ true → last_of m.activity i.tablet ≡ Some j → complete_to k < x → j.from ≤ x

-- of a tablet's intervals none begins after the last
abbrev pub LastIsLatest : Master → Type 0
LastIsLatest m = (i j : Interval) → In i m.activity → last_of m.activity i.tablet ≡ Some j → i.from ≤ j.from

-- how the times of a namespace's snapshots follow each other
pub record TimesFollow (m : Master) (k : ScheduledNamespace) : Type 0 where
  pub complete : (r : SnapshotRecord) → In r m.snapshots → r.namespace ≡ k.namespace → r.complete ≡ true
      → r.at ≤ complete_to k
  -- an unfinished one is the next after the last complete one
  pub unfinished : (r : SnapshotRecord) → In r m.snapshots → r.namespace ≡ k.namespace → r.complete ≡ false
      → r.after ≡ complete_to k
  -- where none is unfinished, the last one is complete
  pub last : ((r : SnapshotRecord) → In r m.snapshots → r.namespace ≡ k.namespace → r.complete ≡ false → ⊥)
      → after_of k ≡ complete_to k

-- the point of a restoration whose own snapshot is complete, until its rows are taken back
abbrev pub own_point : RestorationState → Option ℕ
own_point (Switching point serving) = Some point
own_point (Restoring point serving) = Some point
own_point Fencing = None
own_point (Snapshotting point own) = None
own_point (Releasing point serving) = None
own_point (Restored point serving) = None

-- its own snapshot is the one just before the point
abbrev pub OwnComplete : Master → Type 0
OwnComplete m = (r : RestorationRecord) (k : ScheduledNamespace) (point : ℕ) → In r m.restorations
    → own_point r.state ≡ Some point → In k m.scheduled → k.namespace ≡ r.namespace → point ≤ complete_to k + 1

pub record Facts (ps : Parts) : Type 0 where
  pub tablets : (slot : ℕ) → is_empty (ps.tablet slot).presence ≡ false → GoesBack ps.master (ps.tablet slot)
  pub last_since : LastSince ps.master
  pub latest : LastIsLatest ps.master
  pub times : (k : ScheduledNamespace) → In k ps.master.scheduled → TimesFollow ps.master k
  pub own : OwnComplete ps.master

-- All snapshots that were ever taken

-- what holds of all snapshots that were ever taken, and of the stamps since which namespaces have schedules
pub record IsTaken (taken : List SnapshotRecord) (since : Id → ℕ) (m : Master) : Type 0 where
  pub past : (r : SnapshotRecord) → In r taken → r.at ≤ m.clock
  pub since_is : (s : ScheduledNamespace) → In s m.scheduled → s.since ≡ since s.namespace
  -- for a namespace that is yet to be scheduled
  pub rise : (ns : Id) (since : ℕ) → m.clock < since → TimesRise taken ns since 0
  pub each : (s : ScheduledNamespace) → In s m.scheduled → TimesRise taken s.namespace s.since 0
  -- the last one is the one before the next
  pub last : (s : ScheduledNamespace) → In s m.scheduled → before_next s.since (last_time taken s.namespace 0) ≡ after_of s
