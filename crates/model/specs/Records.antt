-- The master's records of snapshots, restorations and clones, and of schedules. Each record lists the tablets that are
-- yet to do a command of its state.
use Rattle.std.specs.Prelude.{ℕ, Bool, true, false, List, [], ◌∷◌, Option, Some, None, ◌==◌, ◌&&◌, ◌||◌, not, map, filter, find, option_map}
use Rattle.model.specs.Words.{list_any, Id, same}
use Rattle.model.specs.Tablets.{Body}

pub record Listed : Type 0 where
  pub tablet : Id
  pub slot : ℕ
  pub body : Body
  pub acked : Bool

-- periods in minutes; the stamp at which it was made, and the one from which its window may begin; the time of the last
-- snapshot whose record names it, which stays when that record is removed
pub record Schedule : Type 0 where
  pub id : Id
  pub namespace : Id
  pub interval : ℕ
  pub retention : ℕ
  pub made : ℕ
  pub kept_low : ℕ
  pub last : Option ℕ

-- a namespace that has schedules: the stamp since which it has one, and the times of its last snapshot that was made
-- since then and of its last complete one, which stay when the snapshots' records are removed
pub record ScheduledNamespace : Type 0 where
  pub namespace : Id
  pub since : ℕ
  pub last : Option ℕ
  pub complete : Option ℕ

-- a snapshot of a namespace at a time, by a schedule, and the time of the namespace's one before it
pub record SnapshotRecord : Type 0 where
  pub id : Id
  pub complete : Bool
  pub listed : List Listed
  pub schedule : Id
  pub namespace : Id
  pub after : ℕ
  pub at : ℕ

-- a restoration knows its point and its own snapshot from there on; from the switch's state on the one that serves
pub data RestorationState : Type 0 where
  Fencing : RestorationState
  Snapshotting : (point : ℕ) (own : Id) → RestorationState
  Switching : (point : ℕ) (serving : Id) → RestorationState
  Restoring : (point : ℕ) (serving : Id) → RestorationState
  Releasing : (point : ℕ) (serving : Id) → RestorationState
  Restored : (point : ℕ) (serving : Id) → RestorationState

pub record RestorationRecord : Type 0 where
  pub id : Id
  pub schedule : Id
  pub namespace : Id
  pub to : ℕ
  pub listed : List Listed
  pub state : RestorationState

pub data CloneState : Type 0 where
  Accepted : CloneState
  CloneSnapshot : (own : Id) → CloneState
  Copying : (serving : Id) (copied_at : ℕ) → CloneState
  CloneReleasing : (serving : Id) (copied_at : ℕ) → CloneState
  CloneComplete : (serving : Id) (copied_at : ℕ) → CloneState

-- a source's table, with the one that stands for it in the clone
pub record IdPair : Type 0 where
  pub source : Id
  pub target : Id

-- a source's tablet with the target that takes its rows, for the target's table
pub record TabletPair : Type 0 where
  pub source : Id
  pub source_slot : ℕ
  pub target : Id
  pub slot : ℕ
  pub table : Id
  pub low : ℕ
  pub high : ℕ

pub record CloneRecord : Type 0 where
  pub id : Id
  pub source : Id
  pub source_name : List ℕ
  pub target : List ℕ
  pub target_id : Id
  pub tables : List IdPair
  pub tablets : List TabletPair
  pub to : ℕ
  pub listed : List Listed
  pub state : CloneState

-- a command of an operation was sent to the tablet of a slot
pub record Sent : Type 0 where
  pub operation : Id
  pub slot : ℕ

-- the states as they are printed
pub data State : Type 0 where
  IsCreating : State
  IsComplete : State
  IsFencing : State
  IsSnapshot : State
  IsSwitching : State
  IsRestoring : State
  IsReleasing : State
  IsRestored : State
  IsAccepted : State
  IsCopying : State

abbrev pub snapshot_state : Bool → State
snapshot_state false = IsCreating
snapshot_state true = IsComplete

abbrev pub restoration_state : RestorationState → State
restoration_state Fencing = IsFencing
restoration_state (Snapshotting point own) = IsSnapshot
restoration_state (Switching point serving) = IsSwitching
restoration_state (Restoring point serving) = IsRestoring
restoration_state (Releasing point serving) = IsReleasing
restoration_state (Restored point serving) = IsRestored

abbrev pub clone_state : CloneState → State
clone_state Accepted = IsAccepted
clone_state (CloneSnapshot own) = IsSnapshot
clone_state (Copying serving copied_at) = IsCopying
clone_state (CloneReleasing serving copied_at) = IsReleasing
clone_state (CloneComplete serving copied_at) = IsComplete

-- whether an operation has a snapshot made for it there
abbrev pub is_snapshotting : State → Bool
is_snapshotting IsSnapshot = true
is_snapshotting IsCreating = false
is_snapshotting IsComplete = false
is_snapshotting IsFencing = false
is_snapshotting IsSwitching = false
is_snapshotting IsRestoring = false
is_snapshotting IsReleasing = false
is_snapshotting IsRestored = false
is_snapshotting IsAccepted = false
is_snapshotting IsCopying = false

abbrev pub point_of : RestorationState → Option ℕ
point_of Fencing = None
point_of (Snapshotting point own) = Some point
point_of (Switching point serving) = Some point
point_of (Restoring point serving) = Some point
point_of (Releasing point serving) = Some point
point_of (Restored point serving) = Some point

-- the snapshot that a restoration names: its own, and later the one that serves its time
abbrev pub named_by_restoration : RestorationState → Option Id
named_by_restoration Fencing = None
named_by_restoration (Snapshotting point own) = Some own
named_by_restoration (Switching point serving) = Some serving
named_by_restoration (Restoring point serving) = Some serving
named_by_restoration (Releasing point serving) = Some serving
named_by_restoration (Restored point serving) = Some serving

abbrev pub named_by_clone : CloneState → Option Id
named_by_clone Accepted = None
named_by_clone (CloneSnapshot own) = Some own
named_by_clone (Copying serving copied_at) = Some serving
named_by_clone (CloneReleasing serving copied_at) = Some serving
named_by_clone (CloneComplete serving copied_at) = Some serving

abbrev pub is_restored : RestorationState → Bool
is_restored (Restored point serving) = true
is_restored Fencing = false
is_restored (Snapshotting point own) = false
is_restored (Switching point serving) = false
is_restored (Restoring point serving) = false
is_restored (Releasing point serving) = false

abbrev pub is_cloned : CloneState → Bool
is_cloned (CloneComplete serving copied_at) = true
is_cloned Accepted = false
is_cloned (CloneSnapshot own) = false
is_cloned (Copying serving copied_at) = false
is_cloned (CloneReleasing serving copied_at) = false

-- whether a clone's target is current: from the move into its release on
abbrev pub is_visible : CloneState → Bool
is_visible Accepted = false
is_visible (CloneSnapshot own) = false
is_visible (Copying serving copied_at) = false
is_visible (CloneReleasing serving copied_at) = true
is_visible (CloneComplete serving copied_at) = true

-- the listed tablets without ack
abbrev pub unacked : List Listed → List Listed
unacked ls = filter (λ l. not l.acked) ls

abbrev pub first_listed : List Listed → Option Listed
first_listed [] = None
first_listed (l ∷ ls) = Some l

-- the first listed tablet without ack
abbrev pub first_unacked : List Listed → Option Listed
first_unacked ls = first_listed (unacked ls)

-- the listed tablet of a slot without ack
abbrev pub unacked_at : List Listed → ℕ → Option Listed
unacked_at ls slot = find (λ l. (l.slot == slot) && not l.acked) ls

-- the tablet of the slot is acked
abbrev pub acked_at : ℕ → List Listed → List Listed
acked_at slot ls = map {A = Listed} (λ l. record l { acked = l.acked || (l.slot == slot) }) ls

abbrev pub lists_tablet : Id → List Listed → Bool
lists_tablet tablet ls = list_any (λ l. same l.tablet tablet) ls

abbrev pub is_sent : List Sent → Id → ℕ → Bool
is_sent sent operation slot = list_any (λ s. same s.operation operation && (s.slot == slot)) sent

-- without the marks of an operation, or of one of its slots
abbrev pub unsent : Id → List Sent → List Sent
unsent operation sent = filter (λ s. not (same s.operation operation)) sent

abbrev pub unsent_at : Id → ℕ → List Sent → List Sent
unsent_at operation slot sent = filter (λ s. not (same s.operation operation && (s.slot == slot))) sent

abbrev pub schedule_with : List Schedule → Id → Option Schedule
schedule_with ss id = find (λ s. same s.id id) ss

-- the schedule of a namespace that has the least number: schedules stand in the order of their numbers
abbrev pub schedule_of : List Schedule → Id → Option Schedule
schedule_of ss ns = find (λ s. same s.namespace ns) ss

abbrev pub scheduled_in : List ScheduledNamespace → Id → Option ScheduledNamespace
scheduled_in ks ns = find (λ k. same k.namespace ns) ks

abbrev pub snapshot_with : List SnapshotRecord → Id → Option SnapshotRecord
snapshot_with rs id = find (λ r. same r.id id) rs

-- the unfinished snapshot of a namespace
abbrev pub unfinished : List SnapshotRecord → Id → Option SnapshotRecord
unfinished rs ns = find (λ r. same r.namespace ns && not r.complete) rs

abbrev pub unfinished_of : List SnapshotRecord → Id → Option Id
unfinished_of rs ns = option_map (λ r. r.id) (unfinished rs ns)
