-- When each record entered its states, read off a history: a snapshot, a restoration and a clone enters each of its
-- states once, in order, and a tablet that was given a command has a clock above the stamp at which the record entered
-- the state that gives it.
use Rattle.std.specs.Prelude.{◌≡◌, ℕ, ◌<◌, ◌+◌, Bool, true, false, List, [], ◌∷◌, ◌++◌, Option, Some, None, ◌⊎◌, map, filter}
use Rattle.model.specs.Cluster.{Id, same, In, Kind, Snapshot, Restoration, Clone, Release, BodyKind, FenceKind, FreezeKind, RestoreFromKind, HideKind, CopyKind, ReleaseKind, Listed, SnapshotRecord, RestorationRecord, RestorationState, Fencing, Snapshotting, Switching, Restoring, Releasing, Restored, CloneRecord, CloneState, Accepted, CloneSnapshot, Copying, CloneReleasing, CloneComplete, State, IsCreating, IsComplete, IsFencing, IsSnapshot, IsSwitching, IsRestoring, IsReleasing, IsRestored, IsAccepted, IsCopying, point_of, Act, Reply, Parts, deed_of, Commands, Advances, Obeys, NoDeed}
use Rattle.model.specs.Entries.{Entry}
use Rattle.model.specs.History.{replay}
use Rattle.model.specs.Drawn.{entered_by, new_ids}
use Rattle.model.specs.Stands.{was_given, copied_at}

-- the record of an operation entered a state at a stamp
pub record Entering : Type 0 where
  pub operation : Id
  pub state : State
  pub at : ℕ

abbrev pub all_enter : State → ℕ → List Id → List Entering
all_enter state n ids = map (λ id. record { operation = id; state = state; at = n }) ids

-- new records enter their first states
abbrev pub begun_with : (Kind → List Id) → ℕ → List Entering
begun_with made n =
    all_enter IsCreating n (made Snapshot) ++ all_enter IsFencing n (made Restoration)
    ++ all_enter IsAccepted n (made Clone)

abbrev pub moved_by : Act → Reply → ℕ → List Entering
moved_by act reply n = elim (deed_of act) [
  | Advances operation ↦
      map {A = State} (λ state. record { operation = operation; state = state; at = n }) (entered_by reply)
  | Commands command ↦ []
  | Obeys slot ↦ []
  | NoDeed ↦ []
]

-- which records entered which states, the newest first
unfoldable pub entered : ℕ → List Entry → List Entering
entered slots [] = []
entered slots (e ∷ earlier) =
    moved_by e.event.act e.reply e.stamp
    ++ begun_with (new_ids (replay slots earlier).master (replay slots (e ∷ earlier)).master) e.stamp
    ++ entered slots earlier

-- the states that a record entered, the newest first
abbrev pub states_of : Id → List Entering → List State
states_of operation es = map {A = Entering} (λ e. e.state) (filter (λ e. same e.operation operation) es)

abbrev pub states_of_snapshot : Bool → List State
states_of_snapshot false = IsCreating ∷ []
states_of_snapshot true = IsComplete ∷ IsCreating ∷ []

abbrev pub states_to : RestorationState → List State
states_to Fencing = IsFencing ∷ []
states_to (Snapshotting point own) = IsSnapshot ∷ IsFencing ∷ []
states_to (Switching point serving) = IsSwitching ∷ IsSnapshot ∷ IsFencing ∷ []
states_to (Restoring point serving) = IsRestoring ∷ IsSwitching ∷ IsSnapshot ∷ IsFencing ∷ []
states_to (Releasing point serving) = IsReleasing ∷ IsRestoring ∷ IsSwitching ∷ IsSnapshot ∷ IsFencing ∷ []
states_to (Restored point serving) = IsRestored ∷ IsReleasing ∷ IsRestoring ∷ IsSwitching ∷ IsSnapshot ∷ IsFencing ∷ []

-- a clone has a snapshot made only where none served its time; `before` are the states that it entered before it copied
abbrev pub clone_states_to : CloneState → List State → List State
clone_states_to Accepted before = IsAccepted ∷ []
clone_states_to (CloneSnapshot own) before = IsSnapshot ∷ IsAccepted ∷ []
clone_states_to (Copying serving copied_at) before = IsCopying ∷ before
clone_states_to (CloneReleasing serving copied_at) before = IsReleasing ∷ IsCopying ∷ before
clone_states_to (CloneComplete serving copied_at) before = IsComplete ∷ IsReleasing ∷ IsCopying ∷ before

-- each record entered the states up to its own, each once and in order
pub record EntersOnce (ps : Parts) (es : List Entering) : Type 0 where
  pub snapshots : (r : SnapshotRecord) → In r ps.master.snapshots → states_of r.id es ≡ states_of_snapshot r.complete
  pub restorations : (r : RestorationRecord) → In r ps.master.restorations → states_of r.id es ≡ states_to r.state
  pub clones : (c : CloneRecord) → In c ps.master.clones
      → (states_of c.id es ≡ clone_states_to c.state (IsAccepted ∷ []))
      ⊎ (states_of c.id es ≡ clone_states_to c.state (IsSnapshot ∷ IsAccepted ∷ []))

-- a point is one more than the stamp at which the restoration made its own snapshot
abbrev pub IsAfterOwn : List Entering → Id → Option ℕ → Type 0
IsAfterOwn es operation None = Unit {0}
IsAfterOwn es operation (Some point) =
    (at : ℕ) × (In (record { operation = operation; state = IsSnapshot; at = at }) es × (point ≡ at + 1))

-- the stamps that records keep are those at which they entered a state: a snapshot's time, the stamp just before a
-- restoration's point, the stamp of a clone's copies, and the one at which its target became current
pub record EntersAt (ps : Parts) (es : List Entering) : Type 0 where
  pub taken : (r : SnapshotRecord) → In r ps.master.snapshots
      → In (record { operation = r.id; state = IsCreating; at = r.at }) es
  pub points : (r : RestorationRecord) → In r ps.master.restorations → IsAfterOwn es r.id (point_of r.state)
  pub copied : (c : CloneRecord) (at : ℕ) → In c ps.master.clones → copied_at c.state ≡ Some at
      → In (record { operation = c.id; state = IsCopying; at = at }) es
  pub released : (c : CloneRecord) (l : Listed) (cutoff : ℕ) → In c ps.master.clones → In l c.listed
      → l.body ≡ Release cutoff → In (record { operation = c.id; state = IsReleasing; at = cutoff }) es

-- the state of a record in which its tablets get a command of a kind
abbrev pub state_giving : BodyKind → State
state_giving FenceKind = IsFencing
state_giving FreezeKind = IsCreating
state_giving RestoreFromKind = IsRestoring
state_giving HideKind = IsRestoring
state_giving CopyKind = IsCopying
state_giving ReleaseKind = IsReleasing

-- the record entered the state that gives a command of this kind, at a stamp below the clock
pub record EnteredBefore (es : List Entering) (operation : Id) (kind : BodyKind) (clock : ℕ) : Type 0 where
  pub at : ℕ
  pub was_entered : In (record { operation = operation; state = state_giving kind; at = at }) es
  pub below : at < clock

-- a tablet that was given a command, or did it, has a clock above the stamp when its record entered the state for it
abbrev pub ClocksAfter : Parts → List Entering → Type 0
ClocksAfter ps es = (slot : ℕ) (operation : Id) (kind : BodyKind) → was_given (ps.tablet slot) operation kind ≡ true
    → EnteredBefore es operation kind (ps.tablet slot).clock
