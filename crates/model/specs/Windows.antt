-- How restores by a schedule and clones are answered: each refusal exactly where its cause holds and no earlier one
-- does, with its values. What a journal doesn't have is the master's: schedules, unfinished operations, free slots.
use Rattle.std.specs.Prelude.{◌≡◌, ◌≢◌, ℕ, ◌≤◌, ◌<◌, ◌+◌, true, false, not, ◌&&◌, ◌⊎◌, List, [], ◌∷◌, Option, Some, None, is_some, length, filter}
use Rattle.model.specs.Cluster.{Id, same, In, AllOf, Interval, active_at, Schedule, CloneRecord, is_visible, schedule_with, UnknownNamespace, UnknownSchedule, NameTaken, NoSchedule, TooMany, SlotsFull, TooEarly, Future, Busy, Reply, Ok, Refused, Master}
use Rattle.model.specs.Schedules.{low, least_low, IsInWindow}
use Rattle.model.specs.Operations.{user}
use Rattle.model.specs.Looks.{free_slots}
use Rattle.model.specs.Changed.{clone_time}
use Rattle.model.specs.Changes.{most_namespaces}
use Rattle.model.specs.Journal.{Change, is_in, namespace_at, table_at}
use Rattle.model.specs.Right.{NamespaceFound}

-- Restores

-- the schedule is known, and no operation uses its namespace
pub record MayRestore (m : Master) (schedule : Id) : Type 0 where
  pub by : Schedule
  pub known : schedule_with m.schedules schedule ≡ Some by
  pub unused : user m by.namespace ≡ None

-- how a restore by a schedule to a time is answered under its plan
pub data RestoreAnswer (schedule : Id) (to now : ℕ) (m : Master) : Reply → Type 0 where
  RestoreUnknown : (missing : schedule_with m.schedules schedule ≡ None)
      → RestoreAnswer schedule to now m (Refused UnknownSchedule)
  RestoreBusy : (operation : Id) (by : Schedule) (known : schedule_with m.schedules schedule ≡ Some by)
      (used : user m by.namespace ≡ Some operation) → RestoreAnswer schedule to now m (Refused (Busy operation))
  RestoreEarly : (low_end : ℕ) (may : MayRestore m schedule) (low_is : low_end ≡ low may.by now)
      (below : to < low may.by now)
      → RestoreAnswer schedule to now m (Refused (TooEarly low_end))
  RestoreLate : (end : ℕ) (may : MayRestore m schedule) (end_is : end ≡ now) (reached : low may.by now ≤ to)
      (beyond : now ≤ to)
      → RestoreAnswer schedule to now m (Refused (Future end))
  RestoreAccepted : (made : Id) (may : MayRestore m schedule) (inside : IsInWindow (low may.by now) now to)
      → RestoreAnswer schedule to now m (Ok (made ∷ []))

-- Clones

-- an unfinished clone is to make a namespace of this name
pub record IsReserved (clones : List CloneRecord) (name : List ℕ) (id : Id) : Type 0 where
  pub clone : CloneRecord
  pub listed : In clone clones
  pub id_is : clone.id ≡ id
  pub named : clone.target ≡ name
  pub unseen : is_visible clone.state ≡ false

-- a namespace of the view, or such a clone, has the name
abbrev pub HasName : List Change → ℕ → List CloneRecord → List ℕ → Id → Type 0
HasName changes now clones name id = (namespace_at changes now id ≡ Some name) ⊎ IsReserved clones name id

abbrev pub EachOnce : List Id → Type 0
EachOnce [] = Unit {0}
EachOnce (id ∷ ids) = AllOf (λ later. same id later ≡ false) ids × EachOnce ids

-- the namespaces of the view at x, each once
pub record AreNamespaces (changes : List Change) (x : ℕ) (ids : List Id) : Type 0 where
  pub once : EachOnce ids
  pub each : AllOf (λ id. is_some (namespace_at changes x id) ≡ true) ids
  pub all : (id : Id) → is_some (namespace_at changes x id) ≡ true → In id ids

-- so many namespaces are current, or are to be made by a clone
pub record AreSoMany (changes : List Change) (now : ℕ) (clones : List CloneRecord) (count : ℕ) : Type 0 where
  pub current : List Id
  pub are : AreNamespaces changes now current
  pub count_is : count ≡ length current + length (filter (λ c. not (is_visible c.state)) clones)

-- how many tablets of the namespace were active at a time
abbrev pub count_active : List Change → List Interval → Id → ℕ → ℕ
count_active changes activity ns to =
    length (filter (λ i. active_at to i && is_in ns (table_at changes to i.table)) activity)

-- a clone of a source under a target's name, to a time or without one to just before its stamp, and what it goes by
pub record CloneLook : Type 0 where
  pub source : List ℕ
  pub target : List ℕ
  pub at : Option ℕ
  pub now : ℕ
  pub changes : List Change
  pub activity : List Interval
  pub master : Master

-- the source is current
abbrev pub HasSource : CloneLook → Type 0
HasSource q = NamespaceFound q.changes q.now q.source

-- no operation uses the source, and it has a schedule: the window begins at the least low end
pub record MayTakeFrom (q : CloneLook) : Type 0 where
  pub source : HasSource q
  pub unused : user q.master source.id ≡ None
  pub least : ℕ
  pub scheduled : least_low q.master.schedules source.id q.now ≡ Some least

-- besides, the target's name is free, and there may be one more namespace
pub record MayClone (q : CloneLook) : Type 0 where
  pub from : MayTakeFrom q
  pub free : (id : Id) → HasName q.changes q.now q.master.clones q.target id → ⊥
  pub count : ℕ
  pub counted : AreSoMany q.changes q.now q.master.clones count
  pub room : count ≢ most_namespaces

-- how many slots a clone needs: one for each tablet of the source that was active at its time
abbrev pub slots_needed : (q : CloneLook) → HasSource q → ℕ
slots_needed q source = count_active q.changes q.activity source.id (clone_time q.at q.now)

-- how a clone is answered under its plan
pub data CloneAnswer (q : CloneLook) : Reply → Type 0 where
  CloneUnknown : (missing : HasSource q → ⊥) → CloneAnswer q (Refused UnknownNamespace)
  CloneBusy : (operation : Id) (source : HasSource q) (used : user q.master source.id ≡ Some operation)
      → CloneAnswer q (Refused (Busy operation))
  CloneUnscheduled : (namespace : Id) (source : HasSource q) (unused : user q.master source.id ≡ None)
      (none : least_low q.master.schedules source.id q.now ≡ None) (namespace_is : namespace ≡ source.id)
      → CloneAnswer q (Refused (NoSchedule namespace))
  CloneNamed : (taken_by : Id) (from : MayTakeFrom q) (has : HasName q.changes q.now q.master.clones q.target taken_by)
      → CloneAnswer q (Refused (NameTaken taken_by))
  CloneTooMany : (limit : ℕ) (from : MayTakeFrom q)
      (free : (id : Id) → HasName q.changes q.now q.master.clones q.target id → ⊥)
      (full : AreSoMany q.changes q.now q.master.clones limit) (limit_is : limit ≡ most_namespaces)
      → CloneAnswer q (Refused (TooMany limit))
  CloneEarly : (low_end : ℕ) (may : MayClone q) (low_is : low_end ≡ may.from.least)
      (below : clone_time q.at q.now < may.from.least)
      → CloneAnswer q (Refused (TooEarly low_end))
  CloneLate : (end : ℕ) (may : MayClone q) (end_is : end ≡ q.now) (reached : may.from.least ≤ clone_time q.at q.now)
      (beyond : q.now ≤ clone_time q.at q.now) → CloneAnswer q (Refused (Future end))
  CloneFull : (free needed : ℕ) (may : MayClone q) (inside : IsInWindow may.from.least q.now (clone_time q.at q.now))
      (free_is : free ≡ length (free_slots q.master)) (needed_is : needed ≡ slots_needed q may.from.source)
      (less : free < needed)
      → CloneAnswer q (Refused (SlotsFull free needed))
  CloneAccepted : (made : Id) (may : MayClone q) (inside : IsInWindow may.from.least q.now (clone_time q.at q.now))
      (fits : slots_needed q may.from.source ≤ length (free_slots q.master)) → CloneAnswer q (Ok (made ∷ []))
