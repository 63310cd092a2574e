-- What holds of a slot and the operations that have its tablet do something: of its fence, of the commands in its inbox
-- and of its marks, and of what the tablet did of what a record's state lists.
use Rattle.std.specs.Prelude.{◌≡◌, ℕ, ◌≤◌, ◌<◌, true, false, List, [], Some, None, ◌⊎◌, ◌||◌}
use Rattle.row_values.specs.declared.value.RowOp.{RowOp}
use Rattle.row_values.specs.Ids.{Id}
use Rattle.row_values.specs.Elements.{In}
use Rattle.model.specs.Catalog.{Owner, owner_of}
use Rattle.model.specs.Activity.{Interval}
use Rattle.model.specs.Journal.{Change, RowChanged}
use Rattle.model.specs.Tablets.{Tablet, HiddenPart, Release, BodyKind, FenceKind, FreezeKind, RestoreFromKind, HideKind, CopyKind, ReleaseKind, kind_of, Command, Mark, FrozenSet, is_empty, is_serving, is_done}
use Rattle.model.specs.Records.{Listed, SnapshotRecord, RestorationRecord, RestorationState, Fencing, Snapshotting, Switching, Restoring, Releasing, Restored, TabletPair, CloneRecord, CloneState, Accepted, CloneSnapshot, Copying, CloneReleasing, CloneComplete, point_of}
use Rattle.model.specs.Coordination.{pending_in}
use Rattle.model.specs.Stands.{is_restore, is_after_switch, copied_at, NoneTwice, HoldsFrozen, AreRowsAt, before_restore}
pub use Rattle.model.specs.Stands.{IsCopy, IsHomeIn, IsTargetIn}
use Rattle.model.specs.Drawn.{drawn_of}
use Rattle.model.specs.Parts.{Master, Drawn}
use Rattle.law_invariants.specs.Operations.{IsOpenIn}

-- the records of operations that have a tablet do something
pub record Operations : Type 0 where
  pub snapshots : List SnapshotRecord
  pub restorations : List RestorationRecord
  pub clones : List CloneRecord

abbrev pub operations : Master → Operations
operations m = record { snapshots = m.snapshots; restorations = m.restorations; clones = m.clones }

-- what a slot's facts read of the master: its tablets, the owners of their tables, the drawn numbers, and the
-- operations
pub record Directory : Type 0 where
  pub activity : List Interval
  pub owners : List Owner
  pub drawn : Drawn
  pub given : Operations

abbrev pub directory : Master → Directory
directory m = record { activity = m.activity; owners = m.catalog.owners; drawn = m.drawn; given = operations m }

-- Fences

-- a slot has an open interval of the namespace
abbrev pub HasOpen : List Interval → List Owner → Id → ℕ → Type 0
HasOpen activity owners ns slot = (i : Interval) × (IsOpenIn activity owners ns i × (i.slot ≡ slot))

-- where the tablet is that a restoration's fence is on: it is active, until the switch; then it is listed, and not yet
-- released
abbrev pub FencePlaceIn : RestorationState → RestorationRecord → List Interval → List Owner → ℕ → List Mark → Type 0
FencePlaceIn Fencing r activity owners slot done = HasOpen activity owners r.namespace slot
FencePlaceIn (Snapshotting point own) r activity owners slot done = HasOpen activity owners r.namespace slot
FencePlaceIn (Switching point serving) r activity owners slot done = HasOpen activity owners r.namespace slot
FencePlaceIn (Restoring point serving) r activity owners slot done =
    (l : Listed) × (In l r.listed × ((l.slot ≡ slot)
    × ((is_restore l.body ≡ true) ⊎ (is_done done r.id HideKind ≡ false))))
FencePlaceIn (Releasing point serving) r activity owners slot done =
    (l : Listed) × (In l r.listed × ((l.slot ≡ slot) × (is_done done r.id ReleaseKind ≡ false)))
FencePlaceIn (Restored point serving) r activity owners slot done = ⊥

abbrev pub FencePlace : RestorationState → RestorationRecord → Master → ℕ → List Mark → Type 0
FencePlace state r m slot done = FencePlaceIn state r m.activity m.catalog.owners slot done

-- and a clone's: it is a target that has copied its rows, and is not yet released
abbrev pub ClonePlace : CloneState → CloneRecord → ℕ → List Mark → Type 0
ClonePlace Accepted c slot done = ⊥
ClonePlace (CloneSnapshot own) c slot done = ⊥
ClonePlace (Copying serving at) c slot done = (l : Listed) × (In l c.listed × (l.slot ≡ slot))
ClonePlace (CloneReleasing serving at) c slot done =
    (l : Listed) × (In l c.listed × ((l.slot ≡ slot) × (is_done done c.id ReleaseKind ≡ false)))
ClonePlace (CloneComplete serving at) c slot done = ⊥

pub record ByRestorationIn (restorations : List RestorationRecord) (activity : List Interval) (owners : List Owner)
    (slot : ℕ) (table : Id) (done : List Mark) (operation : Id) : Type 0 where
  pub restoration : RestorationRecord
  pub kept : In restoration restorations
  pub id_is : restoration.id ≡ operation
  pub owned : owner_of owners table ≡ Some restoration.namespace
  pub place : FencePlaceIn restoration.state restoration activity owners slot done

abbrev pub ByRestoration : Master → ℕ → Id → List Mark → Id → Type 0
ByRestoration m slot table done operation =
    ByRestorationIn m.restorations m.activity m.catalog.owners slot table done operation

pub record ByCloneIn (clones : List CloneRecord) (owners : List Owner) (slot : ℕ) (table : Id) (done : List Mark)
    (operation : Id) : Type 0 where
  pub clone : CloneRecord
  pub kept : In clone clones
  pub id_is : clone.id ≡ operation
  pub owned : owner_of owners table ≡ Some clone.target_id
  pub place : ClonePlace clone.state clone slot done

abbrev pub ByClone : Master → ℕ → Id → List Mark → Id → Type 0
ByClone m slot table done operation = ByCloneIn m.clones m.catalog.owners slot table done operation

-- a fence is that of an unfinished operation that holds the tablet's namespace, or made the tablet
abbrev pub IsFenceIn : Directory → ℕ → Id → List Mark → Id → Type 0
IsFenceIn d slot table done operation =
    ByRestorationIn d.given.restorations d.activity d.owners slot table done operation
    ⊎ ByCloneIn d.given.clones d.owners slot table done operation

abbrev pub IsFence : Master → ℕ → Id → List Mark → Id → Type 0
IsFence m slot table done operation = IsFenceIn (directory m) slot table done operation

-- Commands and marks

-- a clock is above the stamp at which an operation's record entered the state that gives a command of a kind: so it is
-- above a snapshot's time, the time that a restoration goes to, its point from the switch on, the stamp of a clone's
-- copies, and that at which its target became current
pub record IsAfterIn (given : Operations) (clock : ℕ) (operation : Id) (kind : BodyKind) : Type 0 where
  pub snapshot : (r : SnapshotRecord) → In r given.snapshots → r.id ≡ operation → r.at < clock
  pub restoration : (r : RestorationRecord) → In r given.restorations → r.id ≡ operation → r.to < clock
  pub point : (r : RestorationRecord) (at : ℕ) → In r given.restorations → r.id ≡ operation → point_of r.state ≡ Some at
      → is_after_switch kind ≡ true → at < clock
  pub copied : (c : CloneRecord) (at : ℕ) → In c given.clones → c.id ≡ operation → copied_at c.state ≡ Some at
      → at < clock
  pub released : (c : CloneRecord) (l : Listed) (at : ℕ) → In c given.clones → c.id ≡ operation → In l c.listed
      → l.body ≡ Release at → kind ≡ ReleaseKind → at < clock

abbrev pub IsAfter : Master → ℕ → Id → BodyKind → Type 0
IsAfter m clock operation kind = IsAfterIn (operations m) clock operation kind

-- the unfinished record of its operation lists the tablet without ack, with the command's body
pub record IsOrderIn (given : Operations) (slot clock : ℕ) (c : Command) : Type 0 where
  pub is_pending : pending_in given.snapshots given.restorations given.clones c.operation slot
      ≡ Some (record { tablet = c.tablet; slot = slot; body = c.body; acked = false })
  pub after : IsAfterIn given clock c.operation (kind_of c.body)

abbrev pub IsOrder : Master → ℕ → ℕ → Command → Type 0
IsOrder m slot clock c = IsOrderIn (operations m) slot clock c

-- in which of its states an operation gives a command of a kind: a restoration fences, brings back or hides, and
-- releases
abbrev pub restoring_stage : BodyKind → ℕ
restoring_stage FenceKind = 1
restoring_stage RestoreFromKind = 2
restoring_stage HideKind = 2
restoring_stage ReleaseKind = 3
restoring_stage FreezeKind = 4
restoring_stage CopyKind = 4

abbrev pub stage_of_restoration : RestorationState → ℕ
stage_of_restoration Fencing = 1
stage_of_restoration (Snapshotting point own) = 1
stage_of_restoration (Switching point serving) = 1
stage_of_restoration (Restoring point serving) = 2
stage_of_restoration (Releasing point serving) = 3
stage_of_restoration (Restored point serving) = 3

abbrev pub cloning_stage : BodyKind → ℕ
cloning_stage CopyKind = 1
cloning_stage ReleaseKind = 2
cloning_stage FenceKind = 3
cloning_stage RestoreFromKind = 3
cloning_stage HideKind = 3
cloning_stage FreezeKind = 3

abbrev pub stage_of_clone : CloneState → ℕ
stage_of_clone Accepted = 0
stage_of_clone (CloneSnapshot own) = 0
stage_of_clone (Copying serving at) = 1
stage_of_clone (CloneReleasing serving at) = 2
stage_of_clone (CloneComplete serving at) = 2

-- what was done was given: so before the switch no tablet has taken back its rows
pub record IsMarkIn (numbers : Drawn) (given : Operations) (clock : ℕ) (mark : Mark) : Type 0 where
  pub drawn : mark.operation.number ≤ drawn_of mark.operation.kind numbers
  pub after : IsAfterIn given clock mark.operation mark.kind
  pub by_snapshot : (r : SnapshotRecord) → In r given.snapshots → r.id ≡ mark.operation → mark.kind ≡ FreezeKind
  pub by_restoration : (r : RestorationRecord) → In r given.restorations → r.id ≡ mark.operation
      → restoring_stage mark.kind ≤ stage_of_restoration r.state
  pub by_clone : (c : CloneRecord) → In c given.clones → c.id ≡ mark.operation
      → cloning_stage mark.kind ≤ stage_of_clone c.state

abbrev pub IsMark : Master → ℕ → Mark → Type 0
IsMark m clock mark = IsMarkIn m.drawn (operations m) clock mark

-- a part without a tablet has nothing of one
pub record IsBare (t : Tablet) : Type 0 where
  pub frozen : t.frozen ≡ []
  pub fence : t.fence ≡ None
  pub done : t.done ≡ []

-- a frozen set is that of a kept snapshot that lists the tablet
pub record IsSetOf (snapshots : List SnapshotRecord) (tablet : Id) (f : FrozenSet) : Type 0 where
  pub snapshot : SnapshotRecord
  pub kept : In snapshot snapshots
  pub id_is : snapshot.id ≡ f.snapshot
  pub at_is : snapshot.at ≡ f.at
  pub line : Listed
  pub listed : In line snapshot.listed
  pub tablet_is : line.tablet ≡ tablet

pub record OrdersIn (d : Directory) (slot : ℕ) (t : Tablet) : Type 0 where
  pub fences : (operation : Id) → t.fence ≡ Some operation → IsFenceIn d slot t.table t.done operation
  pub orders : (c : Command) → In c t.inbox → IsOrderIn d.given slot t.clock c
  pub once : NoneTwice t.inbox
  pub fresh : (c : Command) → In c t.inbox → is_done t.done c.operation (kind_of c.body) ≡ false
  pub marks : (mark : Mark) → In mark t.done → IsMarkIn d.drawn d.given t.clock mark
  -- a tablet that did a kept snapshot's command holds its frozen set, and it has no other
  pub holds : (r : SnapshotRecord) → In r d.given.snapshots → is_done t.done r.id FreezeKind ≡ true
      → HoldsFrozen r.id r.at t
  pub frozen : (f : FrozenSet) → In f t.frozen → is_done t.done f.snapshot FreezeKind ≡ true
  pub sets : (f : FrozenSet) → In f t.frozen → IsSetOf d.given.snapshots t.tablet f
  pub bare : is_empty t.presence ≡ true → IsBare t

abbrev pub OrdersGood : Master → ℕ → Tablet → Type 0
OrdersGood m slot t = OrdersIn (directory m) slot t

-- What a slot's tablet did

pub record FencingSlot (r : RestorationRecord) (slot : ℕ) (t : Tablet) : Type 0 where
  pub acked : (l : Listed) → In l r.listed → l.slot ≡ slot → l.acked ≡ true → is_done t.done r.id FenceKind ≡ true
  pub fenced : is_done t.done r.id FenceKind ≡ true → t.fence ≡ Some r.id

-- each active tablet of the namespace is fenced
pub record FencedIn (activity : List Interval) (owners : List Owner) (r : RestorationRecord) (slot : ℕ) (t : Tablet)
    : Type 0 where
  pub fenced : (i : Interval) → IsOpenIn activity owners r.namespace i → i.slot ≡ slot → t.fence ≡ Some r.id

abbrev pub FencedSlot : Master → RestorationRecord → ℕ → Tablet → Type 0
FencedSlot m r slot t = FencedIn m.activity m.catalog.owners r slot t

-- before the switch, when all froze for the restoration's own snapshot, each has a clock from the point on
pub record SwitchingIn (activity : List Interval) (owners : List Owner) (r : RestorationRecord) (point slot : ℕ)
    (t : Tablet) : Type 0 where
  pub fenced : (i : Interval) → IsOpenIn activity owners r.namespace i → i.slot ≡ slot → t.fence ≡ Some r.id
  pub past : (i : Interval) → IsOpenIn activity owners r.namespace i → i.slot ≡ slot → point ≤ t.clock

abbrev pub SwitchingSlot : Master → RestorationRecord → ℕ → ℕ → Tablet → Type 0
SwitchingSlot m r point slot t = SwitchingIn m.activity m.catalog.owners r point slot t

-- a tablet that took back its rows has those of the view before the switch at the time to which its namespace is taken
-- back
pub record IsRestored (changes : List Change) (r : RestorationRecord) (point : ℕ) (t : Tablet) : Type 0 where
  pub serves : is_serving t.presence ≡ true
  pub cutoff_is : t.cutoff ≡ point
  pub rows : AreRowsAt t.versions t.low t.high point (before_restore changes r.namespace point changes) r.to t.table

-- a listed tablet goes on fenced until it is hidden
pub record RestoringSlot (changes : List Change) (r : RestorationRecord) (point : ℕ) (l : Listed)
    (t : Tablet) : Type 0 where
  pub acked : l.acked ≡ true → is_done t.done r.id (kind_of l.body) ≡ true
  pub fenced : is_serving t.presence ≡ true → t.fence ≡ Some r.id
  pub restored : is_restore l.body ≡ true → is_done t.done r.id RestoreFromKind ≡ true → IsRestored changes r point t
  pub hidden : is_restore l.body ≡ false → is_done t.done r.id HideKind ≡ true
      → (t.presence ≡ HiddenPart point) × (t.fence ≡ None)

-- a listed tablet serves, and is fenced until it is released
pub record ReleasingSlot (operation : Id) (l : Listed) (t : Tablet) : Type 0 where
  pub acked : l.acked ≡ true → is_done t.done operation ReleaseKind ≡ true
  pub serves : is_serving t.presence ≡ true
  pub released : is_done t.done operation ReleaseKind ≡ true → t.fence ≡ None
  pub fenced : is_done t.done operation ReleaseKind ≡ false → t.fence ≡ Some operation

abbrev pub RestorationSlotIn : RestorationState → List Interval → List Owner → List Change → RestorationRecord → ℕ
    → Tablet
    → Type 0
RestorationSlotIn Fencing activity owners changes r slot t = FencingSlot r slot t
RestorationSlotIn (Snapshotting point own) activity owners changes r slot t = FencedIn activity owners r slot t
RestorationSlotIn (Switching point serving) activity owners changes r slot t =
    SwitchingIn activity owners r point slot t
RestorationSlotIn (Restoring point serving) activity owners changes r slot t =
    (l : Listed) → In l r.listed → l.slot ≡ slot → RestoringSlot changes r point l t
RestorationSlotIn (Releasing point serving) activity owners changes r slot t =
    (l : Listed) → In l r.listed → l.slot ≡ slot → ReleasingSlot r.id l t
RestorationSlotIn (Restored point serving) activity owners changes r slot t = Unit {0}

abbrev pub RestorationSlot : RestorationState → Master → List Change → RestorationRecord → ℕ → Tablet → Type 0
RestorationSlot state m changes r slot t = RestorationSlotIn state m.activity m.catalog.owners changes r slot t

pub record CopyingIn (owners : List Owner) (changes : List Change) (c : CloneRecord) (at slot : ℕ)
    (t : Tablet) : Type 0 where
  pub acked : (l : Listed) → In l c.listed → l.slot ≡ slot → l.acked ≡ true → is_done t.done c.id CopyKind ≡ true
  pub empty : (p : TabletPair) → In p c.tablets → p.slot ≡ slot → is_done t.done c.id CopyKind ≡ false
      → is_empty t.presence ≡ true
  pub copied : (p : TabletPair) → In p c.tablets → p.slot ≡ slot → is_done t.done c.id CopyKind ≡ true
      → IsCopy changes c at p t
  -- a tablet of the source that takes writes stamps only later ones than those that are copied
  pub later : is_serving t.presence ≡ true → t.fence ≡ None → owner_of owners t.table ≡ Some c.source → c.to ≤ t.clock

abbrev pub CopyingSlot : Master → List Change → CloneRecord → ℕ → ℕ → Tablet → Type 0
CopyingSlot m changes c at slot t = CopyingIn m.catalog.owners changes c at slot t

-- the slots of the targets are empty
pub record ReservedSlot (c : CloneRecord) (slot : ℕ) (t : Tablet) : Type 0 where
  pub empty : (p : TabletPair) → In p c.tablets → p.slot ≡ slot → is_empty t.presence ≡ true

abbrev pub CloneSlotIn : CloneState → List Owner → List Change → CloneRecord → ℕ → Tablet → Type 0
CloneSlotIn Accepted owners changes c slot t = ReservedSlot c slot t
CloneSlotIn (CloneSnapshot own) owners changes c slot t = ReservedSlot c slot t
CloneSlotIn (Copying serving at) owners changes c slot t = CopyingIn owners changes c at slot t
CloneSlotIn (CloneReleasing serving at) owners changes c slot t =
    (l : Listed) → In l c.listed → l.slot ≡ slot → ReleasingSlot c.id l t
CloneSlotIn (CloneComplete serving at) owners changes c slot t = Unit {0}

abbrev pub CloneSlot : CloneState → Master → List Change → CloneRecord → ℕ → Tablet → Type 0
CloneSlot state m changes c slot t = CloneSlotIn state m.catalog.owners changes c slot t

-- the master knows the tablet in a slot, or it is the target of a clone that copies
abbrev pub IsHome : Master → ℕ → Id → Type 0
IsHome m slot tablet = IsHomeIn m.activity slot tablet

abbrev pub IsTarget : Master → ℕ → Id → Type 0
IsTarget m slot tablet = IsTargetIn m.clones slot tablet

pub record ObeyedIn (d : Directory) (changes : List Change) (slot : ℕ) (t : Tablet) : Type 0 where
  pub drawn_table : t.table.number ≤ d.drawn.tables
  pub home : is_empty t.presence ≡ false → IsHomeIn d.activity slot t.tablet ⊎ IsTargetIn d.given.clones slot t.tablet
  pub snapshots : (r : SnapshotRecord) (l : Listed) → In r d.given.snapshots → In l r.listed → l.slot ≡ slot
      → (r.complete || l.acked) ≡ true → t.tablet ≡ l.tablet → is_empty t.presence ≡ false
      → is_done t.done r.id FreezeKind ≡ true
  pub restorations : (r : RestorationRecord) → In r d.given.restorations
      → RestorationSlotIn r.state d.activity d.owners changes r slot t
  pub clones : (c : CloneRecord) → In c d.given.clones → CloneSlotIn c.state d.owners changes c slot t

abbrev pub ObeyedGood : Master → List Change → ℕ → Tablet → Type 0
ObeyedGood m changes slot t = ObeyedIn (directory m) changes slot t

-- Rows that the master has not heard of

-- the tablet of a row's change is active, and has not told a restoration that it is fenced
pub record IsBehindIn (activity : List Interval) (restorations : List RestorationRecord) (tablet : ℕ
    → Tablet) (table : Id)
    (stamp : ℕ) : Type 0 where
  pub interval : Interval
  pub kept : In interval activity
  pub opened : interval.to ≡ None
  pub table_is : interval.table ≡ table
  pub behind : stamp ≤ (tablet interval.slot).clock
  pub unacked : (r : RestorationRecord) (l : Listed) → In r restorations → r.state ≡ Fencing → In l r.listed
      → l.slot ≡ interval.slot → l.acked ≡ false

abbrev pub IsBehind : Master → (ℕ → Tablet) → Id → ℕ → Type 0
IsBehind m tablet table stamp = IsBehindIn m.activity m.restorations tablet table stamp

-- each change of a row is before the master's clock, or its tablet's clock is ahead. So what a restoration undoes is
-- before its own snapshot
abbrev pub RowsPast : Master → (ℕ → Tablet) → List Change → Type 0
RowsPast m tablet changes = (c : Change) (table : Id) (key : List ℕ) (op : RowOp) → In c changes
    → c.act ≡ RowChanged table key op → (c.stamp ≤ m.clock) ⊎ IsBehind m tablet table c.stamp
