-- What holds of the master's records of schedules, snapshots, restorations and clones: of each alone, and of each two.
use Rattle.std.specs.Prelude.{◌≡◌, ◌≢◌, ℕ, ◌≤◌, ◌<◌, ◌+◌, Bool, true, false, List, [], ◌∷◌, Some, None, ◌⊎◌, ◌&&◌, if◌then◌else◌}
use Rattle.std.specs.List.{list_any}
use Rattle.row_values.specs.declared.value.RowOp.{RowOp}
use Rattle.row_values.specs.Ids.{Id, Snapshot as SnapshotKind, Restoration as RestorationKind, Clone as CloneKind, same}
use Rattle.row_values.specs.Elements.{In}
use Rattle.model.specs.Times.{ended_by, is_open}
use Rattle.row_values.specs.Ranges.{in_range}
use Rattle.model.specs.Catalog.{Catalog, NamespaceRecord, TableRecord, Owner, owner_of, owns, kept_from}
use Rattle.model.specs.Activity.{Interval, active_at, active_within}
use Rattle.model.specs.Journal.{Change, RowChanged}
use Rattle.model.specs.Tablets.{Body, Fence, Freeze, RestoreFrom, Hide, Copy, Release}
use Rattle.model.specs.Records.{Listed, Sent, Schedule, SnapshotRecord, RestorationRecord, RestorationState, Fencing, Snapshotting, Switching, Restoring, Releasing, Restored, TabletPair, IdPair, CloneRecord, CloneState, Accepted, CloneSnapshot, Copying, CloneReleasing, CloneComplete, is_restored, is_cloned, is_visible, point_of, ScheduledNamespace}
use Rattle.model.specs.Schedules.{after_of, complete_to}
use Rattle.model.specs.Stands.{is_restore, is_restore_of, before_restore}
use Rattle.model.specs.Cleanup.{floor_of}
use Rattle.model.specs.Right.{is_fixed}
use Rattle.model.specs.Parts.{Master, Drawn}

-- what a record's facts read of the master: all but the operations themselves, and the marks of what was sent
pub record Grounds : Type 0 where
  pub clock : ℕ
  pub slots : ℕ
  pub catalog : Catalog
  pub activity : List Interval
  pub schedules : List Schedule
  pub scheduled : List ScheduledNamespace
  pub snapshots : List SnapshotRecord
  pub drawn : Drawn

abbrev pub grounds : Master → Grounds
grounds m = record { clock = m.clock; slots = m.slots; catalog = m.catalog; activity = m.activity; schedules = m.schedules; scheduled = m.scheduled; snapshots = m.snapshots; drawn = m.drawn }

-- Each two

-- what is drawn for one is that of one alone
abbrev pub Alone : {A : Type 0} → (A → Id) → List A → Type 0
Alone {A} drawn xs = (x y : A) → In x xs → In y xs → drawn x ≡ drawn y → x ≡ y

-- a clone uses its source and the namespace that it makes
abbrev pub Uses : CloneRecord → Id → Type 0
Uses c ns = (c.source ≡ ns) ⊎ (c.target_id ≡ ns)

-- snapshots stand in the order of their numbers and of their times
abbrev pub SnapshotsRise : List SnapshotRecord → Type 0
SnapshotsRise [] = Unit {0}
SnapshotsRise (r ∷ rs) = ((q : SnapshotRecord) → In q rs → (r.id.number < q.id.number) × (r.at < q.at))
    × SnapshotsRise rs

-- a namespace is scheduled once, and has one unfinished operation that uses it, and one unfinished snapshot
pub record OperationsApart (schedules : List Schedule) (scheduled : List ScheduledNamespace)
    (snapshots : List SnapshotRecord) (restorations : List RestorationRecord) (clones : List CloneRecord) : Type 0 where
  pub schedule_ids : Alone (λ s. s.id) schedules
  pub one_scheduled : Alone (λ k. k.namespace) scheduled
  pub snapshots_rise : SnapshotsRise snapshots
  pub one_snapshot : (q r : SnapshotRecord) → In q snapshots → In r snapshots → q.complete ≡ false → r.complete ≡ false
      → q.namespace ≡ r.namespace → q ≡ r
  pub restoration_ids : Alone (λ r. r.id) restorations
  pub one_restoration : (q r : RestorationRecord) → In q restorations → In r restorations → is_restored q.state ≡ false
      → is_restored r.state ≡ false
      → q.namespace ≡ r.namespace → q ≡ r
  pub clone_ids : Alone (λ c. c.id) clones
  pub one_clone : (c d : CloneRecord) (ns : Id) → In c clones → In d clones → is_cloned c.state ≡ false
      → is_cloned d.state ≡ false → Uses c ns → Uses d ns → c ≡ d
  pub one_operation : (r : RestorationRecord) (c : CloneRecord) → In r restorations → In c clones
      → is_restored r.state ≡ false → is_cloned c.state ≡ false
      → Uses c r.namespace → ⊥
  -- the slots that unfinished clones have reserved
  pub one_target : (c d : CloneRecord) (p q : TabletPair) → In c clones → In d clones → is_cloned c.state ≡ false
      → is_cloned d.state ≡ false
      → In p c.tablets → In q d.tablets → p.slot ≡ q.slot → c ≡ d
  -- the target tablets that they are to make
  pub one_made : (c d : CloneRecord) (p q : TabletPair) → In c clones → In d clones → is_visible c.state ≡ false
      → is_visible d.state ≡ false
      → In p c.tablets → In q d.tablets → p.target ≡ q.target → c ≡ d
  -- and the names that they are to give
  pub one_name : (c d : CloneRecord) → In c clones → In d clones → is_visible c.state ≡ false
      → is_visible d.state ≡ false → c.target ≡ d.target → c ≡ d

-- Intervals and listed tablets

-- the master knows a listed tablet, in its slot
pub record IsKnownIn (activity : List Interval) (l : Listed) : Type 0 where
  pub interval : Interval
  pub kept : In interval activity
  pub tablet_is : interval.tablet ≡ l.tablet
  pub slot_is : interval.slot ≡ l.slot

abbrev pub IsKnown : Master → Listed → Type 0
IsKnown m l = IsKnownIn m.activity l

-- the tablet of an interval is listed, in its slot
pub record IsListed (ls : List Listed) (i : Interval) : Type 0 where
  pub line : Listed
  pub listed : In line ls
  pub tablet_is : line.tablet ≡ i.tablet
  pub slot_is : line.slot ≡ i.slot

-- the open intervals of a namespace's tablets
pub record IsOpenIn (activity : List Interval) (owners : List Owner) (ns : Id) (i : Interval) : Type 0 where
  pub kept : In i activity
  pub opened : i.to ≡ None
  pub owned : owner_of owners i.table ≡ Some ns

abbrev pub IsOpenOf : Master → Id → Interval → Type 0
IsOpenOf m ns i = IsOpenIn m.activity m.catalog.owners ns i

-- Schedules and snapshots

-- the time of the snapshot before the next one is below what retention needs, or that snapshot is kept
abbrev pub IsReached : Master → Id → ℕ → Type 0
IsReached m ns after =
    (after < floor_of m ns m.clock)
    ⊎ ((q : SnapshotRecord) × (In q m.snapshots × ((q.namespace ≡ ns) × (q.at ≡ after))))

pub record ScheduleIn (clock : ℕ) (numbers : Drawn) (spaces : List ScheduledNamespace) (s : Schedule) : Type 0 where
  pub drawn : s.id.number ≤ numbers.schedules
  pub drawn_namespace : s.namespace.number ≤ numbers.namespaces
  pub begun : s.kept_low ≤ clock
  -- its namespace is scheduled, since before its window begins
  pub scheduled : (k : ScheduledNamespace) × (In k spaces × ((k.namespace ≡ s.namespace) × (k.since ≤ s.kept_low)))

abbrev pub ScheduleGood : Master → Schedule → Type 0
ScheduleGood m s = ScheduleIn m.clock m.drawn m.scheduled s

pub record ScheduledGood (m : Master) (k : ScheduledNamespace) : Type 0 where
  pub drawn_namespace : k.namespace.number ≤ m.drawn.namespaces
  pub from_one : 1 ≤ k.since
  pub last : after_of k ≤ m.clock
  pub reached : IsReached m k.namespace (after_of k)
  -- it has a schedule
  pub has : (s : Schedule) × (In s m.schedules × (s.namespace ≡ k.namespace))

-- a snapshot lists the tablets of its namespace that were active since the snapshot before it, of which no time is
-- needed that it lacks
pub record SnapshotGood (m : Master) (r : SnapshotRecord) : Type 0 where
  pub kind_is : r.id.kind ≡ SnapshotKind
  pub drawn : r.id.number ≤ m.drawn.snapshots
  pub drawn_namespace : r.namespace.number ≤ m.drawn.namespaces
  pub rises : r.after < r.at
  pub past : r.at ≤ m.clock
  pub bodies : (l : Listed) → In l r.listed → l.body ≡ Freeze r.id r.at
  pub drawn_listed : (l : Listed) → In l r.listed → l.tablet.number ≤ m.drawn.tablets
  pub listed_of : (l : Listed) (i : Interval) → In l r.listed → In i m.activity → i.tablet ≡ l.tablet
      → (owner_of m.catalog.owners i.table ≡ Some r.namespace) × (i.slot ≡ l.slot)
  pub known : r.complete ≡ false → (l : Listed) → In l r.listed → IsKnown m l
  pub lists : (i : Interval) → In i m.activity → owner_of m.catalog.owners i.table ≡ Some r.namespace
      → active_within r.after r.at i ≡ true → IsListed r.listed i
  pub reached : (r.after < floor_of m r.namespace m.clock)
      ⊎ ((q : SnapshotRecord) × (In q m.snapshots × ((q.namespace ≡ r.namespace) × ((q.at ≡ r.after)
      × (q.complete ≡ true)))))
  -- the namespace of an unfinished one is scheduled, and it is its last
  pub scheduled : r.complete ≡ false
      → (k : ScheduledNamespace) × (In k m.scheduled × ((k.namespace ≡ r.namespace) × (k.last ≡ Some r.at)))

-- Restorations

-- the snapshot is kept, complete, and the one from which the rows of a namespace at a time are taken
pub record IsServingIn (snapshots : List SnapshotRecord) (snapshot ns : Id) (to : ℕ) : Type 0 where
  pub serving : SnapshotRecord
  pub kept : In serving snapshots
  pub id_is : serving.id ≡ snapshot
  pub complete : serving.complete ≡ true
  pub namespace_is : serving.namespace ≡ ns
  pub after : serving.after < to
  pub reaches : to ≤ serving.at

abbrev pub IsServing : Master → Id → Id → ℕ → Type 0
IsServing m snapshot ns to = IsServingIn m.snapshots snapshot ns to

-- whether a restoration is past its switch
abbrev pub has_switched : RestorationState → Bool
has_switched Fencing = false
has_switched (Snapshotting point own) = false
has_switched (Switching point serving) = false
has_switched (Restoring point serving) = true
has_switched (Releasing point serving) = true
has_switched (Restored point serving) = true

-- whether the journal has the restore of the namespace at the point
abbrev pub is_switched : List Change → Id → ℕ → Bool
is_switched changes ns point = list_any (is_restore_of ns point) changes

-- a restoration's point comes after all that it undoes
pub record IsPointIn (taken : List SnapshotRecord) (scheduled : List ScheduledNamespace) (changes : List Change)
    (ns : Id) (to point : ℕ) : Type 0 where
  pub later : to < point
  pub fixed : (x : ℕ) → is_fixed changes ns x ≡ true → x < point
  pub snapshots : (q : SnapshotRecord) → In q taken → q.namespace ≡ ns → q.at < point
  pub complete : (k : ScheduledNamespace) → In k scheduled → k.namespace ≡ ns → complete_to k + 1 ≤ point

abbrev pub IsPoint : Master → List Change → RestorationRecord → ℕ → Type 0
IsPoint m changes r point = IsPointIn m.snapshots m.scheduled changes r.namespace r.to point

-- no snapshot of the restoration's namespace is unfinished
abbrev pub IsCalmIn : List SnapshotRecord → Id → Type 0
IsCalmIn snapshots ns = (q : SnapshotRecord) → In q snapshots → q.complete ≡ false → q.namespace ≡ ns → ⊥

abbrev pub IsCalm : Master → RestorationRecord → Type 0
IsCalm m r = IsCalmIn m.snapshots r.namespace

-- it fences the active tablets of its namespace, of which none comes or goes
pub record FencingIn (activity : List Interval) (owners : List Owner) (r : RestorationRecord) : Type 0 where
  pub bodies : (l : Listed) → In l r.listed → l.body ≡ Fence
  pub lists : (i : Interval) → IsOpenIn activity owners r.namespace i → IsListed r.listed i
  pub opens : (l : Listed) → In l r.listed
      → (i : Interval) × (IsOpenIn activity owners r.namespace i × ((i.tablet ≡ l.tablet) × (i.slot ≡ l.slot)))

abbrev pub FencingGood : Master → RestorationRecord → Type 0
FencingGood m r = FencingIn m.activity m.catalog.owners r

-- the tablets of a namespace, and the records of its tables, began before a point, and what has ended had ended by it
pub record BeforePointIn (activity : List Interval) (owners : List Owner) (tables : List TableRecord) (ns : Id)
    (point : ℕ) : Type 0 where
  pub begun : (i : Interval) → In i activity → owner_of owners i.table ≡ Some ns → i.from < point
  pub ended : (i : Interval) (end_ : ℕ) → In i activity → owner_of owners i.table ≡ Some ns → i.to ≡ Some end_
      → end_ ≤ point
  pub tables_begun : (r : TableRecord) → In r tables → r.namespace ≡ ns → r.from < point
  pub tables_ended : (r : TableRecord) (end_ : ℕ) → In r tables → r.namespace ≡ ns → r.to ≡ Some end_ → end_ ≤ point

abbrev pub BeforePoint : Master → Id → ℕ → Type 0
BeforePoint m ns point = BeforePointIn m.activity m.catalog.owners m.catalog.tables ns point

-- it waits for its own snapshot, whose time is just before the point
pub record SnapshottingOf (m : Grounds) (changes : List Change) (r : RestorationRecord) (point : ℕ)
    (own : Id) : Type 0 where
  pub is_point : IsPointIn m.snapshots m.scheduled changes r.namespace r.to point
  pub empty : r.listed ≡ []
  pub soon : point ≤ m.clock + 1
  pub before : BeforePointIn m.activity m.catalog.owners m.catalog.tables r.namespace point
  pub snapshot : SnapshotRecord
  pub kept : In snapshot m.snapshots
  pub id_is : snapshot.id ≡ own
  pub at_is : snapshot.at + 1 ≡ point
  pub namespace_is : snapshot.namespace ≡ r.namespace
  pub alone : (q : SnapshotRecord) → In q m.snapshots → q.complete ≡ false → q.namespace ≡ r.namespace → q.id ≡ own

abbrev pub SnapshottingGood : Master → List Change → RestorationRecord → ℕ → Id → Type 0
SnapshottingGood m changes r point snapshot = SnapshottingOf (grounds m) changes r point snapshot

pub record SwitchingOf (m : Grounds) (changes : List Change) (r : RestorationRecord) (point : ℕ)
    (serving : Id) : Type 0 where
  pub is_point : IsPointIn m.snapshots m.scheduled changes r.namespace r.to point
  pub empty : r.listed ≡ []
  pub begun : point ≤ m.clock
  pub before : BeforePointIn m.activity m.catalog.owners m.catalog.tables r.namespace point
  pub serves : IsServingIn m.snapshots serving r.namespace r.to
  pub calm : IsCalmIn m.snapshots r.namespace

abbrev pub SwitchingGood : Master → List Change → RestorationRecord → ℕ → Id → Type 0
SwitchingGood m changes r point snapshot = SwitchingOf (grounds m) changes r point snapshot

-- a tablet takes back its rows or is hidden
abbrev pub IsAfterSwitch : ℕ → ℕ → Id → Body → Type 0
IsAfterSwitch time point serving (RestoreFrom snapshot to at version) = (snapshot ≡ serving) × ((to ≡ time) × (at ≡ point))
IsAfterSwitch time point serving (Hide ended) = ended ≡ point
IsAfterSwitch time point serving _ = ⊥

-- a tablet that takes back its rows was active at the time, and is active from the point on
pub record IsBackIn (activity : List Interval) (l : Listed) (to point : ℕ) : Type 0 where
  pub then_ : Interval
  pub kept_then : In then_ activity
  pub tablet_then : then_.tablet ≡ l.tablet
  pub active : active_at to then_ ≡ true
  pub now : Interval
  pub kept_now : In now activity
  pub tablet_now : now.tablet ≡ l.tablet
  pub slot_now : now.slot ≡ l.slot
  pub opened : now.to ≡ None
  pub from_is : now.from ≡ point

abbrev pub IsBack : Master → Listed → ℕ → ℕ → Type 0
IsBack m l to point = IsBackIn m.activity l to point

-- an open interval begins at the point, and its tablet takes back its rows
pub record IsComing (r : RestorationRecord) (point : ℕ) (i : Interval) : Type 0 where
  pub from_is : i.from ≡ point
  pub is_listed : IsListed r.listed i
  pub restores : is_restore is_listed.line.body ≡ true

pub record RestoringOf (m : Grounds) (changes : List Change) (r : RestorationRecord) (point : ℕ)
    (serving : Id) : Type 0 where
  pub is_point : IsPointIn m.snapshots m.scheduled changes r.namespace r.to point
  pub begun : point ≤ m.clock
  pub serves : IsServingIn m.snapshots serving r.namespace r.to
  pub calm : IsCalmIn m.snapshots r.namespace
  pub switched : is_switched changes r.namespace point ≡ true
  pub bodies : (l : Listed) → In l r.listed → IsAfterSwitch r.to point serving l.body
  pub back : (l : Listed) → In l r.listed → is_restore l.body ≡ true → IsBackIn m.activity l r.to point
  -- a tablet that is to be hidden has had its time
  pub gone : (l : Listed) (i : Interval) → In l r.listed → is_restore l.body ≡ false → In i m.activity
      → i.tablet ≡ l.tablet → ended_by point i.to ≡ true
  pub opens : (i : Interval) → IsOpenIn m.activity m.catalog.owners r.namespace i → IsComing r point i

abbrev pub RestoringGood : Master → List Change → RestorationRecord → ℕ → Id → Type 0
RestoringGood m changes r point snapshot = RestoringOf (grounds m) changes r point snapshot

-- a listed tablet is active, from a time on
pub record IsActiveIn (activity : List Interval) (l : Listed) (from : ℕ) : Type 0 where
  pub interval : Interval
  pub kept : In interval activity
  pub tablet_is : interval.tablet ≡ l.tablet
  pub slot_is : interval.slot ≡ l.slot
  pub opened : interval.to ≡ None
  pub from_is : interval.from ≡ from

abbrev pub IsActive : Master → Listed → ℕ → Type 0
IsActive m l from = IsActiveIn m.activity l from

pub record ReleasingOf (m : Grounds) (changes : List Change) (r : RestorationRecord) (point : ℕ)
    (serving : Id) : Type 0 where
  pub is_point : IsPointIn m.snapshots m.scheduled changes r.namespace r.to point
  pub begun : point ≤ m.clock
  pub switched : is_switched changes r.namespace point ≡ true
  pub bodies : (l : Listed) → In l r.listed → l.body ≡ Release point
  pub active : (l : Listed) → In l r.listed → IsActiveIn m.activity l point
  pub opens : (i : Interval) → IsOpenIn m.activity m.catalog.owners r.namespace i → IsListed r.listed i

abbrev pub ReleasingGood : Master → List Change → RestorationRecord → ℕ → Id → Type 0
ReleasingGood m changes r point snapshot = ReleasingOf (grounds m) changes r point snapshot

pub record RestoredOf (m : Grounds) (changes : List Change) (r : RestorationRecord) (point : ℕ) : Type 0 where
  pub empty : r.listed ≡ []
  pub begun : point ≤ m.clock
  pub later : r.to < point
  pub switched : is_switched changes r.namespace point ≡ true

abbrev pub RestorationStateIn : RestorationState → Grounds → List Change → RestorationRecord → Type 0
RestorationStateIn Fencing m changes r = FencingIn m.activity m.catalog.owners r
RestorationStateIn (Snapshotting point own) m changes r = SnapshottingOf m changes r point own
RestorationStateIn (Switching point serving) m changes r = SwitchingOf m changes r point serving
RestorationStateIn (Restoring point serving) m changes r = RestoringOf m changes r point serving
RestorationStateIn (Releasing point serving) m changes r = ReleasingOf m changes r point serving
RestorationStateIn (Restored point serving) m changes r = RestoredOf m changes r point

abbrev pub RestorationStateGood : RestorationState → Master → List Change → RestorationRecord → Type 0
RestorationStateGood state m changes r = RestorationStateIn state (grounds m) changes r

pub record RestorationIn (m : Grounds) (changes : List Change) (r : RestorationRecord) : Type 0 where
  pub kind_is : r.id.kind ≡ RestorationKind
  pub drawn : r.id.number ≤ m.drawn.restorations
  pub drawn_namespace : r.namespace.number ≤ m.drawn.namespaces
  pub past : r.to < m.clock
  -- while it is unfinished its schedule is kept, and it finds its tablets
  pub scheduled : is_restored r.state ≡ false
      → (s : Schedule) × (In s m.schedules × ((s.id ≡ r.schedule) × (s.namespace ≡ r.namespace)))
  pub known : is_restored r.state ≡ false → (l : Listed) → In l r.listed → IsKnownIn m.activity l
  pub in_state : RestorationStateIn r.state m changes r

abbrev pub RestorationGood : Master → List Change → RestorationRecord → Type 0
RestorationGood m changes r = RestorationIn (grounds m) changes r

-- Clones

-- how many targets of a table have the code
abbrev pub takers : List TabletPair → Id → ℕ → ℕ
takers [] table code = 0
takers (p ∷ ps) table code = (if same p.table table && in_range p.low p.high code then 1 else 0) + takers ps table code

-- a source tablet was active at the time with the target's range, for the source of its table
pub record IsSourceIn (activity : List Interval) (owners : List Owner) (to : ℕ) (source : Id)
    (tables : List IdPair) (p : TabletPair) : Type 0 where
  pub interval : Interval
  pub kept : In interval activity
  pub tablet_is : interval.tablet ≡ p.source
  pub slot_is : interval.slot ≡ p.source_slot
  pub low_is : interval.low ≡ p.low
  pub high_is : interval.high ≡ p.high
  pub active : active_at to interval ≡ true
  pub owned : owner_of owners interval.table ≡ Some source
  pub pair : IdPair
  pub paired : In pair tables
  pub source_is : pair.source ≡ interval.table
  pub target_is : pair.target ≡ p.table

abbrev pub IsSource : Master → CloneRecord → TabletPair → Type 0
IsSource m c p = IsSourceIn m.activity m.catalog.owners c.to c.source c.tables p

-- a target tablet and its slot are the clone's alone
pub record IsReservedIn (activity : List Interval) (snapshots : List SnapshotRecord)
    (restorations : List RestorationRecord) (p : TabletPair) : Type 0 where
  pub free : (i : Interval) → In i activity → i.slot ≡ p.slot → ⊥
  pub unknown : (i : Interval) → In i activity → i.tablet ≡ p.target → ⊥
  pub no_snapshot : (r : SnapshotRecord) (l : Listed) → In r snapshots → In l r.listed → l.tablet ≡ p.target → ⊥
  pub no_restoration : (r : RestorationRecord) (l : Listed) → In r restorations → In l r.listed
      → l.tablet ≡ p.target → ⊥

abbrev pub IsReserved : Master → TabletPair → Type 0
IsReserved m p = IsReservedIn m.activity m.snapshots m.restorations p

-- a listed target copies the rows of its source
pub record IsCopied (c : CloneRecord) (serving : Id) (copied_at : ℕ) (l : Listed) : Type 0 where
  pub pair : TabletPair
  pub paired : In pair c.tablets
  pub tablet_is : l.tablet ≡ pair.target
  pub slot_is : l.slot ≡ pair.slot
  pub body_is : l.body ≡ Copy pair.source_slot serving c.to copied_at pair.table pair.low pair.high 1

pub record CopyingIn (clock : ℕ) (snapshots : List SnapshotRecord) (c : CloneRecord) (serving : Id) (copied_at : ℕ)
    : Type 0 where
  pub begun : copied_at ≤ clock
  pub later : c.to < copied_at
  pub serves : IsServingIn snapshots serving c.source c.to
  pub bodies : (l : Listed) → In l c.listed → IsCopied c serving copied_at l
  pub all : (p : TabletPair) → In p c.tablets
      → (l : Listed) × (In l c.listed × ((l.tablet ≡ p.target) × (l.slot ≡ p.slot)))

abbrev pub CopyingGood : Master → CloneRecord → Id → ℕ → Type 0
CopyingGood m c serving copied_at = CopyingIn m.clock m.snapshots c serving copied_at

-- a target becomes current at one stamp, from which on its tablets are active
pub record VisibleIn (clock : ℕ) (activity : List Interval) (owners : List Owner) (c : CloneRecord) (copied_at : ℕ)
    : Type 0 where
  pub since : ℕ
  pub begun : since ≤ clock
  pub later : c.to < copied_at
  pub copied : copied_at < since
  pub bodies : (l : Listed) → In l c.listed → l.body ≡ Release since
  pub active : (l : Listed) → In l c.listed → IsActiveIn activity l since
  pub listed_of : (l : Listed) (i : Interval) → In l c.listed → In i activity → i.tablet ≡ l.tablet
      → owner_of owners i.table ≡ Some c.target_id
  pub opens : (i : Interval) → IsOpenIn activity owners c.target_id i → IsListed c.listed i

abbrev pub VisibleGood : Master → CloneRecord → ℕ → Type 0
VisibleGood m c copied_at = VisibleIn m.clock m.activity m.catalog.owners c copied_at

pub record CloningIn (snapshots : List SnapshotRecord) (c : CloneRecord) (own : Id) : Type 0 where
  pub empty : c.listed ≡ []
  pub snapshot : SnapshotRecord
  pub kept : In snapshot snapshots
  pub id_is : snapshot.id ≡ own
  pub namespace_is : snapshot.namespace ≡ c.source
  pub reaches : c.to ≤ snapshot.at

abbrev pub CloneStateIn : CloneState → Grounds → CloneRecord → Type 0
CloneStateIn Accepted m c = c.listed ≡ []
CloneStateIn (CloneSnapshot own) m c = CloningIn m.snapshots c own
CloneStateIn (Copying serving copied_at) m c = CopyingIn m.clock m.snapshots c serving copied_at
CloneStateIn (CloneReleasing serving copied_at) m c = VisibleIn m.clock m.activity m.catalog.owners c copied_at
CloneStateIn (CloneComplete serving copied_at) m c = c.listed ≡ []

abbrev pub CloneStateGood : CloneState → Master → CloneRecord → Type 0
CloneStateGood state m c = CloneStateIn state (grounds m) c

pub record PairIn (slots : ℕ) (numbers : Drawn) (owners : List Owner) (target : Id) (p : TabletPair) : Type 0 where
  pub slot_from : 1 ≤ p.slot
  pub slot_to : p.slot ≤ slots
  pub drawn : p.target.number ≤ numbers.tablets
  pub drawn_table : p.table.number ≤ numbers.tables
  pub owned : owner_of owners p.table ≡ Some target

-- each table is cloned once, into a table of its own
abbrev pub PairsApart : List IdPair → Type 0
PairsApart [] = Unit {0}
PairsApart (d ∷ ds) = ((e : IdPair) → In e ds → (d.source ≡ e.source → ⊥) × (d.target ≡ e.target → ⊥)) × PairsApart ds

pub record CloneIn (m : Grounds) (restorations : List RestorationRecord) (changes : List Change) (c : CloneRecord) : Type 0 where
  pub kind_is : c.id.kind ≡ CloneKind
  pub drawn : c.id.number ≤ m.drawn.clones
  pub drawn_source : c.source.number ≤ m.drawn.namespaces
  pub drawn_target : c.target_id.number ≤ m.drawn.namespaces
  pub apart : c.source ≢ c.target_id
  pub past : c.to < m.clock
  pub pairs : (p : TabletPair) → In p c.tablets → PairIn m.slots m.drawn m.catalog.owners c.target_id p
  pub drawn_listed : (l : Listed) → In l c.listed → l.tablet.number ≤ m.drawn.tablets
  pub one_slot : (p q : TabletPair) → In p c.tablets → In q c.tablets → p.slot ≡ q.slot → p ≡ q
  pub one_target : (p q : TabletPair) → In p c.tablets → In q c.tablets → p.target ≡ q.target → p ≡ q
  pub one_table : (d e : IdPair) → In d c.tables → In e c.tables → d.target ≡ e.target → d ≡ e
  pub tables_apart : PairsApart c.tables
  pub owned : (d : IdPair) → In d c.tables → owner_of m.catalog.owners d.source ≡ Some c.source
  pub drawn_sources : (d : IdPair) → In d c.tables → d.source.number ≤ m.drawn.tables
  -- the ranges of the targets cover the codes of each table
  pub covers : (d : IdPair) (code : ℕ) → In d c.tables → code < 65536 → takers c.tablets d.target code ≡ 1
  pub scheduled : is_cloned c.state ≡ false → (s : Schedule) × (In s m.schedules × (s.namespace ≡ c.source))
  pub sources : is_cloned c.state ≡ false → (p : TabletPair) → In p c.tablets
      → IsSourceIn m.activity m.catalog.owners c.to c.source c.tables p
  pub reserved : is_visible c.state ≡ false → (p : TabletPair) → In p c.tablets → IsReservedIn m.activity m.snapshots restorations p
  -- before the target is current there is nothing of it
  pub no_tablet : is_visible c.state ≡ false → (i : Interval) → In i m.activity
      → owner_of m.catalog.owners i.table ≡ Some c.target_id → ⊥
  pub no_table : is_visible c.state ≡ false → (r : TableRecord) → In r m.catalog.tables → r.namespace ≡ c.target_id → ⊥
  pub no_namespace : is_visible c.state ≡ false → (r : NamespaceRecord) → In r m.catalog.namespaces
      → (r.id ≡ c.target_id → ⊥) × (is_open r.to ≡ true → r.name ≡ c.target → ⊥)
  pub no_schedule : is_visible c.state ≡ false → (s : Schedule) → In s m.schedules → s.namespace ≡ c.target_id → ⊥
  -- nothing took the target back, or cloned it
  pub unfixed : is_cloned c.state ≡ false → (to : ℕ) → is_fixed changes c.target_id to ≡ true → ⊥
  pub in_state : CloneStateIn c.state m c

abbrev pub CloneGood : Master → List Change → CloneRecord → Type 0
CloneGood m changes c = CloneIn (grounds m) m.restorations changes c

-- Sent marks

abbrev pub ListsSlot : List Listed → ℕ → Type 0
ListsSlot ls slot = (l : Listed) × (In l ls × (l.slot ≡ slot))

-- a mark that a command was sent is one of an unfinished record that lists its slot
abbrev pub IsSent : List SnapshotRecord → List RestorationRecord → List CloneRecord → Sent → Type 0
IsSent snapshots restorations clones mark =
    ((r : SnapshotRecord) × (In r snapshots × ((r.id ≡ mark.operation) × (r.complete ≡ false)
    × ListsSlot r.listed mark.slot)))
    ⊎ (((r : RestorationRecord) × (In r restorations × ((r.id ≡ mark.operation) × (is_restored r.state ≡ false)
    × ListsSlot r.listed mark.slot)))
    ⊎ ((c : CloneRecord) × (In c clones × ((c.id ≡ mark.operation) × (is_cloned c.state ≡ false)
    × ListsSlot c.listed mark.slot))))

-- what holds of all records, and of how far the catalog is kept
pub record OperationsGood (m : Master) (changes : List Change) : Type 0 where
  pub kept : (ns : Id) → kept_from m.catalog.kept_from ns ≤ floor_of m ns m.clock
  pub owners : (table ns : Id) → owner_of m.catalog.owners table ≡ Some ns → ns.number ≤ m.drawn.namespaces
  pub apart : OperationsApart m.schedules m.scheduled m.snapshots m.restorations m.clones
  pub schedules : (s : Schedule) → In s m.schedules → ScheduleGood m s
  pub scheduled : (k : ScheduledNamespace) → In k m.scheduled → ScheduledGood m k
  pub snapshots : (r : SnapshotRecord) → In r m.snapshots → SnapshotGood m r
  pub restorations : (r : RestorationRecord) → In r m.restorations → RestorationGood m changes r
  pub clones : (c : CloneRecord) → In c m.clones → CloneGood m changes c
  pub sent : (mark : Sent) → In mark m.sent → IsSent m.snapshots m.restorations m.clones mark

-- The journal

-- the changes of rows of a namespace that a restore at a point undoes are stamped before the restoration's own snapshot
abbrev pub AfterRowsOf : List Owner → Id → ℕ → List Change → Type 0
AfterRowsOf owners ns point changes = (c : Change) (table : Id) (key : List ℕ) (op : RowOp)
    → In c (before_restore changes ns point changes)
    → c.act ≡ RowChanged table key op → owns owners ns table ≡ true → c.stamp + 1 < point

-- a restore of the journal is that of a restoration that has switched; its record stays
pub record IsSwitchedBy (restorations : List RestorationRecord) (ns : Id) (point : ℕ) : Type 0 where
  pub restoration : RestorationRecord
  pub kept : In restoration restorations
  pub namespace_is : restoration.namespace ≡ ns
  pub point_is : point_of restoration.state ≡ Some point
  pub switched : has_switched restoration.state ≡ true

pub record JournalIn (numbers : Drawn) (owners : List Owner) (restorations : List RestorationRecord)
    (changes : List Change) : Type 0 where
  pub fixed_drawn : (ns : Id) (to : ℕ) → is_fixed changes ns to ≡ true → ns.number ≤ numbers.namespaces
  pub drawn : (c : Change) (table : Id) (key : List ℕ) (op : RowOp) → In c changes → c.act ≡ RowChanged table key op
      → table.number ≤ numbers.tables
  pub undone : (r : RestorationRecord) (point : ℕ) → In r restorations → point_of r.state ≡ Some point
      → AfterRowsOf owners r.namespace point changes
  pub restored : (ns : Id) (point : ℕ) → is_switched changes ns point ≡ true → IsSwitchedBy restorations ns point
  -- no two restorations of a namespace have one point
  pub one_point : (q r : RestorationRecord) (point : ℕ) → In q restorations → In r restorations
      → q.namespace ≡ r.namespace → point_of q.state ≡ Some point → point_of r.state ≡ Some point → q ≡ r

abbrev pub JournalGood : Master → List Change → Type 0
JournalGood m changes = JournalIn m.drawn m.catalog.owners m.restorations changes
