-- What holds of the parts of a cluster against its journal after each entry: tablets stand for the journal, ranges
-- cover the codes, and a record's state says what its tablets have done.
use Rattle.std.specs.Prelude.{◌≡◌, ◌≢◌, ℕ, ◌≤◌, ◌<◌, Bool, true, false, List, [], ◌∷◌, Option, Some, None, ◌==◌, ◌&&◌, ◌||◌, ◌⊎◌, ◌+◌, not, nat_lt, if◌then◌else◌, filter, is_some, option_map}
use Rattle.model.specs.Cluster.{option_or, list_any, code_of, Id, same, In, Version, read_of, AreRows, IsRange, in_range, RowOp, before_end, ended_by, is_open, owner_of, owns, Interval, active_at, last_of, current_table, Tablet, HiddenPart, BodyKind, FenceKind, FreezeKind, RestoreFromKind, HideKind, CopyKind, ReleaseKind, kind_of, Mark, FrozenSet, is_empty, is_serving, is_done, holds_command, set_of, Listed, SnapshotRecord, RestorationRecord, RestorationState, Fencing, Snapshotting, Switching, Restoring, Releasing, Restored, CloneRecord, CloneState, Accepted, CloneSnapshot, Copying, CloneReleasing, CloneComplete, IdPair, is_restored, is_cloned, point_of, TabletPair, Parts}
use Rattle.model.specs.Tablets.{Command}
pub use Rattle.model.specs.Moves.{is_restore}
use Rattle.model.specs.Journal.{Change, NamespaceMade, NamespaceDropped, TableMade, TableRenamed, TableDropped, ColumnAdded, ColumnDropped, RowChanged, NamespaceRestored, NamespaceCloned, table_at, row_at, owner_in}

-- Tablets stand for the journal

-- the point of a restoration that still has rows to give to a tablet: it lists it for them, and they aren't taken yet
abbrev pub awaited_of : RestorationState → RestorationRecord → Id → List Mark → Option ℕ
awaited_of (Restoring point serving) r tablet done =
    if list_any (λ l. same l.tablet tablet && is_restore l.body) r.listed
    && not (is_done done r.id RestoreFromKind) then Some point else None
awaited_of Fencing r tablet done = None
awaited_of (Snapshotting point own) r tablet done = None
awaited_of (Switching point serving) r tablet done = None
awaited_of (Releasing point serving) r tablet done = None
awaited_of (Restored point serving) r tablet done = None

abbrev pub awaited_in : List RestorationRecord → Id → List Mark → Option ℕ
awaited_in [] tablet done = None
awaited_in (r ∷ rs) tablet done = option_or (awaited_of r.state r tablet done) (awaited_in rs tablet done)

-- the point of the rows that a tablet awaits
abbrev pub awaited : Parts → Tablet → Option ℕ
awaited ps t = awaited_in ps.master.restorations t.tablet t.done

-- the last interval of a tablet, without one that begins at the point of the rows that it awaits
abbrev pub counted : Option ℕ → List Interval → List Interval
counted None activity = activity
counted (Some point) activity = filter (λ i. not (i.from == point)) activity

-- times from the awaited rows' point on are left out
abbrev pub before_point : ℕ → Option ℕ → Bool
before_point x None = true
before_point x (Some point) = nat_lt x point

-- the reads of a tablet's live store, from its cutoff on and before the end of its last activity, are those of the view
pub record LiveStands (ps : Parts) (changes : List Change) (slot : ℕ) : Type 0 where
  pub reads : (i : Interval) (key : List ℕ) (x : ℕ)
      → last_of (counted (awaited ps (ps.tablet slot)) ps.master.activity) (ps.tablet slot).tablet ≡ Some i
      → in_range (ps.tablet slot).low (ps.tablet slot).high (code_of key) ≡ true
      → (ps.tablet slot).cutoff ≤ x → x ≤ (ps.tablet slot).clock → before_end x i.to ≡ true
      → before_point x (awaited ps (ps.tablet slot)) ≡ true
      → is_some (table_at changes x (ps.tablet slot).table) ≡ true
      → read_of (ps.tablet slot).versions key x ≡ row_at changes x (ps.tablet slot).table key

-- the reads of a frozen set, from its cutoff to its time, wherever the tablet was active, are those of the view
pub record FrozenStands (ps : Parts) (changes : List Change) (slot : ℕ) (f : FrozenSet) : Type 0 where
  pub reads : (i : Interval) (key : List ℕ) (x : ℕ) → In i ps.master.activity → i.tablet ≡ (ps.tablet slot).tablet
      → active_at x i ≡ true
      → in_range (ps.tablet slot).low (ps.tablet slot).high (code_of key) ≡ true → f.cutoff ≤ x → x ≤ f.at
      → is_some (table_at changes x (ps.tablet slot).table) ≡ true
      → read_of f.versions key x ≡ row_at changes x (ps.tablet slot).table key

-- the part in an interval's slot holds its tablet, with that table and that range
pub record HoldsTablet (i : Interval) (t : Tablet) : Type 0 where
  pub present : is_empty t.presence ≡ false
  pub tablet_is : t.tablet ≡ i.tablet
  pub table_is : t.table ≡ i.table
  pub low_is : t.low ≡ i.low
  pub high_is : t.high ≡ i.high

-- the master knows the tablet in a slot
pub record IsHomeIn (activity : List Interval) (slot : ℕ) (tablet : Id) : Type 0 where
  pub interval : Interval
  pub kept : In interval activity
  pub slot_is : interval.slot ≡ slot
  pub tablet_is : interval.tablet ≡ tablet

-- or it is the target of a clone that copies
pub record IsTargetIn (clones : List CloneRecord) (slot : ℕ) (tablet : Id) : Type 0 where
  pub clone : CloneRecord
  pub kept : In clone clones
  pub serving : Id
  pub at : ℕ
  pub state_is : clone.state ≡ Copying serving at
  pub pair : TabletPair
  pub paired : In pair clone.tablets
  pub slot_is : pair.slot ≡ slot
  pub tablet_is : pair.target ≡ tablet

-- each tablet that the master knows is in its slot, and a serving or hidden one stands for the journal
pub record Stands (ps : Parts) (changes : List Change) : Type 0 where
  pub held : (i : Interval) → In i ps.master.activity → HoldsTablet i (ps.tablet i.slot)
  -- one that is active serves, unless it awaits rows; and a part that takes writes has an active one
  pub serves : (i : Interval) → In i ps.master.activity → i.to ≡ None → awaited ps (ps.tablet i.slot) ≡ None
      → is_serving (ps.tablet i.slot).presence ≡ true
  pub active : (slot : ℕ) → is_serving (ps.tablet slot).presence ≡ true → (ps.tablet slot).fence ≡ None
      → (i : Interval) × (In i ps.master.activity × ((i.slot ≡ slot) × (i.to ≡ None)))
  -- its tablet is one that the master knows there, or a target; what a hidden one was active for had ended by then
  pub home : (slot : ℕ) → is_empty (ps.tablet slot).presence ≡ false
      → IsHomeIn ps.master.activity slot (ps.tablet slot).tablet
      ⊎ IsTargetIn ps.master.clones slot (ps.tablet slot).tablet
  pub hidden : (i : Interval) (at : ℕ) → In i ps.master.activity → (ps.tablet i.slot).presence ≡ HiddenPart at
      → (is_open i.to && is_some (awaited ps (ps.tablet i.slot))) ≡ false → ended_by at i.to ≡ true
  -- the catalog has each table of the journal in the namespace in which it was made
  pub owners : (table ns : Id) → owner_in changes table ≡ Some ns → owner_of ps.master.catalog.owners table ≡ Some ns
  pub live : (slot : ℕ) → is_empty (ps.tablet slot).presence ≡ false → LiveStands ps changes slot
  pub frozen : (slot : ℕ) (f : FrozenSet) → is_empty (ps.tablet slot).presence ≡ false → In f (ps.tablet slot).frozen
      → FrozenStands ps changes slot f

-- the part of an active tablet that awaits no rows has the version of its table's current schema
abbrev pub VersionsStand : Parts → Type 0
VersionsStand ps = (i : Interval) → In i ps.master.activity → i.to ≡ None → awaited ps (ps.tablet i.slot) ≡ None
    → option_map (λ r. r.schema.version) (current_table ps.master.catalog.tables i.table)
    ≡ Some (ps.tablet i.slot).version

-- Ranges cover the codes

-- how many tablets of the table were active at x with the code in their range
abbrev pub holders : List Interval → Id → ℕ → ℕ → ℕ
holders [] table code x = 0
holders (i ∷ is) table code x =
    (if same i.table table && (active_at x i && in_range i.low i.high code) then 1 else 0) + holders is table code x

-- the ranges of a table's active tablets divide the codes, without gap or overlap, at each time at which the view has
-- the table. `activity` has the intervals of all tablets that ever were
abbrev pub Cover : List Interval → List Change → Type 0
Cover activity changes =
    (table : Id) (code x : ℕ) → code < 65536 → is_some (table_at changes x table) ≡ true
    → holders activity table code x ≡ 1

-- a tablet's range has codes, and none beyond the last
abbrev pub HasRange : Interval → Type 0
HasRange i = IsRange (record { low = i.low; high = i.high })

-- the ranges of a table's active tablets divide the codes: each code is in one, and each range has codes alone
pub record Divides (activity : List Interval) (changes : List Change) : Type 0 where
  pub cover : Cover activity changes
  pub ranges : (i : Interval) → In i activity → HasRange i

-- What a record's state says

-- the versions are the rows of the view at T whose code is in the range, one upsert each at the stamp
abbrev pub AreRowsAt : List Version → ℕ → ℕ → ℕ → List Change → ℕ → Id → Type 0
AreRowsAt versions low high stamp changes to table = AreRows versions low high stamp (row_at changes to table)

-- the tablet holds the frozen set of the snapshot, of versions at or before its time. What can be read of it
-- `FrozenStands` says, and how far back it goes `ReachesBack`
pub record HoldsFrozen (snapshot : Id) (at : ℕ) (t : Tablet) : Type 0 where
  pub set : FrozenSet
  pub held : set_of t.frozen snapshot ≡ Some set
  pub time : set.at ≡ at
  pub inside : (v : Version) → In v set.versions → v.stamp ≤ at

-- a listed tablet that is acked, or of a complete snapshot, holds its frozen set as long as it is present
pub record SnapshotFacts (r : SnapshotRecord) (ps : Parts) : Type 0 where
  pub frozen : (l : Listed) → In l r.listed → (r.complete || l.acked) ≡ true → (ps.tablet l.slot).tablet ≡ l.tablet
      → is_empty (ps.tablet l.slot).presence ≡ false → HoldsFrozen r.id r.at (ps.tablet l.slot)

-- every active tablet of the namespace is fenced by the operation
abbrev pub AllFenced : Id → Id → Parts → Type 0
AllFenced operation ns ps =
    (i : Interval) → In i ps.master.activity → is_open i.to ≡ true → owns ps.master.catalog.owners ns i.table ≡ true
    → (ps.tablet i.slot).fence ≡ Some operation

-- no tablet has a fence of the operation
abbrev pub NoneFenced : Id → Parts → Type 0
NoneFenced operation ps = (slot : ℕ) → (ps.tablet slot).fence ≢ Some operation

abbrev pub is_restore_of : Id → ℕ → Change → Bool
is_restore_of ns point c = elim c.act [
  | NamespaceRestored namespace to ↦ same namespace ns && (c.stamp == point)
  | NamespaceMade namespace name ↦ false
  | NamespaceDropped namespace ↦ false
  | TableMade table namespace name columns ↦ false
  | TableRenamed table name ↦ false
  | TableDropped table ↦ false
  | ColumnAdded table column ↦ false
  | ColumnDropped table column ↦ false
  | RowChanged table key op ↦ false
  | NamespaceCloned source target name to tables ↦ false
]

-- the changes before the restore of the namespace at the point; all where there is none
abbrev pub before_restore : List Change → Id → ℕ → List Change → List Change
before_restore [] ns point all = all
before_restore (c ∷ earlier) ns point all =
    if is_restore_of ns point c then earlier else before_restore earlier ns point all

-- the restoration's own snapshot, whose time is one before the point, comes after each change of a row of the
-- namespace that was made before the restore
abbrev pub AfterRows : Id → ℕ → Parts → List Change → Type 0
AfterRows ns point ps changes =
    (c : Change) (table : Id) (key : List ℕ) (op : RowOp) → In c (before_restore changes ns point changes)
    → c.act ≡ RowChanged table key op → owns ps.master.catalog.owners ns table ≡ true → c.stamp + 1 < point

abbrev pub RestorationStateFacts : RestorationState → RestorationRecord → Parts → List Change → Type 0
RestorationStateFacts Fencing r ps changes = (l : Listed) → In l r.listed → l.acked ≡ true
    → ((ps.tablet l.slot).fence ≡ Some r.id) × (r.to < (ps.tablet l.slot).clock)
RestorationStateFacts (Snapshotting point own) r ps changes = AllFenced r.id r.namespace ps
RestorationStateFacts (Switching point serving) r ps changes = AllFenced r.id r.namespace ps
RestorationStateFacts (Restoring point serving) r ps changes =
    (l : Listed) → In l r.listed → (ps.tablet l.slot).tablet ≡ l.tablet → record {
      fenced : is_serving (ps.tablet l.slot).presence ≡ true → (ps.tablet l.slot).fence ≡ Some r.id;
      restored : is_restore l.body ≡ true → is_done (ps.tablet l.slot).done r.id RestoreFromKind ≡ true
          → ((ps.tablet l.slot).cutoff ≡ point)
          × AreRowsAt (ps.tablet l.slot).versions (ps.tablet l.slot).low (ps.tablet l.slot).high point
          (before_restore changes r.namespace point changes) r.to (ps.tablet l.slot).table;
    }
RestorationStateFacts (Releasing point serving) r ps changes =
    (l : Listed) → In l r.listed → l.acked ≡ true → (ps.tablet l.slot).fence ≢ Some r.id
RestorationStateFacts (Restored point serving) r ps changes = NoneFenced r.id ps

-- a target that has copied serves its table in its range, fenced, with the rows of its source at the clone's time
pub record IsCopy (changes : List Change) (c : CloneRecord) (at : ℕ) (p : TabletPair) (t : Tablet) : Type 0 where
  pub serves : is_serving t.presence ≡ true
  pub fenced : t.fence ≡ Some c.id
  pub tablet_is : t.tablet ≡ p.target
  pub table_is : t.table ≡ p.table
  pub low_is : t.low ≡ p.low
  pub high_is : t.high ≡ p.high
  pub cutoff : at ≤ t.cutoff
  pub rows : (d : IdPair) → In d c.tables → d.target ≡ p.table
      → AreRowsAt t.versions p.low p.high at changes c.to d.source

-- a listed tablet that is acked is the target of one of the clone's pairs, for a table that it clones, and has copied
pub record HasCopied (changes : List Change) (c : CloneRecord) (at : ℕ) (l : Listed) (t : Tablet) : Type 0 where
  pub pair : TabletPair
  pub paired : In pair c.tablets
  pub target_is : pair.target ≡ l.tablet
  pub slot_is : pair.slot ≡ l.slot
  pub tables : IdPair
  pub cloned : In tables c.tables
  pub table_is : tables.target ≡ pair.table
  pub copy : IsCopy changes c at pair t

abbrev pub CloneStateFacts : CloneState → CloneRecord → Parts → List Change → Type 0
CloneStateFacts Accepted c ps changes = Unit {0}
CloneStateFacts (CloneSnapshot own) c ps changes = Unit {0}
CloneStateFacts (Copying serving copied_at) c ps changes = (l : Listed) → In l c.listed → l.acked ≡ true
    → HasCopied changes c copied_at l (ps.tablet l.slot)
CloneStateFacts (CloneReleasing serving copied_at) c ps changes =
    (l : Listed) → In l c.listed → l.acked ≡ true → (ps.tablet l.slot).fence ≢ Some c.id
CloneStateFacts (CloneComplete serving copied_at) c ps changes = NoneFenced c.id ps

-- a fence names an unfinished operation that holds the tablet's namespace, or made the tablet
pub record FenceFacts (ps : Parts) (slot : ℕ) (operation : Id) : Type 0 where
  pub by :
      ((r : RestorationRecord)
      × (In r ps.master.restorations
      × ((r.id ≡ operation) × (is_restored r.state ≡ false)
      × (owns ps.master.catalog.owners r.namespace (ps.tablet slot).table ≡ true))))
      ⊎ ((c : CloneRecord) × (In c ps.master.clones
      × ((c.id ≡ operation) × (is_cloned c.state ≡ false)
      × (owns ps.master.catalog.owners c.target_id (ps.tablet slot).table ≡ true))))

abbrev pub NoneTwice : List Command → Type 0
NoneTwice [] = Unit {0}
NoneTwice (c ∷ cs) = (holds_command cs c.operation (kind_of c.body) ≡ false) × NoneTwice cs

-- whether the tablet's inbox holds the operation's command of this kind, or it did it
abbrev pub was_given : Tablet → Id → BodyKind → Bool
was_given t operation kind = holds_command t.inbox operation kind || is_done t.done operation kind

-- whether a restoration gives a command of this kind after its switch
abbrev pub is_after_switch : BodyKind → Bool
is_after_switch RestoreFromKind = true
is_after_switch HideKind = true
is_after_switch ReleaseKind = true
is_after_switch FenceKind = false
is_after_switch FreezeKind = false
is_after_switch CopyKind = false

-- the stamp from which a clone's targets have their rows
abbrev pub copied_at : CloneState → Option ℕ
copied_at Accepted = None
copied_at (CloneSnapshot own) = None
copied_at (Copying serving at) = Some at
copied_at (CloneReleasing serving at) = Some at
copied_at (CloneComplete serving at) = Some at

-- what the records' states say of the parts
pub record RecordFacts (ps : Parts) (changes : List Change) : Type 0 where
  pub snapshots : (r : SnapshotRecord) → In r ps.master.snapshots → SnapshotFacts r ps
  pub restorations : (r : RestorationRecord) → In r ps.master.restorations → RestorationStateFacts r.state r ps changes
  pub clones : (c : CloneRecord) → In c ps.master.clones → CloneStateFacts c.state c ps changes
  -- a restoration's point comes after the rows that it undoes
  pub after_rows : (r : RestorationRecord) (point : ℕ) → In r ps.master.restorations → point_of r.state ≡ Some point
      → AfterRows r.namespace point ps changes
  -- a tablet that was sent a command, or did it, has a clock above the time that a restoration goes to, and above its
  -- point from the switch on. `ClocksAfter` says it of the stamp at which the record entered the state that gives it
  pub after_fence : (slot : ℕ) (r : RestorationRecord) → In r ps.master.restorations
      → was_given (ps.tablet slot) r.id FenceKind ≡ true → r.to < (ps.tablet slot).clock
  pub after_point : (slot : ℕ) (r : RestorationRecord) (point : ℕ) (kind : BodyKind) → In r ps.master.restorations
      → point_of r.state ≡ Some point
      → is_after_switch kind ≡ true → was_given (ps.tablet slot) r.id kind ≡ true → point < (ps.tablet slot).clock
  pub fences : (slot : ℕ) (operation : Id) → (ps.tablet slot).fence ≡ Some operation → FenceFacts ps slot operation
  pub once : (slot : ℕ) → NoneTwice (ps.tablet slot).inbox
  pub fresh : (slot : ℕ) (c : Command) → In c (ps.tablet slot).inbox
      → is_done (ps.tablet slot).done c.operation (kind_of c.body) ≡ false
