-- What an act may take away: nothing that a time needs, from the floor of its namespace on. It is said of the parts
-- before and after any act, a step at a time.
use Rattle.std.specs.Prelude.{◌≡◌, ℕ, ◌≤◌, Bool, true, false, List, [], ◌∷◌, Option, Some, None, ◌&&◌, ◌-◌, max, min, map, if◌then◌else◌, option_map, option_and_then, filter}
use Rattle.model.specs.Cluster.{Id, same, In, has, absent_row, read_of, Row, holds_at, before_end, NamespaceRecord, TableRecord, Catalog, tables_at, kept_from, owns, Interval, active_at, route, set_of, Schedule, ScheduledNamespace, SnapshotRecord, RestorationRecord, RestorationState, Fencing, Snapshotting, Switching, Restoring, Releasing, Restored, point_of, unfinished, Act, Change, DeleteSchedule, EditSchedule, Master, Parts, deed_of, Commands, Advances, Obeys, NoDeed}
use Rattle.model.specs.Tablets.{Command}
use Rattle.model.specs.Schedules.{edited, history_retention, is_period, serving}
use Rattle.model.specs.Moves.{is_restore}
use Rattle.model.specs.Operations.{restoration_of, user}
use Rattle.model.specs.Entries.{slots_of}
use Rattle.model.specs.Looks.{place_of}
use Rattle.model.specs.Cleanup.{floor_of}
use Rattle.model.specs.Retained.{IsPresent, IsTabletOf, Source, source_for, ReachesBack}

-- The catalog at a time, as it is shown: of each record the interval doesn't count

abbrev pub names_at : List NamespaceRecord → Id → ℕ → List (List ℕ)
names_at rs ns x = map {A = NamespaceRecord} (λ r. r.name) (filter (λ r. holds_at x r.from r.to && same r.id ns) rs)

abbrev pub untimed : TableRecord → TableRecord
untimed r = record r { from = 0; to = None }

-- the catalog of a namespace at a time is as before, and may be asked for; the tables that are its own stay so
pub record CatalogKept (before after : Catalog) (ns : Id) (to : ℕ) : Type 0 where
  pub owners : (table : Id) → owns before.owners ns table ≡ true → owns after.owners ns table ≡ true
  pub names : names_at after.namespaces ns to ≡ names_at before.namespaces ns to
  pub tables : map untimed (tables_at after.tables ns to) ≡ map untimed (tables_at before.tables ns to)
  pub kept : kept_from after.kept_from ns ≤ to

-- The snapshot that serves a time

-- where one served the time before, that one still does
abbrev pub StillServes : Option SnapshotRecord → Option SnapshotRecord → Type 0
StillServes None after = Unit {0}
StillServes (Some r) after = option_map {T = SnapshotRecord} (λ x. x.id) after ≡ Some r.id

-- and the tablet's frozen set of it is the same
abbrev pub SetKept : Option SnapshotRecord → ℕ → Parts → Parts → Type 0
SetKept None slot before after = Unit {0}
SetKept (Some r) slot before after = set_of (after.tablet slot).frozen r.id ≡ set_of (before.tablet slot).frozen r.id

-- Tablets

-- the master still keeps an interval of the tablet that holds the time
pub record StillActive (activity : List Interval) (i : Interval) (to : ℕ) : Type 0 where
  pub interval : Interval
  pub listed : In interval activity
  pub place : place_of interval ≡ place_of i
  pub table : interval.table ≡ i.table
  pub active : active_at to interval ≡ true

abbrev pub read_from : Option Source → List ℕ → ℕ → Row
read_from None key x = absent_row
read_from (Some source) key x = read_of source.versions key x

-- a tablet that was active at a time stays, and its rows of then, which its clock has passed, are had as before
pub record TabletKept (before after : Parts) (ns : Id) (to : ℕ) (i : Interval) : Type 0 where
  pub present : IsPresent after i.slot i.tablet
  pub active : StillActive after.master.activity i to
  pub set : SetKept (serving before.master.snapshots ns to) i.slot before after
  pub reaches : ReachesBack (source_for after ns i.slot to) to
  pub reads : (key : List ℕ) → let x = min to (before.tablet i.slot).clock in
      read_from (source_for after ns i.slot to) key x ≡ read_from (source_for before ns i.slot to) key x

-- all that a time of a scheduled namespace needs is still there: the catalog, the place of each code, the snapshot
-- that serves it, and the tablets with their rows
pub record NeededKept (before after : Parts) (ns : Id) (to : ℕ) : Type 0 where
  pub catalog : CatalogKept before.master.catalog after.master.catalog ns to
  pub places : (table : Id) (code : ℕ) → owns before.master.catalog.owners ns table ≡ true
      → option_map place_of (route after.master.activity table code to)
      ≡ option_map place_of (route before.master.activity table code to)
  pub serves : StillServes (serving before.master.snapshots ns to) (serving after.master.snapshots ns to)
  pub tablets : (i : Interval) → In i before.master.activity → IsTabletOf before.master ns i
      → active_at to i ≡ true → TabletKept before after ns to i

-- the point of a restoration whose next move is the switch
abbrev pub switches_at : RestorationState → Option ℕ
switches_at (Switching point serving) = Some point
switches_at Fencing = None
switches_at (Snapshotting point own) = None
switches_at (Restoring point serving) = None
switches_at (Releasing point serving) = None
switches_at (Restored point serving) = None

-- whether the first command of an inbox is the operation's to take back rows
abbrev pub takes_back : List Command → Id → Bool
takes_back [] operation = false
takes_back (c ∷ cs) operation = same c.operation operation && is_restore c.body

-- from when on an act may put other tables and rows in place: a switch, and a tablet that takes back its rows, from the
-- point on. No other act does at any time
abbrev pub replaced_by : RestorationRecord → Act → Parts → Option ℕ
replaced_by r act ps = elim (deed_of act) [
  | Advances moved ↦ if same moved r.id then switches_at r.state else None
  | Obeys slot ↦ if takes_back (ps.tablet slot).inbox r.id then point_of r.state else None
  | Commands command ↦ None
  | NoDeed ↦ None
]

abbrev pub replaced_from : Act → Parts → Id → Option ℕ
replaced_from act ps ns = option_and_then (λ r. replaced_by r act ps) (restoration_of ps.master.restorations ns)

-- a schedule stays, with its window; or the act is its deletion, where no operation uses its namespace, and no snapshot
-- of it is unfinished; or its edit: it has the new periods, and what was out of its window stays out
pub data ScheduleStays (act : Act) (s : Schedule) (before after : Master) : Type 0 where
  Unchanged : (t : Schedule) (there : In t after.schedules) (alike : record t { last = s.last } ≡ s)
      → ScheduleStays act s before after
  Deleted : (slots : List ℕ) (act_is : act ≡ Change (DeleteSchedule s.id) slots)
      (unused : user before s.namespace ≡ None) (complete : unfinished before.snapshots s.namespace ≡ None)
      → ScheduleStays act s before after
  Edited : (interval retention : ℕ) (slots : List ℕ) (periods : is_period interval retention ≡ true)
      (act_is : act ≡ Change (EditSchedule s.id interval retention) slots)
      (there : In (edited interval retention after.clock s) after.schedules) → ScheduleStays act s before after

-- from when on an act may change the catalog: its stamp, where the master takes part
abbrev pub changed_from : Act → Master → Option ℕ
changed_from act after = if has (slots_of act) 0 then Some after.clock else None

-- an act takes nothing that a time needs: no time from the floor of a scheduled namespace on, by the schedules and the
-- operation that it had, and before the act's stamp where the master takes part
pub record TakesNothingNeeded (act : Act) (before after : Parts) : Type 0 where
  pub needed : (k : ScheduledNamespace) (to : ℕ) → In k before.master.scheduled
      → floor_of before.master k.namespace after.master.clock ≤ to
      → before_end to (changed_from act after.master) ≡ true
      → before_end to (replaced_from act before k.namespace) ≡ true
      → NeededKept before after k.namespace to
  pub schedules : (s : Schedule) → In s before.master.schedules
      → ScheduleStays act s before.master after.master

-- The mark of a namespace's catalog

-- a prune at a stamp never lowers it, and raises it at most to the less of the floor and 900 seconds before the stamp.
-- From the mark on the catalog is as before
pub record MarkRaised (before after : Master) (n : ℕ) (ns : Id) : Type 0 where
  pub rises : kept_from before.catalog.kept_from ns ≤ kept_from after.catalog.kept_from ns
  pub bound : kept_from after.catalog.kept_from ns
      ≤ max (kept_from before.catalog.kept_from ns) (min (floor_of before ns n) (n - history_retention))
  pub catalog : (to : ℕ) → kept_from after.catalog.kept_from ns ≤ to → CatalogKept before.catalog after.catalog ns to
