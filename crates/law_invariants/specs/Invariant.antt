-- What holds of the parts and the journal after each entry of a legal history.
use Rattle.std.specs.Prelude.{◌≡◌, ℕ, ◌≤◌, ◌<◌, ◌+◌, Bool, true, false, List, [], ◌∷◌, Option, Some, None, ◌==◌, ◌&&◌, option_map}
use Rattle.std.specs.List.{list_any}
use Rattle.std.specs.Option.{is_some}
use Rattle.std.specs.Str.{bytes_eq}
use Rattle.row_values.specs.Codes.{code_of}
use Rattle.row_values.specs.Ids.{Id, same}
use Rattle.row_values.specs.Elements.{In}
use Rattle.row_values.specs.Slots.{has}
use Rattle.model.specs.Times.{holds_at, is_open, before_end, ended_by}
use Rattle.row_values.specs.Store.{Below, read_of}
use Rattle.row_values.specs.Ranges.{in_range}
use Rattle.row_values.specs.Schema.{Column, Schema}
use Rattle.model.specs.Catalog.{Catalog, NamespaceRecord, TableRecord, KeptFrom, namespace_named, name_of, table_named, owner_of, kept_from}
use Rattle.model.specs.Activity.{Interval, active_at}
use Rattle.model.specs.Restored.{record_at}
use Rattle.model.specs.Journal.{Change, TableView, namespace_at, table_at, row_at}
use Rattle.model.specs.Tablets.{Tablet, HiddenPart, FrozenSet, is_empty, is_serving}
use Rattle.model.specs.Stands.{awaited_in, awaited_of, holders, before_restore}
use Rattle.model.specs.Records.{Listed, RestorationRecord, ScheduledNamespace}
use Rattle.model.specs.Schedules.{complete_to}
use Rattle.model.specs.Entries.{clock_at}
use Rattle.model.specs.Right.{is_fixed}
use Rattle.model.specs.Stands.{HasRange}
use Rattle.model.specs.Parts.{Master, Parts, Check, If, Names, Fault}
use Rattle.law_store.specs.Sorted.{Sorted, EachKey}
use Rattle.law_invariants.specs.Remembered.{Remembered}
use Rattle.law_invariants.specs.Operations.{is_switched, OperationsGood, JournalGood}
use Rattle.law_invariants.specs.Orders.{Directory, directory, OrdersIn, ObeyedIn, RowsPast}

-- an end comes at or after the start, and at or before the time
abbrev pub EndsBy : ℕ → ℕ → Option ℕ → Type 0
EndsBy time from None = Unit {0}
EndsBy time from (Some to) = (from ≤ to) × (to ≤ time)

-- an end comes after the start, and at or before the time
abbrev pub OverBy : ℕ → ℕ → Option ℕ → Type 0
OverBy time from None = Unit {0}
OverBy time from (Some to) = (from < to) × (to ≤ time)

-- The catalog

-- a namespace's or a table's record lies before the time
pub record IsPast (time from : ℕ) (to : Option ℕ) : Type 0 where
  pub begun : from ≤ time
  pub ended : EndsBy time from to

-- the table of a record as the view has it
abbrev pub view_of : TableRecord → TableView
view_of r = record { namespace = r.namespace; name = r.name; columns = r.schema.columns }

-- a table at x by the records
abbrev pub view_at : List TableRecord → ℕ → Id → Option TableView
view_at rs x id = option_map view_of (record_at rs id x)

-- the columns of a schema: a name and an id are those of one column alone, and the next id is past all of them
pub record ColumnsStand (s : Schema) : Type 0 where
  pub apart : (c d : Column) → In c s.columns → In d s.columns → bytes_eq c.name d.name ≡ (c.id == d.id)
  pub drawn : (c : Column) → In c s.columns → c.id < s.next

-- the records of namespaces: a name is that of one current namespace alone
pub record NamespacesStand (rs : List NamespaceRecord) (time drawn : ℕ) (changes : List Change) : Type 0 where
  pub past : (r : NamespaceRecord) → In r rs → IsPast time r.from r.to
  pub drawn_before : (r : NamespaceRecord) → In r rs → r.id.number ≤ drawn
  pub unique : (r : NamespaceRecord) → In r rs → is_open r.to ≡ true → namespace_named rs r.name ≡ Some r.id
  pub found : (r : NamespaceRecord) → In r rs → is_open r.to ≡ true → name_of rs r.id ≡ Some r.name
  -- from the clock on the view names a namespace as the records do
  pub viewed : (id : Id) (x : ℕ) → time ≤ x → namespace_at changes x id ≡ name_of rs id

-- of the records of one table, a later one has a greater next id, and an earlier one had ended when it began: so none
-- comes after an open one
abbrev pub RecordsRise : List TableRecord → Type 0
RecordsRise [] = Unit {0}
RecordsRise (r ∷ rs) =
    ((q : TableRecord) → In q rs → q.id ≡ r.id → (r.schema.next ≤ q.schema.next) × (ended_by q.from r.to ≡ true))
    × RecordsRise rs

-- the records of tables: at each time a table has one record, and a name in a namespace is that of one table alone
pub record TablesStand (c : Catalog) (time drawn : ℕ) (changes : List Change) : Type 0 where
  pub past : (r : TableRecord) → In r c.tables → IsPast time r.from r.to
  pub drawn_before : (r : TableRecord) → In r c.tables → r.id.number ≤ drawn
  pub owned : (r : TableRecord) → In r c.tables → owner_of c.owners r.id ≡ Some r.namespace
  pub owners_drawn : (id : Id) → drawn < id.number → owner_of c.owners id ≡ None
  pub unique : (x : ℕ) (r : TableRecord) → In r c.tables → holds_at x r.from r.to ≡ true
      → table_named c.tables r.namespace r.name x ≡ Some r
  pub found : (x : ℕ) (r : TableRecord) → In r c.tables → holds_at x r.from r.to ≡ true
      → record_at c.tables r.id x ≡ Some r
  pub columns : (r : TableRecord) → In r c.tables → ColumnsStand r.schema
  pub rise : RecordsRise c.tables
  -- where the catalog of its namespace is kept, the view has a table as the records do
  pub viewed : (id ns : Id) (x : ℕ) → owner_of c.owners id ≡ Some ns → kept_from c.kept_from ns ≤ x
      → table_at changes x id ≡ view_at c.tables x id
  pub unmade : (id : Id) (x : ℕ) → owner_of c.owners id ≡ None → table_at changes x id ≡ None
  -- the view has a table in the namespace in which it was made
  pub inside : (id : Id) (x : ℕ) (v : TableView) → table_at changes x id ≡ Some v
      → owner_of c.owners id ≡ Some v.namespace
  pub kept : (ns : Id) → kept_from c.kept_from ns ≤ time

-- whether a namespace has a mark of how far its catalog is kept
abbrev pub is_marked : List KeptFrom → Id → Bool
is_marked ks ns = list_any (λ k. same k.namespace ns) ks

-- what has a record has a mark: so the mark rises where a prune takes old ones
pub record MarksStand (c : Catalog) : Type 0 where
  pub namespaces : (r : NamespaceRecord) → In r c.namespaces → is_marked c.kept_from r.id ≡ true
  pub tables : (r : TableRecord) → In r c.tables → is_marked c.kept_from r.namespace ≡ true

-- Tablets

-- a tablet's versions are in order, in its range, and stamped by its clock; so are its frozen sets, which are of
-- earlier times
pub record TabletGood (t : Tablet) : Type 0 where
  pub sorted : Sorted t.versions
  pub below : Below (t.clock + 1) t.versions
  pub cutoff : t.cutoff ≤ t.clock
  pub keys : EachKey (λ key. in_range t.low t.high (code_of key)) t.versions
  pub set_past : (f : FrozenSet) → In f t.frozen → f.at < t.clock
  pub set_sorted : (f : FrozenSet) → In f t.frozen → Sorted f.versions
  pub set_keys : (f : FrozenSet) → In f t.frozen → EachKey (λ key. in_range t.low t.high (code_of key)) f.versions

-- the reads of a tablet's live store from its cutoff on and before the end of an interval, where the view has the
-- table, are those of the view. A clone's copies have a stamp before the one at which the view has their tables
abbrev pub StandsIn : Tablet → List Change → Interval → Type 0
StandsIn t changes i = (key : List ℕ) (x : ℕ) → in_range i.low i.high (code_of key) ≡ true → t.cutoff ≤ x
    → before_end x i.to ≡ true
    → is_some (table_at changes x i.table) ≡ true → read_of t.versions key x ≡ row_at changes x i.table key

-- the reads of a frozen set, from its cutoff to its time and within an interval, are those of the view
abbrev pub SetStands : FrozenSet → List Change → Interval → Type 0
SetStands f changes i = (key : List ℕ) (x : ℕ) → in_range i.low i.high (code_of key) ≡ true → f.cutoff ≤ x → x ≤ f.at
    → active_at x i ≡ true
    → read_of f.versions key x ≡ row_at changes x i.table key

-- an open interval begins at the point, and one that has ended had ended by it
abbrev pub TurnsAt : ℕ → ℕ → Option ℕ → Type 0
TurnsAt point from None = from ≡ point
TurnsAt point from (Some to) = to ≤ point

-- whether an interval's rows are yet to come: it is open, and its tablet awaits rows
abbrev pub is_awaited : Option ℕ → Option ℕ → Bool
is_awaited point to = is_open to && is_some point

-- where a tablet awaits rows, the view has from the point on those of the time to which its namespace is taken back,
-- and they are those of the view before the restore
pub record ComesFrom (changes : List Change) (ns : Id) (i : Interval) (point to : ℕ) : Type 0 where
  pub switched : is_switched changes ns point ≡ true
  pub rows : (key : List ℕ) (x : ℕ) → in_range i.low i.high (code_of key) ≡ true → point ≤ x
      → row_at changes x i.table key ≡ row_at changes to i.table key
  pub before : (key : List ℕ) → in_range i.low i.high (code_of key) ≡ true
      → row_at (before_restore changes ns point changes) to i.table key ≡ row_at changes to i.table key

-- an interval of a tablet: its slot's part holds the tablet, and stands for the journal unless the interval's rows are
-- yet to come
pub record IsGoodIn (clock slots : ℕ) (d : Directory) (changes : List Change) (t : Tablet) (i : Interval) : Type 0 where
  pub past : IsPast clock i.from i.to
  -- an interval that has ended is over for the tablet too
  pub over : OverBy t.clock i.from i.to
  pub drawn : i.tablet.number ≤ d.drawn.tablets
  pub drawn_table : i.table.number ≤ d.drawn.tables
  pub slot_from : 1 ≤ i.slot
  pub slot_to : i.slot ≤ slots
  pub present : is_empty t.presence ≡ false
  pub tablet_is : t.tablet ≡ i.tablet
  pub table_is : t.table ≡ i.table
  pub low_is : t.low ≡ i.low
  pub high_is : t.high ≡ i.high
  -- while the tablet is active, the view has its table
  pub viewed : (x : ℕ) → active_at x i ≡ true → is_some (table_at changes x i.table) ≡ true
  -- a tablet that awaits rows awaits those of its open interval
  pub waits : (point : ℕ) → awaited_in d.given.restorations t.tablet t.done ≡ Some point → TurnsAt point i.from i.to
  pub comes : (r : RestorationRecord) (point : ℕ) → In r d.given.restorations
      → awaited_of r.state r t.tablet t.done ≡ Some point → i.to ≡ None → ComesFrom changes r.namespace i point r.to
  -- a tablet whose rows came is in service while it is active, and is hidden only from the end of its activity on
  pub serves : i.to ≡ None → awaited_in d.given.restorations t.tablet t.done ≡ None → is_serving t.presence ≡ true
  pub hidden : (at : ℕ) → t.presence ≡ HiddenPart at
      → is_awaited (awaited_in d.given.restorations t.tablet t.done) i.to ≡ false → ended_by at i.to ≡ true
  pub stands : is_awaited (awaited_in d.given.restorations t.tablet t.done) i.to ≡ false → StandsIn t changes i
  pub sets : (f : FrozenSet) → In f t.frozen → SetStands f changes i

abbrev pub IsGood : Master → List Change → Tablet → Interval → Type 0
IsGood m changes t i = IsGoodIn m.clock m.slots (directory m) changes t i

-- a tablet that takes writes has an open interval that began by its clock, and its rows are taken
pub record TakesWritesIn (activity : List Interval) (restorations : List RestorationRecord) (slot : ℕ)
    (t : Tablet) : Type 0 where
  pub interval : Interval
  pub listed : In interval activity
  pub slot_is : interval.slot ≡ slot
  pub opened : interval.to ≡ None
  pub begun : interval.from ≤ t.clock
  pub settled : awaited_in restorations t.tablet t.done ≡ None

abbrev pub IsOpen : Master → ℕ → Tablet → Type 0
IsOpen m slot t = TakesWritesIn m.activity m.restorations slot t

-- what holds of a slot and the part in it
pub record SlotIn (clock slots : ℕ) (d : Directory) (changes : List Change) (slot : ℕ) (t : Tablet) : Type 0 where
  pub good : TabletGood t
  -- a tablet has all its intervals in one slot
  pub home : is_empty t.presence ≡ false → (i : Interval) → In i d.activity → i.tablet ≡ t.tablet → i.slot ≡ slot
  pub numbered : t.tablet.number ≤ d.drawn.tablets
  pub each : (i : Interval) → In i d.activity → i.slot ≡ slot → IsGoodIn clock slots d changes t i
  pub opens : is_serving t.presence ≡ true → t.fence ≡ None → TakesWritesIn d.activity d.given.restorations slot t
  -- the view has the table of a tablet that takes writes, from its cutoff on
  pub shown : is_serving t.presence ≡ true → t.fence ≡ None → (x : ℕ) → t.cutoff ≤ x
      → is_some (table_at changes x t.table) ≡ true
  -- a time to which its namespace was taken back, or cloned, is over for it: it stamps only later changes
  pub later : (ns : Id) (to : ℕ) → is_fixed changes ns to ≡ true → is_serving t.presence ≡ true → t.fence ≡ None
      → owner_of d.owners t.table ≡ Some ns → to ≤ t.clock

abbrev pub SlotGood : Master → List Change → ℕ → Tablet → Type 0
SlotGood m changes slot t = SlotIn m.clock m.slots (directory m) changes slot t

-- the tablets' ranges cover the codes of each table that the view has, no code twice, and no range ends beyond the
-- codes
pub record Covered (activity : List Interval) (changes : List Change) : Type 0 where
  pub once : (table : Id) (code x : ℕ) → code < 65536 → holders activity table code x ≤ 1
  pub whole : (table : Id) (code x : ℕ) → code < 65536 → is_some (table_at changes x table) ≡ true
      → holders activity table code x ≡ 1
  pub ranges : (i : Interval) → In i activity → HasRange i

-- what holds of the master
pub record MasterGood (m : Master) (changes : List Change) : Type 0 where
  pub namespaces : NamespacesStand m.catalog.namespaces m.clock m.drawn.namespaces changes
  pub tables : TablesStand m.catalog m.clock m.drawn.tables changes
  pub marks : MarksStand m.catalog
  -- a time to which a namespace was taken back, or cloned, is over for the master
  pub past : (ns : Id) (to : ℕ) → is_fixed changes ns to ≡ true → to ≤ m.clock
  -- the last complete snapshot of a namespace is over
  pub complete : (k : ScheduledNamespace) → In k m.scheduled → complete_to k + 1 ≤ m.clock
  -- a restoration lists no tablet that is yet to be made
  pub listed : (r : RestorationRecord) (l : Listed) → In r m.restorations → In l r.listed
      → l.tablet.number ≤ m.drawn.tablets
  -- and tablets of its namespace alone
  pub listed_of : (r : RestorationRecord) (l : Listed) → In r m.restorations → In l r.listed → (i : Interval)
      → In i m.activity → i.tablet ≡ l.tablet
      → owner_of m.catalog.owners i.table ≡ Some r.namespace

-- what holds of a slot and the operations that have its tablet do something
pub record WorksIn (d : Directory) (changes : List Change) (slot : ℕ) (t : Tablet) : Type 0 where
  pub orders : OrdersIn d slot t
  pub obeyed : ObeyedIn d changes slot t

abbrev pub SlotWorks : Master → List Change → ℕ → Tablet → Type 0
SlotWorks m changes slot t = WorksIn (directory m) changes slot t

-- what holds after each entry. `activity` has the intervals of all tablets that ever were
pub record Inv (ps : Parts) (activity : List Interval) (changes : List Change) : Type 0 where
  pub master : MasterGood ps.master changes
  pub remembered : Remembered ps.master activity
  pub cover : Covered activity changes
  pub slots : (slot : ℕ) → SlotGood ps.master changes slot (ps.tablet slot)
  pub operations : OperationsGood ps.master changes
  pub journal : JournalGood ps.master changes
  pub rows_past : RowsPast ps.master ps.tablet changes
  pub works : (slot : ℕ) → SlotWorks ps.master changes slot (ps.tablet slot)

-- the clocks of the slots that an act names are below its stamp
abbrev pub Later : List ℕ → Parts → ℕ → Type 0
Later slots ps n = (slot : ℕ) → has slots slot ≡ true → clock_at ps slot < n

-- none of the refusals comes
abbrev pub Passes : List Check → Type 0
Passes [] = Unit {0}
Passes (If comes why ∷ checks) = (comes ≡ false) × Passes checks
Passes (Names found why ∷ checks) = (is_some found ≡ false) × Passes checks
Passes (Fault fault ∷ checks) = (fault ≡ None) × Passes checks
