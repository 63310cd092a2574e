-- What answers are compared with: rows, namespaces, tables and places by the view of one list of stamped changes, the
-- journal of the entries before them; and that what restores and clones fixed stays as it was.
use Rattle.std.specs.Prelude.{◌≡◌, ℕ, ◌<◌, Bool, true, false, List, [], ◌∷◌, ◌++◌, Option, Some, None, ◌==◌, ◌&&◌, ◌||◌, if◌then◌else◌, is_some, bytes_eq}
use Rattle.model.specs.Cluster.{cut_to, code_of, KeyedRow, Id, same, In, present, InOrder, of_key, in_range, is_owned_by, Interval, active_at, Tablet, Place, At}
use Rattle.model.specs.Looks.{place_of}
use Rattle.model.specs.Journal.{Change, ChangeAct, NamespaceMade, NamespaceDropped, TableMade, TableRenamed, TableDropped, ColumnAdded, ColumnDropped, RowChanged, NamespaceRestored, NamespaceCloned, TableView, is_in, namespace_at, table_at, row_at, owner_in}

-- Rows in order over several places

-- whether a key is asked: all are, or one is
abbrev pub is_asked : Option (List ℕ) → List ℕ → Bool
is_asked None key = true
is_asked (Some asked) key = bytes_eq asked key

-- the row of a key that a place is to give: the view's at x, where it is present, asked, and in the place's range
abbrev pub row_wanted : List Change → ℕ → Option (List ℕ) → List ℕ → Tablet → List ℕ → List KeyedRow
row_wanted changes x asked columns t key =
    if is_asked asked key && in_range t.low t.high (code_of key)
    then present key (cut_to (row_at changes x t.table key) columns)
    else []

abbrev pub rows_wanted : List Change → ℕ → Option (List ℕ) → List ℕ → (ℕ → Tablet) → List At → List ℕ → List KeyedRow
rows_wanted changes x asked columns tablets [] key = []
rows_wanted changes x asked columns tablets (place ∷ places) key =
    row_wanted changes x asked columns (tablets place.slot) key
    ++ rows_wanted changes x asked columns tablets places key

-- a read gives the rows of the view at x: in order of key, those of one key in the order of the places
pub record RowsRight (changes : List Change) (x : ℕ) (asked : Option (List ℕ)) (columns : List ℕ)
    (tablets : ℕ → Tablet) (places : List At) (rows : List KeyedRow) : Type 0 where
  pub in_order : InOrder rows
  pub each : (key : List ℕ) → of_key key rows ≡ rows_wanted changes x asked columns tablets places key

-- Looks

-- the current namespace of a name
pub record NamespaceFound (changes : List Change) (now : ℕ) (name : List ℕ) : Type 0 where
  pub id : Id
  pub named : namespace_at changes now id ≡ Some name

-- the table of a name in the current namespace of a name, in the view at x; it is current
pub record TableFound (changes : List Change) (x now : ℕ) (namespace table : List ℕ) : Type 0 where
  pub owner : Id
  pub owner_named : namespace_at changes now owner ≡ Some namespace
  pub id : Id
  pub view : TableView
  pub found : table_at changes x id ≡ Some view
  pub inside : view.namespace ≡ owner
  pub named : view.name ≡ table
  pub current : is_some (table_at changes now id) ≡ true

-- a place is a tablet of the table that is active at the stamp
pub record IsActivePlace (activity : List Interval) (now : ℕ) (table : Id) (place : Place) : Type 0 where
  pub interval : Interval
  pub listed : In interval activity
  pub table_is : interval.table ≡ table
  pub active : active_at now interval ≡ true
  pub placed : place ≡ place_of interval

-- What was fixed stays

-- whether a change is one of the namespace: of its name, of a table that was made in it, of the rows of one
abbrev pub is_change_of : Id → ChangeAct → (Id → Option Id) → Bool
is_change_of ns (NamespaceMade namespace name) owner = same namespace ns
is_change_of ns (NamespaceDropped namespace) owner = same namespace ns
is_change_of ns (TableMade table namespace name columns) owner = same namespace ns
is_change_of ns (TableRenamed table name) owner = is_owned_by (owner table) ns
is_change_of ns (TableDropped table) owner = is_owned_by (owner table) ns
is_change_of ns (ColumnAdded table column) owner = is_owned_by (owner table) ns
is_change_of ns (ColumnDropped table column) owner = is_owned_by (owner table) ns
is_change_of ns (RowChanged table key op) owner = is_owned_by (owner table) ns
is_change_of ns (NamespaceRestored namespace to) owner = same namespace ns
is_change_of ns (NamespaceCloned source target name to tables) owner = same target ns

-- whether a change is a restore of the namespace to T, or a clone of it at T
abbrev pub fixes : ChangeAct → Id → ℕ → Bool
fixes (NamespaceMade namespace name) ns t = false
fixes (NamespaceDropped namespace) ns t = false
fixes (TableMade table namespace name columns) ns t = false
fixes (TableRenamed table name) ns t = false
fixes (TableDropped table) ns t = false
fixes (ColumnAdded table column) ns t = false
fixes (ColumnDropped table column) ns t = false
fixes (RowChanged table key op) ns t = false
fixes (NamespaceRestored namespace to) ns t = same namespace ns && (to == t)
fixes (NamespaceCloned source target name to tables) ns t = same source ns && (to == t)

-- whether the journal has such a change
abbrev pub is_fixed : List Change → Id → ℕ → Bool
is_fixed [] ns t = false
is_fixed (c ∷ earlier) ns t = if fixes c.act ns t then true else is_fixed earlier ns t

-- no change of a namespace is stamped at or before the time of an earlier restore, or clone, of it
abbrev pub NoneLate : List Change → Type 0
NoneLate [] = Unit {0}
NoneLate (c ∷ earlier) = NoneLate earlier
    × ((ns : Id) (t : ℕ) → is_fixed earlier ns t ≡ true → is_change_of ns c.act (owner_in earlier) ≡ true → t < c.stamp)

-- a namespace's name, tables and rows at a time are the same in two journals' views
pub record SameThen (changes others : List Change) (ns : Id) (t : ℕ) : Type 0 where
  pub name : namespace_at changes t ns ≡ namespace_at others t ns
  pub tables : (id : Id) → (is_in ns (table_at changes t id) || is_in ns (table_at others t id)) ≡ true
      → table_at changes t id ≡ table_at others t id
  pub rows : (id : Id) (key : List ℕ) → is_in ns (table_at others t id) ≡ true
      → row_at changes t id key ≡ row_at others t id key

-- a journal's view still has what each of its restores, and each of its clones, took: the namespace at the time is as
-- it was in the view of the changes before it. `all` is the whole journal
abbrev pub StillSame : List Change → List Change → Type 0
StillSame all [] = Unit {0}
StillSame all (c ∷ earlier) =
    StillSame all earlier × ((ns : Id) (t : ℕ) → fixes c.act ns t ≡ true → SameThen all earlier ns t)

-- what restores and clones fixed is the same after each entry, and nothing comes too late for it
pub record FixedStays (changes : List Change) : Type 0 where
  pub none_late : NoneLate changes
  pub same : StillSame changes changes
