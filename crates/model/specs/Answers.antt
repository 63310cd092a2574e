-- How looks at a table and reads are answered: each reply with its cause, by the views at the stamp and at the asked
-- time. Which tablets are active is that of all that ever were, and how far the catalog of a namespace is kept the
-- master's.
use Rattle.std.specs.Prelude.{◌≡◌, ℕ, ◌<◌, true, false, List, [], ◌∷◌, Option, Some, None, nat_le, if◌then◌else◌, ◌⊎◌, ◌≢◌}
use Rattle.model.specs.Cluster.{code_of, KeyedRow, Id, In, AllOf, in_range, Column, time_of, is_future, is_below, KeptFrom, kept_from, Interval, active_at, Tablet, Standing, serves, standing, NamedItem, Place, At, Refusal, UnknownNamespace, UnknownTable, Future, TooOld, CrossTablet, Fenced, Moved, StaleSchema, Reply, Placed, Rows, Refused}
use Rattle.model.specs.Looks.{batch_fault, first_code, code_outside, place_of}
use Rattle.model.specs.Journal.{Change, table_at, version_after}
use Rattle.model.specs.Right.{NamespaceFound, TableFound, IsActivePlace, RowsRight}

-- a table's version in the view at x: 1, the columns added and dropped, and the restores that made it current
abbrev pub version_at : List Change → ℕ → Id → ℕ
version_at [] x id = 0
version_at (c ∷ earlier) x id =
    if nat_le c.stamp x
    then version_after c.act id (version_at earlier x id) (table_at earlier)
    else version_at earlier x id

-- a look at the table of a name at a stamp, now or at an asked time, and what it goes by: the journal before it, how
-- far each namespace's catalog is kept, and the activity of all tablets that ever were
pub record TableLook : Type 0 where
  pub namespace : List ℕ
  pub table : List ℕ
  pub at : Option ℕ
  pub now : ℕ
  pub changes : List Change
  pub marks : List KeptFrom
  pub activity : List Interval

-- the look's namespace is current
abbrev pub HasNamespace : TableLook → Type 0
HasNamespace q = NamespaceFound q.changes q.now q.namespace

-- the view at the asked time has the look's table, and it is current
abbrev pub HasTable : TableLook → Type 0
HasTable q = TableFound q.changes (time_of q.at q.now) q.now q.namespace q.table

-- the asked time is over, and the namespace's catalog is kept from then on
pub record InReach (q : TableLook) (ns : Id) : Type 0 where
  pub over : is_future q.at q.now ≡ false
  pub kept : is_below q.at (kept_from q.marks ns) ≡ false

-- the refusals that both looks begin with, in their order
pub data LookRefused (q : TableLook) : Refusal → Type 0 where
  NoNamespace : (missing : HasNamespace q → ⊥) → LookRefused q UnknownNamespace
  NotYet : (now : ℕ) (ns : HasNamespace q) (later : is_future q.at q.now ≡ true) (now_is : now ≡ q.now)
      → LookRefused q (Future now)
  NotKept : (asked cutoff : ℕ) (ns : HasNamespace q) (over : is_future q.at q.now ≡ false)
      (below : is_below q.at (kept_from q.marks ns.id) ≡ true) (asked_is : asked ≡ time_of q.at q.now)
      (cutoff_is : cutoff ≡ kept_from q.marks ns.id) → LookRefused q (TooOld asked cutoff)
  NoTable : (ns : HasNamespace q) (reach : InReach q ns.id) (missing : HasTable q → ⊥) → LookRefused q UnknownTable

-- the look's table is found at the asked time
pub record Reached (q : TableLook) : Type 0 where
  pub found : HasTable q
  pub reach : InReach q found.owner

-- a table is shown as it is in the view at the asked time
pub record IsTableThen (q : TableLook) (found : HasTable q) (version : ℕ) (columns : List Column) : Type 0 where
  pub version_is : version ≡ version_at q.changes (time_of q.at q.now) found.id
  pub columns_are : columns ≡ found.view.columns

-- places in order of range, each once
abbrev pub Rising : List Place → Type 0
Rising [] = Unit {0}
Rising (p ∷ places) = AllOf (λ later. p.low < later.low) places × Rising places

-- the places are all the table's tablets that are active at the stamp, also where a time is asked, by range
pub record ArePlaces (activity : List Interval) (now : ℕ) (table : Id) (places : List Place) : Type 0 where
  pub each : (place : Place) → In place places → IsActivePlace activity now table place
  pub all : (i : Interval) → In i activity → i.table ≡ table → active_at now i ≡ true → In (place_of i) places
  pub rising : Rising places

-- how a look for all tablets of a table is answered
pub data TableAnswer (q : TableLook) : Reply → Type 0 where
  TableRefused : (why : Refusal) (refused : LookRefused q why) → TableAnswer q (Refused why)
  TablePlaced : (places : List Place) (version : ℕ) (columns : List Column) (table : Reached q)
      (shown : IsTableThen q table.found version columns) (placed : ArePlaces q.activity q.now table.found.id places)
      → TableAnswer q (Placed places version columns)

-- the table's active tablet that holds a code
pub record HomeOf (activity : List Interval) (now : ℕ) (table : Id) (code : ℕ) : Type 0 where
  pub interval : Interval
  pub listed : In interval activity
  pub table_is : interval.table ≡ table
  pub active : active_at now interval ≡ true
  pub holds : in_range interval.low interval.high code ≡ true

-- how a look for the tablet of a batch's keys is answered. The first faulty cell decides, and then the first key that
-- is in another tablet than the first one
pub data KeysAnswer (q : TableLook) (batch : List NamedItem) : Reply → Type 0 where
  KeysRefused : (why : Refusal) (refused : LookRefused q why) → KeysAnswer q batch (Refused why)
  Faulty : (why : Refusal) (table : Reached q) (fault : batch_fault table.found.view.columns batch ≡ Some why)
      → KeysAnswer q batch (Refused why)
  Apart : (first other : ℕ) (table : Reached q) (sound : batch_fault table.found.view.columns batch ≡ None)
      (home : HomeOf q.activity q.now table.found.id (first_code batch)) (first_is : first ≡ first_code batch)
      (outside : code_outside home.interval batch ≡ Some other) → KeysAnswer q batch (Refused (CrossTablet first other))
  KeysPlaced : (places : List Place) (version : ℕ) (columns : List Column) (table : Reached q)
      (sound : batch_fault table.found.view.columns batch ≡ None) (shown : IsTableThen q table.found version columns)
      (home : HomeOf q.activity q.now table.found.id (first_code batch))
      (inside : code_outside home.interval batch ≡ None)
      (placed : places ≡ place_of home.interval ∷ []) → KeysAnswer q batch (Placed places version columns)

-- Reads

-- a read at a stamp of all rows or of a key's, now or at an asked time, and the parts that it goes to
pub record RowsRead : Type 0 where
  pub places : List At
  pub version : ℕ
  pub key : Option (List ℕ)
  pub at : Option ℕ
  pub columns : List ℕ
  pub now : ℕ
  pub tablets : ℕ → Tablet

-- a part's range has the key; or a scan goes on there at the code that those before it reach, the last one to the end
abbrev pub HasAsked : Option (List ℕ) → Tablet → ℕ → List At → Type 0
HasAsked (Some key) t from later = in_range t.low t.high (code_of key) ≡ true
HasAsked None t from later = (t.low ≡ from) × (later ≡ [] → t.high ≡ 65536)

-- the part in a place's slot serves the tablet of the place, and has what is asked
abbrev pub IsServed : RowsRead → ℕ → At → List At → Type 0
IsServed q from place later =
    let t = q.tablets place.slot in (serves t place.tablet ≡ true) × HasAsked q.key t from later

abbrev pub AllServed : RowsRead → ℕ → List At → Type 0
AllServed q from [] = Unit {0}
AllServed q from (p ∷ later) = IsServed q from p later × AllServed q (q.tablets p.slot).high later

-- the first place that isn't served
abbrev pub FirstMoved : RowsRead → ℕ → List At → At → Type 0
FirstMoved q from [] place = ⊥
FirstMoved q from (p ∷ later) place =
    ((p ≡ place) × (IsServed q from p later → ⊥))
    ⊎ (IsServed q from p later × FirstMoved q (q.tablets p.slot).high later place)

-- the first place of which something holds
abbrev pub FirstWith : (At → Type 0) → List At → At → Type 0
FirstWith Holds [] place = ⊥
FirstWith Holds (p ∷ later) place = ((p ≡ place) × Holds p) ⊎ ((Holds p → ⊥) × FirstWith Holds later place)

-- all places are served, and none is fenced
pub record MayRead (q : RowsRead) : Type 0 where
  pub served : AllServed q 0 q.places
  pub unfenced : AllOf (λ p. (q.tablets p.slot).fence ≡ None) q.places

-- besides, the schema's version is theirs, which counts where no time is asked, and an asked time is over
pub record MayReadThen (q : RowsRead) : Type 0 where
  pub may : MayRead q
  pub fresh : q.at ≡ None → AllOf (λ p. (q.tablets p.slot).version ≡ q.version) q.places
  pub over : is_future q.at q.now ≡ false

-- a read is refused for the first place that has the cause, where no earlier one comes, and else has the view's rows
pub data ReadAnswer (q : RowsRead) (changes : List Change) : Reply → Type 0 where
  ReadMoved : (slot : ℕ) (stands : Standing) (place : At) (first : FirstMoved q 0 q.places place)
      (slot_is : slot ≡ place.slot) (stands_is : stands ≡ standing (q.tablets place.slot))
      → ReadAnswer q changes (Refused (Moved slot stands))
  ReadFenced : (operation : Id) (place : At) (served : AllServed q 0 q.places)
      (first : FirstWith (λ p. (q.tablets p.slot).fence ≢ None) q.places place)
      (fenced : (q.tablets place.slot).fence ≡ Some operation) → ReadAnswer q changes (Refused (Fenced operation))
  ReadStale : (kept : ℕ) (place : At) (may : MayRead q) (at_now : q.at ≡ None)
      (first : FirstWith (λ p. (q.tablets p.slot).version ≢ q.version) q.places place)
      (kept_is : kept ≡ (q.tablets place.slot).version) → ReadAnswer q changes (Refused (StaleSchema kept))
  ReadNotYet : (end : ℕ) (may : MayRead q) (later : is_future q.at q.now ≡ true) (end_is : end ≡ q.now)
      → ReadAnswer q changes (Refused (Future end))
  ReadTooOld : (asked cutoff : ℕ) (place : At) (may : MayReadThen q)
      (first : FirstWith (λ p. is_below q.at (q.tablets p.slot).cutoff ≡ true) q.places place)
      (asked_is : asked ≡ time_of q.at q.now) (cutoff_is : cutoff ≡ (q.tablets place.slot).cutoff)
      → ReadAnswer q changes (Refused (TooOld asked cutoff))
  GivesRows : (rows : List KeyedRow) (may : MayReadThen q)
      (reached : AllOf (λ p. is_below q.at (q.tablets p.slot).cutoff ≡ false) q.places)
      (right : RowsRight changes (time_of q.at q.now) q.key q.columns q.tablets q.places rows)
      → ReadAnswer q changes (Rows rows)
