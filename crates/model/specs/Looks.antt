-- What the looks at the master answer: the plan of a command, the place of keys or of a table, the slots that hold a
-- tablet. What a look or a command names is found here.
use Rattle.std.specs.Prelude.{ℕ, zero, suc, ◌+◌, Bool, not, ◌&&◌, ◌||◌, List, [], ◌∷◌, map, length, take, is_some, if◌then◌else◌, nat_le, ◌==◌, Option, Some, None, option_map, Result, Ok, Err, false, filter, find, option_to_list, ok_or}
use Rattle.model.specs.Cluster.{option_or, code_of, Value, Id, same, has, rising, in_range, Column, column_named, is_of_kind, is_open, time_of, is_future, is_below, kept_from, TableRecord, namespace_named, table_named, current_named, current_table, Interval, TabletPair, CloneRecord, is_cloned, CreateNamespace, DropNamespace, CreateTable, AddColumn, DropColumn, RenameTable, DropTable, Split, CreateSchedule, EditSchedule, DeleteSchedule, TakeSnapshot, Restore, CloneNamespace, ListSchedules, ListSnapshots, ListRestorations, ListClones, ListTablets, NamedCell, NamedOp, NamedUpsert, NamedDelete, NamedItem, Refusal, UnknownNamespace, UnknownTable, UnknownColumn, WrongKind, Future, CrossTablet, SlotsFull, TooOld, Place, Planned, Placed, Present, Master, Outcome, If, Fault, checked, and_found, decided, answered}
use Rattle.model.specs.Acts.{Command}
use Rattle.model.specs.Lists.{by_range}

-- whether a target tablet is in the slot
abbrev pub has_target : List TabletPair → ℕ → Bool
has_target [] slot = false
has_target (p ∷ pairs) slot = (p.slot == slot) || has_target pairs slot

-- whether an unfinished clone has reserved the slot
abbrev pub is_reserved : List CloneRecord → ℕ → Bool
is_reserved [] slot = false
is_reserved (r ∷ rs) slot = (not (is_cloned r.state) && has_target r.tablets slot) || is_reserved rs slot

-- whether no present tablet and no unfinished clone has the slot
abbrev pub is_free : Master → ℕ → Bool
is_free m slot = not (has (map (λ i. i.slot) m.activity) slot || is_reserved m.clones slot)

-- so many numbers, from the second on
abbrev pub counting : ℕ → ℕ → List ℕ
counting zero from = []
counting (suc count) from = from ∷ counting count (from + 1)

-- the free slots, in rising order
abbrev pub free_slots : Master → List ℕ
free_slots m = filter (is_free m) (counting m.slots 1)

-- the least so many of them, where there are so many
abbrev pub least_slots : ℕ → List ℕ → List ℕ
least_slots count slots = if nat_le count (length slots) then take count slots else []

-- the namespace of a name
abbrev pub found_namespace : Master → List ℕ → Result Id Refusal
found_namespace m name = ok_or (namespace_named m.catalog.namespaces name) UnknownNamespace

-- the current table of a name in the namespace of a name
abbrev pub found_table : Master → List ℕ → List ℕ → Result TableRecord Refusal
found_table m namespace table =
    and_found (found_namespace m namespace) (λ ns. current_named m.catalog.tables ns table) UnknownTable

-- the table's tablets that are active
abbrev pub active_in : Master → Id → List Interval
active_in m table = filter (λ i. is_open i.to && same i.table table) m.activity

-- the table's active tablet that holds the code
abbrev pub holding : Master → Id → ℕ → Option Interval
holding m table code = find (λ i. in_range i.low i.high code) (active_in m table)

-- the slots of a table's active tablets, in rising order
abbrev pub slots_of_table : Master → Id → List ℕ
slots_of_table m table = rising (map (λ i. i.slot) (active_in m table))

-- a table's tablet that is to be split: its active one that holds the code
pub record Parent : Type 0 where
  pub table : TableRecord
  pub tablet : Interval

abbrev pub found_parent : Master → List ℕ → List ℕ → ℕ → Result Parent Refusal
found_parent m namespace table code = and_found (found_table m namespace table)
    (λ t. option_map (λ i. record { table = t; tablet = i }) (holding m t.id code)) UnknownTable

-- a parent, and the slots of its two children
pub record Family : Type 0 where
  pub parent : Parent
  pub low_slot : ℕ
  pub high_slot : ℕ

abbrev pub family : Parent → List ℕ → Option Family
family parent [] = None
family parent (slot ∷ []) = None
family parent (low ∷ high ∷ free) = Some (record { parent = parent; low_slot = low; high_slot = high })

-- the two least free slots are the children's
abbrev pub found_family : Result Parent Refusal → Master → Result Family Refusal
found_family parent m =
    and_found parent (λ p. family p (free_slots m)) (SlotsFull (length (free_slots m)) 2)

-- the slots for what was found; none where it wasn't
abbrev pub slots_for : {A : Type 0} → Result A Refusal → (A → List ℕ) → List ℕ
slots_for (Err why) slots = []
slots_for (Ok found) slots = slots found

-- the slots that a command touches besides the master
unfoldable pub plan_of : Command → Master → List ℕ
plan_of (CreateTable namespace table tablets columns) m =
    slots_for (found_namespace m namespace) (λ ns. least_slots tablets (free_slots m))
plan_of (AddColumn namespace table name kind) m =
    slots_for (found_table m namespace table) (λ t. slots_of_table m t.id)
plan_of (DropColumn namespace table name) m =
    slots_for (found_table m namespace table) (λ t. slots_of_table m t.id)
plan_of (DropTable namespace table) m =
    slots_for (found_table m namespace table) (λ t. slots_of_table m t.id)
plan_of (Split namespace table code) m =
    slots_for (found_family (found_parent m namespace table code) m)
    (λ f. f.parent.tablet.slot ∷ f.low_slot ∷ f.high_slot ∷ [])
plan_of (CreateNamespace name) m = []
plan_of (DropNamespace name) m = []
plan_of (RenameTable namespace table name) m = []
plan_of (CreateSchedule interval retention namespace) m = []
plan_of (EditSchedule schedule interval retention) m = []
plan_of (DeleteSchedule schedule) m = []
plan_of (TakeSnapshot schedule) m = []
plan_of (Restore schedule to) m = []
plan_of (CloneNamespace source target to) m = []
plan_of ListSchedules m = []
plan_of ListSnapshots m = []
plan_of ListRestorations m = []
plan_of ListClones m = []
plan_of (ListTablets namespace) m = []

-- a record of the table that counts only where the table is current
abbrev pub if_current : List TableRecord → Option TableRecord → Option TableRecord
if_current rs None = None
if_current rs (Some t) = if is_some (current_table rs t.id) then Some t else None

-- the current table of a name; where a time is asked, the table that had the name then, if it is current
abbrev pub table_asked : List TableRecord → Id → List ℕ → Option ℕ → Option TableRecord
table_asked rs ns name None = current_named rs ns name
table_asked rs ns name (Some x) = if_current rs (table_named rs ns name x)

-- what is wrong with a value for a column
abbrev pub value_fault : Option Column → Value → Option Refusal
value_fault None value = Some UnknownColumn
value_fault (Some column) value = if is_of_kind column.kind value then None else Some WrongKind

-- what is wrong with the first cell that is faulty
abbrev pub cells_fault : List Column → List NamedCell → Option Refusal
cells_fault columns [] = None
cells_fault columns (cell ∷ cells) =
    option_or (value_fault (column_named columns cell.column) cell.value) (cells_fault columns cells)

abbrev pub op_fault : List Column → NamedOp → Option Refusal
op_fault columns (NamedUpsert cells) = cells_fault columns cells
op_fault columns NamedDelete = None

abbrev pub batch_fault : List Column → List NamedItem → Option Refusal
batch_fault columns [] = None
batch_fault columns (item ∷ items) = option_or (op_fault columns item.op) (batch_fault columns items)

-- the code of a batch's first key
abbrev pub first_code : List NamedItem → ℕ
first_code [] = 0
first_code (item ∷ items) = code_of item.key

-- the code of the first key that isn't in the tablet's range
abbrev pub code_outside : Interval → List NamedItem → Option ℕ
code_outside i [] = None
code_outside i (item ∷ items) =
    if in_range i.low i.high (code_of item.key) then code_outside i items else Some (code_of item.key)

-- the code of the first key that is in another tablet
abbrev pub other_code : Option Interval → List NamedItem → Option ℕ
other_code None batch = None
other_code (Some home) batch = code_outside home batch

abbrev pub place_of : Interval → Place
place_of i = record { slot = i.slot; tablet = i.tablet; low = i.low; high = i.high }

-- a look for a command's plan
unfoldable pub look_plan : Command → Master → Outcome
look_plan command m = answered (Planned (plan_of command m))

-- the table of a look: the time is neither to come nor from before the catalog is kept
abbrev pub found_at : List ℕ → List ℕ → Option ℕ → ℕ → Master → Result TableRecord Refusal
found_at namespace table at n m =
    let kept : Id → ℕ = kept_from m.catalog.kept_from in
    and_found
    (checked (found_namespace m namespace)
    (λ ns. If (is_future at n) (Future n) ∷ If (is_below at (kept ns)) (TooOld (time_of at n) (kept ns)) ∷ []))
    (λ ns. table_asked m.catalog.tables ns table at) UnknownTable

-- the table of a look for keys: its columns take the batch, and one tablet holds all keys
abbrev pub judge_keys : List ℕ → List ℕ → List NamedItem → Option ℕ → ℕ → Master
    → Result TableRecord Refusal
judge_keys namespace table batch at n m =
    let first = first_code batch in
    checked (found_at namespace table at n m)
    (λ t. Fault (batch_fault t.schema.columns batch)
    ∷ Fault (option_map (CrossTablet first) (other_code (holding m t.id first) batch))
    ∷ [])

abbrev pub placed : List Interval → TableRecord → Outcome
placed is t = answered (Placed (map place_of is) t.schema.version t.schema.columns)

-- a look for the tablet that holds the keys of a batch
unfoldable pub look_keys : List ℕ → List ℕ → List NamedItem → Option ℕ → ℕ → Master → Outcome
look_keys namespace table batch at n m = decided (judge_keys namespace table batch at n m)
    (λ t. placed (option_to_list (holding m t.id (first_code batch))) t)

-- a look for all active tablets of a table
unfoldable pub look_table : List ℕ → List ℕ → Option ℕ → ℕ → Master → Outcome
look_table namespace table at n m =
    decided (found_at namespace table at n m) (λ t. placed (by_range (active_in m t.id)) t)

-- a look for the slots of all tablets that the master knows
unfoldable pub look_present : Master → Outcome
look_present m = answered (Present (rising (map (λ i. i.slot) m.activity)))
