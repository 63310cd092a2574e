-- In what order a tablet's versions stand, and what a fold of operations leaves of a row.
use Rattle.std.specs.Prelude.{◌≡◌, ℕ, ◌≤◌, ◌+◌, Bool, true, false, List, [], ◌∷◌, if◌then◌else◌}
use Rattle.std.specs.Str.{bytes_eq}
use Rattle.row_values.specs.Rows.{applied}
use Rattle.row_values.specs.declared.value.Item.{Item}
use Rattle.row_values.specs.declared.rows.Row.{Row}
use Rattle.row_values.specs.declared.rows.KeyedRow.{KeyedRow}
use Rattle.row_values.specs.declared.value.Cell.{Cell}
use Rattle.row_values.specs.Store.{Version, precedes, has_old}

-- a version of the key and the stamp may stand ahead of the list: no key there precedes its own, and no stamp of its
-- own key there is earlier
abbrev pub Leads : List ℕ → ℕ → List Version → Type 0
Leads key stamp [] = Unit {0}
Leads key stamp (v ∷ vs) = (precedes v.key key ≡ false) × (v.key ≡ key → stamp ≤ v.stamp) × Leads key stamp vs

-- the versions are in order of key, and within a key the stamps don't fall
abbrev pub Sorted : List Version → Type 0
Sorted [] = Unit {0}
Sorted (v ∷ vs) = Leads v.key v.stamp vs × Sorted vs

-- the columns rise, from one on
abbrev pub RiseFrom : ℕ → List Cell → Type 0
RiseFrom column [] = Unit {0}
RiseFrom column (c ∷ cs) = (column ≤ c.column) × RiseFrom (c.column + 1) cs

-- the cells are strictly in order of column
abbrev pub SortedCells : List Cell → Type 0
SortedCells cells = RiseFrom 0 cells

abbrev pub RowOf : Bool → List Cell → Type 0
RowOf true cells = SortedCells cells
RowOf false cells = cells ≡ []

-- a row as a fold of operations leaves it: present with sorted cells, or absent with none
abbrev pub IsRow : Row → Type 0
IsRow row = RowOf row.present row.cells

-- the row after an item of a batch, where the item is of the key
abbrev pub item_step : List ℕ → Row → Item → Row
item_step key row item = if bytes_eq item.key key then applied row item.op else row

-- no two versions stamped at or before c have the same key
abbrev pub OnceOld : ℕ → List Version → Type 0
OnceOld c [] = Unit {0}
OnceOld c (v ∷ vs) = (v.stamp ≤ c → has_old vs v.key c ≡ false) × OnceOld c vs

-- each key of the versions comes strictly behind this one
abbrev pub Behind : List ℕ → List Version → Type 0
Behind key [] = Unit {0}
Behind key (v ∷ vs) = (precedes key v.key ≡ true) × Behind key vs

-- each key of the rows comes strictly behind this one
abbrev pub RowsBehind : List ℕ → List KeyedRow → Type 0
RowsBehind key [] = Unit {0}
RowsBehind key (r ∷ rs) = (precedes key r.key ≡ true) × RowsBehind key rs

-- the keys of the rows rise, so each stands once
abbrev pub Rising : List KeyedRow → Type 0
Rising [] = Unit {0}
Rising (r ∷ rs) = RowsBehind r.key rs × Rising rs

-- each version is stamped n
abbrev pub StampedAt : ℕ → List Version → Type 0
StampedAt n [] = Unit {0}
StampedAt n (v ∷ vs) = (v.stamp ≡ n) × StampedAt n vs

-- each row is present, with its cells in order
abbrev pub ArePresent : List KeyedRow → Type 0
ArePresent [] = Unit {0}
ArePresent (r ∷ rs) = (r.row.present ≡ true) × IsRow r.row × ArePresent rs

-- each key of the versions, of the rows, of the items passes the test
abbrev pub EachKey : (List ℕ → Bool) → List Version → Type 0
EachKey test [] = Unit {0}
EachKey test (v ∷ vs) = (test v.key ≡ true) × EachKey test vs

abbrev pub EachRowKey : (List ℕ → Bool) → List KeyedRow → Type 0
EachRowKey test [] = Unit {0}
EachRowKey test (r ∷ rs) = (test r.key ≡ true) × EachRowKey test rs

abbrev pub EachItemKey : (List ℕ → Bool) → List Item → Type 0
EachItemKey test [] = Unit {0}
EachItemKey test (item ∷ items) = (test item.key ≡ true) × EachItemKey test items
