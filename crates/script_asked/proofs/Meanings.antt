-- What the words of a place mean keeps the bounds of what may be asked.
use Rattle.std.proofs.Common.{◌≡◌, ℕ, ◌^◌, ◌<◌, ◌≤◌, Bool, true, false, ◌&&◌, List, [], ◌∷◌, ◌++◌, length, Option, Some, None, refl, sym, subst, append_assoc, arith}
use Rattle.std.specs.Prelude.{nat_le, bytes_eq}
use Rattle.std.specs.List.{AllByRecursion, list_all, list_any}
use Rattle.std.proofs.lemmas.Bool.{and_parts, or_parts}
use Rattle.row_values.specs.Elements.{AllOf}
use Rattle.row_values.specs.Batches.{IsKey, IsValue}
use Rattle.row_values.specs.Schema.{NewColumn}
use Rattle.row_values.specs.declared.value.Value.{Value}
use Rattle.row_values.specs.declared.value.Value.TheVariants as values
use Rattle.model.specs.Acts.{NamedCell, NamedItem, NamedOp, NamedUpsert, NamedDelete}
use Rattle.model.specs.Times.{end_of_time}
use Rattle.model.specs.Entries.{IsSlot, IsName, IsNamedOp, IsNamedBatch, NotNamed, NamesDiffer, IsTime}
use Rattle.model.specs.Scripts.{Time, Micros, MinusMinutes, MinusSeconds, Exact, time_at, asked_at}
use Rattle.script_places.specs.declared.place.Place.{Place}
use Rattle.script_places.specs.declared.place.Place.TheVariants as places
use Rattle.script_places.specs.Words.{Word}
use Rattle.script_places.specs.Names.{is_name, is_key, begins_name, is_name_byte, is_key_byte}
use Rattle.script_places.specs.Columns.{has_name}
use Rattle.script_places.specs.Places.{Meaning}
use Rattle.script_places.proofs.Cuts.{at_most, same_words, words_same}
use Rattle.script_places.specs.Spelling.{FitsValue, FitsCell, FitsColumn, AreNew, FitsTime, FitsMaybe, FitsOp, FitsItem, Writes}

-- Names and keys

name_asked : (w : List ℕ) → is_name w ≡ true → IsName w
unfolding is_name
name_asked [] is = absurd cc
name_asked (b ∷ bs) is =
    let few = (and_parts (begins_name b && list_all is_name_byte bs) (nat_le (length bs) 31) is).1 in
    let most : length bs ≤ 31 = at_most (length bs) 31 few in
    (omega arith, omega (arith, most))

key_asked : (w : List ℕ) → is_key w ≡ true → IsKey w
unfolding is_key
key_asked w is =
    let both = (and_parts (nat_le 1 (length w) && nat_le (length w) 64) (list_all is_key_byte w) is).0 in
    let parts = and_parts (nat_le 1 (length w)) (nat_le (length w) 64) both in
    (at_most 1 (length w) parts.0, at_most (length w) 64 parts.1)

-- Cells and items

all_of : {A : Type 0} (P Q : A → Type 0) → ((x : A) → P x → Q x) → (xs : List A) → AllByRecursion P xs → AllOf Q xs
all_of P Q each [] all = tt {0}
all_of P Q each (x ∷ xs) all = (each x all.0, all_of P Q each xs all.1)

value_asked : (value : Value) → FitsValue value → IsValue value
value_asked (values.Int number) fits = tt {0}
value_asked (values.Text text) fits = fits.0
value_asked values.Null fits = tt {0}

abbrev pub CellAsked : NamedCell → Type 0
CellAsked c = IsName c.column × IsValue c.value

cell_asked : (cell : NamedCell) → FitsCell cell → CellAsked cell
cell_asked cell fits = (name_asked cell.column fits.0, value_asked cell.value fits.1)

pub cells_asked : (cells : List NamedCell) → AllByRecursion FitsCell cells → length cells ≤ 16
    → IsNamedOp (NamedUpsert cells)
cells_asked cells fits few = (few, all_of FitsCell CellAsked cell_asked cells fits)

op_asked : (op : NamedOp) → FitsOp op → IsNamedOp op
op_asked (NamedUpsert cells) fits = cells_asked cells fits.0 fits.2
op_asked NamedDelete fits = tt {0}

abbrev ItemAsked : NamedItem → Type 0
ItemAsked i = IsKey i.key × IsNamedOp i.op

item_asked : (item : NamedItem) → FitsItem item → ItemAsked item
item_asked item fits = (key_asked item.key fits.0, op_asked item.op fits.1)

items_asked : (items : List NamedItem) → AllByRecursion FitsItem items → 1 ≤ length items → length items ≤ 64
    → IsNamedBatch items
items_asked items fits some few = (some, few, all_of FitsItem ItemAsked item_asked items fits)

-- Columns

abbrev ColumnAsked : NewColumn → Type 0
ColumnAsked c = IsName c.name

column_asked : (column : NewColumn) → FitsColumn column → ColumnAsked column
column_asked column fits = name_asked column.name fits

not_either : (a b : List ℕ) (test : Bool) → bytes_eq a b ≡ false → bytes_eq b a ≡ test → test ≡ false
not_either a b true apart same =
    absurd (let e : bytes_eq a b ≡ true = words_same a b (sym (same_words b a same)) in cc)
not_either a b false apart same = refl

-- whether a column has the name
abbrev named : List ℕ → NewColumn → Bool
named name d = bytes_eq d.name name

-- a column whose name no earlier one has
differs : (c : NewColumn) (before behind : List NewColumn) (name : List ℕ)
    → has_name (before ++ (c ∷ behind)) name ≡ false → bytes_eq c.name name ≡ false
unfolding has_name
differs c [] behind name new = (or_parts (named name c) (list_any (named name) behind) new).0
differs c (b ∷ before) behind name new =
    differs c before behind name (or_parts (named name b) (list_any (named name) (before ++ (c ∷ behind))) new).1

apart_from : (c : NewColumn) (before behind columns : List NewColumn)
    → AreNew (before ++ (c ∷ behind)) columns → NotNamed c.name columns
apart_from c before behind [] new = tt {0}
apart_from c before behind (d ∷ ds) new = (
  not_either c.name d.name (bytes_eq d.name c.name) (differs c before behind d.name new.0) refl,
  apart_from c before (behind ++ (d ∷ [])) ds
      (subst (λ (earlier : List NewColumn). AreNew earlier ds) (append_assoc before (c ∷ behind) (d ∷ [])) new.1),
)

differ_from : (earlier columns : List NewColumn) → AreNew earlier columns → NamesDiffer columns
differ_from earlier [] new = tt {0}
differ_from earlier (c ∷ cs) new = (apart_from c earlier [] cs new.1, differ_from (earlier ++ (c ∷ [])) cs new.1)

-- Times

time_asked : (reading : ℕ) (time : Time) → reading < 2 ^ 50 → FitsTime time → time_at reading time < end_of_time
time_asked reading (Micros micros) soon fits = omega (arith, fits)
time_asked reading (MinusMinutes minutes) soon fits = omega (arith, soon)
time_asked reading (MinusSeconds seconds) soon fits = omega (arith, soon)
time_asked reading (Exact time) soon fits = fits

maybe_asked : (reading : ℕ) (at : Option Time) → reading < 2 ^ 50 → FitsMaybe at → IsTime (asked_at reading at)
maybe_asked reading None soon fits = tt {0}
maybe_asked reading (Some time) soon fits = time_asked reading time soon fits

-- Places

-- the bounds that the meaning of a place keeps
abbrev pub Bounded : ℕ → (place : Place) → Meaning place → Type 0
Bounded slots places.Tablets _ = Unit {0}
Bounded slots places.Name name = IsName name
Bounded slots places.Database name = IsName name
Bounded slots places.Key key = IsKey key
Bounded slots (places.Number least most) n = (least ≤ n) × (n ≤ most)
Bounded slots places.Slot n = IsSlot slots n
Bounded slots (places.Identifier kind) i = Unit {0}
Bounded slots places.Column column = IsName column.name
Bounded slots places.Time time = (reading : ℕ) → reading < 2 ^ 50 → time_at reading time < end_of_time
Bounded slots places.MaybeTime at = (reading : ℕ) → reading < 2 ^ 50 → IsTime (asked_at reading at)
Bounded slots places.Cells cells = IsNamedOp (NamedUpsert cells)
Bounded slots places.Columns columns =
    ((1 ≤ length columns) × (length columns ≤ 16)) × AllOf ColumnAsked columns × NamesDiffer columns
Bounded slots places.Items items = IsNamedBatch items

pub bounded : (slots : ℕ) (place : Place) (x : Meaning place) (ws : List Word) → Writes slots place x ws
    → Bounded slots place x
bounded slots places.Tablets x ws writes = tt {0}
bounded slots places.Name name ws writes = name_asked name writes.1
bounded slots places.Database name ws writes = name_asked name writes.2.0
bounded slots places.Key key ws writes = key_asked key writes.1
bounded slots (places.Number least most) n ws writes = (writes.1, writes.2)
bounded slots places.Slot n ws writes = (writes.1, writes.2)
bounded slots (places.Identifier kind) i ws writes = tt {0}
bounded slots places.Column column ws writes = column_asked column writes.1
bounded slots places.Time time ws writes = λ reading soon. time_asked reading time soon writes.1
bounded slots places.MaybeTime at ws writes = λ reading soon. maybe_asked reading at soon writes.1
bounded slots places.Cells cells ws writes = cells_asked cells writes.1 writes.3
bounded slots places.Columns columns ws writes =
    ((writes.3, writes.4), all_of FitsColumn ColumnAsked column_asked columns writes.1, differ_from [] columns writes.2)
bounded slots places.Items items ws writes = items_asked items writes.1 writes.2 writes.3
