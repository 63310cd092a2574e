-- A row that is folded from operations has its cells in order of column, so that one upsert of them gives it again.
use Rattle.std.proofs.Common.{ℕ, ◌≡◌, ◌≤◌, ◌<◌, ◌+◌, List, [], ◌∷◌, ◌++◌, Bool, true, false, refl, sym, ap, subst, ◌∙◌, fold, arith, append-nil, append_assoc, eqb-true, ltb-true, ltb, eqb, leb, ◌&&◌}
use Rattle.std.proofs.lemmas.Bool.{cond_both}
use Rattle.std.proofs.lemmas.Bool.Decides.{nat_tests}
use Rattle.std.specs.Str.{bytes_eq}
use Rattle.row_values.specs.Rows.{put_cell, put_cells, cells_of, applied, absent_row}
use Rattle.row_values.specs.declared.value.Cell.{Cell}
use Rattle.row_values.specs.declared.value.RowOp.{RowOp}
use Rattle.row_values.specs.declared.value.RowOp.TheVariants.{Upsert, Delete}
use Rattle.row_values.specs.declared.rows.Row.{Row}
use Rattle.row_values.specs.Store.{Version, read_step, read_of}
use Rattle.law_store.specs.Sorted.{RiseFrom, SortedCells, RowOf, IsRow}

rise_put : (n : ℕ) (c : Cell) (cs : List Cell) → RiseFrom n cs → n ≤ c.column → RiseFrom n (put_cell c cs)
rise_put n c [] h l = (l, tt)
rise_put n c (d ∷ ds) h l = cond_both (ltb d.column c.column) _ _ (RiseFrom n)
    (λ e. (h.0, rise_put (d.column + 1) c ds h.1 (omega (arith, ltb-true _ _ e))))
    (λ e. cond_both (eqb d.column c.column) _ _ (RiseFrom n)
    (λ q. (l, let P : ℕ → Type 0 = λ x. RiseFrom (x + 1) ds in subst P (eqb-true _ _ q) h.1))
    (λ q. (l, (grind (arith, nat_tests), h.1))))

-- sorted cells stay sorted
pub sorted_put_cells : (cs kept : List Cell) → SortedCells kept → SortedCells (put_cells kept cs)
sorted_put_cells [] kept h = h
sorted_put_cells (c ∷ cs) kept h = sorted_put_cells cs (put_cell c kept) (rise_put 0 c kept h (omega arith))

sorted_cells_of : (present : Bool) (cells : List Cell) → RowOf present cells → SortedCells (cells_of (record { present = present; cells = cells }))
sorted_cells_of true cells h = h
sorted_cells_of false cells h = tt

pub row_applied : (row : Row) (op : RowOp) → IsRow row → IsRow (applied row op)
row_applied row (Upsert cells) h = sorted_put_cells cells (cells_of row) (sorted_cells_of row.present row.cells h)
row_applied row Delete h = refl

pub row_folded : (vs : List Version) (key : List ℕ) (x : ℕ) (row : Row) → IsRow row → IsRow (fold (read_step key x) row vs)
row_folded [] key x row h = h
row_folded (v ∷ vs) key x row h = row_folded vs key x _ (cond_both (bytes_eq v.key key && leb v.stamp x) _ _ IsRow (λ e. row_applied row v.op h) (λ e. h))

-- what is read is a row
pub row_read : (vs : List Version) (key : List ℕ) (x : ℕ) → IsRow (read_of vs key x)
row_read vs key x = row_folded vs key x absent_row refl

-- each column is below n
abbrev UpTo : List Cell → ℕ → Type 0
UpTo [] n = Unit {0}
UpTo (c ∷ cs) n = (c.column < n) × UpTo cs n

put_end : (row : List Cell) (c : Cell) → UpTo row c.column → put_cell c row ≡ row ++ c ∷ []
put_end [] c h = refl
put_end (d ∷ ds) c h = let less : ltb d.column c.column ≡ true = let k = h.0 in grind (arith, nat_tests) in rw (less, put_end ds c h.1)

up_weaker : (row : List Cell) (m n : ℕ) → m ≤ n → UpTo row m → UpTo row n
up_weaker [] m n l h = tt
up_weaker (d ∷ ds) m n l h = (omega (arith, h.0), up_weaker ds m n l h.1)

up_push : (row : List Cell) (c : Cell) → UpTo row c.column → UpTo (row ++ c ∷ []) (c.column + 1)
up_push [] c h = (omega arith, tt)
up_push (d ∷ ds) c h = (omega (arith, h.0), up_push ds c h.1)

put_all_end : (cs row : List Cell) (n : ℕ) → UpTo row n → RiseFrom n cs → put_cells row cs ≡ row ++ cs
put_all_end [] row n up rise = sym (append-nil row)
put_all_end (c ∷ cs) row n up rise =
    let below : UpTo row c.column = up_weaker row n c.column rise.0 up in
    rw (put_end row c below) (put_all_end cs (row ++ c ∷ []) (c.column + 1) (up_push row c below) rise.1 ∙ append_assoc row (c ∷ []) cs)

-- one upsert of sorted cells gives them
pub upsert_sorted : (cells : List Cell) → SortedCells cells → applied absent_row (Upsert cells) ≡ record { present = true; cells = cells }
upsert_sorted cells h = ap (λ cs. record { present = true; cells = cs }) (put_all_end cells [] 0 tt h)

-- a row that is not present is the absent row
pub absent_is : (row : Row) → IsRow row → row.present ≡ false → row ≡ absent_row
absent_is row h e = let P : Bool → Type 0 = λ b. RowOf b row.cells in let none : row.cells ≡ [] = subst P e h in
    ap (λ b. record { present = b; cells = row.cells }) e ∙ ap (λ cs. record { present = false; cells = cs }) none

-- a present row is one upsert of its cells
pub upsert_row : (row : Row) → IsRow row → row.present ≡ true → applied absent_row (Upsert row.cells) ≡ row
upsert_row row h e = let P : Bool → Type 0 = λ b. RowOf b row.cells in
    upsert_sorted row.cells (subst P e h) ∙ ap (λ b. record { present = b; cells = row.cells }) (sym e)
