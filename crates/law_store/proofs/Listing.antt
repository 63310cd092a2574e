-- The rows at a time: each key once, in order; and versions made of rows read as the rows.
use Rattle.std.proofs.Common.{◌≡◌, ℕ, ◌≤◌, ◌<◌, true, false, cond, List, [], ◌∷◌, ◌++◌, refl, sym, ap, ◌∙◌, fold, arith, leb, le_refl, append-nil}
use Rattle.std.proofs.lemmas.Bool.{cond_both}
use Rattle.std.proofs.lemmas.Bool.Decides.{nat_tests}
use Rattle.std.specs.Str.{bytes_eq}
use Rattle.row_values.specs.Rows.{absent_row, applied}
use Rattle.row_values.specs.declared.rows.Row.{Row}
use Rattle.row_values.specs.declared.rows.KeyedRow.{KeyedRow}
use Rattle.row_values.specs.declared.value.RowOp.TheVariants.{Upsert}
use Rattle.row_values.specs.Store.{Version, read_step, read_of, has_key, present, rows_from, rows_at, of_rows, Below, of_key}
use Rattle.law_store.specs.Sorted.{Leads, Sorted, Behind, RowsBehind, Rising, StampedAt}
use Rattle.law_store.proofs.Keys.{either_way, equal_keys, precedes_back, precedes_other}
use Rattle.law_store.proofs.Cells.{row_read, absent_is, upsert_row}
use Rattle.law_store.proofs.Merging.{of_key_append, of_key_present}

no_key_reads : (vs : List Version) (key : List ℕ) (x : ℕ) (row : Row) → has_key vs key ≡ false → fold (read_step key x) row vs ≡ row
no_key_reads [] key x row h = refl
no_key_reads (v ∷ vs) key x row h = grind (arith, nat_tests, no_key_reads vs key x row)

of_key_from : (vs all : List Version) (x : ℕ) (key : List ℕ) → of_key key (rows_from all vs x) ≡ cond (has_key vs key) (present key (read_of all key x)) []
of_key_from [] all x key = refl
of_key_from (v ∷ vs) all x key =
    let rest = of_key_from vs all x key in
    let row = read_of all v.key x in
    either_way (has_key vs v.key)
    (λ more. rw more (rest ∙ either_way (bytes_eq v.key key)
    (λ mine. let some : has_key vs key ≡ true = ap (has_key vs) (sym (equal_keys v.key key mine)) ∙ more in rw (mine, some) refl)
    (λ other. rw other refl)))
    (λ last. rw last (of_key_append (present v.key row) (rows_from all vs x) key
    ∙ ap (λ rs. rs ++ of_key key (rows_from all vs x)) (of_key_present row v.key key) ∙ either_way (bytes_eq v.key key)
    (λ mine. let none : has_key vs key ≡ false = ap (has_key vs) (sym (equal_keys v.key key mine)) ∙ last in
    rw mine (ap (λ rs. present key row ++ rs) (rest ∙ ap (λ b. cond b (present key (read_of all key x)) []) none)
    ∙ append-nil (present key row) ∙ ap (λ k. present key (read_of all k x)) (equal_keys v.key key mine)))
    (λ other. rw other rest)))

-- of each key the rows at x have its row, where it is present
pub of_key_rows_at : (vs : List Version) (x : ℕ) (key : List ℕ) → of_key key (rows_at vs x) ≡ present key (read_of vs key x)
of_key_rows_at vs x key = of_key_from vs vs x key ∙ either_way (has_key vs key)
    (λ some. rw some refl)
    (λ none. rw (none, no_key_reads vs key x absent_row none) refl)

rows_behind : (vs all : List Version) (x : ℕ) (key : List ℕ) → Behind key vs → RowsBehind key (rows_from all vs x)
rows_behind [] all x key h = tt
rows_behind (v ∷ vs) all x key h = let rest = rows_behind vs all x key h.1 in
    cond_both (has_key vs v.key) _ _ (λ rs. RowsBehind key (rs ++ rows_from all vs x))
    (λ more. rest)
    (λ last. cond_both (read_of all v.key x).present _ _ (λ rs. RowsBehind key (rs ++ rows_from all vs x)) (λ here. (h.0, rest)) (λ none. rest))

last_behind : (vs : List Version) (key : List ℕ) (stamp : ℕ) → Leads key stamp vs → has_key vs key ≡ false → Behind key vs
last_behind [] key stamp h last = tt
last_behind (v ∷ vs) key stamp h last = (precedes_other v.key key h.0 (grind arith), last_behind vs key stamp h.2 (grind arith))

rising_from : (vs all : List Version) (x : ℕ) → Sorted vs → Rising (rows_from all vs x)
rising_from [] all x h = tt
rising_from (v ∷ vs) all x h = let rest = rising_from vs all x h.1 in
    cond_both (has_key vs v.key) _ _ (λ rs. Rising (rs ++ rows_from all vs x))
    (λ more. rest)
    (λ last. cond_both (read_of all v.key x).present _ _ (λ rs. Rising (rs ++ rows_from all vs x))
    (λ here. (rows_behind vs all x v.key (last_behind vs v.key v.stamp h.0 last), rest)) (λ none. rest))

-- the keys of the rows at x rise
pub rising_rows_at : (vs : List Version) (x : ℕ) → Sorted vs → Rising (rows_at vs x)
rising_rows_at vs x h = rising_from vs vs x h

abbrev pub upsert_step : Row → KeyedRow → Row
upsert_step row r = applied row (Upsert r.row.cells)

pub of_rows_reads : (rs : List KeyedRow) (n : ℕ) (key : List ℕ) (y : ℕ) (row : Row) → n ≤ y → fold (read_step key y) row (of_rows rs n) ≡ fold upsert_step row (of_key key rs)
of_rows_reads [] n key y row l = refl
of_rows_reads (r ∷ rs) n key y row l = let soon : leb n y ≡ true = grind (arith, nat_tests) in
    let w : Version = record { key = r.key; stamp = n; op = Upsert r.row.cells } in either_way (bytes_eq r.key key)
    (λ mine. let now : read_step key y row w ≡ upsert_step row r = cc in
    ap (λ q. fold (read_step key y) q (of_rows rs n)) now ∙ of_rows_reads rs n key y (upsert_step row r) l
    ∙ ap (λ b. fold upsert_step row (cond b (r ∷ of_key key rs) (of_key key rs))) (sym mine))
    (λ other. let now : read_step key y row w ≡ row = rw other refl in
    ap (λ q. fold (read_step key y) q (of_rows rs n)) now ∙ of_rows_reads rs n key y row l
    ∙ ap (λ b. fold upsert_step row (cond b (r ∷ of_key key rs) (of_key key rs))) (sym other))

pub of_rows_early : (rs : List KeyedRow) (n : ℕ) (key : List ℕ) (y : ℕ) (row : Row) → y < n → fold (read_step key y) row (of_rows rs n) ≡ row
of_rows_early [] n key y row l = refl
of_rows_early (r ∷ rs) n key y row l = let late : leb n y ≡ false = grind (arith, nat_tests) in
    let w : Version = record { key = r.key; stamp = n; op = Upsert r.row.cells } in
    let now : read_step key y row w ≡ row = grind (arith, nat_tests) in
    ap (λ q. fold (read_step key y) q (of_rows rs n)) now ∙ of_rows_early rs n key y row l

-- the rows at x under a new stamp read as they did at x
pub restored_reads : (vs : List Version) (x n : ℕ) (key : List ℕ) (y : ℕ) → n ≤ y → read_of (of_rows (rows_at vs x) n) key y ≡ read_of vs key x
restored_reads vs x n key y l = let row = read_of vs key x in
    of_rows_reads (rows_at vs x) n key y absent_row l ∙ ap (fold upsert_step absent_row) (of_key_rows_at vs x key) ∙ either_way row.present
    (λ here. rw here (upsert_row row (row_read vs key x) here))
    (λ none. rw none (sym (absent_is row (row_read vs key x) none)))

-- and before it nothing
pub restored_before : (vs : List Version) (x n : ℕ) (key : List ℕ) (y : ℕ) → y < n → read_of (of_rows (rows_at vs x) n) key y ≡ absent_row
restored_before vs x n key y l = of_rows_early (rows_at vs x) n key y absent_row l

leads_of_rows : (rs : List KeyedRow) (n : ℕ) (key : List ℕ) → RowsBehind key rs → Leads key n (of_rows rs n)
leads_of_rows [] n key h = tt
leads_of_rows (r ∷ rs) n key h = (precedes_back key r.key h.0, (λ same. le_refl n), leads_of_rows rs n key h.1)

pub sorted_of_rows : (rs : List KeyedRow) (n : ℕ) → Rising rs → Sorted (of_rows rs n)
sorted_of_rows [] n h = tt
sorted_of_rows (r ∷ rs) n h = (leads_of_rows rs n r.key h.0, sorted_of_rows rs n h.1)

pub stamped_of_rows : (rs : List KeyedRow) (n : ℕ) → StampedAt n (of_rows rs n)
stamped_of_rows [] n = tt
stamped_of_rows (r ∷ rs) n = (refl, stamped_of_rows rs n)

pub below_of_rows : (rs : List KeyedRow) (n m : ℕ) → n < m → Below m (of_rows rs n)
below_of_rows [] n m l = tt
below_of_rows (r ∷ rs) n m l = (l, below_of_rows rs n m l)

pub sorted_restored : (vs : List Version) (x n : ℕ) → Sorted vs → Sorted (of_rows (rows_at vs x) n)
sorted_restored vs x n h = sorted_of_rows (rows_at vs x) n (rising_rows_at vs x h)
