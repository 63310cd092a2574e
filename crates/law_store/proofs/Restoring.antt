-- Versions made of rows give the rows again, and are what compaction leaves of them.
use Rattle.std.proofs.Common.{◌≡◌, ℕ, ◌≤◌, true, false, cond, List, [], ◌∷◌, ◌++◌, inl, inr, refl, sym, ap, subst, ◌∙◌, fold, ltb, ltb-true, ltb-false, le_refl}
use Rattle.std.proofs.lemmas.Bool.{cond_both}
use Rattle.row_values.specs.Rows.{absent_row}
use Rattle.row_values.specs.declared.rows.Row.{Row}
use Rattle.row_values.specs.declared.rows.KeyedRow.{KeyedRow}
use Rattle.row_values.specs.declared.value.RowOp.TheVariants.{Upsert}
use Rattle.row_values.specs.Codes.{code_of}
use Rattle.row_values.specs.Elements.{In}
use Rattle.row_values.specs.Ranges.{in_range}
use Rattle.row_values.specs.Store.{AreRows, Version, precedes, read_of, has_key, has_old, present, rows_from, rows_at, of_rows, compacted_from, kept, of_key}
use Rattle.law_store.specs.Sorted.{EachKey, Sorted, IsRow, RowsBehind, Rising, ArePresent}
use Rattle.law_store.proofs.Keys.{either_way, key_self, key_sym, precedes_apart}
use Rattle.law_store.proofs.Cells.{row_read, upsert_row}
use Rattle.law_store.proofs.Compaction.{kept_new, kept_row}
use Rattle.law_store.proofs.Members.{each_key_in, keys_rows_at, keys_of_rows}
use Rattle.law_store.proofs.Listing.{restored_reads, upsert_step, of_rows_reads, rising_rows_at}

of_key_behind : (rs : List KeyedRow) (key : List ℕ) → RowsBehind key rs → of_key key rs ≡ []
of_key_behind [] key h = refl
of_key_behind (r ∷ rs) key h = rw (key_sym key r.key (precedes_apart key r.key h.0)) (of_key_behind rs key h.1)

in_behind : (rs : List KeyedRow) (key : List ℕ) (r : KeyedRow) → RowsBehind key rs → In r rs → precedes key r.key ≡ true
in_behind [] key r h isin = absurd isin
in_behind (s ∷ ss) key r h (inl e) = ap (λ q. precedes key q.key) (sym e) ∙ h.0
in_behind (s ∷ ss) key r h (inr isin) = in_behind ss key r h.1 isin

-- a row of rising keys is the one of its key
pub of_key_in : (rs : List KeyedRow) (r : KeyedRow) → Rising rs → In r rs → of_key r.key rs ≡ r ∷ []
of_key_in [] r h isin = absurd isin
of_key_in (s ∷ ss) r h (inl e) = let P : KeyedRow → Type 0 = λ q. of_key q.key (s ∷ ss) ≡ q ∷ [] in
    subst P e (rw (key_self s.key) (ap (λ rs. s ∷ rs) (of_key_behind ss s.key h.0)))
of_key_in (s ∷ ss) r h (inr isin) = rw (precedes_apart s.key r.key (in_behind ss s.key r h.0 isin)) (of_key_in ss r h.1 isin)

present_in : (rs : List KeyedRow) (r : KeyedRow) → ArePresent rs → In r rs → (r.row.present ≡ true) × IsRow r.row
present_in [] r h isin = absurd isin
present_in (s ∷ ss) r h (inl e) = let P : KeyedRow → Type 0 = λ q. (q.row.present ≡ true) × IsRow q.row in subst P e (h.0, h.1)
present_in (s ∷ ss) r h (inr isin) = present_in ss r h.2 isin

-- what the versions made of rows read at a row's key
abbrev ReadsRows : List Version → ℕ → List KeyedRow → Type 0
ReadsRows all y rs = (r : KeyedRow) → In r rs → (read_of all r.key y ≡ r.row) × (r.row.present ≡ true)

reads_rows : (rs : List KeyedRow) (n y : ℕ) → Rising rs → ArePresent rs → n ≤ y → ReadsRows (of_rows rs n) y rs
reads_rows rs n y rising are l r isin = let p = present_in rs r are isin in
    (of_rows_reads rs n r.key y absent_row l ∙ ap (fold upsert_step absent_row) (of_key_in rs r rising isin) ∙ upsert_row r.row p.1 p.0, p.0)

no_key : (rs : List KeyedRow) (n : ℕ) (key : List ℕ) → RowsBehind key rs → has_key (of_rows rs n) key ≡ false
no_key [] n key h = refl
no_key (r ∷ rs) n key h = rw (key_sym key r.key (precedes_apart key r.key h.0)) (no_key rs n key h.1)

no_old : (rs : List KeyedRow) (n : ℕ) (key : List ℕ) (c : ℕ) → RowsBehind key rs → has_old (of_rows rs n) key c ≡ false
no_old [] n key c h = refl
no_old (r ∷ rs) n key c h = rw (key_sym key r.key (precedes_apart key r.key h.0)) (no_old rs n key c h.1)

listed_back : (rs : List KeyedRow) (all : List Version) (n y : ℕ) → Rising rs → ReadsRows all y rs → rows_from all (of_rows rs n) y ≡ rs
listed_back [] all n y rising reads = refl
listed_back (r ∷ rs) all n y rising reads = let p = reads r (inl refl) in
    let first : present r.key (read_of all r.key y) ≡ r ∷ [] = ap (present r.key) p.0 ∙ ap (λ b. cond b (r ∷ []) []) p.1 in
    rw (no_key rs n r.key rising.0) (ap (λ ss. ss ++ rows_from all (of_rows rs n) y) first ∙ ap (λ ss. r ∷ ss) (listed_back rs all n y rising.1 (λ s isin. reads s (inr isin))))

-- the rows from their stamp on are those of which the versions are made
pub rows_at_of_rows : (rs : List KeyedRow) (n y : ℕ) → Rising rs → ArePresent rs → n ≤ y → rows_at (of_rows rs n) y ≡ rs
rows_at_of_rows rs n y rising are l = listed_back rs (of_rows rs n) n y rising (reads_rows rs n y rising are l)

present_from : (vs all : List Version) (x : ℕ) → ArePresent (rows_from all vs x)
present_from [] all x = tt
present_from (v ∷ vs) all x = let rest = present_from vs all x in
    cond_both (has_key vs v.key) _ _ (λ rs. ArePresent (rs ++ rows_from all vs x))
    (λ more. rest)
    (λ last. cond_both (read_of all v.key x).present _ _ (λ rs. ArePresent (rs ++ rows_from all vs x)) (λ here. (here, row_read all v.key x, rest)) (λ none. rest))

pub present_rows_at : (vs : List Version) (x : ℕ) → ArePresent (rows_at vs x)
present_rows_at vs x = present_from vs vs x

-- restored rows are the rows
pub restored_rows_at : (vs : List Version) (x n y : ℕ) → Sorted vs → n ≤ y → rows_at (of_rows (rows_at vs x) n) y ≡ rows_at vs x
restored_rows_at vs x n y h l = rows_at_of_rows (rows_at vs x) n y (rising_rows_at vs x h) (present_rows_at vs x) l

kept_back : (rs : List KeyedRow) (all : List Version) (n c : ℕ) → Rising rs → (n ≤ c → ReadsRows all c rs) → compacted_from all (of_rows rs n) c ≡ of_rows rs n
kept_back [] all n c rising reads = refl
kept_back (r ∷ rs) all n c rising reads =
    let v : Version = record { key = r.key; stamp = n; op = Upsert r.row.cells } in
    let rest = kept_back rs all n c rising.1 (λ l s isin. reads l s (inr isin)) in
    either_way (ltb c n)
    (λ new. rw (kept_new all v (of_rows rs n) c (ltb-true _ _ new)) (ap (λ ws. v ∷ ws) rest))
    (λ old. let l : n ≤ c = ltb-false _ _ old in let p = reads l r (inl refl) in
    rw (kept_row all v (of_rows rs n) c l (no_old rs n r.key c rising.0) (ap (λ q. q.present) p.0 ∙ p.1))
    (ap (λ (q : Row). record { key = r.key; stamp = n; op = Upsert q.cells } ∷ compacted_from all (of_rows rs n) c) p.0 ∙ ap (λ ws. v ∷ ws) rest))

-- compaction changes no versions that are made of rows
pub kept_of_rows : (rs : List KeyedRow) (n c : ℕ) → Rising rs → ArePresent rs → kept (of_rows rs n) c ≡ of_rows rs n
kept_of_rows rs n c rising are = kept_back rs (of_rows rs n) n c rising (λ l. reads_rows rs n c rising are l)

pub kept_restored : (vs : List Version) (x n c : ℕ) → Sorted vs → kept (of_rows (rows_at vs x) n) c ≡ of_rows (rows_at vs x) n
kept_restored vs x n c h = kept_of_rows (rows_at vs x) n c (rising_rows_at vs x h) (present_rows_at vs x)

-- so it changes none that are the rows at their stamp
pub kept_same : (vs : List Version) (n c : ℕ) → Sorted vs → vs ≡ of_rows (rows_at vs n) n → kept vs c ≡ vs
kept_same vs n c h are = ap (λ ws. kept ws c) are ∙ kept_restored vs n n c h ∙ sym are

stamp_in : (rs : List KeyedRow) (n : ℕ) (v : Version) → In v (of_rows rs n) → v.stamp ≡ n
stamp_in [] n v isin = absurd isin
stamp_in (r ∷ rs) n v (inl e) = ap (λ u. u.stamp) (sym e)
stamp_in (r ∷ rs) n v (inr isin) = stamp_in rs n v isin

-- the rows at a time of a store, where they are these in the range
pub are_rows_restored : (vs : List Version) (low high stamp to : ℕ) (row : List ℕ → Row) → Sorted vs
    → EachKey (λ key. in_range low high (code_of key)) vs
    → ((key : List ℕ) → in_range low high (code_of key) ≡ true → read_of vs key to ≡ row key)
    → AreRows (of_rows (rows_at vs to) stamp) low high stamp row
are_rows_restored vs low high stamp to row sorted inside reads = record {
  stamps = stamp_in (rows_at vs to) stamp;
  upserts = ap (λ rs. of_rows rs stamp) (sym (restored_rows_at vs to stamp stamp sorted (le_refl stamp)));
  rows = λ key within. restored_reads vs to stamp key stamp (le_refl stamp) ∙ reads key within;
  inside = λ v isin. each_key_in (of_rows (rows_at vs to) stamp) (λ key. in_range low high (code_of key)) v
      (keys_of_rows (rows_at vs to) stamp _ (keys_rows_at vs to _ inside)) isin;
}
