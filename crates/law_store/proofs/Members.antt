-- What holds of each key of a store goes on to hold.
use Rattle.std.proofs.Common.{◌≡◌, ℕ, Bool, true, List, [], ◌∷◌, ◌++◌, inl, inr, refl, sym, ap, ◌∙◌}
use Rattle.std.specs.List.{filter}
use Rattle.std.proofs.lemmas.Bool.{cond_both}
use Rattle.row_values.specs.Codes.{code_of}
use Rattle.row_values.specs.declared.rows.KeyedRow.{KeyedRow}
use Rattle.row_values.specs.declared.value.Item.{Item}
use Rattle.row_values.specs.Elements.{In}
use Rattle.row_values.specs.Store.{Version, precedes, put_version, written, read_of, has_key, compacted_from, kept, part_of, frozen, rows_from, rows_at, of_rows}
use Rattle.row_values.specs.Ranges.{in_range}
use Rattle.law_store.specs.Sorted.{EachKey, EachRowKey, EachItemKey}
use Rattle.law_store.proofs.Compaction.{by_kept}

pub keys_put : (vs : List Version) (v : Version) (test : List ℕ → Bool) → test v.key ≡ true → EachKey test vs → EachKey test (put_version v vs)
keys_put [] v test p h = (p, tt)
keys_put (w ∷ ws) v test p h = cond_both (precedes v.key w.key) _ _ (EachKey test)
    (λ before. (p, h))
    (λ behind. (h.0, keys_put ws v test p h.1))

pub keys_written : (items : List Item) (vs : List Version) (n : ℕ) (test : List ℕ → Bool) → EachItemKey test items → EachKey test vs → EachKey test (written vs n items)
keys_written [] vs n test each h = h
keys_written (item ∷ items) vs n test each h = keys_written items (put_version _ vs) n test each.1 (keys_put vs _ test each.0 h)

pub keys_chosen : (vs : List Version) (chosen : Version → Bool) (test : List ℕ → Bool) → EachKey test vs → EachKey test (filter chosen vs)
keys_chosen [] chosen test h = tt
keys_chosen (v ∷ vs) chosen test h = cond_both (chosen v) _ _ (EachKey test) (λ e. (h.0, keys_chosen vs chosen test h.1)) (λ e. keys_chosen vs chosen test h.1)

pub keys_frozen : (vs : List Version) (s : ℕ) (test : List ℕ → Bool) → EachKey test vs → EachKey test (frozen s vs)
keys_frozen vs s test h = keys_chosen vs _ test h

-- a part of the versions has its keys in the range
pub keys_part : (vs : List Version) (low high : ℕ) → EachKey (λ key. in_range low high (code_of key)) (part_of low high vs)
keys_part [] low high = tt
keys_part (v ∷ vs) low high = cond_both (in_range low high (code_of v.key)) _ _ (EachKey (λ key. in_range low high (code_of key)))
    (λ e. (e, keys_part vs low high))
    (λ e. keys_part vs low high)

keys_kept_from : (vs all : List Version) (c : ℕ) (test : List ℕ → Bool) → EachKey test vs → EachKey test (compacted_from all vs c)
keys_kept_from [] all c test h = tt
keys_kept_from (v ∷ vs) all c test h = let rest = keys_kept_from vs all c test h.1 in
    by_kept (λ ws. EachKey test (ws ++ compacted_from all vs c)) all v vs c
    (λ new. (h.0, rest)) (λ old more. rest) (λ old last none. rest) (λ old last here. (h.0, rest))

pub keys_kept : (vs : List Version) (c : ℕ) (test : List ℕ → Bool) → EachKey test vs → EachKey test (kept vs c)
keys_kept vs c test h = keys_kept_from vs vs c test h

keys_rows_from : (vs all : List Version) (x : ℕ) (test : List ℕ → Bool) → EachKey test vs → EachRowKey test (rows_from all vs x)
keys_rows_from [] all x test h = tt
keys_rows_from (v ∷ vs) all x test h = let rest = keys_rows_from vs all x test h.1 in
    cond_both (has_key vs v.key) _ _ (λ rs. EachRowKey test (rs ++ rows_from all vs x))
    (λ more. rest)
    (λ last. cond_both (read_of all v.key x).present _ _ (λ rs. EachRowKey test (rs ++ rows_from all vs x)) (λ here. (h.0, rest)) (λ none. rest))

pub keys_rows_at : (vs : List Version) (x : ℕ) (test : List ℕ → Bool) → EachKey test vs → EachRowKey test (rows_at vs x)
keys_rows_at vs x test h = keys_rows_from vs vs x test h

pub keys_of_rows : (rs : List KeyedRow) (n : ℕ) (test : List ℕ → Bool) → EachRowKey test rs → EachKey test (of_rows rs n)
keys_of_rows [] n test h = tt
keys_of_rows (r ∷ rs) n test h = (h.0, keys_of_rows rs n test h.1)

-- of a version in the list, and of each
pub each_key_in : (vs : List Version) (test : List ℕ → Bool) (v : Version) → EachKey test vs → In v vs → test v.key ≡ true
each_key_in [] test v h isin = absurd isin
each_key_in (w ∷ ws) test v h (inl e) = ap (λ u. test u.key) (sym e) ∙ h.0
each_key_in (w ∷ ws) test v h (inr isin) = each_key_in ws test v h.1 isin

pub each_key_from : (vs : List Version) (test : List ℕ → Bool) → ((v : Version) → In v vs → test v.key ≡ true) → EachKey test vs
each_key_from [] test h = tt
each_key_from (v ∷ vs) test h = (h v (inl refl), each_key_from vs test (λ w isin. h w (inr isin)))
