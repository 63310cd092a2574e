-- Compaction changes no read at or after the cutoff, and a second one changes nothing.
use Rattle.std.proofs.Common.{◌≡◌, ℕ, ◌≤◌, ◌<◌, true, false, List, [], ◌∷◌, ◌++◌, refl, sym, ap, subst, ◌∙◌, fold, arith, leb, ltb, ltb-true, ltb-false, ◌&&◌}
use Rattle.std.proofs.lemmas.Bool.{cond_both, true≢false}
use Rattle.std.proofs.lemmas.Bool.Decides.{nat_tests}
use Rattle.std.specs.Str.{bytes_eq}
use Rattle.row_values.specs.Rows.{absent_row}
use Rattle.row_values.specs.declared.rows.Row.{Row}
use Rattle.row_values.specs.declared.value.RowOp.TheVariants.{Upsert}
use Rattle.row_values.specs.Store.{Version, read_step, read_of, has_old, kept_of, compacted_from, kept, Below}
use Rattle.law_store.specs.Sorted.{Leads, Sorted, OnceOld}
use Rattle.law_store.proofs.Keys.{either_way, equal_keys}
use Rattle.law_store.proofs.Cells.{row_read, absent_is, upsert_row}

-- one upsert of the row at c, at the stamp of the version
abbrev pub folded_at : List Version → Version → ℕ → Version
folded_at all v c = record { key = v.key; stamp = v.stamp; op = Upsert (read_of all v.key c).cells }

-- what compaction makes of a version: itself, nothing, or the row at the cutoff
pub by_kept : (P : List Version → Type 0) (all : List Version) (v : Version) (later : List Version) (c : ℕ) →
    (c < v.stamp → P (v ∷ [])) →
    (v.stamp ≤ c → has_old later v.key c ≡ true → P []) →
    (v.stamp ≤ c → has_old later v.key c ≡ false → read_of all v.key c ≡ absent_row → P []) →
    (v.stamp ≤ c → has_old later v.key c ≡ false → (read_of all v.key c).present ≡ true → P (folded_at all v c ∷ [])) →
    P (kept_of all v later c)
unfolding kept_of
by_kept P all v later c new older gone row = cond_both (ltb c v.stamp) _ _ P
    (λ e. new (ltb-true _ _ e))
    (λ e. cond_both (has_old later v.key c) _ _ P
    (λ q. older (ltb-false _ _ e) q)
    (λ q. cond_both (read_of all v.key c).present _ _ P
    (λ p. row (ltb-false _ _ e) q p)
    (λ p. gone (ltb-false _ _ e) q (absent_is (read_of all v.key c) (row_read all v.key c) p))))

pub kept_new : (all : List Version) (v : Version) (later : List Version) (c : ℕ) → c < v.stamp → kept_of all v later c ≡ v ∷ []
kept_new all v later c l = by_kept (λ ws. ws ≡ v ∷ []) all v later c (λ _. refl) (λ e q. absurd (omega arith)) (λ e q p. absurd (omega arith)) (λ e q p. absurd (omega arith))

pub kept_row : (all : List Version) (v : Version) (later : List Version) (c : ℕ) → v.stamp ≤ c → has_old later v.key c ≡ false → (read_of all v.key c).present ≡ true →
    kept_of all v later c ≡ folded_at all v c ∷ []
kept_row all v later c l none present = by_kept (λ ws. ws ≡ folded_at all v c ∷ []) all v later c
    (λ e. absurd (omega arith))
    (λ e q. absurd (true≢false (sym q ∙ none)))
    (λ e q p. absurd (true≢false (sym present ∙ ap (λ r. r.present) p)))
    (λ e q p. refl)

none_old : (vs : List Version) (key : List ℕ) (c : ℕ) (row : Row) → has_old vs key c ≡ false → fold (read_step key c) row vs ≡ row
none_old [] key c row h = refl
none_old (v ∷ vs) key c row h = grind (arith, nat_tests, none_old vs key c row)

-- behind a version after c none of its key is at or before c
later_none_old : (vs : List Version) (key : List ℕ) (stamp c : ℕ) → Leads key stamp vs → c < stamp → has_old vs key c ≡ false
later_none_old [] key stamp c h l = refl
later_none_old (v ∷ vs) key stamp c h l =
    let rest = later_none_old vs key stamp c h.2 l in
    either_way (bytes_eq v.key key)
    (λ mine. let later : stamp ≤ v.stamp = h.1 (equal_keys v.key key mine) in
    let no : leb v.stamp c ≡ false = grind (arith, nat_tests) in grind arith)
    (λ other. grind arith)

-- a version of another key is passed over
skipped : (v : Version) (key : List ℕ) (x : ℕ) (row : Row) → bytes_eq v.key key ≡ false → read_step key x row v ≡ row
skipped v key x row e = rw e refl

-- where nothing of the key is at or before c, its versions stay
after_old : (vs all : List Version) (key : List ℕ) (c x : ℕ) (row : Row) → has_old vs key c ≡ false →
    fold (read_step key x) row (compacted_from all vs c) ≡ fold (read_step key x) row vs
after_old [] all key c x row h = refl
after_old (v ∷ vs) all key c x row h =
    let rest : has_old vs key c ≡ false = grind arith in
    let other : v.stamp ≤ c → bytes_eq v.key key ≡ false = λ l. (let le : leb v.stamp c ≡ true = grind (arith, nat_tests) in grind arith) in
    let stays : v.stamp ≤ c → fold (read_step key x) row (compacted_from all vs c) ≡ fold (read_step key x) (read_step key x row v) vs
    = λ old. after_old vs all key c x row rest ∙ ap (λ r. fold (read_step key x) r vs) (sym (skipped v key x row (other old))) in
    by_kept (λ ws. fold (read_step key x) row (ws ++ compacted_from all vs c) ≡ fold (read_step key x) (read_step key x row v) vs) all v vs c
    (λ new. after_old vs all key c x (read_step key x row v) rest)
    (λ old more. stays old) (λ old last none. stays old)
    (λ old last here. ap (λ r. fold (read_step key x) r (compacted_from all vs c)) (skipped (folded_at all v c) key x row (other old)) ∙ stays old)

same_step : (v : Version) (key : List ℕ) (c x : ℕ) (row : Row) → v.stamp ≤ c → c ≤ x → read_step key c row v ≡ read_step key x row v
same_step v key c x row old l =
    let a : leb v.stamp c ≡ true = grind (arith, nat_tests) in
    let b : leb v.stamp x ≡ true = grind (arith, nat_tests) in
    cc

-- the newest version at or before c folds all of them
from_old : (vs all : List Version) (key : List ℕ) (c x : ℕ) (row : Row) → Sorted vs → c ≤ x → has_old vs key c ≡ true →
    read_of all key c ≡ fold (read_step key c) row vs → fold (read_step key x) absent_row (compacted_from all vs c) ≡ fold (read_step key x) row vs
from_old [] all key c x row sorted l h whole = cc
from_old (v ∷ vs) all key c x row sorted l h whole =
    let now = read_step key x row v in
    let none_left : has_old vs v.key c ≡ false → bytes_eq v.key key ≡ true → has_old vs key c ≡ false
    = λ last mine. (let P : List ℕ → Type 0 = λ k. has_old vs k c ≡ false in subst P (equal_keys v.key key mine) last) in
    let whole_row : v.stamp ≤ c → has_old vs v.key c ≡ false → bytes_eq v.key key ≡ true → read_of all v.key c ≡ now
    = λ old last mine. ap (λ k. read_of all k c) (equal_keys v.key key mine) ∙ whole ∙ none_old vs key c (read_step key c row v) (none_left last mine) ∙ same_step v key c x row old l in
    let upsert_read : v.stamp ≤ c → bytes_eq v.key key ≡ true → (read_of all v.key c).present ≡ true → read_step key x absent_row (folded_at all v c) ≡ read_of all v.key c
    = λ old mine here. (let soon : leb v.stamp x ≡ true = grind (arith, nat_tests) in rw (mine, soon) (upsert_row (read_of all v.key c) (row_read all v.key c) here)) in
    let on : v.stamp ≤ c → bytes_eq v.key key ≡ false → fold (read_step key x) absent_row (compacted_from all vs c) ≡ fold (read_step key x) now vs
    = λ old other. from_old vs all key c x now sorted.1 l (grind arith) (whole ∙ ap (λ r. fold (read_step key c) r vs) (same_step v key c x row old l)) in
    let Goal : List Version → Type 0 = λ ws. fold (read_step key x) absent_row (ws ++ compacted_from all vs c) ≡ fold (read_step key x) now vs in
    by_kept Goal all v vs c
    (λ new. either_way (bytes_eq v.key key)
    (λ mine. let P : List ℕ → Type 0 = λ k. Leads k v.stamp vs in
    let no = later_none_old vs key v.stamp c (subst P (equal_keys v.key key mine) sorted.0) new in
    let late : leb v.stamp c ≡ false = grind (arith, nat_tests) in absurd (grind arith))
    (λ other. let more : has_old vs key c ≡ true = grind arith in
    ap (λ r. fold (read_step key x) r (compacted_from all vs c)) (skipped v key x absent_row other)
    ∙ from_old vs all key c x now sorted.1 l more
    (whole ∙ ap (λ r. fold (read_step key c) r vs) (skipped v key c row other ∙ sym (skipped v key x row other)))))
    (λ old more. from_old vs all key c x now sorted.1 l
    (either_way (bytes_eq v.key key)
    (λ mine. let P : List ℕ → Type 0 = λ k. has_old vs k c ≡ true in subst P (equal_keys v.key key mine) more)
    (λ other. grind arith))
    (whole ∙ ap (λ r. fold (read_step key c) r vs) (same_step v key c x row old l)))
    (λ old last none. either_way (bytes_eq v.key key)
    (λ mine. ap (λ r. fold (read_step key x) r (compacted_from all vs c)) (sym none ∙ whole_row old last mine) ∙ after_old vs all key c x now (none_left last mine))
    (λ other. on old other))
    (λ old last here. either_way (bytes_eq v.key key)
    (λ mine. ap (λ r. fold (read_step key x) r (compacted_from all vs c)) (upsert_read old mine here ∙ whole_row old last mine)
    ∙ after_old vs all key c x now (none_left last mine))
    (λ other. ap (λ r. fold (read_step key x) r (compacted_from all vs c)) (skipped (folded_at all v c) key x absent_row other) ∙ on old other))

-- a read at or after the cutoff
pub compaction : (vs : List Version) (key : List ℕ) (c x : ℕ) → Sorted vs → c ≤ x → read_of (kept vs c) key x ≡ read_of vs key x
compaction vs key c x sorted l = either_way (has_old vs key c)
    (λ old. from_old vs vs key c x absent_row sorted l old refl)
    (λ none. after_old vs vs key c x absent_row none)

leads_kept : (vs all : List Version) (c : ℕ) (key : List ℕ) (stamp : ℕ) → Leads key stamp vs → Leads key stamp (compacted_from all vs c)
leads_kept [] all c key stamp h = tt
leads_kept (v ∷ vs) all c key stamp h = let rest = leads_kept vs all c key stamp h.2 in
    by_kept (λ ws. Leads key stamp (ws ++ compacted_from all vs c)) all v vs c
    (λ new. (h.0, h.1, rest)) (λ old more. rest) (λ old last none. rest) (λ old last here. (h.0, h.1, rest))

sorted_kept_from : (vs all : List Version) (c : ℕ) → Sorted vs → Sorted (compacted_from all vs c)
sorted_kept_from [] all c h = tt
sorted_kept_from (v ∷ vs) all c h = let led = leads_kept vs all c v.key v.stamp h.0 in let rest = sorted_kept_from vs all c h.1 in
    by_kept (λ ws. Sorted (ws ++ compacted_from all vs c)) all v vs c
    (λ new. (led, rest)) (λ old more. rest) (λ old last none. rest) (λ old last here. (led, rest))

pub sorted_kept : (vs : List Version) (c : ℕ) → Sorted vs → Sorted (kept vs c)
sorted_kept vs c h = sorted_kept_from vs vs c h

below_kept_from : (vs all : List Version) (c n : ℕ) → Below n vs → Below n (compacted_from all vs c)
below_kept_from [] all c n h = tt
below_kept_from (v ∷ vs) all c n h = let rest = below_kept_from vs all c n h.1 in
    by_kept (λ ws. Below n (ws ++ compacted_from all vs c)) all v vs c
    (λ new. (h.0, rest)) (λ old more. rest) (λ old last none. rest) (λ old last here. (h.0, rest))

pub below_kept : (vs : List Version) (c n : ℕ) → Below n vs → Below n (kept vs c)
below_kept vs c n h = below_kept_from vs vs c n h

-- compaction makes nothing old
kept_none_old : (vs all : List Version) (key : List ℕ) (c : ℕ) → has_old vs key c ≡ false → has_old (compacted_from all vs c) key c ≡ false
kept_none_old [] all key c h = refl
kept_none_old (v ∷ vs) all key c h =
    let rest : has_old (compacted_from all vs c) key c ≡ false = kept_none_old vs all key c (grind arith) in
    let not_here : (bytes_eq v.key key && leb v.stamp c) ≡ false = grind arith in
    by_kept (λ ws. has_old (ws ++ compacted_from all vs c) key c ≡ false) all v vs c
    (λ new. grind arith) (λ old more. rest) (λ old last none. rest) (λ old last here. grind arith)

once_kept_from : (vs all : List Version) (c : ℕ) → OnceOld c (compacted_from all vs c)
once_kept_from [] all c = tt
once_kept_from (v ∷ vs) all c = let rest = once_kept_from vs all c in
    by_kept (λ ws. OnceOld c (ws ++ compacted_from all vs c)) all v vs c
    (λ new. ((λ l. absurd (omega arith)), rest)) (λ old more. rest) (λ old last none. rest)
    (λ old last here. ((λ l. kept_none_old vs all v.key c last), rest))

-- at or before the cutoff compaction leaves one version of a key at most
pub once_kept : (vs : List Version) (c : ℕ) → OnceOld c (kept vs c)
once_kept vs c = once_kept_from vs vs c

again : (vs all once : List Version) (c : ℕ) → ((key : List ℕ) → read_of once key c ≡ read_of all key c) → compacted_from once (compacted_from all vs c) c ≡ compacted_from all vs c
again [] all once c same = refl
again (v ∷ vs) all once c same = let rest = again vs all once c same in
    by_kept (λ ws. compacted_from once (ws ++ compacted_from all vs c) c ≡ ws ++ compacted_from all vs c) all v vs c
    (λ new. rw (kept_new once v (compacted_from all vs c) c new) (ap (λ ws. v ∷ ws) rest))
    (λ old more. rest)
    (λ old last none. rest)
    (λ old last here. rw (kept_row once (folded_at all v c) (compacted_from all vs c) c old (kept_none_old vs all v.key c last) (ap (λ r. r.present) (same v.key) ∙ here))
    (let w : folded_at once (folded_at all v c) c ≡ folded_at all v c = ap (λ (r : Row). record { key = v.key; stamp = v.stamp; op = Upsert r.cells }) (same v.key) in
    ap (λ u. u ∷ compacted_from once (compacted_from all vs c) c) w ∙ ap (λ ws. folded_at all v c ∷ ws) rest))

-- a second compaction under the same cutoff changes nothing
pub kept_kept : (vs : List Version) (c : ℕ) → Sorted vs → kept (kept vs c) c ≡ kept vs c
kept_kept vs c sorted = again vs vs (kept vs c) c (λ key. compaction vs key c c sorted (omega arith))
