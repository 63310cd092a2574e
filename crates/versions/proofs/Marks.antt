-- A read at any time, by the stamps of a key's versions and the rows that are kept after each few of them.
use Rattle.std.proofs.Common.{◌≡◌, ℕ, zero, suc, ◌+◌, ◌-◌, ◌*◌, ◌<◌, ◌≤◌, true, false, List, [], ◌∷◌, ◌++◌, length, map, take, drop, fold, arith, refl, sym, ap, subst, ◌∙◌, Some, None, leb}
use Rattle.std.specs.Prelude.{nat_lt, slice_get, slice_index_or}
use Rattle.std.specs.declared.option.Option.{Option}
use Rattle.std.specs.Option.{is_some}
use Rattle.std.specs.List.{AllWithin, slice_range}
use Rattle.std.specs.List.Sorted.{IsNonDecreasing, IsNonDecreasingBy, IsPartitionPoint}
use Rattle.std.specs.Str.{bytes_eq}
use Rattle.std.proofs.lemmas.Bool.{and_parts, ltb-true, true≢false}
use Rattle.std.proofs.lemmas.List.Sums.{fold-append}
use Rattle.row_values.specs.Rows.{absent_row, applied}
use Rattle.row_values.specs.declared.rows.Row.{Row}
use Rattle.row_values.specs.Store.{Version, read_step, read_of}
use Rattle.law_store.specs.Sorted.{Leads, Sorted}
use Rattle.law_store.proofs.Keys.{either_way, equal_keys}
use Rattle.versions.specs.Indexed.{in_order, of_key, with_found, chosen, are_below, row_on, row_after, IsEntry, RiseByKey}
use Rattle.versions.specs.declared.index.KeyEntry.{KeyEntry}
use Rattle.versions.specs.declared.index.Past.{Past}
use Rattle.versions.proofs.Indexing.{of_key-append, read_of-of_key}
use Rattle.versions.proofs.KeyOrder.{of_key-in_order}

-- Parts of a list

take_none : {A : Type 0} (n : ℕ) (xs : List A) → xs ≡ [] → take n xs ≡ xs
take_none zero xs is = sym is
take_none (suc n) [] is = refl
take_none (suc n) (x ∷ xs) is = cc

take_two : {A : Type 0} (xs : List A) (a b : ℕ) → a ≤ b → take a xs ++ slice_range xs a b ≡ take b xs
take_two xs zero b le = let e : b - 0 ≡ b = omega arith in ap (λ n. take n xs) e
take_two xs (suc a) zero le = absurd (omega arith)
take_two [] (suc a) (suc b) le = take_none (suc b - suc a) [] refl
take_two (x ∷ xs) (suc a) (suc b) le = let e : suc b - suc a ≡ b - a = omega arith in
    ap (λ ys. x ∷ ys) (ap (λ n. take a xs ++ take n (drop a xs)) e ∙ take_two xs a b (omega arith))

-- The versions at some of the places

some_at : (log : List Version) (place : ℕ) → place < length log → is_some (slice_get log place) ≡ true
some_at [] place lt = absurd (omega arith)
some_at (v ∷ log) zero lt = refl
some_at (v ∷ log) (suc place) lt = some_at log place (omega arith)

take_found : (o : Option Version) (n : ℕ) (vs : List Version) → is_some o ≡ true → with_found o (take n vs) ≡ take (suc n) (with_found o vs)
take_found None n vs some = absurd (true≢false (sym some))
take_found (Some v) n vs some = refl

drop_found : (o : Option Version) (n : ℕ) (vs : List Version) → is_some o ≡ true → drop n vs ≡ drop (suc n) (with_found o vs)
drop_found None n vs some = absurd (true≢false (sym some))
drop_found (Some v) n vs some = refl

place_found : (log : List Version) (p : Past) (ps : List Past) → are_below (length log) (p ∷ ps) ≡ true → is_some (slice_get log p.place) ≡ true
place_found log p ps below = some_at log p.place (ltb-true p.place (length log) (and_parts (nat_lt p.place (length log)) (are_below (length log) ps) below).0)

rest_below : (n : ℕ) (p : Past) (ps : List Past) → are_below n (p ∷ ps) ≡ true → are_below n ps ≡ true
rest_below n p ps below = (and_parts (nat_lt p.place n) (are_below n ps) below).1

chosen_take : (log : List Version) (past : List Past) (n : ℕ) → are_below (length log) past ≡ true → chosen log (take n past) ≡ take n (chosen log past)
chosen_take log [] zero below = refl
chosen_take log [] (suc n) below = refl
chosen_take log (p ∷ ps) zero below = refl
chosen_take log (p ∷ ps) (suc n) below =
    ap (with_found (slice_get log p.place)) (chosen_take log ps n (rest_below (length log) p ps below))
    ∙ take_found (slice_get log p.place) n (chosen log ps) (place_found log p ps below)

chosen_drop : (log : List Version) (past : List Past) (n : ℕ) → are_below (length log) past ≡ true → chosen log (drop n past) ≡ drop n (chosen log past)
chosen_drop log [] zero below = refl
chosen_drop log [] (suc n) below = refl
chosen_drop log (p ∷ ps) zero below = refl
chosen_drop log (p ∷ ps) (suc n) below =
    chosen_drop log ps n (rest_below (length log) p ps below)
    ∙ drop_found (slice_get log p.place) n (chosen log ps) (place_found log p ps below)

below_drop : (n : ℕ) (past : List Past) (k : ℕ) → are_below n past ≡ true → are_below n (drop k past) ≡ true
below_drop n [] zero below = refl
below_drop n [] (suc k) below = refl
below_drop n (p ∷ ps) zero below = below
below_drop n (p ∷ ps) (suc k) below = below_drop n ps k (rest_below n p ps below)

chosen_range : (log : List Version) (key : List ℕ) (e : KeyEntry) (a b : ℕ) → IsEntry log key e → chosen log (slice_range e.past a b) ≡ slice_range (of_key key log) a b
chosen_range log key e a b h =
    chosen_take log (drop a e.past) (b - a) (below_drop (length log) e.past a h.within)
    ∙ ap (take (b - a)) (chosen_drop log e.past a h.within ∙ ap (drop a) h.versions)

-- Rows that are kept

row_split : (vs : List Version) (a b : ℕ) → a ≤ b → row_on (row_after (take a vs)) (slice_range vs a b) ≡ row_after (take b vs)
row_split vs a b le = sym (fold-append (λ r v. applied r v.op) absent_row (take a vs) (slice_range vs a b)) ∙ ap row_after (take_two vs a b le)

-- from the row after so many versions
pub row_marked : (log : List Version) (key : List ℕ) (e : KeyEntry) (times count : ℕ) (m : Row) → IsEntry log key e → 0 < times → slice_get e.marks (times - 1) ≡ Some m → times * 4 ≤ count
    → row_on m (chosen log (slice_range e.past (times * 4) count)) ≡ row_after (take count (of_key key log))
row_marked log key e times count m h some is le =
    let own = of_key key log in
    let same : (times - 1 + 1) * 4 ≡ times * 4 = omega arith in
    let row : m ≡ row_after (take (times * 4) own) = (h.marks (times - 1) m is).1 ∙ ap (λ n. row_after (take n own)) same in
    ap (row_on m) (chosen_range log key e (times * 4) count h) ∙ ap (λ r. row_on r (slice_range own (times * 4) count)) row ∙ row_split own (times * 4) count le

-- from the first version
pub row_unmarked : (log : List Version) (key : List ℕ) (e : KeyEntry) (count : ℕ) → IsEntry log key e → row_on absent_row (chosen log (slice_range e.past 0 count)) ≡ row_after (take count (of_key key log))
row_unmarked log key e count h =
    ap (row_on absent_row) (chosen_range log key e 0 count h) ∙ row_split (of_key key log) 0 count (omega arith)

at_pushed : (ms : List Row) (r : Row) (P : ℕ → Row → Type 0) → ((j : ℕ) (m : Row) → slice_get ms j ≡ Some m → P j m) → P (length ms) r → (j : ℕ) (m : Row) → slice_get (ms ++ r ∷ []) j ≡ Some m → P j m
at_pushed [] r P h last zero m is = let same : r ≡ m = cc in subst (P 0) same last
at_pushed [] r P h last (suc j) m is = cc
at_pushed (n ∷ ms) r P h last zero m is = h 0 m is
at_pushed (n ∷ ms) r P h last (suc j) m is = at_pushed ms r (λ k. P (suc k)) (λ k. h (suc k)) last j m is

length_map : {A B : Type 0} (f : A → B) (xs : List A) → length (map f xs) ≡ length xs
length_map f [] = refl
length_map f (x ∷ xs) = let rest = length_map f xs in omega arith

take_all : (vs : List Version) (n : ℕ) → n ≡ length vs → take n vs ≡ vs
take_all [] zero is = refl
take_all [] (suc n) is = refl
take_all (v ∷ vs) zero is = absurd (omega arith)
take_all (v ∷ vs) (suc n) is = ap (λ ws. v ∷ ws) (take_all vs n (omega arith))

-- the entry is the old one where none or one more row is kept
pub record IsMarked (old e : KeyEntry) : Type 0 where
  pub past : e.past ≡ old.past
  pub row : e.row ≡ old.row
  pub newest : e.newest ≡ old.newest

pub marked_entry : (log : List Version) (key : List ℕ) (old e : KeyEntry) → IsMarked old e → e.marks ≡ old.marks ++ old.row ∷ [] → (length old.marks + 1) * 4 ≡ length old.past → IsEntry log key old → IsEntry log key e
marked_entry log key old e s pushed count h =
    let own = of_key key log in
    let many : length old.past ≡ length own = sym (length_map (λ (p : Past). p.stamp) old.past) ∙ ap length h.stamps ∙ length_map (λ (v : Version). v.stamp) own in
    let P : ℕ → Row → Type 0 = λ j m. ((j + 1) * 4 ≤ length own) × (m ≡ row_after (take ((j + 1) * 4) own)) in
    let last : P (length old.marks) old.row = (omega arith, h.row ∙ ap row_after (sym (take_all own ((length old.marks + 1) * 4) (count ∙ many)))) in
    record {
      within = ap (are_below (length log)) s.past ∙ h.within;
      versions = ap (chosen log) s.past ∙ h.versions;
      stamps = ap (map (λ p. p.stamp)) s.past ∙ h.stamps;
      marks = λ j m is. at_pushed old.marks old.row P h.marks last j m (ap (λ ms. slice_get ms j) (sym pushed) ∙ is);
      row = s.row ∙ h.row;
      current = λ x le. h.current x (subst (λ (n : ℕ). n ≤ x) s.newest le) ∙ sym s.row;
    }

-- A read at a time

abbrev AllOfKey : List ℕ → List Version → Type 0
AllOfKey key [] = Unit {0}
AllOfKey key (v ∷ vs) = (bytes_eq v.key key ≡ true) × AllOfKey key vs

all_of_key : (key : List ℕ) (log : List Version) → AllOfKey key (of_key key log)
all_of_key key [] = tt
all_of_key key (v ∷ log) = either_way (bytes_eq v.key key)
    (λ mine. rw mine (mine, all_of_key key log))
    (λ other. rw other (all_of_key key log))

step_read : (key : List ℕ) (x : ℕ) (row : Row) (v : Version) → bytes_eq v.key key ≡ true → leb v.stamp x ≡ true → read_step key x row v ≡ applied row v.op
step_read key x row v mine soon = rw (mine, soon) refl

step_later : (key : List ℕ) (x : ℕ) (row : Row) (v : Version) → bytes_eq v.key key ≡ true → leb v.stamp x ≡ false → read_step key x row v ≡ row
step_later key x row v mine late = rw (mine, late) refl

read_first : (own : List Version) (past : List Past) (key : List ℕ) (x n : ℕ) (row : Row) → map (λ p. p.stamp) past ≡ map (λ v. v.stamp) own → AllOfKey key own
    → AllWithin (λ p. leb p.stamp x ≡ true) past 0 n → AllWithin (λ p. leb p.stamp x ≡ false) past n (length past) → n ≤ length past
    → fold (read_step key x) row own ≡ row_on row (take n own)
read_first [] [] key x zero row same all soon late le = refl
read_first [] [] key x (suc n) row same all soon late le = absurd (omega arith)
read_first [] (p ∷ ps) key x n row same all soon late le = cc
read_first (v ∷ vs) [] key x n row same all soon late le = cc
read_first (v ∷ vs) (p ∷ ps) key x zero row same all soon late le =
    let stamp : p.stamp ≡ v.stamp = cc in
    let rest : map (λ q. q.stamp) ps ≡ map (λ u. u.stamp) vs = cc in
    ap (λ r. fold (read_step key x) r vs) (step_later key x row v all.0 (ap (λ s. leb s x) (sym stamp) ∙ late 0 p (omega arith) (omega arith)))
    ∙ read_first vs ps key x zero row rest all.1 (λ k d low high. absurd (omega arith)) (λ k d low high. late (suc k) d (omega arith) (omega arith)) (omega arith)
read_first (v ∷ vs) (p ∷ ps) key x (suc n) row same all soon late le =
    let stamp : p.stamp ≡ v.stamp = cc in
    let rest : map (λ q. q.stamp) ps ≡ map (λ u. u.stamp) vs = cc in
    ap (λ r. fold (read_step key x) r vs) (step_read key x row v all.0 (ap (λ s. leb s x) (sym stamp) ∙ soon 0 p (omega arith) (omega arith)))
    ∙ read_first vs ps key x n (applied row v.op) rest all.1 (λ k d low high. soon (suc k) d (omega arith) (omega arith)) (λ k d low high. late (suc k) d (omega arith) (omega arith)) (omega arith)

-- the row at a time is that after the versions that are stamped at or before it
pub read_until : (log : List Version) (key : List ℕ) (e : KeyEntry) (x n : ℕ) → IsEntry log key e → n ≤ length e.past
    → IsPartitionPoint (λ p. leb p.stamp x ≡ true) (λ p. leb p.stamp x ≡ false) e.past n
    → row_after (take n (of_key key log)) ≡ read_of log key x
read_until log key e x n h le point =
    sym (sym (read_of-of_key key x log) ∙ read_first (of_key key log) e.past key x n absent_row h.stamps (all_of_key key log) point.0 point.1 le)

-- The stamps of a key

low_cons : (low t : ℕ) (ts : List ℕ) → low ≤ t → ((k d : ℕ) → k < length ts → low ≤ slice_index_or ts k d) → (k d : ℕ) → k < length (t ∷ ts) → low ≤ slice_index_or (t ∷ ts) k d
low_cons low t ts le rest zero d lt = le
low_cons low t ts le rest (suc k) d lt = rest k d (omega arith)

low_own : (vs : List Version) (key : List ℕ) (stamp : ℕ) → Leads key stamp vs → (k d : ℕ) → k < length (map (λ v. v.stamp) (of_key key vs)) → stamp ≤ slice_index_or (map (λ v. v.stamp) (of_key key vs)) k d
low_own [] key stamp h = λ k d lt. absurd (omega arith)
low_own (v ∷ vs) key stamp h = let rest = low_own vs key stamp h.2 in either_way (bytes_eq v.key key)
    (λ mine. rw mine (low_cons stamp v.stamp (map (λ u. u.stamp) (of_key key vs)) (h.1 (equal_keys v.key key mine)) rest))
    (λ other. rw other rest)

rise_cons : (t : ℕ) (ts : List ℕ) → ((k d : ℕ) → k < length ts → t ≤ slice_index_or ts k d) → IsNonDecreasing ts → IsNonDecreasing (t ∷ ts)
rise_cons t ts low h zero zero d le lt = omega arith
rise_cons t ts low h zero (suc j) d le lt = low j d (omega arith)
rise_cons t ts low h (suc i) zero d le lt = absurd (omega arith)
rise_cons t ts low h (suc i) (suc j) d le lt = h i j d (omega arith) (omega arith)

rise_own : (vs : List Version) (key : List ℕ) → Sorted vs → IsNonDecreasing (map (λ v. v.stamp) (of_key key vs))
rise_own [] key h = λ i j d le lt. absurd (omega arith)
rise_own (v ∷ vs) key h = either_way (bytes_eq v.key key)
    (λ mine. let P : List ℕ → Type 0 = λ k. Leads k v.stamp vs in
    rw mine (rise_cons v.stamp (map (λ u. u.stamp) (of_key key vs)) (low_own vs key v.stamp (subst P (equal_keys v.key key mine) h.0)) (rise_own vs key h.1)))
    (λ other. rw other (rise_own vs key h.1))

get_first : (ts more : List ℕ) (k d : ℕ) → k < length ts → slice_index_or (ts ++ more) k d ≡ slice_index_or ts k d
get_first [] more k d lt = absurd (omega arith)
get_first (t ∷ ts) more zero d lt = refl
get_first (t ∷ ts) more (suc k) d lt = get_first ts more k d (omega arith)

length_first : (ts more : List ℕ) → length ts ≤ length (ts ++ more)
length_first [] more = omega arith
length_first (t ∷ ts) more = let rest = length_first ts more in omega arith

rise_first : (ts more : List ℕ) → IsNonDecreasing (ts ++ more) → IsNonDecreasing ts
rise_first ts more h i j d le lt =
    let rise = h i j d le (let long = length_first ts more in omega arith) in
    let a = get_first ts more i d (omega arith) in
    let b = get_first ts more j d lt in
    omega arith

map_append : {A B : Type 0} (f : A → B) (xs ys : List A) → map f (xs ++ ys) ≡ map f xs ++ map f ys
map_append f [] ys = refl
map_append f (x ∷ xs) ys = ap (λ zs. f x ∷ zs) (map_append f xs ys)

get_map : {A : Type 0} (f : A → ℕ) (xs : List A) (k : ℕ) (d : A) → slice_index_or (map f xs) k (f d) ≡ f (slice_index_or xs k d)
get_map f [] k d = refl
get_map f (x ∷ xs) zero d = refl
get_map f (x ∷ xs) (suc k) d = get_map f xs k d

pub rise_unmapped : {A : Type 0} (f : A → ℕ) (xs : List A) → IsNonDecreasing (map f xs) → IsNonDecreasingBy f xs
rise_unmapped f xs h i j d le lt =
    let many = length_map f xs in
    let rise = h i j (f d) le (omega arith) in
    let a = get_map f xs i d in
    let b = get_map f xs j d in
    omega arith

-- in a part from the front, they do not fall either
pub rise_before : (log before later : List Version) → before ++ later ≡ log → Sorted (in_order log) → RiseByKey before
rise_before log before later whole h key =
    let stamps : List Version → List ℕ = λ vs. map (λ v. v.stamp) vs in
    let all : stamps (of_key key (in_order log)) ≡ stamps (of_key key before) ++ stamps (of_key key later)
    = ap stamps (of_key-in_order log key ∙ ap (of_key key) (sym whole) ∙ of_key-append key before later) ∙ map_append (λ (v : Version). v.stamp) (of_key key before) (of_key key later) in
    rise_first (stamps (of_key key before)) (stamps (of_key key later)) (subst IsNonDecreasing all (rise_own (in_order log) key h))
