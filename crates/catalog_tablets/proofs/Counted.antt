-- Counts of slots, after one more interval or after some go.
use Rattle.std.proofs.Common.{ℕ, zero, suc, ◌≡◌, ◌≢◌, ◌⊎◌, inl, inr, ◌+◌, ◌-◌, ◌≤◌, ◌<◌, ◌==◌, Bool, true, false, not, ◌&&◌, ◌||◌, List, [], ◌∷◌, ◌++◌, map, Option, Some, None, is_some, if◌then◌else◌, length, slice_get, slice_set, get_or, refl, sym, ap, ◌∙◌, arith}
use Rattle.std.specs.List.{filter}
use Rattle.std.specs.Prelude.{nat_lt, replicate}
use Rattle.std.proofs.lemmas.Grind.{common_steps}
use Rattle.std.proofs.lemmas.Bool.Decides.{nat_tests}
use Rattle.row_values.specs.Slots.{has}
use Rattle.model.specs.Activity.{Interval}
use Rattle.model.specs.Cleanup.{last_in}
use Rattle.kept_records.specs.declared.records.Kept.{Kept}
use Rattle.kept_records.specs.Gathered.{gathered, changed_where, present_of}
use Rattle.catalog_tablets.specs.View.{slot_of, ends_at}
use Rattle.catalog_tablets.specs.Slots.{Counts, count_of, raised, lowered, number_in}

-- one count is written
pub set_counts : (counts : List ℕ) (slot y : ℕ) (f g : ℕ → ℕ) → ((n : ℕ) → n ≡ f slot → get_or counts slot 0 ≡ n → y ≡ g slot)
    → ((s : ℕ) → s ≢ slot → g s ≡ f s) → Counts counts f → Counts (slice_set counts slot y) g
set_counts [] slot y f g here there right s n is = absurd (cc)
set_counts (x ∷ xs) zero y f g here there right zero n is = let e : y ≡ n = cc in sym e ∙ here x (right 0 x refl) refl
set_counts (x ∷ xs) zero y f g here there right (suc s) n is = right (suc s) n is ∙ sym (there (suc s) (grind arith))
set_counts (x ∷ xs) (suc slot) y f g here there right zero n is = right 0 n is ∙ sym (there 0 (grind arith))
set_counts (x ∷ xs) (suc slot) y f g here there right (suc s) n is =
    set_counts xs slot y (λ k. f (suc k)) (λ k. g (suc k)) here (λ k other. there (suc k) (λ e. other (omega (arith, e))))
    (λ k m at. right (suc k) m at) s n is

pub same_counts : (counts : List ℕ) (f g : ℕ → ℕ) → ((s : ℕ) → g s ≡ f s) → Counts counts f → Counts counts g
same_counts counts f g same right s n is = right s n is ∙ sym (same s)

no_counts : (n : ℕ) → Counts (replicate n 0) (λ s. 0)
no_counts zero s m is = absurd (cc)
no_counts (suc n) zero m is = let e : 0 ≡ m = cc in sym e
no_counts (suc n) (suc s) m is = no_counts n s m is

pub none_counted : (n : ℕ) → Counts (replicate n 0) (number_in [])
none_counted n = no_counts n

-- the same as a test
abbrev one : Bool → ℕ
one b = if b then 1 else 0

one_other : (a b : ℕ) → b ≢ a → one (a == b) ≡ 0
one_other a b other = grind (arith, nat_tests, common_steps, other)

one_same : (a : ℕ) → one (a == a) ≡ 1
one_same a = grind (arith, nat_tests, common_steps)

number_next : (is : List Interval) (i : Interval) (s : ℕ) → number_in (is ++ i ∷ []) s ≡ number_in is s + one (i.slot == s)
number_next [] i s = omega arith
number_next (j ∷ js) i s = let rest = number_next js i s in omega (arith, rest)

-- one more interval
pub counted_next : (counts : List ℕ) (is : List Interval) (i : Interval) → Counts counts (number_in is) → Counts (raised i.slot counts) (number_in (is ++ i ∷ []))
counted_next counts is i right =
    set_counts counts i.slot (count_of counts i.slot + 1) (number_in is) (number_in (is ++ i ∷ []))
    (λ n now was. let more = number_next is i i.slot in let one = one_same i.slot in omega (arith, now, was, more, one))
    (λ s other. let more = number_next is i s in let none = one_other i.slot s other in omega (arith, more, none)) right

-- how many of those that pass a test are in a slot
abbrev leaving : (Interval → Bool) → List Interval → ℕ → ℕ
leaving test [] s = 0
leaving test (i ∷ is) s = one (test i && (i.slot == s)) + leaving test is s

goes_by : (test : Interval → Bool) (i : Interval) (is : List Interval) (counts : List ℕ) (f : ℕ → ℕ) (t : Bool) → test i ≡ t
    → Counts (gathered test (λ (j : Interval) later. lowered j.slot later) counts is) (λ s. f s - leaving test is s)
    → Counts (if t then lowered i.slot (gathered test (λ (j : Interval) later. lowered j.slot later) counts is) else gathered test (λ (j : Interval) later. lowered j.slot later) counts is)
    (λ s. f s - (one (t && (i.slot == s)) + leaving test is s))
goes_by test i is counts f false e right = λ s n at. right s n at ∙ omega arith
goes_by test i is counts f true e right =
    let now = gathered test (λ (j : Interval) later. lowered j.slot later) counts is in
    set_counts now i.slot (count_of now i.slot - 1) (λ s. f s - leaving test is s) (λ s. f s - (one (i.slot == s) + leaving test is s))
    (λ n is_now was. let one = one_same i.slot in omega (arith, is_now, was, one))
    (λ s other. let none = one_other i.slot s other in omega (arith, none)) right

-- some go: each of them is counted once less
pub gone : (test : Interval → Bool) (is : List Interval) (counts : List ℕ) (f : ℕ → ℕ) → Counts counts f
    → Counts (gathered test (λ (j : Interval) later. lowered j.slot later) counts is) (λ s. f s - leaving test is s)
gone test [] counts f right = λ s n at. right s n at ∙ omega arith
gone test (i ∷ is) counts f right =
    λ s n at. goes_by test i is counts f (test i) refl (gone test is counts f right) s n at

left_by : (test : Interval → Bool) (i : Interval) (is : List Interval) (s : ℕ) (t : Bool) → number_in (filter (λ j. not (test j)) is) s ≡ number_in is s - leaving test is s
    → leaving test is s ≤ number_in is s
    → number_in (if not t then i ∷ filter (λ j. not (test j)) is else filter (λ j. not (test j)) is) s ≡ number_in (i ∷ is) s - (one (t && (i.slot == s)) + leaving test is s)
left_by test i is s false rest le = omega (arith, rest, le)
left_by test i is s true rest le = omega (arith, rest, le)

fewer_by : (t b : Bool) (x y : ℕ) → x ≤ y → one (t && b) + x ≤ one b + y
fewer_by true b x y le = omega (arith, le)
fewer_by false true x y le = omega (arith, le)
fewer_by false false x y le = omega (arith, le)

fewer : (test : Interval → Bool) (is : List Interval) (s : ℕ) → leaving test is s ≤ number_in is s
fewer test [] s = omega arith
fewer test (i ∷ is) s = fewer_by (test i) (i.slot == s) (leaving test is s) (number_in is s) (fewer test is s)

left : (test : Interval → Bool) (is : List Interval) (s : ℕ) → number_in (filter (λ j. not (test j)) is) s ≡ number_in is s - leaving test is s
left test [] s = omega arith
left test (i ∷ is) s = left_by test i is s (test i) (left test is s) (fewer test is s)

-- the counts of those that stay
pub counted_left : (test : Interval → Bool) (is : List Interval) (counts : List ℕ) → Counts counts (number_in is)
    → Counts (gathered test (λ (j : Interval) later. lowered j.slot later) counts is) (number_in (filter (λ j. not (test j)) is))
counted_left test is counts right =
    same_counts (gathered test (λ (j : Interval) later. lowered j.slot later) counts is) (λ s. number_in is s - leaving test is s)
    (number_in (filter (λ j. not (test j)) is)) (left test is) (gone test is counts (number_in is) right)

-- ends change no slot
ended_by : (test : Interval → Bool) (i : Interval) (is : List Interval) (at s : ℕ) (t : Bool) → number_in (changed_where test (ends_at at) is) s ≡ number_in is s
    → number_in ((if t then ends_at at i else i) ∷ changed_where test (ends_at at) is) s ≡ number_in (i ∷ is) s
ended_by test i is at s true rest = ap (λ n. one (i.slot == s) + n) rest
ended_by test i is at s false rest = ap (λ n. one (i.slot == s) + n) rest

number_ended : (test : Interval → Bool) (at : ℕ) (is : List Interval) (s : ℕ) → number_in (changed_where test (ends_at at) is) s ≡ number_in is s
number_ended test at [] s = refl
number_ended test at (i ∷ is) s = ended_by test i is at s (test i) (number_ended test at is s)

pub counted_ended : (test : Interval → Bool) (at : ℕ) (is : List Interval) (counts : List ℕ) → Counts counts (number_in is)
    → Counts counts (number_in (changed_where test (ends_at at) is))
counted_ended test at is counts right =
    same_counts counts (number_in is) (number_in (changed_where test (ends_at at) is)) (number_ended test at is) right

pub counts_of : (is js : List Interval) (counts : List ℕ) → js ≡ is → Counts counts (number_in is) → Counts counts (number_in js)
counts_of is js counts same right s n at = right s n at ∙ ap (λ xs. number_in xs s) (sym same)

-- no more are in a slot than there are
within_by : (b : Bool) (n m : ℕ) → n ≤ m → one b + n ≤ suc m
within_by true n m le = omega (arith, le)
within_by false n m le = omega (arith, le)

pub number_within : (is : List Interval) (s : ℕ) → number_in is s ≤ length is
number_within [] s = omega arith
number_within (i ∷ is) s = within_by (i.slot == s) (number_in is s) (length is) (number_within is s)

kept_by : (p : Bool) (i : Interval) (is : List Interval) (n : ℕ) → length is ≤ n → length (if p then i ∷ is else is) ≤ suc n
kept_by true i is n le = omega (arith, le)
kept_by false i is n le = omega (arith, le)

pub present_within : (ks : List (Kept Interval)) → length (present_of ks) ≤ length ks
present_within [] = omega arith
present_within (k ∷ ks) = kept_by k.present k.item (present_of ks) (length ks) (present_within ks)

count_at : (counts : List ℕ) (slot : ℕ) → (count_of counts slot ≡ 0) ⊎ (slice_get counts slot ≡ Some (count_of counts slot))
count_at [] slot = inl refl
count_at (x ∷ xs) zero = inr refl
count_at (x ∷ xs) (suc slot) = count_at xs slot

-- a count is small, where there are few
pub small_count : (counts : List ℕ) (is : List Interval) (slot bound : ℕ) → 0 < bound → length is < bound → Counts counts (number_in is) → count_of counts slot < bound
small_count counts is slot bound some few right = by (count_at counts slot)
  where
    by : (count_of counts slot ≡ 0) ⊎ (slice_get counts slot ≡ Some (count_of counts slot)) → count_of counts slot < bound
    by (inl none) = omega (arith, none, some)
    by (inr at) = let n = right slot (count_of counts slot) at in let le = number_within is slot in omega (arith, n, le, few)

-- a slot is used if its count isn't 0
used_by : (b h : Bool) (n : ℕ) → nat_lt 0 n ≡ h → nat_lt 0 (one b + n) ≡ (b || h)
used_by true h n same = grind (arith, nat_tests, common_steps)
used_by false h n same = ap (nat_lt 0) (omega arith) ∙ same

pub used : (is : List Interval) (s : ℕ) → nat_lt 0 (number_in is s) ≡ has (map slot_of is) s
used [] s = refl
used (i ∷ is) s = used_by (i.slot == s) (has (map slot_of is) s) (number_in is s) (used is s)

-- or if an interval is found in it
found_by : (b : Bool) (i : Interval) (found : Option Interval) → is_some (if b then Some i else found) ≡ (is_some found || b)
found_by true i None = refl
found_by true i (Some j) = refl
found_by false i None = refl
found_by false i (Some j) = refl

or_swap : (a b c : Bool) → ((a || b) || c) ≡ (a || (b || c))
or_swap true b c = refl
or_swap false b c = refl

some_last : (is : List Interval) (s : ℕ) (found : Option Interval) → is_some (last_in is s found) ≡ (is_some found || has (map slot_of is) s)
some_last [] s None = refl
some_last [] s (Some i) = refl
some_last (i ∷ is) s found =
    some_last is s (if i.slot == s then Some i else found)
    ∙ ap (λ b. b || has (map slot_of is) s) (found_by (i.slot == s) i found)
    ∙ or_swap (is_some found) (i.slot == s) (has (map slot_of is) s)

pub last_used : (is : List Interval) (s : ℕ) → is_some (last_in is s None) ≡ has (map slot_of is) s
last_used is s = some_last is s None
