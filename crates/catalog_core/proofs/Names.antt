-- Names and their numbers, ends of intervals, and counts of records that pass a test.
use Rattle.std.proofs.Common.{ℕ, zero, suc, ◌≡◌, ◌≤◌, ◌+◌, Bool, true, false, not, ◌&&◌, cond, List, [], ◌∷◌, ◌++◌, Option, Some, None, is_some, if◌then◌else◌, length, filter, slice_get, slice_set, nat_eq, refl, sym, ap, ◌∙◌, arith}
use Rattle.std.proofs.lemmas.Grind.{common_steps}
use Rattle.std.proofs.lemmas.Slice.Eq.{bytes_eq-Decides}
use Rattle.std.specs.Str.{bytes_eq}
use Rattle.model.specs.Times.{is_open, ended}
use Rattle.newest_index.specs.Newest.{if_open, record_of, open_at, changed_at, changed_here}
use Rattle.catalog_core.specs.Codes.{name_code}
use Rattle.catalog_core.specs.Kept.{one_if}

pub bytes_equal : (xs ys : List ℕ) → bytes_eq xs ys ≡ true → xs ≡ ys
bytes_equal xs ys e = (bytes_eq-Decides xs ys).0 e

-- names that are both the same are the same
pub bytes_meet : (xs ys name : List ℕ) → bytes_eq xs name ≡ true → bytes_eq ys name ≡ true → bytes_eq xs ys ≡ true
bytes_meet xs ys name first second = (bytes_eq-Decides xs ys).1 (bytes_equal xs name first ∙ sym (bytes_equal ys name second))

apart_by : (b : Bool) → (b ≡ true → ⊥) → b ≡ false
apart_by true never = absurd (never refl)
apart_by false never = refl

self_eq : (n : ℕ) → nat_eq n n ≡ true
self_eq n = grind (arith, common_steps)

-- names with other numbers are not the same
pub code_apart : (start : ℕ) (name other : List ℕ) → nat_eq (name_code start name) (name_code start other) ≡ false → bytes_eq other name ≡ false
code_apart start name other apart =
    apart_by (bytes_eq other name)
    (λ e. let same = ap (name_code start) (bytes_equal other name e) in
    let one : true ≡ false = sym (self_eq (name_code start name)) ∙ sym (ap (nat_eq (name_code start name)) same) ∙ apart in absurd (cc))

pub open_at-record : {R : Type 0} (live : R → Bool) (rs : List R) (p : Option ℕ) → open_at live rs p ≡ if_open live (record_of rs p)
open_at-record live rs None = refl
open_at-record live rs (Some p) = refl

-- Ends

pub open_not : (a : Bool) → not a ≡ true → a ≡ false
open_not true e = absurd (cc)
open_not false e = refl

pub was_open : (b : Bool) (o : Option ℕ) (at : ℕ) → not (is_open o) ≡ true → not (is_open (if b then ended at o else o)) ≡ true
was_open true None at e = absurd (cc)
was_open true (Some t) at e = refl
was_open false o at e = e

pub ended_to : (b : Bool) (o : Option ℕ) (at : ℕ) → (b ≡ true → is_open o ≡ true → ⊥) → (if b then ended at o else o) ≡ o
ended_to true None at none = absurd (none refl refl)
ended_to true (Some t) at none = refl
ended_to false o at none = refl

pub shut : (o : Option ℕ) (at : ℕ) → is_open (ended at o) ≡ false
shut None at = refl
shut (Some t) at = refl

pub both_false : (a b : Bool) → b ≡ false → (a && b) ≡ false
both_false true b e = e
both_false false b e = refl

-- Counts

counted_cons : {R : Type 0} (b : Bool) (x : R) (xs : List R) → length (cond b (x ∷ xs) xs) ≡ one_if b + length xs
counted_cons true x xs = omega arith
counted_cons false x xs = omega arith

-- a record in place of another
pub count_set : {R : Type 0} (t : R → Bool) (rs : List R) (p : ℕ) (r s : R) → slice_get rs p ≡ Some r
    → length (filter t (slice_set rs p s)) + one_if (t r) ≡ length (filter t rs) + one_if (t s)
count_set t [] p r s is = absurd (cc)
count_set t (x ∷ xs) zero r s is =
    let e : x ≡ r = cc in
    let new = counted_cons (t s) s (filter t xs) in
    let old = counted_cons (t x) x (filter t xs) in
    let same = ap (λ y. one_if (t y)) e in
    omega (arith, new, old, same)
count_set t (x ∷ xs) (suc p) r s is =
    let rest = count_set t xs p r s is in
    let new = counted_cons (t x) x (filter t (slice_set xs p s)) in
    let old = counted_cons (t x) x (filter t xs) in
    omega (arith, new, old, rest)

-- one more record
pub count_next : {R : Type 0} (t : R → Bool) (rs : List R) (r : R) → length (filter t (rs ++ r ∷ [])) ≡ length (filter t rs) + one_if (t r)
count_next t [] r = counted_cons (t r) r [] ∙ omega arith
count_next t (x ∷ xs) r =
    let rest = count_next t xs r in
    let new = counted_cons (t x) x (filter t (xs ++ r ∷ [])) in
    let old = counted_cons (t x) x (filter t xs) in
    omega (arith, new, old, rest)

closing : {R : Type 0} (t : R → Bool) (r : R) (b : Bool) → t r ≡ b → is_some (if_open t (Some r)) ≡ b
closing t r true e = ap (λ c. is_some (if c then Some r else None)) e
closing t r false e = ap (λ c. is_some (if c then Some r else None)) e

-- the record of a place that passed doesn't any more
pub count_changed : {R : Type 0} (t : R → Bool) (f : R → R) (rs : List R) (p : Option ℕ) → ((r : R) → t (f r) ≡ false)
    → length (filter t (changed_at f rs p)) + one_if (is_some (open_at t rs p)) ≡ length (filter t rs)
count_changed t f rs None ends = omega arith
count_changed {R} t f rs (Some p) ends = by (slice_get rs p) refl
  where
    by : (o : Option R) → slice_get rs p ≡ o → length (filter t (changed_here f rs p o)) + one_if (is_some (if_open t o)) ≡ length (filter t rs)
    by None is = omega arith
    by (Some r) is =
        let set = count_set t rs p r (f r) is in
        let shut = ap one_if (ends r) in
        let was = ap one_if (closing t r (t r) refl) in
        omega (arith, set, shut, was)

-- no more pass than there are
pub count_within : {R : Type 0} (t : R → Bool) (rs : List R) → length (filter t rs) ≤ length rs
count_within t [] = omega arith
count_within t (r ∷ rs) = by (t r) (count_within t rs)
  where
    by : (b : Bool) → length (filter t rs) ≤ length rs → length (cond b (r ∷ filter t rs) (filter t rs)) ≤ length (r ∷ rs)
    by true le = omega (arith, le)
    by false le = omega (arith, le)
