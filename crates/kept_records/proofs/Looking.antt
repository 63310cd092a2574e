-- What is gathered is the first record of a key, or a count.
use Rattle.std.proofs.Common.{ℕ, ◌≡◌, ◌+◌, Bool, true, false, cond, List, [], ◌∷◌, ◌++◌, map, ◌&&◌, reverse, Option, Some, None, if◌then◌else◌, length, take, drop, min, nat_lt, refl, sym, ap, ◌∙◌, arith}
use Rattle.std.proofs.lemmas.Grind.{common_steps}
use Rattle.std.specs.List.{find, filter}
use Rattle.std.proofs.lemmas.List.{reverse-append, length-reverse, append-nil}
use Rattle.newest_index.proofs.Gathering.{take_all, drop_all}
use Rattle.kept_records.specs.Gathered.{gathered, changed_where, one_more, puts}

-- Tests that are alike

pub if_same : {A : Type 0} (a b : Bool) (x y z : A) → a ≡ b → y ≡ z → (if a then x else y) ≡ (if b then x else z)
if_same true true x y z e same = refl
if_same true false x y z e same = absurd (cc)
if_same false true x y z e same = absurd (cc)
if_same false false x y z e same = same

pub cond_same : {A : Type 0} (a b : Bool) (x y z : A) → a ≡ b → y ≡ z → cond a x y ≡ (if b then x else z)
cond_same true true x y z e same = refl
cond_same true false x y z e same = absurd (cc)
cond_same false true x y z e same = absurd (cc)
cond_same false false x y z e same = same

pub find_same : {R : Type 0} (p q : R → Bool) → ((r : R) → p r ≡ q r) → (rs : List R) → find p rs ≡ find q rs
find_same p q alike [] = refl
find_same p q alike (r ∷ rs) = by (p r) (q r) (alike r) (find_same p q alike rs)
  where
    by : (a b : Bool) {x y : Option _} → a ≡ b → x ≡ y → cond a (Some r) x ≡ cond b (Some r) y
    by true true e same = refl
    by true false e same = absurd (cc)
    by false true e same = absurd (cc)
    by false false e same = same

pub filter_same : {R : Type 0} (p q : R → Bool) → ((r : R) → p r ≡ q r) → (rs : List R) → filter p rs ≡ filter q rs
filter_same p q alike [] = refl
filter_same p q alike (r ∷ rs) = by (p r) (q r) (alike r) (filter_same p q alike rs)
  where
    by : (a b : Bool) {ss ts : List _} → a ≡ b → ss ≡ ts → (if a then r ∷ ss else ss) ≡ (if b then r ∷ ts else ts)
    by true true e same = ap (λ ss. r ∷ ss) same
    by true false e same = absurd (cc)
    by false true e same = absurd (cc)
    by false false e same = same

pub changed_map : {R : Type 0} (test : R → Bool) (change f : R → R) → ((r : R) → (if test r then change r else r) ≡ f r) → (rs : List R)
    → changed_where test change rs ≡ map f rs
changed_map test change f alike [] = refl
changed_map test change f alike (r ∷ rs) = cons (alike r) (changed_map test change f alike rs)
  where
    cons : {A : Type 0} {x y : A} {xs ys : List A} → x ≡ y → xs ≡ ys → x ∷ xs ≡ y ∷ ys
    cons e d = cc

-- What is gathered

pub gathered_first : {R : Type 0} (test : R → Bool) (rs : List R) → gathered test (λ r later. Some r) None rs ≡ find test rs
gathered_first test [] = refl
gathered_first test (r ∷ rs) = sym (cond_same (test r) (test r) (Some r) _ _ refl (sym (gathered_first test rs)))

one_by : (b : Bool) (most n : ℕ) → nat_lt (min n most) most ≡ b → (if b then min n most + 1 else min n most) ≡ min (n + 1) most
one_by b most n e = grind (arith, common_steps, e)

pub gathered_count : {R : Type 0} (most : ℕ) (test : R → Bool) (rs : List R)
    → gathered test (λ r later. one_more most later) 0 rs ≡ min (length (filter test rs)) most
gathered_count most test [] = omega arith
gathered_count most test (r ∷ rs) = by (test r) (gathered_count most test rs)
  where
    by : (t : Bool) {n : ℕ} → n ≡ min (length (filter test rs)) most
        → (if t then one_more most n else n) ≡ min (length (if t then r ∷ filter test rs else filter test rs)) most
    by false same = same
    by true same =
        ap (one_more most) same
        ∙ one_by (nat_lt (min (length (filter test rs)) most) most) most (length (filter test rs)) refl
        ∙ ap (λ n. min n most) (omega arith)

put_by : {R : Type 0} (test passes : R → Bool) (r : R) (rs later : List R) (t p : Bool) → reverse later ≡ rs
    → reverse (if t then (if p then later ++ r ∷ [] else later) else later) ≡ (if t && p then r ∷ rs else rs)
put_by test passes r rs later true true same = reverse-append later (r ∷ []) ∙ ap (λ ys. r ∷ ys) same
put_by test passes r rs later true false same = same
put_by test passes r rs later false true same = same
put_by test passes r rs later false false same = same

-- from the last to the first, and turned round
pub gathered_passing : {R : Type 0} (test passes : R → Bool) (rs : List R)
    → reverse (gathered test (puts passes) [] rs) ≡ filter (λ r. test r && passes r) rs
gathered_passing test passes [] = refl
gathered_passing test passes (r ∷ rs) =
    put_by test passes r _ (gathered test (puts passes) [] rs) (test r) (passes r) (gathered_passing test passes rs)

-- a list that is turned round where it lies
pub turned_round : {A : Type 0} (xs now ys : List A) (n : ℕ) → now ≡ xs → ys ≡ reverse now → length now ≡ n
    → take n (ys ++ drop (length ys) xs) ≡ reverse xs
turned_round xs now ys n value after count =
    let y : ys ≡ reverse xs = after ∙ ap reverse value in
    let len : length ys ≡ length xs = ap length y ∙ length-reverse xs in
    let whole : n ≡ length ys = sym count ∙ ap length value ∙ sym len in
    ap (λ k. take n (ys ++ drop k xs)) len ∙ ap (λ zs. take n (ys ++ zs)) (drop_all xs) ∙ ap (take n) (append-nil ys)
    ∙ ap (λ k. take k ys) whole ∙ take_all ys ∙ y
