-- Words that are cut at a byte or at their end, and tests that let something through.
use Rattle.std.proofs.Common.{◌≡◌, ℕ, zero, suc, ◌<◌, ◌≤◌, ◌⊎◌, inl, inr, Bool, true, false, not, ◌&&◌, cond, List, [], ◌∷◌, ◌++◌, length, get_or, take, Option, Some, None, refl, sym, ap, ◌∙◌, arith}
use Rattle.std.specs.Prelude.{◌==◌, nat_le, nat_lt, bytes_eq, option_map}
use Rattle.std.specs.List.{list_all}
use Rattle.std.proofs.lemmas.Bool.{and_parts, and_from, eqb-true}
use Rattle.std.proofs.lemmas.Bool.Decides.{nat_tests}
use Rattle.std.proofs.lemmas.Slice.Eq.{bytes_eq-Decides}
use Rattle.script_places.specs.Words.{before, behind}
use Rattle.script_places.specs.Names.{begins_name, is_name_byte, is_name}

pub at_most : (a b : ℕ) → nat_le a b ≡ true → a ≤ b
at_most a b e = grind (arith, nat_tests)

pub is_at_most : (a b : ℕ) → a ≤ b → nat_le a b ≡ true
is_at_most a b e = grind (arith, nat_tests)

pub below : (a b : ℕ) → nat_lt a b ≡ true → a < b
below a b e = grind (arith, nat_tests)

pub is_below : (a b : ℕ) → a < b → nat_lt a b ≡ true
is_below a b e = grind (arith, nat_tests)

pub same_test : (a b : ℕ) → a ≡ b → (a == b) ≡ true
same_test a b e = grind (arith, nat_tests)

pub same_words : (a b : List ℕ) → bytes_eq a b ≡ true → a ≡ b
same_words a b e = (bytes_eq-Decides a b).0 e

pub words_same : (a b : List ℕ) → a ≡ b → bytes_eq a b ≡ true
words_same a b e = (bytes_eq-Decides a b).1 e

pub mapped : {A B : Type 0} (f : A → B) (o : Option A) (y : B) → option_map f o ≡ Some y → (x : A) × (o ≡ Some x) × (f x ≡ y)
mapped f None y e = absurd cc
mapped f (Some x) y e = (x, refl, cc)

-- a byte that stands in the word cuts it; where it doesn't, nothing stands behind it
cut_by : (b c : ℕ) (cs : List ℕ) (test : Bool) → (c == b) ≡ test → (cs ≡ before b cs ++ (b ∷ behind b cs)) ⊎ (behind b cs ≡ [])
    → (c ∷ cs ≡ cond test [] (c ∷ before b cs) ++ (b ∷ cond test cs (behind b cs))) ⊎ (cond test cs (behind b cs) ≡ [])
cut_by b c cs true is rest = inl (ap (λ (d : ℕ). d ∷ cs) (eqb-true c b is))
cut_by b c cs false is (inl whole) = inl (ap (λ (bs : List ℕ). c ∷ bs) whole)
cut_by b c cs false is (inr none) = inr none

pub cut_whole : (b : ℕ) (w : List ℕ) → (w ≡ before b w ++ (b ∷ behind b w)) ⊎ (behind b w ≡ [])
cut_whole b [] = inr refl
cut_whole b (c ∷ cs) = cut_by b c cs (c == b) refl (cut_whole b cs)

not_true : (b : Bool) → not b ≡ true → b ≡ false
not_true true e = cc
not_true false e = refl

pub cut_there : (b : ℕ) (w rest : List ℕ) → list_all (λ c. not (c == b)) w ≡ true → (before b (w ++ (b ∷ rest)) ≡ w) × (behind b (w ++ (b ∷ rest)) ≡ rest)
cut_there b [] rest e = let here = same_test b b refl in (rw here refl, rw here refl)
cut_there b (c ∷ cs) rest e =
    let p = and_parts (not (c == b)) (list_all (λ d. not (d == b)) cs) e in
    let cut = cut_there b cs rest p.1 in
    let other = not_true (c == b) p.0 in
    (rw (other, cut.0) refl, rw (other, cut.1) refl)

-- a name has neither `=` nor `:`
no_such : (b c : ℕ) (test : Bool) → (c == b) ≡ test → is_name_byte b ≡ false → is_name_byte c ≡ true → not test ≡ true
no_such b c true is other named = absurd (let same : c ≡ b = eqb-true c b is in let no : is_name_byte b ≡ true = sym (ap is_name_byte same) ∙ named in cc)
no_such b c false is other named = refl

bytes_without : (b : ℕ) (w : List ℕ) → is_name_byte b ≡ false → list_all is_name_byte w ≡ true → list_all (λ c. not (c == b)) w ≡ true
bytes_without b [] other e = refl
bytes_without b (c ∷ cs) other e =
    let p = and_parts (is_name_byte c) (list_all is_name_byte cs) e in
    and_from (not (c == b)) (list_all (λ d. not (d == b)) cs) (no_such b c (c == b) refl other p.0) (bytes_without b cs other p.1)

first_named : (b : ℕ) → begins_name b ≡ true → is_name_byte b ≡ true
first_named b e = rw e refl

name_bytes : (w : List ℕ) → is_name w ≡ true → list_all is_name_byte w ≡ true
unfolding is_name
name_bytes [] e = refl
name_bytes (b ∷ bs) e =
    let p = and_parts (begins_name b && list_all is_name_byte bs) (nat_le (length bs) 31) e in
    let q = and_parts (begins_name b) (list_all is_name_byte bs) p.0 in
    and_from (is_name_byte b) (list_all is_name_byte bs) (first_named b q.0) q.1

pub name_cut : (b : ℕ) (name rest : List ℕ) → is_name_byte b ≡ false → is_name name ≡ true → (before b (name ++ (b ∷ rest)) ≡ name) × (behind b (name ++ (b ∷ rest)) ≡ rest)
name_cut b name rest other e = cut_there b name rest (bytes_without b name other (name_bytes name e))

-- a list that isn't empty, and its last item
pub last_split : (w : List ℕ) (n : ℕ) → length w ≡ suc n → w ≡ take n w ++ (get_or w n 0 ∷ [])
last_split [] n len = absurd (omega arith)
last_split (b ∷ []) zero len = refl
last_split (b ∷ []) (suc n) len = absurd (omega arith)
last_split (b ∷ c ∷ cs) zero len = absurd (omega arith)
last_split (b ∷ c ∷ cs) (suc n) len = ap (λ (bs : List ℕ). b ∷ bs) (last_split (c ∷ cs) n (omega arith))
