-- The touched parts against all parts.
use Rattle.std.proofs.Common.{◌≡◌, ℕ, zero, suc, ◌<◌, List, [], ◌∷◌, length, set, refl, sym, ap, arith, ◌∙◌, true, ◌||◌, eqb, cond, false, Some}
use Rattle.std.specs.Prelude.{slice_get}
use Rattle.std.specs.Option.{option_map}
use Rattle.std.proofs.lemmas.Bool.Decides.{nat_tests}
use mathlib.Core.Option.{some}
use lib.ListN.{get_elem?}
use Rattle.step_table.specs.Lists.{Every, Rising, Above, pick, put}
use Rattle.step_table.proofs.Lists.{either_way, rising_rest}
use Rattle.step_table.proofs.Puts.{found_at, set_lt}
use Rattle.row_values.specs.Slots.{has}
use Rattle.model.specs.Parts.{Outcome}
use Rattle.machine_laws.specs.Views.{PartView, PartAct}
use Rattle.machine_laws.specs.Laid.{at_slot, told_to, told_acts, part_after, all_after}

pub is_eq : (j k : ℕ) → eqb j k ≡ true → j ≡ k
is_eq j k e = grind (arith, nat_tests)

-- a slot of the others, where the first is another
pub other_has : (j k : ℕ) (ks : List ℕ) → eqb j k ≡ false → has (j ∷ ks) k ≡ true → has ks k ≡ true
other_has j k ks f h = sym (ap (λ b. b || has ks k) f) ∙ h

pub get_found : {A : Type 0} (ps : List A) (k : ℕ) (p : A) → get_elem? ps k ≡ some p → slice_get ps k ≡ Some p
get_found [] k p at = cc
get_found (q ∷ ps) zero p at = ap Some (some_is at)
  where
    some_is : {A : Type 0} {x y : A} → some x ≡ some y → x ≡ y
    some_is e = cc
get_found (q ∷ ps) (suc k) p at = get_found ps k p at

-- what is picked stands in its slot
pub at_pick : {A : Type 0} (ks : List ℕ) (ps : List A) (k : ℕ) → Every (λ j. j < length ps) ks → has ks k ≡ true → at_slot ks (pick ks ps) k ≡ slice_get ps k
at_pick [] ps k lt h = cc
at_pick (j ∷ ks) ps k lt h =
    let at = found_at ps j lt.0 in
    rw at.1 (either_way (eqb j k)
    (λ t. rw t (sym (get_found ps j at.0 at.1) ∙ ap (λ i. slice_get ps i) (is_eq j k t)))
    (λ f. rw f (at_pick ks ps k lt.1 (other_has j k ks f h))))

pub not_above : (j k : ℕ) (ks : List ℕ) → Above j ks → has ks k ≡ true → j < k
not_above j k [] up h = cc
not_above j k (i ∷ ks) up h = either_way (eqb i k)
    (λ t. let e = is_eq i k t in let l = up.0 in omega arith)
    (λ f. let m = not_above i k ks up.1 (other_has i k ks f h) in let l = up.0 in omega arith)

eq_suc : (j k : ℕ) → eqb (suc j) (suc k) ≡ eqb j k
eq_suc j k = either_way (eqb j k) (λ t. let e : j ≡ k = is_eq j k t in rw t (grind (arith, nat_tests))) (λ f. rw f (grind (arith, nat_tests)))

get_set : {A : Type 0} (ps : List A) (j k : ℕ) (q : A) → j < length ps → slice_get (set ps j q) k ≡ cond (eqb j k) (Some q) (slice_get ps k)
get_set [] j k q lt = absurd (omega arith)
get_set (p ∷ ps) zero zero q lt = refl
get_set (p ∷ ps) zero (suc k) q lt = let e : eqb 0 (suc k) ≡ false = grind (arith, nat_tests) in ap (λ b. cond b (Some q) (slice_get ps k)) (sym e)
get_set (p ∷ ps) (suc j) zero q lt = let e : eqb (suc j) 0 ≡ false = grind (arith, nat_tests) in ap (λ b. cond b (Some q) (Some p)) (sym e)
get_set (p ∷ ps) (suc j) (suc k) q lt = get_set ps j k q (omega arith) ∙ ap (λ b. cond b (Some q) (slice_get ps k)) (sym (eq_suc j k))

-- each slot of all parts once some were put back
pub at_put : {A : Type 0} (ks : List ℕ) (qs ps : List A) (k : ℕ) → Rising ks → Every (λ j. j < length ps) ks → length qs ≡ length ks
    → slice_get (put ks qs ps) k ≡ cond (has ks k) (at_slot ks qs k) (slice_get ps k)
at_put [] qs ps k up lt len = refl
at_put (j ∷ ks) [] ps k up lt len = absurd (omega arith)
at_put (j ∷ ks) (q ∷ qs) ps k up lt len =
    at_put ks qs (set ps j q) k (rising_rest j ks up) (set_lt ps j q ks lt.1) (omega arith)
    ∙ either_way (has ks k)
    (λ t. let ne : eqb j k ≡ false = (let l = not_above j k ks up t in grind (arith, nat_tests)) in rw (t, ne) refl)
    (λ f. rw f (get_set ps j k q lt.0 ∙ either_way (eqb j k) (λ t. rw t refl) (λ g. rw g refl)))

pub count_acts : (o : Outcome) (ks : List ℕ) → length (told_acts o ks) ≡ length ks
count_acts o [] = refl
count_acts o (k ∷ ks) = ap suc (count_acts o ks)

module _ {R : Type 0} where
  count_after : (acts : List PartAct) (n : ℕ) (qs : List (PartView R)) → length acts ≡ length qs → length (all_after acts n qs) ≡ length qs
  count_after [] n qs len = refl
  count_after (a ∷ acts) n [] len = absurd (omega arith)
  count_after (a ∷ acts) n (q ∷ qs) len = ap suc (count_after acts n qs (omega arith))

  pub count_all : (o : Outcome) (n : ℕ) (ks : List ℕ) (qs : List (PartView R)) → length qs ≡ length ks → length (all_after (told_acts o ks) n qs) ≡ length ks
  count_all o n ks qs len = count_after (told_acts o ks) n qs (count_acts o ks ∙ sym len) ∙ len

  -- each held part after what its slot is told
  pub at_after : (o : Outcome) (n : ℕ) (ks : List ℕ) (qs : List (PartView R)) (k : ℕ) → length qs ≡ length ks → has ks k ≡ true
      → at_slot ks (all_after (told_acts o ks) n qs) k ≡ option_map (part_after (told_to o k) n) (at_slot ks qs k)
  at_after o n [] qs k len h = cc
  at_after o n (j ∷ ks) [] k len h = absurd (omega arith)
  at_after o n (j ∷ ks) (q ∷ qs) k len h = either_way (eqb j k)
      (λ t. rw t (ap (λ i. Some (part_after (told_to o i) n q)) (is_eq j k t)))
      (λ f. rw f (at_after o n ks qs k (omega arith) (other_has j k ks f h)))
