-- Numbers of each, added up over a list that changes.
use Rattle.std.proofs.Common.{◌≡◌, ℕ, zero, suc, ◌+◌, ◌≤◌, ◌≢◌, List, [], ◌∷◌, ◌++◌, set, refl, sym, ap, arith}
use mathlib.Core.Option.{some, some-ne-none, some-injective}
use lib.ListN.{get_elem?}
use Rattle.step_table.specs.Lists.{total}

module _ {A : Type 0} (f : A → ℕ) where
  pub total_set : (xs : List A) (i : ℕ) (v w : A) → get_elem? xs i ≡ some v → total f (set xs i w) + f v ≡ total f xs + f w
  total_set [] i v w at = absurd (some-ne-none v (sym at))
  total_set (x ∷ xs) zero v w at = let e : f x ≡ f v = ap f (some-injective x v at) in omega arith
  total_set (x ∷ xs) (suc i) v w at = let h = total_set xs i v w at in omega arith

  pub same_total : (xs : List A) (i : ℕ) (v w : A) → get_elem? xs i ≡ some v → f w ≡ f v → total f (set xs i w) ≡ total f xs
  same_total xs i v w at same = let h = total_set xs i v w at in omega arith

  pub total_at : (xs : List A) (i : ℕ) (v : A) → get_elem? xs i ≡ some v → f v ≤ total f xs
  total_at [] i v at = absurd (some-ne-none v (sym at))
  total_at (x ∷ xs) zero v at = let e : f x ≡ f v = ap f (some-injective x v at) in omega arith
  total_at (x ∷ xs) (suc i) v at = let h = total_at xs i v at in omega arith

  pub total_two : (xs : List A) (i j : ℕ) (v w : A) → i ≢ j → get_elem? xs i ≡ some v → get_elem? xs j ≡ some w → f v + f w ≤ total f xs
  total_two [] i j v w apart at here = absurd (some-ne-none v (sym at))
  total_two (x ∷ xs) zero zero v w apart at here = absurd (apart refl)
  total_two (x ∷ xs) zero (suc j) v w apart at here = let e : f x ≡ f v = ap f (some-injective x v at) in let h = total_at xs j w here in omega arith
  total_two (x ∷ xs) (suc i) zero v w apart at here = let e : f x ≡ f w = ap f (some-injective x w here) in let h = total_at xs i v at in omega arith
  total_two (x ∷ xs) (suc i) (suc j) v w apart at here = let h = total_two xs i j v w (λ e. apart (ap suc e)) at here in omega arith

  pub total_append : (xs ys : List A) → total f (xs ++ ys) ≡ total f xs + total f ys
  total_append [] ys = omega arith
  total_append (x ∷ xs) ys = let h = total_append xs ys in omega arith
