-- What a map counts, after one more or one less at a key, or none.
use Rattle.std.proofs.Common.{ℕ, ◌≡◌, ◌+◌, ◌-◌, Bool, true, false, cond, Option, Some, None, if◌then◌else◌, refl, sym, ap, ◌∙◌, arith}
use Rattle.std.specs.Option.{unwrap_or}
use Rattle.row_values.specs.Ids.{Id, same}
use Rattle.catalog_core.specs.Kept.{one_if}

module _ (eq : Id → Id → Bool) (agree : (a b : Id) → eq a b ≡ same a b) (equal : (a b : Id) → same a b ≡ true → a ≡ b) (old new : Id → Option ℕ) (k : Id) (n : ℕ) where
  up_by : (q : Id) (b : Bool) → same k q ≡ b → n ≡ unwrap_or (old k) 0 → unwrap_or (cond b (Some (n + 1)) (old q)) 0 ≡ unwrap_or (old q) 0 + one_if b
  up_by q true e is = let here = ap (λ j. unwrap_or (old j) 0) (equal k q e) in omega (arith, here, is)
  up_by q false e is = omega arith

  pub counts_up : n ≡ unwrap_or (old k) 0 → ((q : Id) → new q ≡ cond (eq k q) (Some (n + 1)) (old q)) → (q : Id) → unwrap_or (new q) 0 ≡ unwrap_or (old q) 0 + one_if (same k q)
  counts_up is updates q =
      ap (λ o. unwrap_or o 0) (updates q)
      ∙ ap (λ b. unwrap_or (cond b (Some (n + 1)) (old q)) 0) (agree k q)
      ∙ up_by q (same k q) refl is

  down_by : (q : Id) (b : Bool) (w : ℕ) → same k q ≡ b → Some n ≡ old k → w ≡ n - 1 → unwrap_or (cond b (Some w) (old q)) 0 ≡ unwrap_or (old q) 0 - one_if b
  down_by q true w e is less = let here = ap (λ o. unwrap_or o 0) is ∙ ap (λ j. unwrap_or (old j) 0) (equal k q e) in omega (arith, here, less)
  down_by q false w e is less = omega arith

  pub counts_down : (w : ℕ) → Some n ≡ old k → w ≡ n - 1 → ((q : Id) → new q ≡ cond (eq k q) (Some w) (old q)) → (q : Id) → unwrap_or (new q) 0 ≡ unwrap_or (old q) 0 - one_if (same k q)
  counts_down w is less updates q =
      ap (λ o. unwrap_or o 0) (updates q)
      ∙ ap (λ b. unwrap_or (cond b (Some w) (old q)) 0) (agree k q)
      ∙ down_by q (same k q) w refl is less

module _ (eq : Id → Id → Bool) (agree : (a b : Id) → eq a b ≡ same a b) (old new : Id → Option ℕ) (k : Id) where
  clear_by : (q : Id) (b : Bool) → unwrap_or (cond b (Some 0) (old q)) 0 ≡ (if b then 0 else unwrap_or (old q) 0)
  clear_by q true = refl
  clear_by q false = refl

  pub counts_clear : ((q : Id) → new q ≡ cond (eq k q) (Some 0) (old q)) → (q : Id) → unwrap_or (new q) 0 ≡ (if same k q then 0 else unwrap_or (old q) 0)
  counts_clear updates q =
      ap (λ o. unwrap_or o 0) (updates q) ∙ ap (λ b. unwrap_or (cond b (Some 0) (old q)) 0) (agree k q) ∙ clear_by q (same k q)

clear_none : (old : Id → Option ℕ) (equal : (a b : Id) → same a b ≡ true → a ≡ b) (k q : Id) (b : Bool) → same k q ≡ b → old k ≡ None → unwrap_or (old q) 0 ≡ (if b then 0 else unwrap_or (old q) 0)
clear_none old equal k q true e none = ap (λ j. unwrap_or (old j) 0) (sym (equal k q e)) ∙ ap (λ o. unwrap_or o 0) none
clear_none old equal k q false e none = refl

pub counts_clear_none : (old : Id → Option ℕ) (equal : (a b : Id) → same a b ≡ true → a ≡ b) (k q : Id) → old k ≡ None → unwrap_or (old q) 0 ≡ (if same k q then 0 else unwrap_or (old q) 0)
counts_clear_none old equal k q none = clear_none old equal k q (same k q) refl none

none_by : (old : Id → Option ℕ) (equal : (a b : Id) → same a b ≡ true → a ≡ b) (k q : Id) (b : Bool) → same k q ≡ b → old k ≡ None → unwrap_or (old q) 0 ≡ unwrap_or (old q) 0 - one_if b
none_by old equal k q true e none = let here = ap (λ j. unwrap_or (old j) 0) (sym (equal k q e)) ∙ ap (λ o. unwrap_or o 0) none in omega (arith, here)
none_by old equal k q false e none = omega arith

-- a key that is not counted
pub counts_none : (old : Id → Option ℕ) (equal : (a b : Id) → same a b ≡ true → a ≡ b) (k q : Id) → old k ≡ None → unwrap_or (old q) 0 ≡ unwrap_or (old q) 0 - one_if (same k q)
counts_none old equal k q none = none_by old equal k q (same k q) refl none
