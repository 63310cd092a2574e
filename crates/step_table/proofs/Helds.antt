-- For a machine's own proofs: what a part that is written in place changes.
use Rattle.std.proofs.Common.{◌≡◌, ℕ, zero, suc, List, [], ◌∷◌, set, refl, ap}
use Rattle.step_table.specs.Helds.{slots_of, parts_of, with_part}

module _ {P : Type 0} where
  pub slots_with : (held : List (ℕ × P)) (i : ℕ) (part : P) → slots_of (with_part held i part) ≡ slots_of held
  slots_with [] i part = refl
  slots_with (x ∷ xs) zero part = refl
  slots_with (x ∷ xs) (suc i) part = ap (λ ks. x.0 ∷ ks) (slots_with xs i part)

  pub parts_with : (held : List (ℕ × P)) (i : ℕ) (part : P) → parts_of (with_part held i part) ≡ set (parts_of held) i part
  parts_with [] i part = refl
  parts_with (x ∷ xs) zero part = refl
  parts_with (x ∷ xs) (suc i) part = ap (λ ps. x.1 ∷ ps) (parts_with xs i part)
