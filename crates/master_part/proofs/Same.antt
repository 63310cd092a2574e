-- Slots are the same where the slices are equal.
use Rattle.std.proofs.Common.{ℕ, ◌≡◌, ◌==◌, ◌&&◌, List, [], ◌∷◌, refl, ap}
use Rattle.std.specs.Str.{bytes_eq}
use Rattle.row_values.specs.Slots.{same_slots}

pub same_by_items : (xs ys : List ℕ) → bytes_eq xs ys ≡ same_slots xs ys
same_by_items [] [] = refl
same_by_items [] (y ∷ ys) = refl
same_by_items (x ∷ xs) [] = refl
same_by_items (x ∷ xs) (y ∷ ys) = ap (λ b. (x == y) && b) (same_by_items xs ys)
