-- Outcomes under the same checks, and lists of slots that are the same.
use Rattle.std.proofs.Common.{ℕ, ◌≡◌, List, [], ◌∷◌, Some, None, true, false, refl, arith}
use Rattle.std.proofs.lemmas.Bool.Decides.{nat_tests}
use Rattle.row_values.specs.Slots.{same_slots, has}
use Rattle.model.specs.Parts.{Outcome, Check, If, Names, Fault, judged}

-- no check refuses
abbrev pub NoneComes : List Check → Type 0
NoneComes [] = Unit {0}
NoneComes (If comes why ∷ checks) = (comes ≡ false) × NoneComes checks
NoneComes (Names found why ∷ checks) = (found ≡ None) × NoneComes checks
NoneComes (Fault fault ∷ checks) = (fault ≡ None) × NoneComes checks

pub judged_same : (checks : List Check) (o r : Outcome) → (NoneComes checks → o ≡ r) → judged checks o ≡ judged checks r
judged_same [] o r h = h tt
judged_same (If true why ∷ checks) o r h = refl
judged_same (If false why ∷ checks) o r h = judged_same checks o r (λ passes. h (refl, passes))
judged_same (Names (Some id) why ∷ checks) o r h = refl
judged_same (Names None why ∷ checks) o r h = judged_same checks o r (λ passes. h (refl, passes))
judged_same (Fault (Some why) ∷ checks) o r h = refl
judged_same (Fault None ∷ checks) o r h = judged_same checks o r (λ passes. h (refl, passes))

-- a slot of the one list is in the other
pub same_has : (xs ys : List ℕ) (slot : ℕ) → same_slots xs ys ≡ true → has ys slot ≡ true → has xs slot ≡ true
same_has [] [] slot e h = h
same_has [] (y ∷ ys) slot e h = cc
same_has (x ∷ xs) [] slot e h = cc
same_has (x ∷ xs) (y ∷ ys) slot e h = grind (arith, nat_tests, same_has xs ys slot)
