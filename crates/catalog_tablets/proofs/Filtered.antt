-- A filter of a filter is one filter.
use Rattle.std.proofs.Common.{◌≡◌, Bool, true, false, ◌&&◌, List, [], ◌∷◌, if◌then◌else◌, refl, ap, ◌∙◌}
use Rattle.std.specs.List.{filter}

by_tests : {A : Type 0} (p q : A → Bool) (x : A) (xs ys : List A) (b c : Bool) → p x ≡ c → filter p (filter q xs) ≡ ys
    → filter p (if b then x ∷ filter q xs else filter q xs) ≡ (if b && c then x ∷ ys else ys)
by_tests p q x xs ys true true e same =
    ap (λ d. if d then x ∷ filter p (filter q xs) else filter p (filter q xs)) e ∙ ap (λ zs. x ∷ zs) same
by_tests p q x xs ys true false e same = ap (λ d. if d then x ∷ filter p (filter q xs) else filter p (filter q xs)) e ∙ same
by_tests p q x xs ys false c e same = same

pub filter_twice : {A : Type 0} (p q : A → Bool) (xs : List A) → filter p (filter q xs) ≡ filter (λ x. q x && p x) xs
filter_twice p q [] = refl
filter_twice p q (x ∷ xs) =
    by_tests p q x xs (filter (λ x. q x && p x) xs) (q x) (p x) refl (filter_twice p q xs)
