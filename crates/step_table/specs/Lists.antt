-- Words on lists: sums, facts of each item, rising numbers, and the items of some places.
use Rattle.std.specs.Prelude.{ℕ, ◌≡◌, ◌⊎◌, ◌+◌, ◌<◌, List, [], ◌∷◌, slice_set}
use mathlib.Core.Option.{Option, none, some}
use lib.ListN.{get_elem?}

abbrev pub fst : {A B : Type 0} → A × B → A
fst x = x.0

abbrev pub snd : {A B : Type 0} → A × B → B
snd x = x.1

-- a number of each item, added up
abbrev pub total : {A : Type 0} → (A → ℕ) → List A → ℕ
total f [] = 0
total f (x ∷ xs) = f x + total f xs

-- a fact of each item
abbrev pub Every : {A : Type 0} → (A → Type 0) → List A → Type 0
Every F [] = Unit {0}
Every F (x ∷ xs) = F x × Every F xs

abbrev pub In : {A : Type 0} → A → List A → Type 0
In a [] = ⊥
In a (x ∷ xs) = (x ≡ a) ⊎ In a xs

-- the numbers rise, and the first is above n
abbrev pub Above : ℕ → List ℕ → Type 0
Above n [] = Unit {0}
Above n (x ∷ xs) = (n < x) × Above x xs

-- each number is above those before it
abbrev pub Rising : List ℕ → Type 0
Rising [] = Unit {0}
Rising (x ∷ xs) = Above x xs

abbrev pub found_also : {A : Type 0} → Option A → List A → List A
found_also none xs = xs
found_also (some x) xs = x ∷ xs

-- the items of these places
abbrev pub pick : {A : Type 0} → List ℕ → List A → List A
pick [] xs = []
pick (k ∷ ks) xs = found_also (get_elem? xs k) (pick ks xs)

-- the list, with these items in these places
abbrev pub put : {A : Type 0} → List ℕ → List A → List A → List A
put [] ys xs = xs
put (k ∷ ks) [] xs = xs
put (k ∷ ks) (y ∷ ys) xs = put ks ys (slice_set xs k y)

-- the places, each with its item
abbrev pub pair : {A : Type 0} → List ℕ → List A → List (ℕ × A)
pair [] ys = []
pair (k ∷ ks) [] = []
pair (k ∷ ks) (y ∷ ys) = (k, y) ∷ pair ks ys
