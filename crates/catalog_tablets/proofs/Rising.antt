-- The slots of intervals in rising order are those of so many slots that are used.
use Rattle.std.proofs.Common.{ℕ, zero, suc, ◌≡◌, ◌+◌, ◌≤◌, ◌<◌, ◌==◌, Bool, true, false, ◌||◌, List, [], ◌∷◌, map, inl, inr, if◌then◌else◌, refl, sym, ap, subst, ◌∙◌, arith}
use Rattle.std.specs.Prelude.{filter, nat_lt}
use Rattle.std.proofs.lemmas.Bool.Decides.{nat_tests}
use Rattle.row_values.specs.Elements.{In}
use Rattle.row_values.specs.Slots.{has, put_slot, rising}
use Rattle.model.specs.Activity.{Interval}
use Rattle.model.specs.Looks.{counting}
use Rattle.catalog_tablets.specs.View.{slot_of}

put_first : (s f : ℕ) (rest : List ℕ) → s < f → put_slot s (f ∷ rest) ≡ s ∷ f ∷ rest
put_first s f rest lt =
    let e : nat_lt s f ≡ true = grind (arith, nat_tests, lt) in
    ap (λ b. if b then s ∷ f ∷ rest else if f == s then f ∷ rest else f ∷ put_slot s rest) e

put_later : (s f : ℕ) (rest : List ℕ) → f < s → put_slot s (f ∷ rest) ≡ f ∷ put_slot s rest
put_later s f rest lt =
    let e : nat_lt s f ≡ false = grind (arith, nat_tests, lt) in
    let d : (f == s) ≡ false = grind (arith, nat_tests, lt) in
    ap (λ b. if b then s ∷ f ∷ rest else if f == s then f ∷ rest else f ∷ put_slot s rest) e
    ∙ ap (λ b. if b then f ∷ rest else f ∷ put_slot s rest) d

put_same : (s : ℕ) (rest : List ℕ) → put_slot s (s ∷ rest) ≡ s ∷ rest
put_same s rest =
    let e : nat_lt s s ≡ false = grind (arith, nat_tests) in
    let d : (s == s) ≡ true = grind (arith, nat_tests) in
    ap (λ b. if b then s ∷ s ∷ rest else if s == s then s ∷ rest else s ∷ put_slot s rest) e
    ∙ ap (λ b. if b then s ∷ rest else s ∷ put_slot s rest) d

-- a slot goes before greater ones
before_by : (b : Bool) (s f : ℕ) (rest : List ℕ) → s < f → put_slot s rest ≡ s ∷ rest
    → put_slot s (if b then f ∷ rest else rest) ≡ s ∷ (if b then f ∷ rest else rest)
before_by true s f rest lt e = put_first s f rest lt
before_by false s f rest lt e = e

put_before : (p : ℕ → Bool) (s k f : ℕ) → s < f → put_slot s (filter p (counting k f)) ≡ s ∷ filter p (counting k f)
put_before p s zero f lt = refl
put_before p s (suc k) f lt =
    before_by (p f) s f (filter p (counting k (f + 1))) lt (put_before p s k (f + 1) (omega (arith, lt)))

-- the slots with one more
abbrev or_this : (ℕ → Bool) → ℕ → ℕ → Bool
or_this p s x = (s == x) || p x

above_by : (b c : Bool) (f : ℕ) (xs ys : List ℕ) → b ≡ false → xs ≡ ys → (if b || c then f ∷ xs else xs) ≡ (if c then f ∷ ys else ys)
above_by true c f xs ys e same = absurd (cc)
above_by false true f xs ys e same = ap (λ zs. f ∷ zs) same
above_by false false f xs ys e same = same

-- one that comes before them changes none
above : (p : ℕ → Bool) (s k f : ℕ) → s < f → filter (or_this p s) (counting k f) ≡ filter p (counting k f)
above p s zero f lt = refl
above p s (suc k) f lt =
    let d : (s == f) ≡ false = grind (arith, nat_tests, lt) in
    above_by (s == f) (p f) f (filter (or_this p s) (counting k (f + 1))) (filter p (counting k (f + 1))) d
    (above p s k (f + 1) (omega (arith, lt)))

here_by : (c : Bool) (s : ℕ) (xs ys : List ℕ) → xs ≡ ys → put_slot s ys ≡ s ∷ ys → put_slot s (if c then s ∷ ys else ys) ≡ s ∷ xs
here_by true s xs ys same front = put_same s ys ∙ sym (ap (λ zs. s ∷ zs) same)
here_by false s xs ys same front = front ∙ sym (ap (λ zs. s ∷ zs) same)

there_by : (c : Bool) (s f : ℕ) (xs ys : List ℕ) → f < s → put_slot s ys ≡ xs → put_slot s (if c then f ∷ ys else ys) ≡ (if c then f ∷ xs else xs)
there_by true s f xs ys lt rest = put_later s f ys lt ∙ ap (λ zs. f ∷ zs) rest
there_by false s f xs ys lt rest = rest

module _ (p : ℕ → Bool) (s k f : ℕ) where
  abbrev fewer : List ℕ
  fewer = filter p (counting k (f + 1))

  abbrev more : List ℕ
  more = filter (or_this p s) (counting k (f + 1))

  among_by : (b : Bool) → (s == f) ≡ b → f ≤ s → (f < s → put_slot s fewer ≡ more)
      → put_slot s (if p f then f ∷ fewer else fewer) ≡ (if b || p f then f ∷ more else more)
  among_by true e le rest =
      let same : s ≡ f = grind (arith, nat_tests, e) in
      subst (λ (g : ℕ). put_slot s (if p f then g ∷ fewer else fewer) ≡ g ∷ more) same
      (here_by (p f) s more fewer (above p s k (f + 1) (omega (arith, same))) (put_before p s k (f + 1) (omega (arith, same))))
  among_by false e le rest =
      let lt : f < s = grind (arith, nat_tests, e, le) in there_by (p f) s f more fewer lt (rest lt)

-- one more of so many slots
put_among : (p : ℕ → Bool) (s k f : ℕ) → f ≤ s → s < f + k → put_slot s (filter p (counting k f)) ≡ filter (or_this p s) (counting k f)
put_among p s zero f le lt = absurd (omega (arith, le, lt))
put_among p s (suc k) f le lt =
    among_by p s k f (s == f) refl le (λ later. put_among p s k (f + 1) (omega (arith, later)) (omega (arith, lt)))

none_of : (slots : List ℕ) → filter (has []) slots ≡ []
none_of [] = refl
none_of (s ∷ slots) = none_of slots

-- the slots that intervals have, where each has one of so many
pub rising_used : (n : ℕ) (is : List Interval) → ((i : Interval) → In i is → (1 ≤ i.slot) × (i.slot ≤ n))
    → rising (map slot_of is) ≡ filter (has (map slot_of is)) (counting n 1)
rising_used n [] within = sym (none_of (counting n 1))
rising_used n (i ∷ is) within =
    let here = within i (inl refl) in
    let le = here.1 in
    ap (put_slot i.slot) (rising_used n is (λ j there. within j (inr there)))
    ∙ put_among (has (map slot_of is)) i.slot n 1 here.0 (omega (arith, le))
