-- Lemmas on lists: facts of each item, items that stand in a list, prefixes, rising numbers.
use Rattle.std.proofs.Common.{◌≡◌, ℕ, suc, ◌+◌, ◌≤◌, ◌<◌, List, [], ◌∷◌, ◌++◌, map, refl, sym, ap, subst, arith, length, ◌∙◌, inl, inr, append-nil, append_assoc, Bool, true, false}
use mathlib.Core.List.{IsPrefix}
use Rattle.step_table.specs.Lists.{fst, snd, Every, In, Above, Rising, pair}
use Rattle.step_table.specs.Plays.{but_last}

pub either_way : {P : Type 0} (b : Bool) → (b ≡ true → P) → (b ≡ false → P) → P
either_way true yes' no' = yes' refl
either_way false yes' no' = no' refl

module _ {A : Type 0} where
  pub every_map : (F G : A → Type 0) → ((a : A) → F a → G a) → (xs : List A) → Every F xs → Every G xs
  every_map F G f [] all = tt
  every_map F G f (x ∷ xs) all = (f x all.0, every_map F G f xs all.1)

  pub every_in : (F G : A → Type 0) (xs : List A) → ((a : A) → In a xs → F a → G a) → Every F xs → Every G xs
  every_in F G [] f all = tt
  every_in F G (x ∷ xs) f all = (f x (inl refl) all.0, every_in F G xs (λ a here. f a (inr here)) all.1)

  pub every_get : (F : A → Type 0) (xs : List A) → Every F xs → (a : A) → In a xs → F a
  every_get F [] all a here = absurd here
  every_get F (x ∷ xs) all a (inl e) = subst F e all.0
  every_get F (x ∷ xs) all a (inr here) = every_get F xs all.1 a here

  pub every_snoc : (F : A → Type 0) (xs : List A) (y : A) → Every F xs → F y → Every F (xs ++ y ∷ [])
  every_snoc F [] y all last = (last, tt)
  every_snoc F (x ∷ xs) y all last = (all.0, every_snoc F xs y all.1 last)

  pub every_init : (F : A → Type 0) (xs : List A) (y : A) → Every F (xs ++ y ∷ []) → Every F xs × F y
  every_init F [] y all = (tt, all.0)
  every_init F (x ∷ xs) y all = let r = every_init F xs y all.1 in ((all.0, r.0), r.1)

  pub every_append : (F : A → Type 0) (xs ys : List A) → Every F xs → Every F ys → Every F (xs ++ ys)
  every_append F [] ys a b = b
  every_append F (x ∷ xs) ys a b = (a.0, every_append F xs ys a.1 b)

  pub every_self : (xs : List A) → Every (λ x. In x xs) xs
  every_self [] = tt
  every_self (x ∷ xs) = (inl refl, every_map (λ y. In y xs) (λ y. In y (x ∷ xs)) (λ y here. inr here) xs (every_self xs))

  pub every_mapped : {B : Type 0} (f : A → B) (F : B → Type 0) (xs : List A) → ((x : A) → In x xs → F (f x)) → Every F (map f xs)
  every_mapped f F [] all = tt
  every_mapped f F (x ∷ xs) all = (all x (inl refl), every_mapped f F xs (λ y here. all y (inr here)))

  pub in_longer : (a : A) (xs ys : List A) → In a xs → In a (xs ++ ys)
  in_longer a [] ys h = absurd h
  in_longer a (x ∷ xs) ys (inl e) = inl e
  in_longer a (x ∷ xs) ys (inr h) = inr (in_longer a xs ys h)

  pub in_behind : (a : A) (xs ys : List A) → In a ys → In a (xs ++ ys)
  in_behind a [] ys h = h
  in_behind a (x ∷ xs) ys h = inr (in_behind a xs ys h)

  pub in_prefix : (a : A) (xs ys : List A) → IsPrefix xs ys → In a xs → In a ys
  in_prefix a xs ys pre h = subst (In a) pre.1 (in_longer a xs pre.0 h)

  pub in_last : (xs : List A) (x : A) → In x (xs ++ x ∷ [])
  in_last [] x = inl refl
  in_last (y ∷ ys) x = inr (in_last ys x)

  pub prefix_self : (xs : List A) → IsPrefix xs xs
  prefix_self xs = ([], append-nil xs)

  pub prefix_longer : (xs ys : List A) (y : A) → IsPrefix xs ys → IsPrefix xs (ys ++ y ∷ [])
  prefix_longer xs ys y pre = (pre.0 ++ y ∷ [], sym (append_assoc xs pre.0 (y ∷ [])) ∙ ap (λ zs. zs ++ y ∷ []) pre.1)

  pub prefix_then : (xs ys zs : List A) → IsPrefix xs ys → IsPrefix ys zs → IsPrefix xs zs
  prefix_then xs ys zs p q = (p.0 ++ q.0, sym (append_assoc xs p.0 q.0) ∙ (ap (λ ws. ws ++ q.0) p.1 ∙ q.1))

  -- the same list in front of both
  pub prefix_behind : (xs ys zs : List A) → IsPrefix ys zs → IsPrefix (xs ++ ys) (xs ++ zs)
  prefix_behind xs ys zs p = (p.0, append_assoc xs ys p.0 ∙ ap (λ ws. xs ++ ws) p.1)

  pub prefix_of_two : (xs ys zs : List A) → IsPrefix xs zs → IsPrefix ys zs → length xs ≤ length ys → IsPrefix xs ys
  prefix_of_two [] ys zs p q le = (ys, refl)
  prefix_of_two (x ∷ xs) [] zs p q le = absurd (omega arith)
  prefix_of_two (x ∷ xs) (y ∷ ys) [] p q le = absurd (let l : length (x ∷ xs ++ p.0) ≡ 0 = ap length p.1 in omega arith)
  prefix_of_two (x ∷ xs) (y ∷ ys) (z ∷ zs) p q le =
      let heads : x ≡ y = ap (head x) p.1 ∙ sym (ap (head x) q.1) in
      let r = prefix_of_two xs ys zs (p.0, ap tail p.1) (q.0, ap tail q.1) (omega arith) in
      (r.0, ap (λ w. w ∷ (xs ++ r.0)) heads ∙ ap (λ ws. y ∷ ws) r.1)
    where
      head : A → List A → A
      head d [] = d
      head d (w ∷ ws) = w

      tail : List A → List A
      tail [] = []
      tail (w ∷ ws) = ws

  pub but_last_snoc : (xs : List A) (x : A) → but_last (xs ++ x ∷ []) ≡ xs
  but_last_snoc [] x = refl
  but_last_snoc (y ∷ []) x = refl
  but_last_snoc (y ∷ z ∷ zs) x = ap (λ ws. y ∷ ws) (but_last_snoc (z ∷ zs) x)

  pub pair_fst : (ks : List ℕ) (qs : List A) → length qs ≡ length ks → map fst (pair ks qs) ≡ ks
  pair_fst [] qs len = refl
  pair_fst (k ∷ ks) [] len = absurd (omega arith)
  pair_fst (k ∷ ks) (q ∷ qs) len = ap (λ xs. k ∷ xs) (pair_fst ks qs (omega arith))

  pub pair_snd : (ks : List ℕ) (qs : List A) → length qs ≡ length ks → map snd (pair ks qs) ≡ qs
  pair_snd [] [] len = refl
  pair_snd [] (q ∷ qs) len = absurd (omega arith)
  pair_snd (k ∷ ks) [] len = absurd (omega arith)
  pair_snd (k ∷ ks) (q ∷ qs) len = ap (λ xs. q ∷ xs) (pair_snd ks qs (omega arith))

-- a lower number in front
pub above_lower : (m n : ℕ) (xs : List ℕ) → m < n → Above n xs → Above m xs
above_lower m n [] lt up = tt
above_lower m n (x ∷ xs) lt up = ((let u = up.0 in omega arith), up.1)

pub rising_rest : (k : ℕ) (ks : List ℕ) → Above k ks → Rising ks
rising_rest k [] up = tt
rising_rest k (x ∷ xs) up = up.1

-- a slot below all of them
pub above_not_in : (k : ℕ) (ks : List ℕ) → Above k ks → ¬ In k ks
above_not_in k [] up h = h
above_not_in k (x ∷ xs) up (inl e) = let u = up.0 in absurd (omega arith)
above_not_in k (x ∷ xs) up (inr h) = above_not_in k xs (above_lower k x xs up.0 up.1) h

above_snoc : (m : ℕ) (ns : List ℕ) (n : ℕ) → Above m ns → m < n → Every (λ k. k < n) ns → Above m (ns ++ n ∷ [])
above_snoc m [] n up lt all = (lt, tt)
above_snoc m (x ∷ xs) n up lt all = (up.0, above_snoc x xs n up.1 all.0 all.1)

-- the numbers rise up to the new one
pub rising_snoc : (ns : List ℕ) (n : ℕ) → Rising ns → Every (λ k. k < n) ns → Rising (ns ++ n ∷ [])
rising_snoc [] n up all = tt
rising_snoc (x ∷ xs) n up all = above_snoc x xs n up all.0 all.1

above_room : (m n : ℕ) (ks : List ℕ) → Above m ks → Every (λ k. k < n) ks → suc m ≤ n → length ks + suc m ≤ n
above_room m n [] up lt le = omega arith
above_room m n (x ∷ xs) up lt le = let u = up.0 in let h = above_room x n xs up.1 lt.1 lt.0 in omega arith

-- so many rising numbers below a bound
pub rising_room : (n : ℕ) (ks : List ℕ) → Rising ks → Every (λ k. k < n) ks → length ks ≤ n
rising_room n [] up lt = omega arith
rising_room n (x ∷ xs) up lt = let h = above_room x n xs up lt.1 lt.0 in omega arith
