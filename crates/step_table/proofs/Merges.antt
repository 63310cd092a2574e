-- Lists of entries, merged by number.
use Rattle.std.proofs.Common.{eq-eqb, ne_eqb, ⊎_elim, ◌≡◌, ℕ, ◌+◌, ◌≤◌, ◌<◌, List, [], ◌∷◌, map, refl, sym, ap, arith, length, ◌∙◌, append-nil}
use Rattle.std.specs.Prelude.{cond, nat_lt, nat_eq}
use Rattle.std.proofs.lemmas.Bool.Decides.{nat_tests}
use mathlib.Core.List.{IsPrefix}
use Rattle.step_table.specs.declared.known.Entry.{Entry}
use Rattle.step_table.specs.Lists.{total, Every, In, Rising, Above}
use Rattle.step_table.specs.Histories.{inserted, merged}
use Rattle.step_table.specs.Cuts.{longer}
use Rattle.step_table.proofs.Lists.{either_way, prefix_of_two, above_lower, rising_rest, every_get, every_in, every_map}

module _ {E R : Type 0} where
  abbrev pub counted : ℕ → List (Entry E R) → ℕ
  counted n xs = total (λ (e : Entry E R). cond {A = ℕ} (nat_eq n e.number) 1 0) xs

  pub total_insert : (g : Entry E R → ℕ) (e : Entry E R) (xs : List (Entry E R)) → total g (inserted e xs) ≡ g e + total g xs
  total_insert g e [] = refl
  total_insert g e (x ∷ xs) = let h = total_insert g e xs in either_way (nat_lt e.number x.number) (λ t. rw t refl) (λ t. rw t (omega arith))

  pub total_merged : (g : Entry E R → ℕ) (xs ys : List (Entry E R)) → total g (merged xs ys) ≡ total g xs + total g ys
  total_merged g xs [] = omega arith
  total_merged g xs (y ∷ ys) = let h = total_merged g (inserted y xs) ys in let i = total_insert g y xs in omega arith

  pub every_insert : (F : Entry E R → Type 0) (e : Entry E R) (xs : List (Entry E R)) → F e → Every F xs → Every F (inserted e xs)
  every_insert F e [] f all = (f, tt)
  every_insert F e (x ∷ xs) f all = either_way (nat_lt e.number x.number) (λ t. rw t (f, all)) (λ t. rw t (all.0, every_insert F e xs f all.1))

  pub every_merged : (F : Entry E R → Type 0) (xs ys : List (Entry E R)) → Every F xs → Every F ys → Every F (merged xs ys)
  every_merged F xs [] a b = a
  every_merged F xs (y ∷ ys) a b = every_merged F (inserted y xs) ys (every_insert F y xs b.0 a) b.1

  abbrev pub numbers : List (Entry E R) → List ℕ
  numbers xs = map (λ (e : Entry E R). e.number) xs

  above_insert : (m : ℕ) (e : Entry E R) (xs : List (Entry E R)) → m < e.number → Above m (numbers xs) → counted e.number xs ≡ 0 → Above m (numbers (inserted e xs))
  above_insert m e [] lt up none' = (lt, tt)
  above_insert m e (x ∷ xs) lt up none' = either_way (nat_lt e.number x.number)
      (λ t. rw t (lt, (grind (arith, nat_tests), up.1)))
      (λ t. rw t (up.0, above_insert x.number e xs (grind (arith, nat_tests)) up.1 (grind (arith, nat_tests))))

  pub rising_insert : (e : Entry E R) (xs : List (Entry E R)) → Rising (numbers xs) → counted e.number xs ≡ 0 → Rising (numbers (inserted e xs))
  rising_insert e [] up none' = tt
  rising_insert e (x ∷ xs) up none' = either_way (nat_lt e.number x.number)
      (λ t. rw t (grind (arith, nat_tests), up))
      (λ t. rw t (above_insert x.number e xs (grind (arith, nat_tests)) up (grind (arith, nat_tests))))

  pub rising_merged : (xs ys : List (Entry E R)) → Rising (numbers xs) → ((n : ℕ) → counted n xs + counted n ys ≤ 1) → Rising (numbers (merged xs ys))
  rising_merged xs [] up once = up
  rising_merged xs (y ∷ ys) up once = rising_merged (inserted y xs) ys
      (rising_insert y xs up (let o = once y.number in grind (arith, nat_tests)))
      (λ n. let o = once n in let i : counted n (inserted y xs) ≡ cond {A = ℕ} (nat_eq n y.number) 1 0 + counted n xs = total_insert (λ (e : Entry E R). cond {A = ℕ} (nat_eq n e.number) 1 0) y xs in omega arith)

  above_counted : (m : ℕ) (n : ℕ) (xs : List (Entry E R)) → Above m (numbers xs) → n ≤ m → counted n xs ≡ 0
  above_counted m n [] up le = refl
  above_counted m n (x ∷ xs) up le = let h = above_counted x.number n xs up.1 (let u = up.0 in omega arith) in let u = up.0 in grind (arith, nat_tests)

  above_once : (m : ℕ) (n : ℕ) (xs : List (Entry E R)) → Above m (numbers xs) → counted n xs ≤ 1
  above_once m n [] up = omega arith
  above_once m n (x ∷ xs) up = let h = above_once x.number n xs up.1 in let z = above_counted x.number n xs up.1 in grind (arith, nat_tests)

  pub counted_once : (n : ℕ) (xs : List (Entry E R)) → Rising (numbers xs) → counted n xs ≤ 1
  counted_once n [] up = omega arith
  counted_once n (x ∷ xs) up = let h = above_once x.number n xs up in let z = above_counted x.number n xs up in grind (arith, nat_tests)

  pub longer_both : (F : List (Entry E R) → Type 0) (xs ys : List (Entry E R)) → F xs → F ys → F (longer xs ys)
  longer_both F xs ys a b = either_way (nat_lt (length xs) (length ys)) (λ t. rw t b) (λ t. rw t a)

  pub longer_first : (xs ys zs : List (Entry E R)) → IsPrefix xs zs → IsPrefix ys zs → IsPrefix xs (longer xs ys)
  longer_first xs ys zs p q = either_way (nat_lt (length xs) (length ys)) (λ t. rw t (prefix_of_two xs ys zs p q (grind (arith, nat_tests)))) (λ t. rw t ([], append-nil xs))

  pub longer_second : (xs ys zs : List (Entry E R)) → IsPrefix xs zs → IsPrefix ys zs → IsPrefix ys (longer xs ys)
  longer_second xs ys zs p q = either_way (nat_lt (length xs) (length ys)) (λ t. rw t ([], append-nil ys)) (λ t. rw t (prefix_of_two ys xs zs q p (grind (arith, nat_tests))))

  above_all : (m : ℕ) (xs : List (Entry E R)) → Above m (numbers xs) → Every (λ (e : Entry E R). m < e.number) xs
  above_all m [] up = tt
  above_all m (x ∷ xs) up = (up.0, above_all m xs (above_lower m x.number (numbers xs) up.0 up.1))

  none_below : (n : ℕ) (xs : List (Entry E R)) → Every (λ (e : Entry E R). n < e.number) xs → counted n xs ≡ 0
  none_below n [] all = refl
  none_below n (x ∷ xs) all = let h = none_below n xs all.1 in let u = all.0 in grind (arith, nat_tests)

  -- a list of entries that stand in another, and are as many, is the other
  pub same_list : (xs ys : List (Entry E R)) → Rising (numbers xs) → Rising (numbers ys) → Every (λ e. In e ys) xs → ((n : ℕ) → counted n xs ≡ counted n ys) → xs ≡ ys
  same_list [] [] up up' all same = refl
  same_list [] (y ∷ ys) up up' all same = absurd (let s : 0 ≡ cond {A = ℕ} (nat_eq y.number y.number) 1 0 + counted y.number ys = same y.number in let t : cond {A = ℕ} (nat_eq y.number y.number) 1 0 ≡ 1 = ap (λ b. cond {A = ℕ} b 1 0) (eq-eqb y.number y.number refl) in omega arith)
  same_list (x ∷ xs) [] up up' all same = absurd all.0
  same_list (x ∷ xs) (y ∷ ys) up up' all same =
      let mine : Every (λ (e : Entry E R). x.number < e.number) xs = above_all x.number xs up in
      let theirs : Every (λ (e : Entry E R). y.number < e.number) ys = above_all y.number ys up' in
      let heads : y ≡ x = ⊎_elim (λ (e : y ≡ x). e) (λ (here : In x ys).
      let lt : y.number < x.number = every_get (λ (e : Entry E R). y.number < e.number) ys theirs x here in
      let none_mine = none_below y.number xs (every_map (λ (e : Entry E R). x.number < e.number) (λ (e : Entry E R). y.number < e.number) (λ e more. omega arith) xs mine) in
      absurd (let s = same y.number in let t : cond {A = ℕ} (nat_eq y.number y.number) 1 0 ≡ 1 = ap (λ b. cond {A = ℕ} b 1 0) (eq-eqb y.number y.number refl) in let u : cond {A = ℕ} (nat_eq y.number x.number) 1 0 ≡ 0 = ap (λ b. cond {A = ℕ} b 1 0) (ne_eqb y.number x.number (λ q. omega arith)) in omega arith)) all.0 in
      let rest' : Every (λ e. In e ys) xs = every_in (λ e. In e (y ∷ ys)) (λ e. In e ys) xs (λ e here inside. ⊎_elim (λ (q : y ≡ e). absurd (let lt : x.number < e.number = every_get (λ (z : Entry E R). x.number < z.number) xs mine e here in let a : y.number ≡ e.number = ap (λ (z : Entry E R). z.number) q in let b : y.number ≡ x.number = ap (λ (z : Entry E R). z.number) heads in omega arith)) (λ (h : In e ys). h) inside) all.1 in
      let counts : (n : ℕ) → counted n xs ≡ counted n ys = λ n. let s = same n in let b : cond {A = ℕ} (nat_eq n y.number) 1 0 ≡ cond {A = ℕ} (nat_eq n x.number) 1 0 = ap (λ (z : Entry E R). cond {A = ℕ} (nat_eq n z.number) 1 0) heads in omega arith in
      ap (λ z. z ∷ xs) (sym heads) ∙ ap (λ zs. y ∷ zs) (same_list xs ys (rising_rest x.number (numbers xs) up) (rising_rest y.number (numbers ys) up') rest' counts)
