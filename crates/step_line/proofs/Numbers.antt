-- A history's entries, each put in the place of its number, are the history.
use Rattle.std.proofs.Common.{◌≡◌, ℕ, zero, suc, ◌+◌, ◌-◌, ◌<◌, List, [], ◌∷◌, set, map, replicate, refl, sym, ap, subst, arith, length, inl, inr, ◌∙◌, Option, Some, None}
use Rattle.std.specs.Prelude.{slice_get, cond, nat_eq, ◌==◌, true, false}
use Rattle.std.specs.List.{find}
use Rattle.std.specs.Option.{option_or}
use Rattle.std.proofs.lemmas.Bool.Decides.{nat_tests}
use Rattle.std.proofs.lemmas.List.{length-set, length-replicate}
use Rattle.std.proofs.lemmas.Option.{slice_get_within}
use Rattle.step_table.specs.declared.known.Entry.{Entry}
use Rattle.step_table.specs.Lists.{Every, In}
use Rattle.step_table.specs.Machines.{Core}
use Rattle.step_table.specs.Histories.{history_of, IsNumbered, IsAtNumber}
use Rattle.step_table.proofs.Lists.{either_way, every_get}
use Rattle.step_table.proofs.Histories.{at_number, every_history, every_log}
use Rattle.step_line.specs.Numbered.{placed, all_placed, in_logs}

some_is : {A : Type 0} {x y : A} → Some x ≡ Some y → x ≡ y
some_is e = cc

set_here : {A : Type 0} (xs : List A) (k : ℕ) (x : A) → k < length xs → slice_get (set xs k x) k ≡ Some x
set_here [] k x lt = absurd (omega arith)
set_here (y ∷ ys) zero x lt = refl
set_here (y ∷ ys) (suc k) x lt = set_here ys k x (omega arith)

set_else : {A : Type 0} (xs : List A) (j k : ℕ) (x : A) → ¬ (j ≡ k) → slice_get (set xs j x) k ≡ slice_get xs k
set_else [] j k x ne = refl
set_else (y ∷ ys) zero zero x ne = absurd (ne refl)
set_else (y ∷ ys) zero (suc k) x ne = refl
set_else (y ∷ ys) (suc j) zero x ne = refl
set_else (y ∷ ys) (suc j) (suc k) x ne = set_else ys j k x (λ e. ne (ap suc e))

module _ {E R : Type 0} where
  -- the entry stands in the place of its number
  abbrev Sits : List (Option (Entry E R)) → Entry E R → Type 0
  Sits places e = slice_get places (e.number - 1) ≡ Some (Some e)

  same_number : (history : List (Entry E R)) (e x : Entry E R) → IsAtNumber history e → IsAtNumber history x → x.number - 1 ≡ e.number - 1 → x ≡ e
  same_number history e x a b same =
      let k : b.0 ≡ a.0 = let p = a.1 in let q = b.1 in omega arith in
      some_is (sym b.2 ∙ ap (slice_get history) k ∙ a.2)

  keeps_one : (history : List (Entry E R)) (places : List (Option (Entry E R))) (e x : Entry E R) → IsAtNumber history e → IsAtNumber history x → Sits places e → Sits (set places (x.number - 1) (Some x)) e
  keeps_one history places e x a b sits = either_way (nat_eq (x.number - 1) (e.number - 1))
      (λ t.
      let k : x.number - 1 ≡ e.number - 1 = grind (arith, nat_tests) in
      subst (λ j. slice_get (set places j (Some x)) (e.number - 1) ≡ Some (Some e)) (sym k)
      (set_here places (e.number - 1) (Some x) (slice_get_within places (e.number - 1) (Some e) sits) ∙ ap (λ y. Some (Some y)) (same_number history e x a b k)))
      (λ f. set_else places (x.number - 1) (e.number - 1) (Some x) (λ k. grind (arith, nat_tests)) ∙ sits)

  keeps : (history log : List (Entry E R)) (places : List (Option (Entry E R))) (e : Entry E R) → Every (IsAtNumber history) log → IsAtNumber history e → Sits places e → Sits (placed log places) e
  keeps history [] places e all at sits = sits
  keeps history (x ∷ log) places e all at sits = keeps history log (set places (x.number - 1) (Some x)) e all.1 at (keeps_one history places e x at all.0 sits)

  pub length_placed : (log : List (Entry E R)) (places : List (Option (Entry E R))) → length (placed log places) ≡ length places
  length_placed [] places = refl
  length_placed (x ∷ log) places = length_placed log (set places (x.number - 1) (Some x)) ∙ length-set places (x.number - 1) (Some x)

  pub within : (history : List (Entry E R)) (e : Entry E R) → IsAtNumber history e → e.number - 1 < length history
  within history e at = let lt = slice_get_within history at.0 e at.2 in let n = at.1 in omega arith

  sit : (history log : List (Entry E R)) (places : List (Option (Entry E R))) → length places ≡ length history → Every (IsAtNumber history) log → Every (Sits (placed log places)) log
  sit history [] places same all = tt
  sit history (x ∷ log) places same all =
      let next = set places (x.number - 1) (Some x) in
      let lt = within history x all.0 in
      (keeps history log next x all.1 all.0 (set_here places (x.number - 1) (Some x) (omega arith)), sit history log next (length-set places (x.number - 1) (Some x) ∙ same) all.1)

  number_at : (n : ℕ) (history : List (Entry E R)) (k : ℕ) (e : Entry E R) → IsNumbered n history → slice_get history k ≡ Some e → e.number ≡ n + k
  number_at n [] k e is at = cc
  number_at n (x ∷ xs) zero e is at = sym (ap (λ (y : Entry E R). y.number) (some_is at)) ∙ is.0 ∙ omega arith
  number_at n (x ∷ xs) (suc k) e is at = let h = number_at (suc n) xs k e is.1 at in omega arith

  in_at : (xs : List (Entry E R)) (k : ℕ) (e : Entry E R) → slice_get xs k ≡ Some e → In e xs
  in_at [] k e at = cc
  in_at (x ∷ xs) zero e at = inl (some_is at)
  in_at (x ∷ xs) (suc k) e at = inr (in_at xs k e at)

  by_places : (history : List (Entry E R)) (places : List (Option (Entry E R))) → length places ≡ length history → ((k : ℕ) (e : Entry E R) → slice_get history k ≡ Some e → slice_get places k ≡ Some (Some e)) → places ≡ map Some history
  by_places [] [] same f = refl
  by_places [] (p ∷ places) same f = absurd (omega arith)
  by_places (x ∷ xs) [] same f = absurd (omega arith)
  by_places (x ∷ xs) (p ∷ places) same f = ap (λ q. q ∷ places) (some_is (f 0 x refl)) ∙ ap (λ ps. Some x ∷ ps) (by_places xs places (omega arith) (λ k. f (suc k)))

module _ {P E D R F : Type 0} (c : Core P E D R F) where
  all_keep : (history : List (Entry E R)) (ps : List P) (places : List (Option (Entry E R))) (log : List (Entry E R)) → Every (λ p. Every (IsAtNumber history) (c.log p)) ps → Every (IsAtNumber history) log
      → Every (Sits places) log → Every (Sits (all_placed c ps places)) log
  all_keep history [] places log all ats sits = sits
  all_keep history (p ∷ ps) places log all ats sits = all_keep history ps (placed (c.log p) places) log all.1 ats (both log ats sits)
    where
      both : (log : List (Entry E R)) → Every (IsAtNumber history) log → Every (Sits places) log → Every (Sits (placed (c.log p) places)) log
      both [] a s = tt
      both (e ∷ es) a s = (keeps history (c.log p) places e all.0 a.0 s.0, both es a.1 s.1)

  pub length_all : (ps : List P) (places : List (Option (Entry E R))) → length (all_placed c ps places) ≡ length places
  length_all [] places = refl
  length_all (p ∷ ps) places = length_all ps (placed (c.log p) places) ∙ length_placed (c.log p) places

  all_sit : (history : List (Entry E R)) (ps : List P) (places : List (Option (Entry E R))) → length places ≡ length history → Every (λ p. Every (IsAtNumber history) (c.log p)) ps
      → Every (λ p. Every (Sits (all_placed c ps places)) (c.log p)) ps
  all_sit history [] places same all = tt
  all_sit history (p ∷ ps) places same all =
      let next = placed (c.log p) places in
      (all_keep history ps next (c.log p) all.1 all.0 (sit history (c.log p) places same all.0), all_sit history ps next (length_placed (c.log p) places ∙ same) all.1)

  -- each entry of a log stands at its number in the history
  pub all_at : (ps : List P) → IsNumbered 1 (history_of c ps) → Every (λ p. Every (IsAtNumber (history_of c ps)) (c.log p)) ps
  all_at ps is = every_log c (IsAtNumber (history_of c ps)) ps (λ e here. at_number (history_of c ps) e is here)

  pub all_placed_is : (ps : List P) → IsNumbered 1 (history_of c ps) → all_placed c ps (replicate (length (history_of c ps)) None) ≡ map Some (history_of c ps)
  all_placed_is ps is =
      let history = history_of c ps in
      let none' : List (Option (Entry E R)) = replicate (length history) None in
      let done = all_placed c ps none' in
      let sits : Every (Sits done) history = every_history c (Sits done) ps (all_sit history ps none' (length-replicate (length history) None) (all_at ps is)) in
      by_places history done (length_all ps none' ∙ length-replicate (length history) None)
      (λ k e at.
      let n : e.number - 1 ≡ k = let m = number_at 1 history k e is at in omega arith in
      subst (λ j. slice_get done j ≡ Some (Some e)) n (every_get (Sits done) history sits e (in_at history k e at)))

-- The entry of a number, among all logs and in the history

module _ {E R : Type 0} (n : ℕ) where
  -- an entry that was found stands in the list, and has the number
  found_in : (xs : List (Entry E R)) (e : Entry E R) → find (λ x. x.number == n) xs ≡ Some e → In e xs × (e.number ≡ n)
  found_in [] e is = cc
  found_in (x ∷ xs) e is = either_way (x.number == n)
      (λ t. let same : x ≡ e = some_is (subst (λ b. cond b (Some x) (find (λ y. y.number == n) xs) ≡ Some e) t is) in (inl same, sym (ap (λ (y : Entry E R). y.number) same) ∙ grind (arith, nat_tests)))
      (λ f. let r = found_in xs e (subst (λ b. cond b (Some x) (find (λ y. y.number == n) xs) ≡ Some e) f is) in (inr r.0, r.1))

  none_in : (xs : List (Entry E R)) → find (λ x. x.number == n) xs ≡ None → Every (λ e. (e.number == n) ≡ false) xs
  none_in [] is = tt
  none_in (x ∷ xs) is = either_way (x.number == n)
      (λ t. absurd (none_some x (sym (subst (λ b. cond b (Some x) (find (λ y. y.number == n) xs) ≡ None) t is))))
      (λ f. (f, none_in xs (subst (λ b. cond b (Some x) (find (λ y. y.number == n) xs) ≡ None) f is)))
    where
      none_some : (x : Entry E R) → None ≡ Some x → ⊥
      none_some x e = cc

  none_found : (xs : List (Entry E R)) → Every (λ e. (e.number == n) ≡ false) xs → find (λ x. x.number == n) xs ≡ None
  none_found [] all = refl
  none_found (x ∷ xs) all = ap (λ b. cond b (Some x) (find (λ y. y.number == n) xs)) all.0 ∙ none_found xs all.1

  the_one : (k : ℕ) (xs : List (Entry E R)) (e : Entry E R) → IsNumbered k xs → In e xs → e.number ≡ n → find (λ x. x.number == n) xs ≡ Some e
  the_one k [] e is here same = absurd here
  the_one k (x ∷ xs) e is (inl eq) same =
      let t : (x.number == n) ≡ true = let s : x.number ≡ n = ap (λ (y : Entry E R). y.number) eq ∙ same in grind (arith, nat_tests) in
      ap (λ b. cond b (Some x) (find (λ y. y.number == n) xs)) t ∙ ap Some eq
  the_one k (x ∷ xs) e is (inr here) same =
      let later : k < e.number = above k (suc k) xs e (omega arith) is.1 here in
      let f : (x.number == n) ≡ false = let s = is.0 in grind (arith, nat_tests) in
      ap (λ b. cond b (Some x) (find (λ y. y.number == n) xs)) f ∙ the_one (suc k) xs e is.1 here same
    where
      above : (m k : ℕ) (xs : List (Entry E R)) (e : Entry E R) → m < k → IsNumbered k xs → In e xs → m < e.number
      above m k [] e lt is here = absurd here
      above m k (x ∷ xs) e lt is (inl eq) = let s = is.0 in let t : x.number ≡ e.number = ap (λ (y : Entry E R). y.number) eq in omega arith
      above m k (x ∷ xs) e lt is (inr here) = above m (suc k) xs e (omega arith) is.1 here

module _ {P E D R F : Type 0} (c : Core P E D R F) (n : ℕ) where
  either_found : {A : Type 0} (o : Option A) (F : Type 0) → ((x : A) → o ≡ Some x → F) → (o ≡ None → F) → F
  either_found None F f g = g refl
  either_found (Some x) F f g = f x refl

  log_found : (G : Entry E R → Type 0) (ps : List P) (e : Entry E R) → Every (λ p. Every G (c.log p)) ps → in_logs c n ps ≡ Some e → G e × (e.number ≡ n)
  log_found G [] e all is = cc
  log_found G (p ∷ ps) e all is = either_found (find (λ x. x.number == n) (c.log p)) (G e × (e.number ≡ n))
      (λ x at.
      let same : x ≡ e = some_is (subst (λ o. option_or o (in_logs c n ps) ≡ Some e) at is) in
      let r = found_in n (c.log p) x at in
      (subst G same (every_get G (c.log p) all.0 x r.0), sym (ap (λ (y : Entry E R). y.number) same) ∙ r.1))
      (λ at. log_found G ps e all.1 (subst (λ o. option_or o (in_logs c n ps) ≡ Some e) at is))

  no_log_found : (ps : List P) → in_logs c n ps ≡ None → Every (λ p. Every (λ (e : Entry E R). (e.number == n) ≡ false) (c.log p)) ps
  no_log_found [] is = tt
  no_log_found (p ∷ ps) is = either_found (find (λ x. x.number == n) (c.log p)) (Every (λ q. Every (λ (e : Entry E R). (e.number == n) ≡ false) (c.log q)) (p ∷ ps))
      (λ x at. absurd (none_some x (sym (subst (λ o. option_or o (in_logs c n ps) ≡ None) at is))))
      (λ at. (none_in n (c.log p) at, no_log_found ps (subst (λ o. option_or o (in_logs c n ps) ≡ None) at is)))
    where
      none_some : (x : Entry E R) → None ≡ Some x → ⊥
      none_some x e = cc

  -- the entry of a number in the logs is the history's
  pub in_logs_is : (ps : List P) → IsNumbered 1 (history_of c ps) → in_logs c n ps ≡ find (λ e. e.number == n) (history_of c ps)
  in_logs_is ps is = either_found (in_logs c n ps) (in_logs c n ps ≡ find (λ e. e.number == n) (history_of c ps))
      (λ e at.
      let r = log_found (λ x. In x (history_of c ps)) ps e (every_log c (λ x. In x (history_of c ps)) ps (λ x here. here)) at in
      at ∙ sym (the_one n 1 (history_of c ps) e is r.0 r.1))
      (λ at. at ∙ sym (none_found n (history_of c ps) (every_history c (λ (e : Entry E R). (e.number == n) ≡ false) ps (no_log_found ps at))))
