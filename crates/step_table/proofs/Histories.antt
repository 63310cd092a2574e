-- The logs of all parts, merged, are the one history.
use Rattle.std.proofs.Common.{◌≡◌, ℕ, zero, suc, ◌+◌, ◌≤◌, ◌<◌, List, [], ◌∷◌, ◌++◌, map, drop, set, refl, sym, ap, subst, arith, length, ◌∙◌, inl, inr, append-nil, append_assoc}
use Rattle.std.specs.Prelude.{Some, cond, nat_eq, nat_lt, slice_get}
use lib.ListN.{get_elem?}
use Rattle.step_table.specs.declared.known.Entry.{Entry}
use Rattle.step_table.specs.Lists.{total, Every, In, Above, Rising, pick, put, found_also}
use Rattle.step_table.specs.Machines.{Core, Lawful, leaves, next, touched, IsRight, IsStep, logged, entry_of, noted}
use Rattle.step_table.specs.Histories.{inserted, merged, IsNumbered, IsAtNumber, history_of, made_since, Follows}
use Rattle.step_table.proofs.Lists.{either_way, every_snoc, in_longer, in_last}
use Rattle.step_table.proofs.Totals.{total_append}
use Rattle.step_table.proofs.Merges.{total_merged, every_merged, rising_merged, counted, counted_once, numbers, same_list}
use Rattle.step_table.proofs.Laws.{next_weighs, right_numbered, right_legal}

drop_front : {A : Type 0} (xs ys : List A) → drop (length xs) (xs ++ ys) ≡ ys
drop_front [] ys = refl
drop_front (x ∷ xs) ys = drop_front xs ys

every_from : {A : Type 0} (G : A → Type 0) (xs : List A) → ((x : A) → In x xs → G x) → Every G xs
every_from G [] f = tt
every_from G (x ∷ xs) f = (f x (inl refl), every_from G xs (λ y here. f y (inr here)))

every_set : {A : Type 0} (F : A → Type 0) (xs : List A) (k : ℕ) (x : A) → Every F xs → F x → Every F (set xs k x)
every_set F [] k x all one = tt
every_set F (y ∷ ys) zero x all one = (one, all.1)
every_set F (y ∷ ys) (suc k) x all one = (all.0, every_set F ys k x all.1 one)

pub every_put : {A : Type 0} (F : A → Type 0) (ks : List ℕ) (ys xs : List A) → Every F xs → Every F ys → Every F (put ks ys xs)
every_put F [] ys xs all new = all
every_put F (k ∷ ks) [] xs all new = all
every_put F (k ∷ ks) (y ∷ ys) xs all new = every_put F ks ys (set xs k y) (every_set F xs k y all new.0) new.1

every_found : {A : Type 0} (F : A → Type 0) (xs ys : List A) (k : ℕ) → Every F xs → Every F ys → Every F (found_also (get_elem? xs k) ys)
every_found F [] ys k all more = more
every_found F (x ∷ xs) ys zero all more = (all.0, more)
every_found F (x ∷ xs) ys (suc k) all more = every_found F xs ys k all.1 more

pub every_pick : {A : Type 0} (F : A → Type 0) (ks : List ℕ) (xs : List A) → Every F xs → Every F (pick ks xs)
every_pick F [] xs all = tt
every_pick F (k ∷ ks) xs all = every_found F xs (pick ks xs) k all (every_pick F ks xs all)

every_to_map : {A B : Type 0} (F : B → Type 0) (f : A → B) (xs : List A) → Every (λ x. F (f x)) xs → Every F (map f xs)
every_to_map F f [] all = tt
every_to_map F f (x ∷ xs) all = (all.0, every_to_map F f xs all.1)

every_of_map : {A B : Type 0} (F : B → Type 0) (f : A → B) (xs : List A) → Every F (map f xs) → Every (λ x. F (f x)) xs
every_of_map F f [] all = tt
every_of_map F f (x ∷ xs) all = (all.0, every_of_map F f xs all.1)

module _ {E R : Type 0} where
  in_inserted_self : (e : Entry E R) (xs : List (Entry E R)) → In e (inserted e xs)
  in_inserted_self e [] = inl refl
  in_inserted_self e (x ∷ xs) = either_way (nat_lt e.number x.number) (λ t. rw t (inl refl)) (λ t. rw t (inr (in_inserted_self e xs)))

  in_inserted : (a e : Entry E R) (xs : List (Entry E R)) → In a xs → In a (inserted e xs)
  in_inserted a e [] here = absurd here
  in_inserted a e (x ∷ xs) (inl is) = either_way (nat_lt e.number x.number) (λ t. rw t (inr (inl is))) (λ t. rw t (inl is))
  in_inserted a e (x ∷ xs) (inr here) = either_way (nat_lt e.number x.number) (λ t. rw t (inr (inr here))) (λ t. rw t (inr (in_inserted a e xs here)))

  in_merged_first : (a : Entry E R) (xs ys : List (Entry E R)) → In a xs → In a (merged xs ys)
  in_merged_first a xs [] here = here
  in_merged_first a xs (y ∷ ys) here = in_merged_first a (inserted y xs) ys (in_inserted a y xs here)

  in_merged_second : (a : Entry E R) (xs ys : List (Entry E R)) → In a ys → In a (merged xs ys)
  in_merged_second a xs [] here = absurd here
  in_merged_second a xs (y ∷ ys) (inl is) = subst (λ b. In b (merged (inserted y xs) ys)) is (in_merged_first y (inserted y xs) ys (in_inserted_self y xs))
  in_merged_second a xs (y ∷ ys) (inr here) = in_merged_second a (inserted y xs) ys here

  numbered_append : (n m : ℕ) (xs ys : List (Entry E R)) → IsNumbered n xs → m ≡ n + length xs → IsNumbered m ys → IsNumbered n (xs ++ ys)
  numbered_append n m [] ys first is second = subst (λ k. IsNumbered k ys) (let i = is in omega arith) second
  numbered_append n m (x ∷ xs) ys first is second = (first.0, numbered_append (suc n) m xs ys first.1 (omega arith) second)

  above_numbered : (m n : ℕ) (xs : List (Entry E R)) → m < n → IsNumbered n xs → Above m (numbers xs)
  above_numbered m n [] lt is = tt
  above_numbered m n (x ∷ xs) lt is = let e = is.0 in (omega arith, above_numbered x.number (suc n) xs (omega arith) is.1)

  pub numbered_rising : (n : ℕ) (xs : List (Entry E R)) → IsNumbered n xs → Rising (numbers xs)
  numbered_rising n [] is = tt
  numbered_rising n (x ∷ xs) is = above_numbered x.number (suc n) xs (let e = is.0 in omega arith) is.1

  numbered_at : (n : ℕ) (history : List (Entry E R)) (e : Entry E R) → IsNumbered n history → In e history → (k : ℕ) × (e.number ≡ n + k) × (slice_get history k ≡ Some e)
  numbered_at n [] e is here = absurd here
  numbered_at n (x ∷ xs) e is (inl same) = (0, sym (ap (λ (y : Entry E R). y.number) same) ∙ (is.0 ∙ omega arith), ap Some same)
  numbered_at n (x ∷ xs) e is (inr here) = let r = numbered_at (suc n) xs e is.1 here in (suc r.0, (let q = r.1 in omega arith), r.2)

  -- an entry of a numbered history stands at its number
  pub at_number : (history : List (Entry E R)) (e : Entry E R) → IsNumbered 1 history → In e history → IsAtNumber history e
  at_number history e is here = let r = numbered_at 1 history e is here in (r.0, (let q = r.1 in omega arith), r.2)

  every_noted : (G : Entry E R → Type 0) (e : Entry E R) (logs : List (List (Entry E R))) → Every (Every G) logs → G e → Every (Every G) (noted e logs)
  every_noted G e [] all one = tt
  every_noted G e (log ∷ logs) all one = (every_snoc G log e all.0 one, all.1)

module _ {P E D R F : Type 0} (c : Core P E D R F) where
  pub history_weighs : (h : Entry E R → ℕ) (ps : List P) → total h (history_of c ps) ≡ total (λ (p : P). total h (c.log p)) ps
  history_weighs h [] = refl
  history_weighs h (p ∷ ps) = let t = total_merged h (history_of c ps) (c.log p) in let r = history_weighs h ps in omega arith

  -- as many entries as the logs have
  pub history_length : (ps : List P) → length (history_of c ps) ≡ logged c ps
  history_length ps = length_total (history_of c ps) ∙ (history_weighs (λ x. 1) ps ∙ sums ps)
    where
      length_total : {A : Type 0} (xs : List A) → length xs ≡ total (λ x. 1) xs
      length_total [] = refl
      length_total (x ∷ xs) = let t = length_total xs in omega arith

      sums : (ps : List P) → total (λ (p : P). total (λ x. 1) (c.log p)) ps ≡ logged c ps
      sums [] = refl
      sums (p ∷ ps) = let t = length_total (c.log p) in let r = sums ps in omega arith

  rising_history : (ps : List P) → ((n : ℕ) → counted n (history_of c ps) ≤ 1) → Rising (numbers (history_of c ps))
  rising_history [] once = tt
  rising_history (p ∷ ps) once =
      let split : (n : ℕ) → counted n (history_of c ps) + counted n (c.log p) ≤ 1 = λ n. let o = once n in let t : counted n (merged (history_of c ps) (c.log p)) ≡ counted n (history_of c ps) + counted n (c.log p) = total_merged (λ (e : Entry E R). cond {A = ℕ} (nat_eq n e.number) 1 0) (history_of c ps) (c.log p) in omega arith in
      rising_merged (history_of c ps) (c.log p) (rising_history ps (λ n. let s = split n in omega arith)) split

  pub every_history : (G : Entry E R → Type 0) (ps : List P) → Every (λ p. Every G (c.log p)) ps → Every G (history_of c ps)
  every_history G [] all = tt
  every_history G (p ∷ ps) all = every_merged G (history_of c ps) (c.log p) (every_history G ps all.1) all.0

  pub every_log : (G : Entry E R → Type 0) (ps : List P) → ((x : Entry E R) → In x (history_of c ps) → G x) → Every (λ p. Every G (c.log p)) ps
  every_log G [] f = tt
  every_log G (p ∷ ps) f = (every_from G (c.log p) (λ x here. f x (in_merged_second x (history_of c ps) (c.log p) here)), every_log G ps (λ x here. f x (in_merged_first x (history_of c ps) (c.log p) here)))

  pub made_is : (given : List P) (es : List (Entry E R)) → made_since c given (history_of c given ++ es) ≡ es
  made_is given es = drop_front (history_of c given) es

module _ {P E D R F : Type 0} (c : Core P E D R F) (laws : Lawful c) where
  -- the logs after a step have no entry but those before and the new one
  logs_in : (G : Entry E R → Type 0) (ps : List P) (e : Entry E R) → c.Legal ps → IsStep c ps e → ((x : Entry E R) → In x (history_of c ps) → G x) → G (entry_of c (touched c ps e.event) e.event e.number)
      → Every (λ p. Every G (c.log p)) (next c ps e.event e.number)
  logs_in G ps e legal one old new =
      let held = touched c ps e.event in
      let all : Every (λ p. Every G (c.log p)) ps = every_log c G ps old in
      let fits = laws.fits ps e.event legal one.0 in
      let here : Every (Every G) (map c.log held) = every_to_map (Every G) c.log held (every_pick (λ p. Every G (c.log p)) (c.touches e.event) ps all) in
      let after : Every (λ p. Every G (c.log p)) (c.after held e.event e.number) = every_of_map (Every G) c.log (c.after held e.event e.number)
      (subst (Every (Every G)) (sym (laws.adds held e.event e.number fits one.1)) (every_noted G (entry_of c held e.event e.number) (map c.log held) here new)) in
      every_put (λ p. Every G (c.log p)) (c.touches e.event) (c.after held e.event e.number) ps all after

  -- a step puts its entry behind the history
  step_history : (ps : List P) (e : Entry E R) → c.Legal ps → IsNumbered 1 (history_of c ps) → IsStep c ps e → IsNumbered 1 (history_of c ps ++ e ∷ []) → history_of c (next c ps e.event e.number) ≡ history_of c ps ++ e ∷ []
  step_history ps e legal begun one longer =
      let new = entry_of c (touched c ps e.event) e.event e.number in
      let same : new ≡ e = ap (λ (r : R). record e { reply = r }) (sym one.2) in
      let up = numbered_rising 1 (history_of c ps ++ e ∷ []) longer in
      let counts : (n : ℕ) → counted n (history_of c (next c ps e.event e.number)) ≡ counted n (history_of c ps ++ e ∷ []) = λ n.
      let h : Entry E R → ℕ = λ x. cond {A = ℕ} (nat_eq n x.number) 1 0 in
      history_weighs c h (next c ps e.event e.number) ∙ (next_weighs c laws h ps e.event e.number legal one.0 one.1
      ∙ (let w = history_weighs c h ps in let a = total_append h (history_of c ps) (e ∷ []) in let s : h new ≡ h e = ap h same in omega arith)) in
      same_list (history_of c (next c ps e.event e.number)) (history_of c ps ++ e ∷ [])
      (rising_history c (next c ps e.event e.number) (λ n. let k = counts n in let o = counted_once n (history_of c ps ++ e ∷ []) up in omega arith))
      up
      (every_history c (λ x. In x (history_of c ps ++ e ∷ [])) (next c ps e.event e.number)
      (logs_in (λ x. In x (history_of c ps ++ e ∷ [])) ps e legal one (λ x here. in_longer x (history_of c ps) (e ∷ []) here) (subst (λ x. In x (history_of c ps ++ e ∷ [])) (sym same) (in_last (history_of c ps) e))))
      counts

  -- the logs of the parts that a right history leaves are that history
  pub history_leaves : (ps : List P) (es : List (Entry E R)) → c.Legal ps → IsNumbered 1 (history_of c ps) → IsRight c ps es → history_of c (leaves c ps es) ≡ history_of c ps ++ es
  history_leaves ps [] legal begun right = sym (append-nil (history_of c ps))
  history_leaves ps (e ∷ es) legal begun right =
      let one = right.0 in
      let count = history_length c ps in
      let longer : IsNumbered 1 (history_of c ps ++ e ∷ []) = numbered_append 1 (suc (logged c ps)) (history_of c ps) (e ∷ []) begun (omega arith) (one.3, tt) in
      let step = step_history ps e legal begun one longer in
      history_leaves (next c ps e.event e.number) es (laws.stays ps e.event e.number legal one.0 one.1 one.3) (subst (IsNumbered 1) (sym step) longer) right.1
      ∙ (ap (λ xs. xs ++ es) step ∙ append_assoc (history_of c ps) (e ∷ []) es)

  pub whole_numbered : (ps : List P) (es : List (Entry E R)) → c.Legal ps → IsNumbered 1 (history_of c ps) → IsRight c ps es → IsNumbered 1 (history_of c ps ++ es)
  whole_numbered ps es legal begun right = let count = history_length c ps in numbered_append 1 (suc (logged c ps)) (history_of c ps) es begun (omega arith) (right_numbered c laws ps es legal right)

  pub follows : (given : List P) (es : List (Entry E R)) → c.Legal given → IsNumbered 1 (history_of c given) → IsRight c given es → Follows c given (history_of c given ++ es)
  follows given es legal begun right =
      let is = made_is c given es in record {
        begins = ap (λ xs. history_of c given ++ xs) (sym is);
        right = subst (IsRight c given) (sym is) right;
        numbered = whole_numbered given es legal begun right;
        legal = subst (λ xs. c.Legal (leaves c given xs)) (sym is) (right_legal c laws given es legal right);
        logs = ap (λ xs. history_of c (leaves c given xs)) is ∙ history_leaves given es legal begun right;
      }
