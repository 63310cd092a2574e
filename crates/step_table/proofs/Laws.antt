-- What the laws of a machine say of one step, and of the entries of a history.
use Rattle.std.proofs.Common.{◌≡◌, ℕ, suc, ◌+◌, ◌*◌, ◌^◌, ◌≤◌, ◌<◌, List, [], ◌∷◌, ◌++◌, map, refl, sym, ap, subst, arith, length, ◌∙◌, length-append}
use Rattle.std.proofs.lemmas.List.{length-map}
use Rattle.std.specs.Prelude.{None}
use Rattle.step_table.specs.declared.known.Entry.{Entry}
use Rattle.step_table.specs.Lists.{total, Every, pick, put}
use Rattle.step_table.specs.Machines.{Core, Lawful, leaves, next, touched, IsRight, logged, entry_of, noted}
use Rattle.step_table.specs.Histories.{IsNumbered}
use Rattle.step_table.proofs.Totals.{total_append}
use Rattle.step_table.proofs.Puts.{put_total, found_at, length_put}

-- as many parts as slots
pub length_pick : {P : Type 0} (ks : List ℕ) (ps : List P) → Every (λ k. k < length ps) ks → length (pick ks ps) ≡ length ks
length_pick [] ps lt = refl
length_pick (k ∷ ks) ps lt = let at = found_at ps k lt.0 in rw at.1 (ap suc (length_pick ks ps lt.1))

total_map : {A B : Type 0} (g : B → ℕ) (f : A → B) (xs : List A) → total g (map f xs) ≡ total (λ x. g (f x)) xs
total_map g f [] = refl
total_map g f (x ∷ xs) = ap (λ n. g (f x) + n) (total_map g f xs)

module _ {E R : Type 0} where
  length_noted : (e : Entry E R) (logs : List (List (Entry E R))) → length (noted e logs) ≡ length logs
  length_noted e [] = refl
  length_noted e (log ∷ logs) = refl

  -- a measure of logs that grows by d where the entry is added
  noted_grows : (g : List (Entry E R) → ℕ) (d : ℕ) (e : Entry E R) → ((log : List (Entry E R)) → g (log ++ e ∷ []) ≡ g log + d) → (logs : List (List (Entry E R))) → 0 < length logs → total g (noted e logs) ≡ total g logs + d
  noted_grows g d e more [] some = absurd (omega arith)
  noted_grows g d e more (log ∷ logs) some = let m = more log in omega arith

module _ {P E D R F : Type 0} (c : Core P E D R F) (laws : Lawful c) where
  pub after_count : (held : List P) (e : E) (n : ℕ) → c.Fits held e → c.refusal held e ≡ None → length (c.after held e n) ≡ length held
  after_count held e n fits fine =
      sym (length-map (c.after held e n) c.log) ∙ (ap length (laws.adds held e n fits fine) ∙ (length_noted (entry_of c held e n) (map c.log held) ∙ length-map held c.log))

  after_grows : (g : List (Entry E R) → ℕ) (d : ℕ) (held : List P) (e : E) (n : ℕ) → c.Fits held e → c.refusal held e ≡ None → 0 < length held
      → ((log : List (Entry E R)) → g (log ++ entry_of c held e n ∷ []) ≡ g log + d) → total (λ (p : P). g (c.log p)) (c.after held e n) ≡ total (λ (p : P). g (c.log p)) held + d
  after_grows g d held e n fits fine some more =
      let l = length-map held c.log in
      let grown : total g (noted (entry_of c held e n) (map c.log held)) ≡ total g (map c.log held) + d = noted_grows g d (entry_of c held e n) more (map c.log held) (omega arith) in
      sym (total_map g c.log (c.after held e n)) ∙ (ap (total g) (laws.adds held e n fits fine) ∙ (grown ∙ ap (λ t. t + d) (total_map g c.log held)))

  pub after_logged : (held : List P) (e : E) (n : ℕ) → c.Fits held e → c.refusal held e ≡ None → 0 < length held → total (λ (p : P). length (c.log p)) (c.after held e n) ≡ suc (total (λ (p : P). length (c.log p)) held)
  after_logged held e n fits fine some =
      let t = after_grows length 1 held e n fits fine some (λ log. length-append log (entry_of c held e n ∷ [])) in omega arith

  -- a step of the machine, on all parts
  next_grows : (g : List (Entry E R) → ℕ) (d : ℕ) (ps : List P) (e : E) (n : ℕ) → c.Legal ps → c.May (length ps) e → c.refusal (touched c ps e) e ≡ None
      → ((log : List (Entry E R)) → g (log ++ entry_of c (touched c ps e) e n ∷ []) ≡ g log + d) → total (λ (p : P). g (c.log p)) (next c ps e n) ≡ total (λ (p : P). g (c.log p)) ps + d
  next_grows g d ps e n legal may fine more =
      let held = touched c ps e in
      let fits = laws.fits ps e legal may in
      let lt = laws.below (length ps) e may in
      let picked = length_pick (c.touches e) ps lt in
      let s = laws.some (length ps) e may in
      let some : 0 < length held = omega arith in
      let count : length (c.after held e n) ≡ length (c.touches e) = after_count held e n fits fine ∙ picked in
      let sum : total (λ (p : P). g (c.log p)) (put (c.touches e) (c.after held e n) ps) + total (λ (p : P). g (c.log p)) (pick (c.touches e) ps) ≡ total (λ (p : P). g (c.log p)) ps + total (λ (p : P). g (c.log p)) (c.after held e n)
      = put_total (λ p. g (c.log p)) (c.touches e) (c.after held e n) ps (laws.rising (length ps) e may) lt count in
      let grown : total (λ (p : P). g (c.log p)) (c.after held e n) ≡ total (λ (p : P). g (c.log p)) (pick (c.touches e) ps) + d = after_grows g d held e n fits fine some more in
      omega arith

  pub next_logged : (ps : List P) (e : E) (n : ℕ) → c.Legal ps → c.May (length ps) e → c.refusal (touched c ps e) e ≡ None → logged c (next c ps e n) ≡ suc (logged c ps)
  next_logged ps e n legal may fine = let t = next_grows length 1 ps e n legal may fine (λ log. length-append log (entry_of c (touched c ps e) e n ∷ [])) in omega arith

  -- the logs weigh as much more as the entry does
  pub next_weighs : (h : Entry E R → ℕ) (ps : List P) (e : E) (n : ℕ) → c.Legal ps → c.May (length ps) e → c.refusal (touched c ps e) e ≡ None
      → total (λ (p : P). total h (c.log p)) (next c ps e n) ≡ total (λ (p : P). total h (c.log p)) ps + h (entry_of c (touched c ps e) e n)
  next_weighs h ps e n legal may fine = next_grows (total h) (h (entry_of c (touched c ps e) e n)) ps e n legal may fine
      (λ log. let t = total_append h log (entry_of c (touched c ps e) e n ∷ []) in omega arith)

  pub next_length : (ps : List P) (e : E) (n : ℕ) → length (next c ps e n) ≡ length ps
  next_length ps e n = length_put (c.touches e) (c.after (touched c ps e) e n) ps

  -- the number of entries stays below 2^62
  pub logged_below : (ps : List P) → c.Legal ps → logged c ps < 2 ^ 62
  logged_below ps legal = let few = laws.few ps legal in let s = go ps (laws.short ps legal) in omega arith
    where
      go : (ps : List P) → Every (λ (p : P). length (c.log p) ≤ 2 ^ 30) ps → logged c ps ≤ 1073741824 * length ps
      go [] all = omega arith
      go (p ∷ ps) all = let h = go ps all.1 in let a = all.0 in omega arith

  -- each entry of a right history is numbered behind those before
  pub right_numbered : (ps : List P) (es : List (Entry E R)) → c.Legal ps → IsRight c ps es → IsNumbered (suc (logged c ps)) es
  right_numbered ps [] legal right = tt
  right_numbered ps (e ∷ es) legal right =
      let one = right.0 in
      let more = next_logged ps e.event e.number legal one.0 one.1 in
      (one.3, subst (λ n. IsNumbered (suc n) es) more (right_numbered (next c ps e.event e.number) es (laws.stays ps e.event e.number legal one.0 one.1 one.3) right.1))

  pub right_legal : (ps : List P) (es : List (Entry E R)) → c.Legal ps → IsRight c ps es → c.Legal (leaves c ps es)
  right_legal ps [] legal right = legal
  right_legal ps (e ∷ es) legal right = right_legal (next c ps e.event e.number) es (laws.stays ps e.event e.number legal right.0.0 right.0.1 right.0.3) right.1
