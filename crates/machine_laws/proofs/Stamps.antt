-- The stamp of an event by the clocks of the held parts, and what meanings keep.
use Rattle.std.proofs.Common.{◌≡◌, ℕ, zero, suc, ◌+◌, ◌*◌, List, [], ◌∷◌, map, length, refl, sym, ap, arith, ◌∙◌, true, false, ◌||◌, eqb, cond, Option, Some}
use Rattle.std.specs.Prelude.{max, nat_lt}
use Rattle.std.proofs.lemmas.Bool.Decides.{nat_tests}
use Rattle.std.proofs.Math.Path.{fun_ext}
use Rattle.row_values.specs.Stamps as rule
use Rattle.row_values.specs.Slots.{has, put_slot, rising}
use Rattle.step_table.specs.Lists.{Rising}
use Rattle.step_table.proofs.Lists.{either_way, rising_rest}
use Rattle.model.specs.Acts.{Event}
use Rattle.model.specs.Entries.{touches, slots_of, clock_at}
use Rattle.machine_laws.specs.Views.{OfMaster, OfTablet, KeptView, PartView, clock_of}
use Rattle.machine_laws.specs.Laid.{at_slot, lay, master_of, tablet_of, master_in, tablet_in, kept_in, IsKind, AreKinds}
use Rattle.machine_laws.specs.Core.{Coding, core_of, laid, stamp_at}
use Rattle.machine_laws.proofs.Slots.{rising_is}
use Rattle.machine_laws.proofs.Laying.{is_eq, not_above}

-- the greatest clock, whatever the order of the slots

greatest_max : (a b : ℕ) (cs : List ℕ) → rule.greatest (max a b) cs ≡ max a (rule.greatest b cs)
greatest_max a b [] = refl
greatest_max a b (c ∷ cs) = let e : max (max a b) c ≡ max a (max b c) = omega arith in ap (λ n. rule.greatest n cs) e ∙ greatest_max a (max b c) cs

greatest_cons : (c : ℕ) (cs : List ℕ) → rule.greatest 0 (c ∷ cs) ≡ max c (rule.greatest 0 cs)
greatest_cons c cs = let e : max 0 c ≡ max c 0 = omega arith in ap (λ n. rule.greatest n cs) e ∙ greatest_max c 0 cs

greatest_put : (f : ℕ → ℕ) (s : ℕ) (ks : List ℕ) → rule.greatest 0 (map f (put_slot s ks)) ≡ max (f s) (rule.greatest 0 (map f ks))
greatest_put f s [] = greatest_cons (f s) []
greatest_put f s (j ∷ js) = either_way (nat_lt s j)
    (λ t. rw t (greatest_cons (f s) (f j ∷ map f js)))
    (λ g. either_way (eqb j s)
    (λ t. let e : j ≡ s = is_eq j s t in let h = greatest_cons (f j) (map f js) in let i : f j ≡ f s = ap f e in rw (g, t) (omega arith))
    (λ h. let ih = greatest_put f s js in let a = greatest_cons (f j) (map f (put_slot s js)) in let b = greatest_cons (f j) (map f js) in rw (g, h) (omega arith)))

greatest_rising : (f : ℕ → ℕ) (ks : List ℕ) → rule.greatest 0 (map f (rising ks)) ≡ rule.greatest 0 (map f ks)
greatest_rising f [] = refl
greatest_rising f (s ∷ ss) = greatest_put f s (rising ss) ∙ ap (max (f s)) (greatest_rising f ss) ∙ sym (greatest_cons (f s) (map f ss))

master_clock : (k : KeptView) → IsKind 0 k → (master_of k).clock ≡ clock_of k
master_clock (OfMaster m) is = refl
master_clock (OfTablet t) is = absurd is

tablet_clock : (slot : ℕ) (k : KeptView) → IsKind (suc slot) k → (tablet_of k).clock ≡ clock_of k
tablet_clock slot (OfMaster m) is = absurd is
tablet_clock slot (OfTablet t) is = refl

module _ {R : Type 0} where
  clock_one : (js : List ℕ) (qs : List (PartView R)) (k : ℕ) (p : PartView R) → at_slot js qs k ≡ Some p → IsKind k p.kept → clock_at (lay js qs) k ≡ clock_of p.kept
  clock_one js qs zero p e is = ap (λ (x : Option (PartView R)). (master_in (kept_in x)).clock) e ∙ master_clock p.kept is
  clock_one js qs (suc k) p e is =
      let z : eqb (suc k) 0 ≡ false = grind (arith, nat_tests) in
      ap (λ b. cond b (lay js qs).master.clock ((lay js qs).tablet (suc k)).clock) z ∙ ap (λ (x : Option (PartView R)). (tablet_in (kept_in x)).clock) e ∙ tablet_clock k p.kept is

  -- the clocks of held parts are those of their slots
  clocks_at : (js ks : List ℕ) (qs ps : List (PartView R)) → ((k : ℕ) → has ks k ≡ true → at_slot js qs k ≡ at_slot ks ps k) → Rising ks → AreKinds ks ps → length ps ≡ length ks
      → map (clock_at (lay js qs)) ks ≡ map (λ (p : PartView R). clock_of p.kept) ps
  clocks_at js [] qs [] same up kinds len = refl
  clocks_at js [] qs (p ∷ ps) same up kinds len = absurd (omega arith)
  clocks_at js (k ∷ ks) qs [] same up kinds len = absurd (omega arith)
  clocks_at js (k ∷ ks) qs (p ∷ ps) same up kinds len =
      let here : eqb k k ≡ true = grind (arith, nat_tests) in
      let e : at_slot js qs k ≡ Some p = same k (ap (λ b. b || has ks k) here) ∙ ap (λ b. cond b (Some p) (at_slot ks ps k)) here in
      ap (λ c. c ∷ map (clock_at (lay js qs)) ks) (clock_one js qs k p e kinds.0)
      ∙ ap (λ cs. clock_of p.kept ∷ cs) (clocks_at js ks qs ps
      (λ j h. let ne : eqb k j ≡ false = (let l = not_above k j ks up h in grind (arith, nat_tests)) in same j (ap (λ b. b || has ks j) ne ∙ h) ∙ ap (λ b. cond b (Some p) (at_slot ks ps j)) ne)
      (rising_rest k ks up) kinds.1 (omega arith))

  -- the stamp over the held clocks is the event's
  pub held_stamp : (e : Event) (held : List (PartView R)) → AreKinds (touches e.act) held → length held ≡ length (touches e.act)
      → rule.stamp_of 0 (map (λ (p : PartView R). clock_of p.kept) held) e.reading ≡ stamp_at held e
  held_stamp e held kinds len =
      let js = touches e.act in
      let f = clock_at (laid held e) in
      let clocks : map f js ≡ map (λ (p : PartView R). clock_of p.kept) held = clocks_at js js held held (λ k h. refl) (rising_is (slots_of e.act)) kinds len in
      ap (λ n. max (1 + n) (e.reading * 4096)) (ap (rule.greatest 0) (sym clocks) ∙ greatest_rising f (slots_of e.act))

-- meanings keep what parts keep

module _ {R D F : Type 0} (code : Coding R D F) where
  kept_meant : (ks : List ℕ) (ps : List (PartView R)) (k : ℕ) → kept_in (at_slot ks (map (core_of code).meaning ps) k) ≡ kept_in (at_slot ks ps k)
  kept_meant [] ps k = refl
  kept_meant (j ∷ ks) [] k = refl
  kept_meant (j ∷ ks) (p ∷ ps) k = either_way (eqb j k) (λ t. rw t refl) (λ f. rw f (kept_meant ks ps k))

  pub lay_meant : (ks : List ℕ) (ps : List (PartView R)) → lay ks (map (core_of code).meaning ps) ≡ lay ks ps
  lay_meant ks ps =
      ap (λ m. record { master = m; tablet = (lay ks (map (core_of code).meaning ps)).tablet }) (ap master_in (kept_meant ks ps 0))
      ∙ ap (λ f. record { master = (lay ks ps).master; tablet = f }) (fun_ext (λ k. ap tablet_in (kept_meant ks ps k)))
