-- What each slot's part is told, moved out of a plan.
use Rattle.std.proofs.Common.{◌≡◌, ◌≢◌, ℕ, zero, suc, ◌+◌, ◌≤◌, ◌<◌, List, [], ◌∷◌, ◌++◌, map, length, drop, set, get_or, refl, sym, ap, subst, arith, ◌∙◌, true, false, ◌||◌, eqb, cond, if◌then◌else◌, ◌==◌, Some}
use Rattle.std.specs.Prelude.{slice_get}
use Rattle.std.proofs.lemmas.Bool.Decides.{nat_tests}
use Rattle.step_table.specs.Lists.{Rising, Above}
use Rattle.step_table.proofs.Lists.{either_way, rising_rest}
use Rattle.row_values.specs.Slots.{has}
use Rattle.model.specs.Tablets.{Tablet, act_for}
use Rattle.model.specs.Parts.{Master}
use Rattle.machine_laws.specs.Views.{KeptView, OfMaster, OfTablet, ForTablet}
use Rattle.machine_laws.specs.Laid.{at_slot, told_to, told_acts, master_in, master_of, tablet_in, tablet_of, kept_in, IsKind, AreKinds}
use Rattle.machine_laws.proofs.Laying.{is_eq, not_above}
use Rattle.master_part.specs.declared.act.MasterAct.{MasterAct}
use Rattle.master_part.specs.Acts.{May}
use Rattle.tablet_acts.specs.Tellings.{Suits, SlotTelling, told_of, act_told}
use Rattle.cluster_core.specs.declared.part.PartTold.{PartTold}
use Rattle.cluster_core.specs.Held.{Part}
use Rattle.cluster_core.specs.SeenTold.{part_telling, tellings_of}
use Rattle.cluster_core.specs.Tellings.{TellMaster, TellTablet, part_act, ActFits}
use Rattle.cluster_core.specs.Plans.{EventPlanView, outcome_of, telling_for, tell_to, tell_all, masters_in, AllSuit}
use Rattle.cluster_core.specs.Readies.{AllFit}
use Rattle.cluster_core.proofs.Laying.{some_is}

-- what is moved out of a plan changes no other slot's part

pub act_set : (ts : List SlotTelling) (i : ℕ) (t x : SlotTelling) (k slot : ℕ) → t ≡ get_or ts i t → x.slot ≡ slot → t.slot ≡ slot → k ≢ slot → telling_for (set ts i x) k ≡ telling_for ts k
act_set [] i t x k slot at same is ne = refl
act_set (y ∷ ts) zero t x k slot at same is ne =
    let e : y.slot ≡ t.slot = ap (λ (z : SlotTelling). z.slot) (sym at) in
    let f : eqb y.slot k ≡ false = grind (arith, nat_tests) in
    let g : eqb x.slot k ≡ false = grind (arith, nat_tests) in
    rw (f, g) refl
act_set (y ∷ ts) (suc i) t x k slot at same is ne = ap (λ a. cond (eqb y.slot k) y.telling a) (act_set ts i t x k slot at same is ne)

pub others_tablets : (a : MasterAct) (ts us : List SlotTelling) (slot : ℕ) → ((k : ℕ) → k ≢ slot → telling_for us k ≡ telling_for ts k) → (k : ℕ) → k ≢ slot → tell_to a us k ≡ tell_to a ts k
others_tablets a ts us slot others zero ne = refl
others_tablets a ts us slot others (suc k) ne = ap TellTablet (others (suc k) ne)

-- a tablet's slot is told what its part is
pub told_tablet : (a : MasterAct) (ts : List SlotTelling) (slot : ℕ) → slot ≢ 0 → tell_to a ts slot ≡ TellTablet (telling_for ts slot)
told_tablet a ts zero ne = absurd (ne refl)
told_tablet a ts (suc slot) ne = refl

above_drop : (i : ℕ) (ks : List ℕ) (k : ℕ) → Rising ks → slice_get ks i ≡ Some k → Above k (drop (suc i) ks)
above_drop i [] k up at = cc
above_drop zero (j ∷ js) k up at = subst (λ x. Above x js) (some_is at) up
above_drop (suc i) (j ∷ js) k up at = above_drop i js k (rising_rest j js up) at

told_next : (a : MasterAct) (ts : List SlotTelling) (i : ℕ) (ks : List ℕ) (k : ℕ) → slice_get ks i ≡ Some k → tell_all a ts (drop i ks) ≡ tell_to a ts k ∷ tell_all a ts (drop (suc i) ks)
told_next a ts i [] k at = cc
told_next a ts zero (j ∷ ks) k at = ap (λ x. tell_to a ts x ∷ tell_all a ts ks) (some_is at)
told_next a ts (suc i) (j ∷ ks) k at = told_next a ts i ks k at

told_others : (a b : MasterAct) (ts us : List SlotTelling) (k m : ℕ) (ks : List ℕ) → k ≤ m → Above m ks → ((n : ℕ) → n ≢ k → tell_to b us n ≡ tell_to a ts n) → tell_all a ts ks ≡ tell_all b us ks
told_others a b ts us k m [] le up others = refl
told_others a b ts us k m (j ∷ ks) le up others =
    let lt : m < j = up.0 in
    let ne : j ≢ k = λ e. absurd (omega arith) in
    ap (λ x. x ∷ tell_all a ts ks) (sym (others j ne)) ∙ ap (λ xs. tell_to b us j ∷ xs) (told_others a b ts us k j ks (omega arith) up.1 others)

pub told_taken : (a b : MasterAct) (ts us : List SlotTelling) (i : ℕ) (ks : List ℕ) (k : ℕ) → Rising ks → slice_get ks i ≡ Some k → ((n : ℕ) → n ≢ k → tell_to b us n ≡ tell_to a ts n)
    → tell_all a ts (drop i ks) ≡ tell_to a ts k ∷ tell_all b us (drop (i + 1) ks)
told_taken a b ts us i ks k up at others =
    let one : suc i ≡ i + 1 = omega arith in
    told_next a ts i ks k at ∙ ap (λ xs. tell_to a ts k ∷ xs) (told_others a b ts us k k (drop (suc i) ks) (omega arith) (above_drop i ks k up at) others) ∙ ap (λ j. tell_to a ts k ∷ tell_all b us (drop j ks)) one

-- the slots from a place behind the master on are tablets'
above_at : (n : ℕ) (js : List ℕ) (i k : ℕ) → Above n js → slice_get js i ≡ Some k → n < k
above_at n [] i k up at = cc
above_at n (x ∷ xs) zero k up at = let here : x ≡ k = some_is at in let less = up.0 in omega arith
above_at n (x ∷ xs) (suc i) k up at = let less = up.0 in let rest = above_at x xs i k up.1 at in omega (arith, less, rest)

is_tablet : (ks : List ℕ) (i k : ℕ) → Rising ks → masters_in ks ≤ i → slice_get ks i ≡ Some k → k ≢ 0
is_tablet [] i k up behind at = cc
is_tablet (j ∷ js) zero k up behind at = λ e.
    let here : j ≡ k = some_is at in
    let is : eqb j 0 ≡ true = grind (arith, nat_tests) in
    let past : 1 ≤ 0 = subst (λ b. cond b 1 0 ≤ 0) is behind in
    absurd (omega arith)
is_tablet (j ∷ js) (suc i) k up behind at = λ e. let less = above_at j js i k up at in absurd (omega (arith, less, e))

-- one more of the tablets' parts is told
pub told_more : (a : MasterAct) (ts us : List SlotTelling) (i : ℕ) (ks : List ℕ) (k : ℕ) → Rising ks → masters_in ks ≤ i → slice_get ks i ≡ Some k
    → ((n : ℕ) → n ≢ k → telling_for us n ≡ telling_for ts n)
    → tell_all a ts (drop i ks) ≡ TellTablet (telling_for ts k) ∷ tell_all a us (drop (i + 1) ks)
told_more a ts us i ks k up behind at others =
    told_taken a a ts us i ks k up at (others_tablets a ts us k others) ∙ ap (λ x. x ∷ tell_all a us (drop (i + 1) ks)) (told_tablet a ts k (is_tablet ks i k up behind at))

-- the master's part comes first where it is held
pub told_first : (a : MasterAct) (ts : List SlotTelling) (ks : List ℕ) → (if masters_in ks == 0 then [] else TellMaster a ∷ []) ++ tell_all a ts (drop (masters_in ks) ks) ≡ tell_all a ts ks
told_first a ts [] = refl
told_first a ts (k ∷ ks) = either_way (eqb k 0)
    (λ t. rw t (ap (λ x. x ∷ tell_all a ts ks) (ap (tell_to a ts) (sym (is_eq k 0 t)))))
    (λ f. rw f refl)

pub told_snoc : {V : Type 0} (ts : List (PartTold V)) (t : PartTold V) → tellings_of (ts ++ t ∷ []) ≡ tellings_of ts ++ part_telling t ∷ []
told_snoc [] t = refl
told_snoc (x ∷ ts) t = ap (λ xs. part_telling x ∷ xs) (told_snoc ts t)

-- what is told is the book's

for_book : (ts : List SlotTelling) (k : ℕ) → act_told (telling_for ts k) ≡ act_for (map told_of ts) k
for_book [] k = refl
for_book (t ∷ ts) k = either_way (eqb t.slot k) (λ e. rw e refl) (λ e. rw e (for_book ts k))

to_book : (p : EventPlanView) (k : ℕ) → part_act (tell_to p.master p.tablets k) ≡ told_to (outcome_of p) k
to_book p zero = refl
to_book p (suc k) = ap ForTablet (for_book p.tablets (suc k))

pub all_book : (p : EventPlanView) (ks : List ℕ) → map part_act (tell_all p.master p.tablets ks) ≡ told_acts (outcome_of p) ks
all_book p [] = refl
all_book p (k ∷ ks) = ap (λ a. a ∷ map part_act (tell_all p.master p.tablets ks)) (to_book p k) ∙ ap (λ xs. told_to (outcome_of p) k ∷ xs) (all_book p ks)

-- and each part may be told it

suits_for : (ts : List SlotTelling) (n : ℕ) (at : ℕ → Tablet) (k : ℕ) → AllSuit ts n at → Suits (telling_for ts k) n (at k)
suits_for [] n at k suits = tt
suits_for (t ∷ ts) n at k suits = either_way (eqb t.slot k)
    (λ e. rw e (subst (λ j. Suits t.telling n (at j)) (is_eq t.slot k e) suits.0))
    (λ e. rw e (suits_for ts n at k suits.1))

module _ (a : MasterAct) (ts : List SlotTelling) (n : ℕ) (m : Master) (at : ℕ → Tablet) (may : May a n m) (suits : AllSuit ts n at) where
  one_fits : (k : ℕ) (p : KeptView) → IsKind k p → (k ≡ 0 → m ≡ master_of p) → at k ≡ tablet_of p → ActFits (tell_to a ts k) n p
  one_fits zero (OfMaster x) is master e = subst (May a n) (master refl) may
  one_fits zero (OfTablet t) is master e = is
  one_fits (suc k) (OfMaster x) is master e = is
  one_fits (suc k) (OfTablet t) is master e = subst (Suits (telling_for ts (suc k)) n) e (suits_for ts n at (suc k) suits)

  pub all_fit : (ks : List ℕ) (ps : List Part) → (has ks 0 ≡ true → m ≡ master_in (kept_in (at_slot ks ps 0))) → ((k : ℕ) → has ks k ≡ true → at k ≡ tablet_in (kept_in (at_slot ks ps k)))
      → Rising ks → length ps ≡ length ks → AreKinds ks ps → AllFit (tell_all a ts ks) n ps
  all_fit [] [] master same up len kinds = tt
  all_fit [] (p ∷ ps) master same up len kinds = absurd (omega arith)
  all_fit (k ∷ ks) [] master same up len kinds = absurd (omega arith)
  all_fit (k ∷ ks) (p ∷ ps) master same up len kinds =
      let here : eqb k k ≡ true = grind (arith, nat_tests) in
      let e : at k ≡ tablet_of p.kept = same k (ap (λ b. b || has ks k) here) ∙ ap (λ b. tablet_in (kept_in (cond b (Some p) (at_slot ks ps k)))) here in
      let is : k ≡ 0 → m ≡ master_of p.kept = λ z. let t : eqb k 0 ≡ true = grind (arith, nat_tests) in master (ap (λ b. b || has ks 0) t) ∙ ap (λ b. master_in (kept_in (cond b (Some p) (at_slot ks ps 0)))) t in (
        one_fits k p.kept kinds.0 is e,
        all_fit ks ps
            (λ h. let ne : eqb k 0 ≡ false = (let l = not_above k 0 ks up h in grind (arith, nat_tests)) in master (ap (λ b. b || has ks 0) ne ∙ h) ∙ ap (λ b. master_in (kept_in (cond b (Some p) (at_slot ks ps 0)))) ne)
            (λ j h. let ne : eqb k j ≡ false = (let l = not_above k j ks up h in grind (arith, nat_tests)) in same j (ap (λ b. b || has ks j) ne ∙ h) ∙ ap (λ b. tablet_in (kept_in (cond b (Some p) (at_slot ks ps j)))) ne)
            (rising_rest k ks up) (omega arith) kinds.1,
      )

pub lined : (p : EventPlanView) (a : MasterAct) (ts : List SlotTelling) (ks : List ℕ) → a ≡ p.master → ts ≡ p.tablets → tell_all a ts ks ≡ tell_all p.master p.tablets ks
lined p a ts ks master tablets = ap (λ x. tell_all x ts ks) master ∙ ap (λ xs. tell_all p.master xs ks) tablets
