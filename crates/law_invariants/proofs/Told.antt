-- What an accepted command leaves: the master as it changed it, and each tablet of its plan as it was told.
use Rattle.std.proofs.Common.{ℕ, ◌≡◌, ◌<◌, List, [], ◌∷◌, Bool, true, false, cond, ◌&&◌, ◌||◌, refl, sym, ap, ◌∙◌, arith, not, eqb, eqb-true, ◌≤◌}
use Rattle.std.proofs.lemmas.Bool.{cond_both}
use Rattle.std.proofs.lemmas.Bool.Decides.{nat_tests}
use Rattle.model.specs.Cluster.{Id, has, same_slots, Parts, MasterAct, Outcome}
use Rattle.model.specs.Tablets.{Tablet, TabletAct, Told, act_for, effect, Clock}
use Rattle.model.specs.Acts.{Act, Command, Change}
use Rattle.model.specs.Entries.{clock_at, slots_of}
use Rattle.model.specs.Changes.{accepts, tell}
use Rattle.model.specs.History.{told}
use Rattle.law_store.proofs.Keys.{either_way}
use Rattle.law_invariants.specs.Invariant.{Later}
use Rattle.law_invariants.proofs.Finding.{both_pass}
use Rattle.law_invariants.proofs.Ticking.{not_true}

touched_has : (i : ℕ) (slots : List ℕ) → (has (0 ∷ slots) i && not (eqb i 0)) ≡ true → (has slots i ≡ true) × (eqb i 0 ≡ false)
touched_has i slots e =
    let h = both_pass (has (0 ∷ slots) i) (not (eqb i 0)) e in
    let apart : eqb i 0 ≡ false = not_true _ h.1 in
    let back : eqb 0 i ≡ false = grind (arith, nat_tests) in
    let is : (eqb 0 i || has slots i) ≡ true = h.0 in
    (rw back at is, apart)

untouched_has : (i : ℕ) (slots : List ℕ) → (has (0 ∷ slots) i && not (eqb i 0)) ≡ false → eqb i 0 ≡ false → has slots i ≡ false
untouched_has i slots e f = behind (eqb 0 i) (has slots i) (eqb i 0) f e
  where
    behind : (a b c : Bool) → c ≡ false → ((a || b) && not c) ≡ false → b ≡ false
    behind a false c f e = refl
    behind true true false f e = cc
    behind true true true f e = cc
    behind false true false f e = cc
    behind false true true f e = cc

-- what holds of the slots that an act names besides the master, after what they are told, and of the others as they are, holds of each
pub slots_hear : (P : ℕ → Tablet → Type 0) (act : Act) (slots : List ℕ) (o : Outcome) (n : ℕ) (ps : Parts) → slots_of act ≡ 0 ∷ slots
    → ((i : ℕ) → has slots i ≡ true → eqb i 0 ≡ false → P i (effect (act_for o.tablets i) n (ps.tablet i)))
    → ((i : ℕ) → (eqb i 0 ≡ false → has slots i ≡ false) → P i (ps.tablet i))
    → (i : ℕ) → P i ((told act o n ps).tablet i)
slots_hear P act slots o n ps named mine others i =
    cond_both (has (slots_of act) i && not (eqb i 0)) (effect (act_for o.tablets i) n (ps.tablet i)) (ps.tablet i) (P i)
    (λ e. let h = touched_has i slots (ap (λ ss. has ss i && not (eqb i 0)) (sym named) ∙ e) in mine i h.0 h.1)
    (λ e. others i (untouched_has i slots (ap (λ ss. has ss i && not (eqb i 0)) (sym named) ∙ e)))

-- as those of a command's plan
pub slots_told : (P : ℕ → Tablet → Type 0) (command : Command) (slots : List ℕ) (act : MasterAct) (tablets : List Told) (made : List Id) (n : ℕ) (ps : Parts)
    → ((i : ℕ) → has slots i ≡ true → eqb i 0 ≡ false → P i (effect (act_for tablets i) n (ps.tablet i)))
    → ((i : ℕ) → (eqb i 0 ≡ false → has slots i ≡ false) → P i (ps.tablet i))
    → (i : ℕ) → P i ((told (Change command slots) (accepts act tablets made) n ps).tablet i)
slots_told P command slots act tablets made n ps mine others = slots_hear P (Change command slots) slots (accepts act tablets made) n ps refl mine others

-- the clocks of the master and of the plan's tablets are below the stamp
pub master_early : (slots : List ℕ) (ps : Parts) (n : ℕ) → Later (0 ∷ slots) ps n → ps.master.clock < n
master_early slots ps n later = later 0 refl

pub tablet_early : (slots : List ℕ) (ps : Parts) (n i : ℕ) → Later (0 ∷ slots) ps n → has slots i ≡ true → eqb i 0 ≡ false → (ps.tablet i).clock < n
tablet_early slots ps n i later is from =
    let h : (eqb 0 i || has slots i) ≡ true = or_true (eqb 0 i) (has slots i) is in
    let l : clock_at ps i < n = later i h in
    rw from at l
  where
    or_true : (a b : Bool) → b ≡ true → (a || b) ≡ true
    or_true true b e = refl
    or_true false b e = e

-- the slots of a plan that are all told the same
pub told_same : (slots : List ℕ) (a : TabletAct) (i : ℕ) → has slots i ≡ true → act_for (tell slots a) i ≡ a
told_same [] a i is = cc
told_same (slot ∷ slots) a i is = either_way (eqb slot i)
    (λ e. rw e refl)
    (λ e. let q : (eqb slot i || has slots i) ≡ true = is in let k : has slots i ≡ true = rw e at q in
    ap (λ b. cond b a (act_for (tell slots a) i)) e ∙ told_same slots a i k)

-- what holds of no act and of the one act that all are told holds of what each slot is told
pub told_either : (P : TabletAct → Type 0) (slots : List ℕ) (a : TabletAct) (i : ℕ) → P Clock → P a → P (act_for (tell slots a) i)
told_either P [] a i none one = none
told_either P (slot ∷ slots) a i none one = cond_both (eqb slot i) a (act_for (tell slots a) i) P (λ e. one) (λ e. told_either P slots a i none one)

-- slots that are the same are equal
pub slots_equal : (xs ys : List ℕ) → same_slots xs ys ≡ true → xs ≡ ys
slots_equal [] [] e = refl
slots_equal [] (y ∷ ys) e = cc
slots_equal (x ∷ xs) [] e = cc
slots_equal (x ∷ xs) (y ∷ ys) e =
    let h = both_pass (eqb x y) (same_slots xs ys) e in
    let first : x ≡ y = eqb-true x y h.0 in
    let rest = slots_equal xs ys h.1 in cc

-- a tablet's clock is at most the stamp of an act that touches its slot
pub clock_before : (slots : List ℕ) (ps : Parts) (n slot : ℕ) → Later slots ps n → 1 ≤ slot → has slots slot ≡ true → (ps.tablet slot).clock < n
clock_before slots ps n slot later from is =
    let f : eqb slot 0 ≡ false = grind (arith, nat_tests) in
    let l : clock_at ps slot < n = later slot is in
    rw f at l

pub has_it : (slot : ℕ) (ss : List ℕ) → has (slot ∷ ss) slot ≡ true
has_it slot ss = grind (arith, nat_tests)

pub has_second : (slot : ℕ) → has (0 ∷ slot ∷ []) slot ≡ true
has_second slot = grind (arith, nat_tests)
