-- The held parts by their places, and by their slots.
use Rattle.std.proofs.Common.{◌≡◌, ℕ, zero, suc, ◌+◌, ◌≤◌, ◌<◌, List, [], ◌∷◌, drop, sym, ap, subst, arith, ◌∙◌, true, false, ◌||◌, eqb, refl, Some, None}
use Rattle.std.specs.Prelude.{slice_get}
use Rattle.std.proofs.lemmas.Bool.Decides.{nat_tests}
use Rattle.step_table.specs.Lists.{Rising}
use Rattle.step_table.proofs.Lists.{either_way, rising_rest}
use Rattle.row_values.specs.Slots.{has}
use Rattle.model.specs.Tablets.{emptied}
use Rattle.machine_laws.specs.Views.{KeptView, OfMaster, OfTablet, PartView, clock_of}
use Rattle.machine_laws.specs.Laid.{at_slot, master_in, master_of, tablet_in, tablet_of, kept_in, IsKind, AreKinds}
use Rattle.machine_laws.proofs.Laying.{is_eq, not_above}
use Rattle.cluster_core.specs.Held.{Part}
use Rattle.cluster_core.specs.Tellings.{IsMaster, IsTablet}
use Rattle.cluster_core.specs.Readies.{AllLater}

pub some_is : {A : Type 0} {x y : A} → Some x ≡ Some y → x ≡ y
some_is e = cc

pub has_next : (i : ℕ) (ks : List ℕ) (s slot : ℕ) → slice_get ks i ≡ Some s → ¬ (s ≡ slot) → has (drop (i + 1) ks) slot ≡ has (drop i ks) slot
has_next i ks s slot at ne = let one : suc i ≡ i + 1 = omega arith in subst (λ k. has (drop k ks) slot ≡ has (drop i ks) slot) one (go i ks at)
  where
    go : (i : ℕ) (ks : List ℕ) → slice_get ks i ≡ Some s → has (drop (suc i) ks) slot ≡ has (drop i ks) slot
    go i [] at = cc
    go zero (k ∷ ks) at = either_way (eqb k slot) (λ t. absurd (ne (sym (some_is at) ∙ is_eq k slot t))) (λ f. sym (ap (λ b. b || has ks slot) f))
    go (suc i) (k ∷ ks) at = go i ks at

pub has_at : (i : ℕ) (ks : List ℕ) (k : ℕ) → slice_get ks i ≡ Some k → has ks k ≡ true
has_at i [] k at = cc
has_at zero (j ∷ js) k at = let same : j ≡ k = some_is at in let e : eqb j k ≡ true = grind (arith, nat_tests) in ap (λ b. b || has js k) e
has_at (suc i) (j ∷ js) k at = either_way (eqb j k) (λ t. ap (λ b. b || has js k) t) (λ f. ap (λ b. b || has js k) f ∙ has_at i js k at)

-- the i-th held part is that of the i-th slot
pub held_at : {A : Type 0} (i : ℕ) (ks : List ℕ) (ps : List A) (k : ℕ) (p : A) → Rising ks → slice_get ks i ≡ Some k → slice_get ps i ≡ Some p → at_slot ks ps k ≡ Some p
held_at i [] ps k p up at is = cc
held_at i (j ∷ js) [] k p up at is = cc
held_at zero (j ∷ js) (q ∷ ps) k p up at is = let e : eqb j k ≡ true = (let same : j ≡ k = some_is at in grind (arith, nat_tests)) in rw e is
held_at (suc i) (j ∷ js) (q ∷ ps) k p up at is =
    let ne : eqb j k ≡ false = (let l = not_above j k js up (has_at i js k at) in grind (arith, nat_tests)) in rw ne (held_at i js ps k p (rising_rest j js up) at is)

module _ {R : Type 0} where
  pub kind_held : (i : ℕ) (ks : List ℕ) (ps : List (PartView R)) (k : ℕ) (p : PartView R) → AreKinds ks ps → slice_get ks i ≡ Some k → slice_get ps i ≡ Some p → IsKind k p.kept
  kind_held i [] ps k p kinds at is = cc
  kind_held i (j ∷ js) [] k p kinds at is = absurd kinds
  kind_held zero (j ∷ js) (q ∷ ps) k p kinds at is = subst (λ x. IsKind x p.kept) (some_is at) (subst (λ (x : PartView R). IsKind j x.kept) (some_is is) kinds.0)
  kind_held (suc i) (j ∷ js) (q ∷ ps) k p kinds at is = kind_held i js ps k p kinds.1 at is

pub tablet_kind : (k : ℕ) (p : KeptView) → 1 ≤ k → IsKind k p → IsTablet p
tablet_kind zero p least is = absurd (omega arith)
tablet_kind (suc k) (OfMaster m) least is = is
tablet_kind (suc k) (OfTablet t) least is = tt

pub master_kind : (p : KeptView) → IsKind 0 p → IsMaster p
master_kind (OfMaster m) is = tt
master_kind (OfTablet t) is = is

-- a slot without a held part, and the master's, have an empty tablet

pub at_none : {A : Type 0} (ks : List ℕ) (ps : List A) (k : ℕ) → has ks k ≡ false → at_slot ks ps k ≡ None
at_none [] ps k none = refl
at_none (j ∷ ks) [] k none = refl
at_none (j ∷ ks) (p ∷ ps) k none = either_way (eqb j k)
    (λ t. absurd (let e : true ≡ false = sym (ap (λ b. b || has ks k) t) ∙ none in cc))
    (λ f. rw f (at_none ks ps k (sym (ap (λ b. b || has ks k) f) ∙ none)))

master_empty : (p : KeptView) → IsKind 0 p → tablet_of p ≡ emptied 0
master_empty (OfMaster m) is = refl
master_empty (OfTablet t) is = absurd is

pub first_empty : (ks : List ℕ) (ps : List Part) → AreKinds ks ps → tablet_in (kept_in (at_slot ks ps 0)) ≡ emptied 0
first_empty [] ps kinds = refl
first_empty (k ∷ ks) [] kinds = refl
first_empty (k ∷ ks) (p ∷ ps) kinds = either_way (eqb k 0)
    (λ t. rw t (master_empty p.kept (subst (λ j. IsKind j p.kept) (is_eq k 0 t) kinds.0)))
    (λ f. rw f (first_empty ks ps kinds.1))

-- held clocks are below the stamp

tablet_later : (k : KeptView) (n : ℕ) → 0 < n → clock_of k < n → (tablet_of k).clock < n
tablet_later (OfMaster m) n some lt = some
tablet_later (OfTablet t) n some lt = lt

pub slot_later : (n : ℕ) (ks : List ℕ) (ps : List Part) (slot : ℕ) → 0 < n → AllLater n ps → (tablet_in (kept_in (at_slot ks ps slot))).clock < n
slot_later n [] ps slot some later = some
slot_later n (k ∷ ks) [] slot some later = some
slot_later n (k ∷ ks) (p ∷ ps) slot some later = either_way (eqb k slot)
    (λ t. rw t (tablet_later p.kept n some later.0))
    (λ f. rw f (slot_later n ks ps slot some later.1))

master_later : (k : KeptView) (n : ℕ) → 0 < n → clock_of k < n → (master_of k).clock < n
master_later (OfMaster m) n some lt = lt
master_later (OfTablet t) n some lt = some

pub first_later : (n : ℕ) (ks : List ℕ) (ps : List Part) → 0 < n → AllLater n ps → (master_in (kept_in (at_slot ks ps 0))).clock < n
first_later n [] ps some later = some
first_later n (k ∷ ks) [] some later = some
first_later n (k ∷ ks) (p ∷ ps) some later = either_way (eqb k 0)
    (λ t. rw t (master_later p.kept n some later.0))
    (λ f. rw f (first_later n ks ps some later.1))
