-- Parts that are put back into their slots.
use Rattle.std.proofs.Common.{◌≡◌, ℕ, zero, suc, ◌+◌, ◌<◌, List, [], ◌∷◌, ◌++◌, set, map, refl, sym, ap, arith, length, inl, inr, ◌∙◌, eq-eqb}
use Rattle.std.proofs.lemmas.List.{length-set}
use Rattle.std.specs.Prelude.{cond, nat_eq}
use mathlib.Core.Option.{some}
use lib.ListN.{get_elem?}
use Rattle.atomic_table.proofs.Lists.{set_here, set_else}
use Rattle.step_table.specs.declared.known.Entry.{Entry}
use Rattle.step_table.specs.Lists.{fst, total, Every, In, Rising, pick, put, pair}
use Rattle.step_table.specs.Machines.{Core, leaves, next, IsRight, IsStep}
use Rattle.step_table.specs.Rule.{times}
use Rattle.step_table.proofs.Lists.{above_not_in, rising_rest}
use Rattle.step_table.proofs.Totals.{total_set}

pub in_counts : (k : ℕ) (ks : List ℕ) → In k ks → 0 < total (λ x. cond (nat_eq k x) 1 0) ks
in_counts k [] h = absurd h
in_counts k (x ∷ xs) (inl e) = let t : cond {A = ℕ} (nat_eq k x) 1 0 ≡ 1 = ap (λ b. cond {A = ℕ} b 1 0) (eq-eqb k x (sym e)) in omega arith
in_counts k (x ∷ xs) (inr h) = let t = in_counts k xs h in omega arith

module _ {P : Type 0} where
  pub length_put : (ks : List ℕ) (qs ps : List P) → length (put ks qs ps) ≡ length ps
  length_put [] qs ps = refl
  length_put (k ∷ ks) [] ps = refl
  length_put (k ∷ ks) (q ∷ qs) ps = length_put ks qs (set ps k q) ∙ length-set ps k q

  -- elsewhere nothing changes
  pub put_else : (ks : List ℕ) (qs ps : List P) (j : ℕ) → ¬ In j ks → get_elem? (put ks qs ps) j ≡ get_elem? ps j
  put_else [] qs ps j out = refl
  put_else (k ∷ ks) [] ps j out = refl
  put_else (k ∷ ks) (q ∷ qs) ps j out = put_else ks qs (set ps k q) j (λ h. out (inr h)) ∙ set_else ps k j q (λ e. out (inl (sym e)))

  pub pick_set : (ks : List ℕ) (ps : List P) (k : ℕ) (q : P) → ¬ In k ks → pick ks (set ps k q) ≡ pick ks ps
  pick_set [] ps k q out = refl
  pick_set (x ∷ xs) ps k q out = rw (set_else ps k x q (λ e. out (inl e)), pick_set xs ps k q (λ h. out (inr h))) refl

  pub found_at : (ps : List P) (k : ℕ) → k < length ps → (p : P) × (get_elem? ps k ≡ some p)
  found_at [] k lt = absurd (omega arith)
  found_at (p ∷ ps) zero lt = (p, refl)
  found_at (p ∷ ps) (suc k) lt = found_at ps k (omega arith)

  pub set_lt : (ps : List P) (k : ℕ) (q : P) (xs : List ℕ) → Every (λ x. x < length ps) xs → Every (λ x. x < length (set ps k q)) xs
  set_lt ps k q [] all = tt
  set_lt ps k q (x ∷ xs) all = (rw (length-set ps k q) all.0, set_lt ps k q xs all.1)

  -- each of them has its new part
  pub put_shows : (ks : List ℕ) (qs ps : List P) → Rising ks → Every (λ k. k < length ps) ks → Every (λ x. get_elem? (put ks qs ps) x.0 ≡ some x.1) (pair ks qs)
  put_shows [] qs ps up lt = tt
  put_shows (k ∷ ks) [] ps up lt = tt
  put_shows (k ∷ ks) (q ∷ qs) ps up lt = (
    put_else ks qs (set ps k q) k (above_not_in k ks up) ∙ set_here ps k q lt.0,
    put_shows ks qs (set ps k q) (rising_rest k ks up) (set_lt ps k q ks lt.1),
  )

  pub put_total : (f : P → ℕ) (ks : List ℕ) (qs ps : List P) → Rising ks → Every (λ k. k < length ps) ks → length qs ≡ length ks → total f (put ks qs ps) + total f (pick ks ps) ≡ total f ps + total f qs
  put_total f [] [] ps up lt len = omega arith
  put_total f [] (q ∷ qs) ps up lt len = absurd (omega arith)
  put_total f (k ∷ ks) [] ps up lt len = absurd (omega arith)
  put_total f (k ∷ ks) (q ∷ qs) ps up lt len =
      let at = found_at ps k lt.0 in
      let h : total f (put ks qs (set ps k q)) + total f (pick ks (set ps k q)) ≡ total f (set ps k q) + total f qs = put_total f ks qs (set ps k q) (rising_rest k ks up) (set_lt ps k q ks lt.1) (omega arith) in
      let same : total f (pick ks (set ps k q)) ≡ total f (pick ks ps) = ap (total f) (pick_set ks ps k q (above_not_in k ks up)) in
      let here : total f (set ps k q) + f at.0 ≡ total f ps + f q = total_set f ps k at.0 q at.1 in
      rw at.1 (omega arith)

  pub times_fst : (k : ℕ) (held : List (ℕ × P)) → times k held ≡ total (λ x. cond (nat_eq k x) 1 0) (map fst held)
  times_fst k [] = refl
  times_fst k (x ∷ xs) = ap (λ n. cond (nat_eq k x.0) 1 0 + n) (times_fst k xs)

module _ {P E D R F : Type 0} (c : Core P E D R F) where
  pub leaves_snoc : (ps : List P) (es : List (Entry E R)) (e : Entry E R) → leaves c ps (es ++ e ∷ []) ≡ next c (leaves c ps es) e.event e.number
  leaves_snoc ps [] e = refl
  leaves_snoc ps (x ∷ xs) e = leaves_snoc (next c ps x.event x.number) xs e

  pub right_snoc : (ps : List P) (es : List (Entry E R)) (e : Entry E R) → IsRight c ps es → IsStep c (leaves c ps es) e → IsRight c ps (es ++ e ∷ [])
  right_snoc ps [] e right one = (one, tt)
  right_snoc ps (x ∷ xs) e right one = (right.0, right_snoc (next c ps x.event x.number) xs e right.1 one)
