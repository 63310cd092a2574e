-- Parts that are taken out of their places and put back.
use Rattle.std.proofs.Common.{◌≡◌, ℕ, zero, suc, ◌+◌, ◌<◌, append_assoc, subst, List, [], ◌∷◌, ◌++◌, set, map, refl, sym, ap, arith, length, inl, inr, ◌∙◌, get_or, Option, Some, None}
use Rattle.std.proofs.lemmas.List.{length-set, map-append}
use mathlib.Core.Option.{some, none}
use lib.ListN.{get_elem?}
use Rattle.atomic_table.proofs.Lists.{set_else}
use Rattle.step_table.specs.Lists.{Every, In, Rising, pick, put, found_also, fst, snd}
use Rattle.step_table.specs.Helds.{slots_of, parts_of}
use Rattle.step_table.proofs.Lists.{above_not_in, rising_rest}
use Rattle.step_table.proofs.Puts.{found_at, pick_set, set_lt}
use Rattle.std.specs.Prelude.{slice_get, is_some, true}
use Rattle.std.specs.Option.{IsSome}
use Rattle.step_line.specs.Places.{found, without, means, IsThere, Taking}

set_set : {A : Type 0} (xs : List A) (k : ℕ) (v w : A) → set (set xs k v) k w ≡ set xs k w
set_set [] k v w = refl
set_set (x ∷ xs) zero v w = refl
set_set (x ∷ xs) (suc k) v w = ap (λ ys. x ∷ ys) (set_set xs k v w)

set_swap : {A : Type 0} (xs : List A) (j k : ℕ) (v w : A) → ¬ (j ≡ k) → set (set xs j v) k w ≡ set (set xs k w) j v
set_swap [] j k v w ne = refl
set_swap (x ∷ xs) zero zero v w ne = absurd (ne refl)
set_swap (x ∷ xs) zero (suc k) v w ne = refl
set_swap (x ∷ xs) (suc j) zero v w ne = refl
set_swap (x ∷ xs) (suc j) (suc k) v w ne = ap (λ ys. x ∷ ys) (set_swap xs j k v w (λ e. ne (ap suc e)))

module _ {P : Type 0} where
  pub found_map : (ps : List P) → found (map Some ps) ≡ ps
  found_map [] = refl
  found_map (p ∷ ps) = ap (λ qs. p ∷ qs) (found_map ps)

  pub there_map : (ps : List P) (k : ℕ) → k < length ps → IsThere (map Some ps) k
  there_map [] k lt = absurd (omega arith)
  there_map (p ∷ ps) zero lt = (p, refl)
  there_map (p ∷ ps) (suc k) lt = there_map ps k (omega arith)

  pub all_there : (ps : List P) (ks : List ℕ) → Every (λ k. k < length ps) ks → Every (IsThere (map Some ps)) ks
  all_there ps [] lt = tt
  all_there ps (k ∷ ks) lt = (there_map ps k lt.0, all_there ps ks lt.1)

  pub there_lt : (places : List (Option P)) (k : ℕ) → IsThere places k → k < length places
  there_lt [] k there = absurd (none_is there.1)
    where
      none_is : {A : Type 0} {x : A} → none ≡ some x → ⊥
      none_is e = cc
  there_lt (p ∷ places) zero there = omega arith
  there_lt (p ∷ places) (suc k) there = let h = there_lt places k there in omega arith

  pub there_or : (places : List (Option P)) (k : ℕ) (d : Option P) (p : P) → get_elem? places k ≡ some (Some p) → get_or places k d ≡ Some p
  there_or [] k d p at = cc
  there_or (q ∷ places) zero d p at = some_is at
    where
      some_is : {A : Type 0} {x y : A} → some x ≡ some y → x ≡ y
      some_is e = cc
  there_or (q ∷ places) (suc k) d p at = there_or places k d p at

  pub there_else : (places : List (Option P)) (j : ℕ) (v : Option P) (ks : List ℕ) → ¬ In j ks → Every (IsThere places) ks → Every (IsThere (set places j v)) ks
  there_else places j v [] out all = tt
  there_else places j v (k ∷ ks) out all = ((all.0.0, set_else places j k v (λ e. out (inl e)) ∙ all.0.1), there_else places j v ks (λ h. out (inr h)) all.1)

  set_map : (ps : List P) (k : ℕ) (q : P) → set (map Some ps) k (Some q) ≡ map Some (set ps k q)
  set_map [] k q = refl
  set_map (p ∷ ps) zero q = refl
  set_map (p ∷ ps) (suc k) q = ap (λ ys. Some p ∷ ys) (set_map ps k q)

  set_without : (ks : List ℕ) (xs : List (Option P)) (k : ℕ) (v : Option P) → ¬ In k ks → set (without ks xs) k v ≡ without ks (set xs k v)
  set_without [] xs k v out = refl
  set_without (j ∷ ks) xs k v out = set_without ks (set xs j None) k v (λ h. out (inr h)) ∙ ap (without ks) (set_swap xs j k None v (λ e. out (inl e)))

  -- what was taken out and is put back
  pub put_without : (ks : List ℕ) (qs ps : List P) → Rising ks → Every (λ k. k < length ps) ks → length qs ≡ length ks → put ks (map Some qs) (without ks (map Some ps)) ≡ map Some (put ks qs ps)
  put_without [] qs ps up lt len = refl
  put_without (k ∷ ks) [] ps up lt len = absurd (omega arith)
  put_without (k ∷ ks) (q ∷ qs) ps up lt len =
      ap (put ks (map Some qs)) (set_without ks (set (map Some ps) k None) k (Some q) (above_not_in k ks up) ∙ ap (without ks) (set_set (map Some ps) k None (Some q) ∙ set_map ps k q))
      ∙ put_without ks qs (set ps k q) (rising_rest k ks up) (set_lt ps k q ks lt.1) (omega arith)

  set_same : (ps : List P) (k : ℕ) (p : P) → get_elem? ps k ≡ some p → set ps k p ≡ ps
  set_same [] k p at = refl
  set_same (x ∷ xs) zero p at = let e : x ≡ p = some_is at in ap (λ y. y ∷ xs) (sym e)
    where
      some_is : {A : Type 0} {x y : A} → some x ≡ some y → x ≡ y
      some_is e = cc
  set_same (x ∷ xs) (suc k) p at = ap (λ ys. x ∷ ys) (set_same xs k p at)

  pub put_pick : (ks : List ℕ) (ps : List P) → Every (λ k. k < length ps) ks → put ks (pick ks ps) ps ≡ ps
  put_pick [] ps lt = refl
  put_pick (k ∷ ks) ps lt =
      let at = found_at ps k lt.0 in
      rw at.1 (ap (put ks (pick ks ps)) (set_same ps k at.0 at.1) ∙ put_pick ks ps lt.1)

  map_set : {Q : Type 0} (f : P → Q) (ps : List P) (k : ℕ) (q : P) → map f (set ps k q) ≡ set (map f ps) k (f q)
  map_set f [] k q = refl
  map_set f (p ∷ ps) zero q = refl
  map_set f (p ∷ ps) (suc k) q = ap (λ ys. f p ∷ ys) (map_set f ps k q)

  pub map_put : {Q : Type 0} (f : P → Q) (ks : List ℕ) (qs ps : List P) → map f (put ks qs ps) ≡ put ks (map f qs) (map f ps)
  map_put f [] qs ps = refl
  map_put f (k ∷ ks) [] ps = refl
  map_put f (k ∷ ks) (q ∷ qs) ps = map_put f ks qs (set ps k q) ∙ ap (put ks (map f qs)) (map_set f ps k q)

  map_at : {Q : Type 0} (f : P → Q) (ps : List P) (k : ℕ) (p : P) → get_elem? ps k ≡ some p → get_elem? (map f ps) k ≡ some (f p)
  map_at f [] k p at = cc
  map_at f (x ∷ xs) zero p at = let e : x ≡ p = some_is at in ap (λ y. some (f y)) e
    where
      some_is : {A : Type 0} {x y : A} → some x ≡ some y → x ≡ y
      some_is e = cc
  map_at f (x ∷ xs) (suc k) p at = map_at f xs k p at

  pub pick_map : {Q : Type 0} (f : P → Q) (ks : List ℕ) (ps : List P) → Every (λ k. k < length ps) ks → pick ks (map f ps) ≡ map f (pick ks ps)
  pick_map f [] ps lt = refl
  pick_map f (k ∷ ks) ps lt =
      let at = found_at ps k lt.0 in
      rw (at.1, map_at f ps k at.0 at.1) (ap (λ ys. f at.0 ∷ ys) (pick_map f ks ps lt.1))

  pub next_taking : (slots : List ℕ) (before places : List (Option P)) (held : List (ℕ × P)) (k : ℕ) (rest : List ℕ) (p : P) → Taking slots before places held (k ∷ rest) → get_elem? places k ≡ some (Some p)
      → Taking slots before (set places k None) (held ++ (k, p) ∷ []) rest
  next_taking slots before places held k rest p t at = record {
    there = there_else places k None rest (above_not_in k rest t.rising) t.there.1;
    rising = rising_rest k rest t.rising;
    out = t.out;
    taken = ap (λ ks. ks ++ rest) (map-append fst held ((k, p) ∷ [])) ∙ append_assoc (slots_of held) (k ∷ []) rest ∙ t.taken;
    moved =
        ap (λ ps. map Some ps ++ pick rest (set places k None)) (map-append snd held ((k, p) ∷ []))
        ∙ ap (λ ps. ps ++ pick rest (set places k None)) (map-append Some (parts_of held) (p ∷ []))
        ∙ append_assoc (map Some (parts_of held)) (Some p ∷ []) (pick rest (set places k None))
        ∙ ap (λ ps. map Some (parts_of held) ++ Some p ∷ ps) (pick_set rest places k None (above_not_in k rest t.rising))
        ∙ ap (λ f. map Some (parts_of held) ++ found_also f (pick rest places)) (sym at) ∙ t.moved;
  }

  pub length_without : (ks : List ℕ) (places : List (Option P)) → length (without ks places) ≡ length places
  length_without [] places = refl
  length_without (k ∷ ks) places = length_without ks (set places k None) ∙ length-set places k None

  pub found_of : (places : List (Option P)) (ps : List P) → places ≡ map Some ps → found places ≡ ps
  found_of places ps e = ap found e ∙ found_map ps

pub is_there : {A : Type 0} (o : Option A) → is_some o ≡ true → IsSome o
is_there None e = cc
is_there (Some a) e = search Rattle.std.proofs.Common.rules

option_is : {A : Type 0} {x y : A} → Some x ≡ Some y → x ≡ y
option_is e = cc

-- a place that has its part, read
module _ {P : Type 0} where
  get_some : (ps : List P) (k : ℕ) (d : Option P) → k < length ps → is_some (get_or (map Some ps) k d) ≡ true
  get_some [] k d lt = absurd (omega arith)
  get_some (p ∷ ps) zero d lt = refl
  get_some (p ∷ ps) (suc k) d lt = get_some ps k d (omega arith)

  pub some_there : (places : List (Option P)) (k : ℕ) (d : Option P) → places ≡ map Some (found places) → k < length (found places) → is_some (get_or places k d) ≡ true
  some_there places k d whole lt = subst (λ ps. is_some (get_or ps k d) ≡ true) (sym whole) (get_some (found places) k d lt)

  get_means : (f : P → P) (ps : List P) (k : ℕ) (d : Option P) (p : P) → k < length ps → get_or (map Some ps) k d ≡ Some p → slice_get (map f ps) k ≡ Some (f p)
  get_means f [] k d p lt at = absurd (omega arith)
  get_means f (q ∷ ps) zero d p lt at = ap (λ x. Some (f x)) (option_is at)
  get_means f (q ∷ ps) (suc k) d p lt at = get_means f ps k d p (omega arith) at

  pub means_there : (f : P → P) (places : List (Option P)) (k : ℕ) (d : Option P) (p : P) → places ≡ map Some (found places) → k < length (found places) → get_or places k d ≡ Some p → slice_get (means f places) k ≡ Some (f p)
  means_there f places k d p whole lt at = get_means f (found places) k d p lt (sym (ap (λ ps. get_or ps k d) whole) ∙ at)
