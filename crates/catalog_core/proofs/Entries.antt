-- Owners and marks as the entries of maps.
use Rattle.std.proofs.Common.{ℕ, ◌≡◌, Bool, true, false, cond, List, [], ◌∷◌, map, max, Option, Some, None, if◌then◌else◌, unwrap_or, refl, sym, ap, ◌∙◌}
use Rattle.std.specs.Cmp.{IsEquivalence}
use Rattle.std.specs.Map.{lookup, set_value, keys_of}
use Rattle.std.specs.List.{IsDistinct, AllByRecursion}
use Rattle.indexmap.specs.IndexMap.{insert_entry}
use Rattle.row_values.specs.Ids.{Id, same}
use Rattle.model.specs.Catalog.{KeptFrom, owner_of, kept_from, set_kept_from}
use Rattle.catalog_core.specs.Kept.{owner_entry, mark_entry, mark_raised, raised_to}

module _ (eq : Id → Id → Bool) (laws : IsEquivalence eq) (agree : (a b : Id) → eq a b ≡ same a b) where
  key_test : (k id : Id) → eq id k ≡ same k id
  key_test k id = laws.symm id k ∙ agree k id

  owner_by : (a b : Bool) (x : Id) (y z : Option Id) → a ≡ b → y ≡ z → cond a (Some x) y ≡ (if b then Some x else z)
  owner_by true true x y z e same = refl
  owner_by false false x y z e same = same
  owner_by true false x y z e same = absurd (cc)
  owner_by false true x y z e same = absurd (cc)

  pub owner_here : (es : List (Id × Id)) (table : Id) → lookup (eq table) es ≡ owner_of (map owner_entry es) table
  owner_here [] table = refl
  owner_here (e ∷ es) table = owner_by (eq table e.0) (same e.0 table) e.1 (lookup (eq table) es) _ (key_test e.0 table) (owner_here es table)

  mark_by : (a b : Bool) (x z : ℕ) (y : Option ℕ) → a ≡ b → unwrap_or y 0 ≡ z → unwrap_or (cond a (Some x) y) 0 ≡ (if b then x else z)
  mark_by true true x z y e same = refl
  mark_by false false x z y e same = same
  mark_by true false x z y e same = absurd (cc)
  mark_by false true x z y e same = absurd (cc)

  pub mark_here : (es : List (Id × ℕ)) (ns : Id) → unwrap_or (lookup (eq ns) es) 0 ≡ kept_from (map mark_entry es) ns
  mark_here [] ns = refl
  mark_here (e ∷ es) ns = mark_by (eq ns e.0) (same e.0 ns) e.1 _ (lookup (eq ns) es) (key_test e.0 ns) (mark_here es ns)

  set_by : (a b : Bool) (e : Id × ℕ) (es more : List (Id × ℕ)) (ks : List KeptFrom) (ns : Id) (from : ℕ) (rest : Option ℕ) → a ≡ b → (b ≡ true → e.0 ≡ ns)
      → (a ≡ false → map mark_entry more ≡ ks)
      → map mark_entry (if a then (e.0, raised_to (cond a (Some e.1) rest) from) ∷ es else e ∷ more)
      ≡ (if b then record { namespace = ns; from = max e.1 from } ∷ map mark_entry es else mark_entry e ∷ ks)
  set_by true true e es more ks ns from rest same is next = let n = is refl in ap (λ m. record { namespace = m; from = max e.1 from } ∷ map mark_entry es) n
  set_by false false e es more ks ns from rest same is next = ap (λ k. mark_entry e ∷ k) (next refl)
  set_by true false e es more ks ns from rest same is next = absurd (cc)
  set_by false true e es more ks ns from rest same is next = absurd (cc)

  -- a mark that is set, or raised
  pub mark_set : ((a b : Id) → same a b ≡ true → a ≡ b) → (es : List (Id × ℕ)) (ns : Id) (from : ℕ)
      → map mark_entry (insert_entry eq es ns (raised_to (lookup (eq ns) es) from)) ≡ set_kept_from (map mark_entry es) ns from
  mark_set equal [] ns from = refl
  mark_set equal (e ∷ es) ns from =
      set_by (eq ns e.0) (same e.0 ns) e es (insert_entry eq es ns (raised_to (cond (eq ns e.0) (Some e.1) (lookup (eq ns) es)) from)) (set_kept_from (map mark_entry es) ns from) ns from
      (lookup (eq ns) es) (key_test e.0 ns) (equal e.0 ns)
      (λ other. ap (λ b. map mark_entry (insert_entry eq es ns (raised_to (cond b (Some e.1) (lookup (eq ns) es)) from))) other ∙ mark_set equal es ns from)

  stays_by : (b : Bool) (k : KeptFrom) (from : ℕ) → b ≡ false → record k { from = if b then max k.from from else k.from } ≡ k
  stays_by true k from other = absurd (cc)
  stays_by false k from other = refl

  apart_all : (es : List (Id × ℕ)) (k ns : Id) (from : ℕ) → eq ns k ≡ true → AllByRecursion (λ y. eq k y ≡ false) (keys_of es) → map (mark_raised ns from) (map mark_entry es) ≡ map mark_entry es
  apart_all [] k ns from same apart = refl
  apart_all (e ∷ es) k ns from here apart =
      let other : same e.0 ns ≡ false = sym (key_test e.0 ns) ∙ laws.congr ns k e.0 here ∙ apart.0 in
      let head = stays_by (same e.0 ns) (mark_entry e) from other in
      let tail = apart_all es k ns from here apart.1 in
      ap (λ h. h ∷ map (mark_raised ns from) (map mark_entry es)) head ∙ ap (λ t. mark_entry e ∷ t) tail

  raise_by : (a b : Bool) (e : Id × ℕ) (es more : List (Id × ℕ)) (ns : Id) (from old : ℕ) (rest : Option ℕ) → a ≡ b → cond a (Some e.1) rest ≡ Some old
      → (a ≡ true → map (mark_raised ns from) (map mark_entry es) ≡ map mark_entry es)
      → (rest ≡ Some old → map mark_entry more ≡ map (mark_raised ns from) (map mark_entry es))
      → map mark_entry (cond a ((e.0, max old from) ∷ es) (e ∷ more))
      ≡ record (mark_entry e) { from = if b then max e.1 from else e.1 } ∷ map (mark_raised ns from) (map mark_entry es)
  raise_by true true e es more ns from old rest same is stay next =
      let v : e.1 ≡ old = cc in
      ap (λ w. record { namespace = e.0; from = max w from } ∷ map mark_entry es) (sym v) ∙ ap (λ t. record { namespace = e.0; from = max e.1 from } ∷ t) (sym (stay refl))
  raise_by false false e es more ns from old rest same is stay next = ap (λ t. mark_entry e ∷ t) (next is)
  raise_by true false e es more ns from old rest same is stay next = absurd (cc)
  raise_by false true e es more ns from old rest same is stay next = absurd (cc)

  -- a mark that rises
  pub mark_rises : (es : List (Id × ℕ)) (ns : Id) (from old : ℕ) → IsDistinct eq (keys_of es) → lookup (eq ns) es ≡ Some old
      → map mark_entry (set_value (eq ns) es (max old from)) ≡ map (mark_raised ns from) (map mark_entry es)
  unfolding IsDistinct
  mark_rises [] ns from old distinct is = absurd (cc)
  mark_rises (e ∷ es) ns from old distinct is =
      raise_by (eq ns e.0) (same e.0 ns) e es (set_value (eq ns) es (max old from)) ns from old (lookup (eq ns) es) (key_test e.0 ns) is
      (λ here. apart_all es e.0 ns from here distinct.0) (λ later. mark_rises es ns from old distinct.1 later)

  none_by : (a b : Bool) (e : Id × ℕ) (es : List (Id × ℕ)) (ns : Id) (from : ℕ) (rest : Option ℕ) → a ≡ b → cond a (Some e.1) rest ≡ None
      → (rest ≡ None → map mark_entry es ≡ map (mark_raised ns from) (map mark_entry es))
      → mark_entry e ∷ map mark_entry es ≡ record (mark_entry e) { from = if b then max e.1 from else e.1 } ∷ map (mark_raised ns from) (map mark_entry es)
  none_by true b e es ns from rest same is next = absurd (cc)
  none_by false true e es ns from rest same is next = absurd (cc)
  none_by false false e es ns from rest same is next = ap (λ t. mark_entry e ∷ t) (next is)

  pub mark_absent : (es : List (Id × ℕ)) (ns : Id) (from : ℕ) → lookup (eq ns) es ≡ None → map mark_entry es ≡ map (mark_raised ns from) (map mark_entry es)
  mark_absent [] ns from none = refl
  mark_absent (e ∷ es) ns from none = none_by (eq ns e.0) (same e.0 ns) e es ns from (lookup (eq ns) es) (key_test e.0 ns) none (λ h. mark_absent es ns from h)
