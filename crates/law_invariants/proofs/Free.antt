-- The free slots that a plan takes differ, and hold no tablet.
use Rattle.std.proofs.Common.{ℕ, suc, zero, ◌≡◌, ◌≤◌, ◌<◌, ◌+◌, List, [], ◌∷◌, length, map, take, Bool, true, false, ◌||◌, inl, inr, refl, sym, ap, ◌∙◌, arith, not, le_trans, length-take-le}
use Rattle.std.specs.List.{filter}
use Rattle.std.proofs.lemmas.Bool.{cond_both, true≢false}
use Rattle.model.specs.Cluster.{In, has, Interval, Master}
use Rattle.model.specs.Looks.{counting, is_free, free_slots, is_reserved}
use Rattle.law_invariants.proofs.Finding.{filter_in, map_in}
use Rattle.law_invariants.proofs.Plans.{has_in}

-- the slots rise, from one on
abbrev pub RiseFrom : ℕ → List ℕ → Type 0
RiseFrom low [] = Unit {0}
RiseFrom low (s ∷ ss) = (low ≤ s) × RiseFrom (s + 1) ss

rise_lower : (ss : List ℕ) (low lower : ℕ) → lower ≤ low → RiseFrom low ss → RiseFrom lower ss
rise_lower [] low lower le h = tt
rise_lower (s ∷ ss) low lower le h = (le_trans le h.0, h.1)

rise_counting : (count from : ℕ) → RiseFrom from (counting count from)
rise_counting zero from = tt
rise_counting (suc count) from = (omega arith, rise_counting count (from + 1))

rise_filter : (ss : List ℕ) (test : ℕ → Bool) (low : ℕ) → RiseFrom low ss → RiseFrom low (filter test ss)
rise_filter [] test low h = tt
rise_filter (s ∷ ss) test low h = cond_both (test s) (s ∷ filter test ss) (filter test ss) (RiseFrom low)
    (λ e. (h.0, rise_filter ss test (s + 1) h.1))
    (λ e. rise_lower (filter test ss) (s + 1) low (let l : low ≤ s = h.0 in omega arith) (rise_filter ss test (s + 1) h.1))

rise_take : (ss : List ℕ) (count low : ℕ) → RiseFrom low ss → RiseFrom low (take count ss)
rise_take [] zero low h = tt
rise_take [] (suc count) low h = tt
rise_take (s ∷ ss) zero low h = tt
rise_take (s ∷ ss) (suc count) low h = (h.0, rise_take ss count (s + 1) h.1)

pub rise_in : (ss : List ℕ) (low slot : ℕ) → RiseFrom low ss → In slot ss → low ≤ slot
rise_in [] low slot h isin = absurd isin
rise_in (s ∷ ss) low slot h (inl e) = let l : low ≤ s = h.0 in omega arith
rise_in (s ∷ ss) low slot h (inr isin) = let l : low ≤ s = h.0 in let r : s + 1 ≤ slot = rise_in ss (s + 1) slot h.1 isin in omega arith

in_take : (ss : List ℕ) (count slot : ℕ) → In slot (take count ss) → In slot ss
in_take [] zero slot isin = absurd isin
in_take [] (suc count) slot isin = absurd isin
in_take (s ∷ ss) zero slot isin = absurd isin
in_take (s ∷ ss) (suc count) slot (inl e) = inl e
in_take (s ∷ ss) (suc count) slot (inr isin) = inr (in_take ss count slot isin)

in_counting : (count from slot : ℕ) → In slot (counting count from) → slot < from + count
in_counting zero from slot isin = absurd isin
in_counting (suc count) from slot (inl e) = omega arith
in_counting (suc count) from slot (inr isin) = let l : slot < from + 1 + count = in_counting count (from + 1) slot isin in omega arith

-- the slots that a new table's tablets take
pub record AreFree (m : Master) (count : ℕ) (slots : List ℕ) : Type 0 where
  pub long : length slots ≡ count
  pub rise : RiseFrom 1 slots
  pub to : (slot : ℕ) → In slot slots → slot ≤ m.slots
  pub vacant : (slot : ℕ) → In slot slots → (i : Interval) → In i m.activity → i.slot ≡ slot → ⊥
  pub unreserved : (slot : ℕ) → In slot slots → is_reserved m.clones slot ≡ false

no_tablet : (m : Master) (slot : ℕ) (i : Interval) → is_free m slot ≡ true → In i m.activity → i.slot ≡ slot → ⊥
no_tablet m slot i free isin is =
    let there : has (map (λ i. i.slot) m.activity) slot ≡ true = ap (has (map (λ i. i.slot) m.activity)) (sym is) ∙ has_in (map (λ i. i.slot) m.activity) i.slot (map_in (λ i. i.slot) m.activity i isin) in
    let taken : is_free m slot ≡ false = ap (λ b. not (b || is_reserved m.clones slot)) there in
    true≢false (sym free ∙ taken)

neither_has : (a b : Bool) → not (a || b) ≡ true → b ≡ false
neither_has true b e = absurd (let q = e in grind arith)
neither_has false true e = absurd (let q = e in grind arith)
neither_has false false e = refl

pub least_free : (m : Master) (count : ℕ) → count ≤ length (free_slots m) → AreFree m count (take count (free_slots m))
least_free m count enough =
    let all = counting m.slots 1 in
    let isin : (slot : ℕ) → In slot (take count (free_slots m)) → In slot all × (is_free m slot ≡ true) = λ slot isin. filter_in all (is_free m) slot (in_take (free_slots m) count slot isin) in
    record {
      long = length-take-le count (free_slots m) enough;
      rise = rise_take (free_slots m) count 1 (rise_filter all (is_free m) 1 (rise_counting m.slots 1));
      to = λ slot h. (let l : slot < 1 + m.slots = in_counting m.slots 1 slot (isin slot h).0 in omega arith);
      vacant = λ slot h i listed is. no_tablet m slot i (isin slot h).1 listed is;
      unreserved = λ slot h. neither_has (has (map (λ i. i.slot) m.activity) slot) (is_reserved m.clones slot) (isin slot h).1;
    }
