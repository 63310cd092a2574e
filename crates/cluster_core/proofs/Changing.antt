-- What tablets' parts are told by what the master decides.
use Rattle.std.proofs.Common.{◌≡◌, ℕ, zero, suc, ◌+◌, ◌<◌, List, [], ◌∷◌, ◌++◌, map, length, drop, get_or, sym, ap, arith, ◌∙◌, append_assoc}
use Rattle.std.proofs.lemmas.List.{map-append}
use Rattle.model.specs.Tablets.{Tablet, Told}
use Rattle.master_part.specs.declared.change.PartChange.{PartChange}
use Rattle.tablet_acts.specs.Tellings.{Suits, SlotTelling, told_of}
use Rattle.cluster_core.specs.Plans.{AllSuit}

pub change_at : (i : ℕ) (changes : List PartChange) (x : PartChange) → i < length changes → x ≡ get_or changes i x → drop i changes ≡ x ∷ drop (i + 1) changes
change_at i changes x lt is = let one : suc i ≡ i + 1 = omega arith in go i changes lt is ∙ ap (λ k. x ∷ drop k changes) one
  where
    go : (i : ℕ) (changes : List PartChange) → i < length changes → x ≡ get_or changes i x → drop i changes ≡ x ∷ drop (suc i) changes
    go i [] lt is = absurd (omega arith)
    go zero (y ∷ ys) lt is = ap (λ z. z ∷ ys) (sym is)
    go (suc i) (y ∷ ys) lt is = go i ys (omega arith) is

pub told_next : (f : PartChange → Told) (changes : List PartChange) (ts : List SlotTelling) (i : ℕ) (x : PartChange) (t : SlotTelling) → drop i changes ≡ x ∷ drop (i + 1) changes → told_of t ≡ f x
    → map told_of ts ++ map f (drop i changes) ≡ map f changes → map told_of (ts ++ t ∷ []) ++ map f (drop (i + 1) changes) ≡ map f changes
told_next f changes ts i x t here is so_far =
    let rest = map f (drop (i + 1) changes) in
    ap (λ (xs : List Told). xs ++ rest) (map-append told_of ts (t ∷ [])) ∙ append_assoc (map told_of ts) (told_of t ∷ []) rest
    ∙ ap (λ (y : Told). map told_of ts ++ y ∷ rest) is ∙ ap (λ (xs : List PartChange). map told_of ts ++ map f xs) (sym here) ∙ so_far

pub suits_next : (ts : List SlotTelling) (t : SlotTelling) (n : ℕ) (at : ℕ → Tablet) → AllSuit ts n at → ((tablet : Tablet) → Suits t.telling n tablet) → AllSuit (ts ++ t ∷ []) n at
suits_next [] t n at all suits = (suits (at t.slot), tt)
suits_next (x ∷ ts) t n at all suits = (all.0, suits_next ts t n at all.1 suits)
