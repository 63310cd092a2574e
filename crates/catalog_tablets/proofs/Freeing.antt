-- Free slots by their counts.
use Rattle.std.proofs.Common.{ℕ, ◌≡◌, ◌+◌, ◌-◌, ◌<◌, Bool, true, false, not, ◌||◌, if◌then◌else◌, List, [], ◌∷◌, ◌++◌, append_assoc, suc, map, sym, ap, ◌∙◌, arith}
use Rattle.std.specs.Prelude.{filter}
use Rattle.row_values.specs.Slots.{has}
use Rattle.model.specs.Activity.{Interval}
use Rattle.model.specs.Parts.{Master}
use Rattle.model.specs.Looks as looks
use Rattle.kept_records.proofs.Looking.{filter_same}
use Rattle.catalog_tablets.specs.View.{slot_of}
use Rattle.catalog_tablets.specs.Slots.{Reserves, free_from, is_free}

-- one slot of those that are left
pub counting_next : (n i : ℕ) → i < n → looks.counting (n - i) (i + 1) ≡ (i + 1) ∷ looks.counting (n - (i + 1)) ((i + 1) + 1)
counting_next n i lt = let e : n - i ≡ suc (n - (i + 1)) = omega (arith, lt) in ap (λ k. looks.counting k (i + 1)) e

-- the book's free slots
pub free_here : (activity : List Interval) (reserved : List ℕ) (slots : ℕ) (m : Master) → m.activity ≡ activity → m.slots ≡ slots → Reserves reserved m.clones
    → free_from activity reserved slots 1 ≡ looks.free_slots m
free_here activity reserved slots m same count right =
    filter_same (is_free activity reserved) (looks.is_free m)
    (λ slot. ap (λ b. not (has (map slot_of activity) slot || b)) (right slot) ∙ ap (λ (is : List Interval). not (has (map slot_of is) slot || looks.is_reserved m.clones slot)) (sym same))
    (looks.counting slots 1)
    ∙ sym (ap (λ n. free_from_of m n) count)
  where
    free_from_of : Master → ℕ → List ℕ
    free_from_of m n = looks.free_slots (record m { slots = n })

-- the next slot passes a test, or it doesn't
module _ (p : ℕ → Bool) (found next all : List ℕ) (slots i : ℕ) where
  abbrev from : ℕ → ℕ → List ℕ
  from count first = filter p (looks.counting count first)

  cut : i < slots → from (slots - i) (i + 1) ≡ filter p ((i + 1) ∷ looks.counting (slots - (i + 1)) ((i + 1) + 1))
  cut lt = ap (filter p) (counting_next slots i lt)

  taken : (b : Bool) → p (i + 1) ≡ b → filter p ((i + 1) ∷ looks.counting (slots - (i + 1)) ((i + 1) + 1))
      ≡ (if b then (i + 1) ∷ from (slots - (i + 1)) (i + 1 + 1) else from (slots - (i + 1)) (i + 1 + 1))
  taken b e = ap (λ c. if c then (i + 1) ∷ from (slots - (i + 1)) (i + 1 + 1) else from (slots - (i + 1)) (i + 1 + 1)) e

  pub one_passes : i < slots → p (i + 1) ≡ true → next ≡ found ++ (i + 1) ∷ [] → found ++ from (slots - i) (i + 1) ≡ all
      → next ++ from (slots - (i + 1)) (i + 1 + 1) ≡ all
  one_passes lt e pushed so_far =
      ap (λ ns. ns ++ from (slots - (i + 1)) (i + 1 + 1)) pushed ∙ append_assoc found ((i + 1) ∷ []) (from (slots - (i + 1)) (i + 1 + 1))
      ∙ sym (ap (λ ns. found ++ ns) (cut lt ∙ taken true e)) ∙ so_far

  pub one_fails : i < slots → p (i + 1) ≡ false → next ≡ found → found ++ from (slots - i) (i + 1) ≡ all
      → next ++ from (slots - (i + 1)) (i + 1 + 1) ≡ all
  one_fails lt e same so_far =
      ap (λ ns. ns ++ from (slots - (i + 1)) (i + 1 + 1)) same ∙ sym (ap (λ ns. found ++ ns) (cut lt ∙ taken false e)) ∙ so_far
