-- Which slots are free.
use Rattle.std.proofs.Common.{ℕ, ◌≡◌, ◌+◌, ◌-◌, ◌<◌, Bool, true, false, cond, List, [], ◌∷◌, ◌++◌, if◌then◌else◌, suc, refl, sym, ap, ◌∙◌, append_assoc, arith}
use Rattle.std.specs.List.{filter}
use Rattle.model.specs.Parts.{Master}
use Rattle.model.specs.Looks.{counting, is_free, free_slots}
use Rattle.master_part.specs.Free.{free_above}

-- one slot of those that are left
pub counting_next : (n i : ℕ) → i < n → counting (n - i) (i + 1) ≡ (i + 1) ∷ counting (n - (i + 1)) ((i + 1) + 1)
counting_next n i lt = let e : n - i ≡ suc (n - (i + 1)) = omega (arith, lt) in ap (λ k. counting k (i + 1)) e

pub free_all : (m : Master) → free_slots m ≡ free_above m 0
free_all m =
    let e : m.slots ≡ m.slots - 0 = omega arith in
    let f : 1 ≡ 0 + 1 = omega arith in
    ap (λ k. filter (is_free m) (counting k 1)) e ∙ ap (λ k. filter (is_free m) (counting (m.slots - 0) k)) f

-- one slot more, if it is free
free_by : (b : Bool) (x : ℕ) (free rest : List ℕ) → (if b then free ++ x ∷ [] else free) ++ rest ≡ free ++ cond b (x ∷ rest) rest
free_by true x free rest = append_assoc free (x ∷ []) rest
free_by false x free rest = refl

pub free_step : (m : Master) (free : List ℕ) (slots i : ℕ) → i < slots
    → (if is_free m (i + 1) then free ++ (i + 1) ∷ [] else free) ++ filter (is_free m) (counting (slots - (i + 1)) ((i + 1) + 1))
    ≡ free ++ filter (is_free m) (counting (slots - i) (i + 1))
free_step m free slots i lt =
    free_by (is_free m (i + 1)) (i + 1) free (filter (is_free m) (counting (slots - (i + 1)) ((i + 1) + 1)))
    ∙ ap (λ xs. free ++ filter (is_free m) xs) (sym (counting_next slots i lt))
