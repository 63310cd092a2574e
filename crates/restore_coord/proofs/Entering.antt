-- A restoration that enters a state, of which one record alone has the identifier.
use Rattle.std.proofs.Common.{ℕ, zero, suc, ◌≡◌, ◌≤◌, ◌||◌, Bool, true, false, cond, List, [], ◌∷◌, Some, if◌then◌else◌, length, slice_get, get_or, slice_set, refl, sym, ap, ◌∙◌, arith}
use Rattle.std.specs.List.{filter, list_any}
use Rattle.row_values.specs.Ids.{Id, same}
use Rattle.model.specs.Records.{Listed, RestorationState, RestorationRecord}
use Rattle.restore_coord.specs.View.{entered, entered_in}

pub at_place : (rs : List RestorationRecord) (p : ℕ) (r other : RestorationRecord) → slice_get rs p ≡ Some r → get_or rs p other ≡ r
at_place [] p r other is = absurd (cc)
at_place (q ∷ rs) zero r other is = cc
at_place (q ∷ rs) (suc p) r other is = at_place rs p r other is

module _ (id : Id) (state : RestorationState) (listed : List Listed) where
  -- whether a record is of the identifier
  abbrev pub of_id : RestorationRecord → Bool
  of_id r = same r.id id

  abbrev pub entered_by : Bool → RestorationRecord → RestorationRecord
  entered_by b r = record r { listed = if b then listed else r.listed; state = if b then state else r.state }

  few_entered : (rs : List RestorationRecord) → length (filter of_id rs) ≤ 0 → entered_in id state listed rs ≡ rs
  few_entered [] few = refl
  few_entered (r ∷ rs) few = by (few_entered rs) (of_id r) few
    where
      by : (length (filter of_id rs) ≤ 0 → entered_in id state listed rs ≡ rs) → (b : Bool) → length (cond b (r ∷ filter of_id rs) (filter of_id rs)) ≤ 0
          → entered_by b r ∷ entered_in id state listed rs ≡ r ∷ rs
      by rest true few = absurd (omega (arith, few))
      by rest false few = ap (λ xs. r ∷ xs) (rest few)

  pub none_entered : (rs : List RestorationRecord) → list_any of_id rs ≡ false → entered_in id state listed rs ≡ rs
  none_entered [] none = refl
  none_entered (r ∷ rs) none = by (none_entered rs) (of_id r) none
    where
      by : (list_any of_id rs ≡ false → entered_in id state listed rs ≡ rs) → (b : Bool) → (b || list_any of_id rs) ≡ false
          → entered_by b r ∷ entered_in id state listed rs ≡ r ∷ rs
      by rest true none = absurd (cc)
      by rest false none = ap (λ xs. r ∷ xs) (rest none)

  some_of : (rs : List RestorationRecord) (p : ℕ) (r : RestorationRecord) → slice_get rs p ≡ Some r → of_id r ≡ true
      → 1 ≤ length (filter of_id rs)
  some_of [] p r is it = absurd (cc)
  some_of (q ∷ rs) zero r is it = let e : q ≡ r = cc in by (of_id q) (ap of_id e ∙ it)
    where
      by : (b : Bool) → b ≡ true → 1 ≤ length (cond b (q ∷ filter of_id rs) (filter of_id rs))
      by true t = omega arith
      by false t = absurd (cc)
  some_of (q ∷ rs) (suc p) r is it = by (of_id q) (some_of rs p r is it)
    where
      by : (b : Bool) → 1 ≤ length (filter of_id rs) → 1 ≤ length (cond b (q ∷ filter of_id rs) (filter of_id rs))
      by true rest = omega arith
      by false rest = rest

  pub entered_at : (rs : List RestorationRecord) (p : ℕ) (r : RestorationRecord) → length (filter of_id rs) ≤ 1
      → slice_get rs p ≡ Some r → of_id r ≡ true
      → slice_set rs p (entered state listed r) ≡ entered_in id state listed rs
  entered_at [] p r once is it = absurd (cc)
  entered_at (q ∷ rs) zero r once is it =
      let e : q ≡ r = cc in
      ap (λ (x : RestorationRecord). entered state listed x ∷ rs) (sym e) ∙ by (of_id q) (ap of_id e ∙ it) once
    where
      by : (b : Bool) → b ≡ true → length (cond b (q ∷ filter of_id rs) (filter of_id rs)) ≤ 1
          → entered state listed q ∷ rs ≡ entered_by b q ∷ entered_in id state listed rs
      by true t once = ap (λ xs. entered state listed q ∷ xs) (sym (few_entered rs (omega (arith, once))))
      by false t once = absurd (cc)
  entered_at (q ∷ rs) (suc p) r once is it = by (entered_at rs p r) (of_id q) once
    where
      by : (length (filter of_id rs) ≤ 1 → slice_get rs p ≡ Some r → of_id r ≡ true → slice_set rs p (entered state listed r) ≡ entered_in id state listed rs)
          → (b : Bool) → length (cond b (q ∷ filter of_id rs) (filter of_id rs)) ≤ 1
          → q ∷ slice_set rs p (entered state listed r) ≡ entered_by b q ∷ entered_in id state listed rs
      by rest true once = let some = some_of rs p r is it in absurd (omega (arith, once, some))
      by rest false once = ap (λ xs. q ∷ xs) (rest once is it)
