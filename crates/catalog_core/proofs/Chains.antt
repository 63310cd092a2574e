-- Records whose names have one number are walked back to the last that passes a test.
use Rattle.std.proofs.Common.{ℕ, ◌≡◌, ◌<◌, Bool, true, false, List, map, Some, None, if◌then◌else◌, length, take, slice_get, nat_eq, sym, ap, ◌∙◌, arith}
use Rattle.std.proofs.lemmas.Grind.{common_steps}
use Rattle.std.proofs.lemmas.List.{length-map}
use Rattle.newest_index.specs.Newest.{last_place}
use Rattle.newest_index.proofs.Opens.{last_place-at, mapped_at}
use Rattle.newest_index.proofs.Walks.{last_none, last_some}
use Rattle.newest_index.proofs.Gathering.{take_all, take_within}

-- at a place of the walk stands a record with the number, and the place is before the end
pub record Stop {R : Type 0} (code : R → ℕ) (c n p : ℕ) (rs : List R) : Type 0 where
  pub before : p < n
  pub one : R
  pub stands : slice_get rs p ≡ Some one
  pub coded : slice_get (map code rs) p ≡ Some c

equal_code : (c d : ℕ) → nat_eq c d ≡ true → c ≡ d
equal_code c d e = grind (arith, common_steps, e)

module _ {R : Type 0} (code : R → ℕ) (c : ℕ) (q : R → Bool) (only : (r : R) → nat_eq c (code r) ≡ false → q r ≡ false) where
  pub starts_codes : (rs : List R) (n : ℕ) → n ≡ length rs → take n (map code rs) ≡ map code rs
  starts_codes rs n whole = ap (λ m. take m (map code rs)) (whole ∙ sym (length-map rs code)) ∙ take_all (map code rs)

  pub starts : (rs : List R) (n : ℕ) → n ≡ length rs → last_place q rs ≡ last_place q (take n rs)
  starts rs n whole = sym (ap (λ m. last_place q (take m rs)) whole ∙ ap (last_place q) (take_all rs))

  pub stops : (rs : List R) (n p : ℕ) → last_place (nat_eq c) (take n (map code rs)) ≡ Some p → Stop code c n p rs
  stops rs n p at =
      let l = last_place-at (nat_eq c) (take n (map code rs)) p at in
      let t = take_within n (map code rs) p l.0 l.1 in
      let m = mapped_at code rs p l.0 t.1 in
      record {
        before = t.0;
        one = m.0;
        stands = m.1;
        coded = t.1 ∙ ap Some (sym (equal_code c l.0 l.2));
      }

  -- the record of the place passes
  pub passes_here : (rs : List R) (n p : ℕ) (r : R) → slice_get rs p ≡ Some r → last_place (nat_eq c) (take n (map code rs)) ≡ Some p → q r ≡ true
      → last_place q (take n rs) ≡ Some p
  passes_here rs n p r is at mine = last_some code (nat_eq c) q only rs n p r is at ∙ ap (λ b. if b then Some p else last_place q (take p rs)) mine

  -- it does not
  pub goes_on : (rs : List R) (n p : ℕ) (r : R) → slice_get rs p ≡ Some r → last_place (nat_eq c) (take n (map code rs)) ≡ Some p → q r ≡ false
      → last_place q (take n rs) ≡ last_place q (take p rs)
  goes_on rs n p r is at other = last_some code (nat_eq c) q only rs n p r is at ∙ ap (λ b. if b then Some p else last_place q (take p rs)) other

  pub ends : (rs : List R) (n : ℕ) → last_place (nat_eq c) (take n (map code rs)) ≡ None → last_place q (take n rs) ≡ None
  ends rs n none = last_none code (nat_eq c) q only rs n none
