-- A table goes on under another record: what the end of its current one leaves.
use Rattle.std.proofs.Common.{ℕ, ◌≡◌, Bool, true, false, ◌&&◌, List, [], ◌∷◌, Option, Some, None, if◌then◌else◌, slice_get, nat_le, refl, sym, ap, ◌∙◌, arith}
use Rattle.std.proofs.lemmas.Grind.{common_steps}
use Rattle.std.proofs.lemmas.Option.{slice_get-map}
use Rattle.std.specs.Option.{option_map}
use Rattle.std.specs.Cmp.{IsEquivalence}
use Rattle.row_values.specs.Ids.{Id, same}
use Rattle.model.specs.Times.{is_open, ended}
use Rattle.model.specs.Catalog.{TableRecord, current_named, current_table, end_table}
use Rattle.newest_index.specs.Newest.{last_place, if_open, open_at, InTurn}
use Rattle.newest_index.proofs.Turns.{last_place-map}
use Rattle.catalog_core.specs.Kept.{is_current_table, same_table_name, table_over, is_sought, over_or_open, ends_by, is_free_for}
use Rattle.catalog_core.proofs.Found.{ends, named_here, ended_names}

-- no record ends later than before, or than the end

self_le : (n : ℕ) → nat_le n n ≡ true
self_le n = grind (arith, common_steps)

pub still_past : (b : Bool) (o : Option ℕ) (at : ℕ) → over_or_open at o ≡ true → over_or_open at (if b then ended at o else o) ≡ true
still_past true None at e = self_le at
still_past true (Some t) at e = e
still_past false o at e = e

pub and_left : (a b : Bool) → (a && b) ≡ true → a ≡ true
and_left true b e = refl
and_left false b e = e

pub and_right : (a b : Bool) → (a && b) ≡ true → b ≡ true
and_right true b e = e
and_right false b e = absurd (cc)

pub and_both : (a b : Bool) → a ≡ true → b ≡ true → (a && b) ≡ true
and_both true b first second = second
and_both false b first second = absurd (cc)

pub ended_past : (rs : List TableRecord) (id : Id) (at : ℕ) → ends_by at rs ≡ true → ends_by at (end_table id at rs) ≡ true
ended_past [] id at past = refl
ended_past (r ∷ rs) id at past =
    and_both (over_or_open at (if same r.id id then ended at r.to else r.to)) (ends_by at (end_table id at rs))
    (still_past (same r.id id) r.to at (and_left (over_or_open at r.to) (ends_by at rs) past))
    (ended_past rs id at (and_right (over_or_open at r.to) (ends_by at rs) past))

-- nothing current has the identifier any more

shut_id : (o : Option ℕ) (b : Bool) (at : ℕ) → (is_open (if b then ended at o else o) && b) ≡ false
shut_id None true at = refl
shut_id (Some t) true at = refl
shut_id None false at = refl
shut_id (Some t) false at = refl

pub ended_fresh : (rs : List TableRecord) (id : Id) (at : ℕ) → current_table (end_table id at rs) id ≡ None
ended_fresh [] id at = refl
ended_fresh (r ∷ rs) id at =
    ap (λ b. if b then Some (ends id at r) else current_table (end_table id at rs) id) (shut_id r.to (same r.id id) at) ∙ ended_fresh rs id at

-- nor its name, where it was its own

closed : (b : Bool) (t at : ℕ) → is_open (if b then ended at (Some t) else Some t) ≡ false
closed true t at = refl
closed false t at = refl

shut_own : (id : Id) (at : ℕ) (r : TableRecord) (o : Option ℕ) → is_free_for id (if is_open o then Some r else None) ≡ true
    → is_open (if same r.id id then ended at o else o) ≡ false
shut_own id at r None own = ap (λ b. is_open (if b then ended at None else None)) own
shut_own id at r (Some t) own = closed (same r.id id) t at

shut_at : (rs : List TableRecord) (id : Id) (at : ℕ) (p : Option ℕ) → is_free_for id (open_at is_current_table rs p) ≡ true
    → open_at is_current_table (end_table id at rs) p ≡ None
shut_at rs id at None free = refl
shut_at rs id at (Some p) free = ap (if_open is_current_table) (slice_get-map (ends id at) rs p) ∙ by (slice_get rs p) refl
  where
    by : (o : Option TableRecord) → slice_get rs p ≡ o → if_open is_current_table (option_map (ends id at) o) ≡ None
    by None is = refl
    by (Some r) is =
        ap (λ b. if b then Some (ends id at r) else None)
        (shut_own id at r r.to (sym (ap (λ o. is_free_for id (if_open is_current_table o)) is) ∙ free))

module _ (eq : Id → Id → Bool) (laws : IsEquivalence eq) (agree : (a b : Id) → eq a b ≡ same a b) (equal : (a b : Id) → same a b ≡ true → a ≡ b) where
  pub ended_free : (rs : List TableRecord) (id ns : Id) (name : List ℕ) (at : ℕ) → InTurn same_table_name table_over rs
      → is_free_for id (current_named rs ns name) ≡ true → current_named (end_table id at rs) ns name ≡ None
  ended_free rs id ns name at turn free =
      named_here eq laws agree equal (end_table id at rs) ns name (ended_names rs id at turn)
      ∙ ap (open_at is_current_table (end_table id at rs)) (last_place-map (ends id at) (is_sought ns name None) rs)
      ∙ shut_at rs id at (last_place (is_sought ns name None) rs)
      (ap (is_free_for id) (sym (named_here eq laws agree equal rs ns name turn)) ∙ free)
