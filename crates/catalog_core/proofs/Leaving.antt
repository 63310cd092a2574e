-- What a prune leaves: marks that rose one after another, records that are counted as they go.
use Rattle.std.proofs.Common.{ℕ, zero, suc, ◌≡◌, ◌+◌, ◌<◌, Bool, true, false, not, cond, List, [], ◌∷◌, ◌++◌, map, take, drop, Option, Some, None, length, slice_get, is_some, refl, sym, ap, ◌∙◌, arith}
use Rattle.std.specs.List.{filter, list_any}
use Rattle.std.specs.Cmp.{IsEquivalence}
use Rattle.indexmap.specs.IndexMap.{set_value_at}
use Rattle.row_values.specs.Ids.{Id, same}
use Rattle.model.specs.Times.{is_open, ended_by}
use Rattle.model.specs.Catalog.{NamespaceRecord}
use Rattle.newest_index.specs.Newest.{last_place}
use Rattle.newest_index.proofs.Opens.{last_place-same}
use Rattle.newest_index.proofs.Turns.{last_place-map}
use Rattle.catalog_core.specs.Kept.{mark_entry, space_id}
use Rattle.catalog_core.specs.Pruned.{entry_risen, mark_risen}
use Rattle.catalog_core.proofs.InSpaces.{any_last}

module _ (risen : Id → ℕ → ℕ) where
  -- the first of the entries rose
  abbrev pub risen_to : ℕ → List (Id × ℕ) → List (Id × ℕ)
  risen_to n es = map (entry_risen risen) (take n es) ++ drop n es

  -- the entry of a place is as it was, and once it rises one more did
  pub risen_at : (es : List (Id × ℕ)) (n : ℕ) (e : Id × ℕ) → slice_get es n ≡ Some e → slice_get (risen_to n es) n ≡ Some e
  risen_at [] n e is = absurd (cc)
  risen_at (d ∷ es) zero e is = is
  risen_at (d ∷ es) (suc n) e is = risen_at es n e is

  pub risen_next : (es : List (Id × ℕ)) (n : ℕ) (e : Id × ℕ) → slice_get es n ≡ Some e → set_value_at (risen_to n es) n (risen e.0 e.1) ≡ risen_to (suc n) es
  risen_next [] n e is = absurd (cc)
  risen_next (d ∷ es) zero e is = let it : d ≡ e = cc in ap (λ (c : Id × ℕ). (d.0, risen c.0 c.1) ∷ es) (sym it)
  risen_next (d ∷ es) (suc n) e is = ap (λ ds. entry_risen risen d ∷ ds) (risen_next es n e is)

  pub entry_at : (es : List (Id × ℕ)) (n : ℕ) → n < length es → (e : Id × ℕ) × (slice_get es n ≡ Some e)
  entry_at [] n lt = absurd (omega (arith, lt))
  entry_at (e ∷ es) zero lt = (e, refl)
  entry_at (d ∷ es) (suc n) lt = entry_at es n (omega (arith, lt))

  pub marks_risen : (es : List (Id × ℕ)) → map mark_entry (map (entry_risen risen) es) ≡ map (mark_risen risen) (map mark_entry es)
  marks_risen [] = refl
  marks_risen (e ∷ es) = ap (λ ks. mark_risen risen (mark_entry e) ∷ ks) (marks_risen es)

  pub risen_all : (es : List (Id × ℕ)) (n : ℕ) → n ≡ length es → risen_to n es ≡ map (entry_risen risen) es
  risen_all [] zero e = refl
  risen_all [] (suc n) e = absurd (cc)
  risen_all (d ∷ es) zero e = absurd (cc)
  risen_all (d ∷ es) (suc n) e = ap (λ ds. entry_risen risen d ∷ ds) (risen_all es n (omega (arith, e)))

  pub length-risen_to : (es : List (Id × ℕ)) (n : ℕ) → length (risen_to n es) ≡ length es
  length-risen_to [] zero = refl
  length-risen_to [] (suc n) = refl
  length-risen_to (d ∷ es) zero = refl
  length-risen_to (d ∷ es) (suc n) = ap suc (length-risen_to es n)

-- what goes and what stays are all
gone_by : {R : Type 0} (goes : R → Bool) (r : R) (rs : List R) (b : Bool) → length (filter goes rs) + length (filter (λ r. not (goes r)) rs) ≡ length rs
    → length (cond b (r ∷ filter goes rs) (filter goes rs)) + length (cond (not b) (r ∷ filter (λ r. not (goes r)) rs) (filter (λ r. not (goes r)) rs)) ≡ length (r ∷ rs)
gone_by goes r rs true rest = omega (arith, rest)
gone_by goes r rs false rest = omega (arith, rest)

pub gone_and_left : {R : Type 0} (goes : R → Bool) (rs : List R) → length (filter goes rs) + length (filter (λ r. not (goes r)) rs) ≡ length rs
gone_and_left goes [] = refl
gone_and_left goes (r ∷ rs) = gone_by goes r rs (goes r) (gone_and_left goes rs)

-- what is current stays
pub open_stays : (at : ℕ) (o : Option ℕ) → is_open o ≡ true → not (ended_by at o) ≡ true
open_stays at None e = refl
open_stays at (Some t) e = absurd (cc)

pub space_here : (eq : Id → Id → Bool) → IsEquivalence eq → ((a b : Id) → eq a b ≡ same a b) → (rs : List NamespaceRecord) (ns : Id)
    → is_some (last_place (eq ns) (map space_id rs)) ≡ list_any (λ (r : NamespaceRecord). same r.id ns) rs
space_here eq laws agree rs ns =
    ap is_some (last_place-map space_id (eq ns) rs
    ∙ last_place-same (λ (r : NamespaceRecord). eq ns r.id) (λ (r : NamespaceRecord). same r.id ns) (λ r. laws.symm ns r.id ∙ agree r.id ns) rs)
    ∙ any_last (λ (r : NamespaceRecord). same r.id ns) rs
