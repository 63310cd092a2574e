-- Records of one table are of one namespace.
use Rattle.std.proofs.Common.{inl, inr, ℕ, zero, suc, ◌≡◌, List, [], ◌∷◌, Some, sym, ap, ◌∙◌}
use Rattle.std.specs.Prelude.{slice_get}
use Rattle.row_values.specs.Ids.{same}
use Rattle.row_values.specs.Elements.{In}
use Rattle.model.specs.Catalog.{TableRecord, Owner, owner_of}
use Rattle.law_invariants.proofs.Finding.{same_equal, same_self}
use Rattle.catalog_core.specs.Begins.{IsHome}

some_same : {A : Type 0} {a b : A} → Some a ≡ Some b → a ≡ b
some_same e = cc

found_in : {A : Type 0} (xs : List A) (i : ℕ) (x : A) → slice_get xs i ≡ Some x → In x xs
found_in [] i x at = cc
found_in (y ∷ xs) zero x at = inl (some_same at)
found_in (y ∷ xs) (suc i) x at = inr (found_in xs i x at)

pub homes : (owners : List Owner) (rs : List TableRecord) → ((r : TableRecord) → In r rs → owner_of owners r.id ≡ Some r.namespace) → IsHome rs
homes owners rs owned i j r s at_r at_s alike =
    let e : r.id ≡ s.id = same_equal r.id s.id alike in
    let ns : r.namespace ≡ s.namespace = some_same (sym (owned r (found_in rs i r at_r)) ∙ ap (owner_of owners) e ∙ owned s (found_in rs j s at_s)) in
    ap (λ x. same x s.namespace) ns ∙ same_self s.namespace
