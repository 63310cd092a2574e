-- The tables of a new clone have no owner yet.
use Rattle.std.proofs.Common.{ℕ, ◌≡◌, ◌<◌, ◌+◌, ◌++◌, Bool, true, false, List, [], ◌∷◌, Some, None, if◌then◌else◌, refl, sym, ap, subst, arith}
use Rattle.row_values.specs.Ids.{Id, Table, same}
use Rattle.model.specs.Catalog.{TableRecord, Owner, owner_of}
use Rattle.model.specs.Changed.{pair_tables, new_clone, clone_begun}
use Rattle.model.specs.Lists.{numbered_as}
use Rattle.model.specs.Parts.{Master}
use Rattle.model.specs.Records.{CloneRecord}
use Rattle.law_invariants.proofs.Finding.{not_same, apart_by_number}
use Rattle.master_part.specs.Cloning.{Unowned, with_drawn, with_owners}

-- one owner more is not that of another table
other_owner : (os : List Owner) (o : Owner) (table : Id) → same o.table table ≡ false → owner_of os table ≡ None → owner_of (os ++ o ∷ []) table ≡ None
other_owner [] o table apart none = ap (λ (b : Bool). if b then Some o.namespace else None) apart
other_owner (p ∷ os) o table apart none = by (same p.table table) none (other_owner os o table apart)
  where
    by : (b : Bool) → (if b then Some p.namespace else owner_of os table) ≡ None → (owner_of os table ≡ None → owner_of (os ++ o ∷ []) table ≡ None)
        → (if b then Some p.namespace else owner_of (os ++ o ∷ []) table) ≡ None
    by true none rest = absurd (cc)
    by false none rest = rest none

pair_unowned : (ns : Id) (ts : List TableRecord) (os : List Owner) (drawn : ℕ) → ((table : Id) → drawn < table.number → owner_of os table ≡ None)
    → Unowned ns os (pair_tables ts drawn)
pair_unowned ns [] os drawn later = tt
pair_unowned ns (t ∷ ts) os drawn later =
    let id = numbered_as Table (drawn + 1) in (
      later id (omega arith),
      pair_unowned ns ts (os ++ record { table = id; namespace = ns } ∷ []) (drawn + 1)
          (λ table above. other_owner os (record { table = id; namespace = ns }) table (not_same id table (apart_by_number id table above)) (later table (omega (arith, above)))),
    )

pub begin_unowned : (ns : Id) (source target : List ℕ) (to : ℕ) (m : Master) (made : CloneRecord) (other : Id) → new_clone ns source target to m ≡ made
    → ((table : Id) → m.drawn.tables < table.number → owner_of m.catalog.owners table ≡ None)
    → Unowned other m.catalog.owners made.tables
begin_unowned ns source target to m made other is later =
    subst (λ (c : CloneRecord). Unowned other m.catalog.owners c.tables) is (pair_unowned other _ m.catalog.owners m.drawn.tables later)

-- what is drawn, owned and kept is what begins
pub begun_as : (ns : Id) (source target : List ℕ) (to n : ℕ) (m drawn owned begun : Master) (made : CloneRecord) → new_clone ns source target to m ≡ made
    → drawn ≡ with_drawn made n m → owned ≡ with_owners made drawn → begun ≡ record owned { clones = owned.clones ++ made ∷ [] }
    → begun ≡ clone_begun ns source target to n m
begun_as ns source target to n m drawn owned begun made is is_drawn is_owned is_begun =
    rw (is_begun, is_owned, is_drawn, sym is) refl
