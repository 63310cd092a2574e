-- When a clone's target may become current.
use Rattle.std.specs.Prelude.{ℕ, ◌≡◌, List, [], ◌∷◌, None, Some}
use Rattle.row_values.specs.Elements.{In}
use Rattle.model.specs.Records.{IdPair, CloneRecord}
use Rattle.model.specs.Catalog.{Catalog, NamespaceRecord, TableRecord, namespace_named, name_of, owner_of}

-- each table is cloned once, into a table of its own
abbrev pub PairsApart : List IdPair → Type 0
PairsApart [] = Unit {0}
PairsApart (d ∷ ds) = ((e : IdPair) → In e ds → (d.source ≡ e.source → ⊥) × (d.target ≡ e.target → ⊥)) × PairsApart ds

-- the namespace that the clone makes, current from a time on
abbrev pub target_of : CloneRecord → ℕ → NamespaceRecord
target_of r at = record { id = r.target_id; name = r.target; from = at; to = None }

-- nothing of the target is in the catalog yet but the owner of its tables; each has a source of its own
pub record TargetFits (c : Catalog) (r : CloneRecord) : Type 0 where
  pub free : namespace_named c.namespaces r.target ≡ None
  pub fresh : name_of c.namespaces r.target_id ≡ None
  pub apart : PairsApart r.tables
  pub sources : (p : IdPair) → In p r.tables → owner_of c.owners p.source ≡ Some r.source
  pub targets : (p : IdPair) → In p r.tables → owner_of c.owners p.target ≡ Some r.target_id
  pub owned : (t : TableRecord) → In t c.tables → owner_of c.owners t.id ≡ Some t.namespace
  pub empty : (t : TableRecord) → In t c.tables → t.namespace ≡ r.target_id → ⊥
