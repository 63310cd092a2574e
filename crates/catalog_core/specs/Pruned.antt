-- What a prune makes of the catalog, by up to which time it takes the records of each namespace.
use Rattle.std.specs.Prelude.{ℕ, not, max, Bool, map, filter, if◌then◌else◌}
use Rattle.row_values.specs.Ids.{Id}
use Rattle.model.specs.Times.{ended_by}
use Rattle.model.specs.Catalog.{Catalog, NamespaceRecord, TableRecord, KeptFrom}
use Rattle.model.specs.Cleanup.{has_records}

abbrev pub space_goes : (Id → ℕ) → NamespaceRecord → Bool
space_goes cut r = ended_by (cut r.id) r.to

abbrev pub table_goes : (Id → ℕ) → TableRecord → Bool
table_goes cut r = ended_by (cut r.namespace) r.to

-- a mark rises as far as the records of its namespace are taken, if it has any
abbrev pub mark_cut : (Id → ℕ) → Catalog → KeptFrom → KeptFrom
mark_cut cut c k = record k { from = if has_records c k.namespace then max k.from (cut k.namespace) else k.from }

abbrev pub pruned_by : (Id → ℕ) → Catalog → Catalog
pruned_by cut c = record c {
  namespaces = filter (λ r. not (space_goes cut r)) c.namespaces;
  tables = filter (λ r. not (table_goes cut r)) c.tables;
  kept_from = map (mark_cut cut c) c.kept_from;
}

-- an entry of the map of marks, after its mark rose
abbrev pub entry_risen : (Id → ℕ → ℕ) → Id × ℕ → Id × ℕ
entry_risen risen e = (e.0, risen e.0 e.1)

abbrev pub mark_risen : (Id → ℕ → ℕ) → KeptFrom → KeptFrom
mark_risen risen k = record k { from = risen k.namespace k.from }
