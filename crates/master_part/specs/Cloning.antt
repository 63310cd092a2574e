-- What a clone reserves and brings.
use Rattle.std.specs.Prelude.{ℕ, ◌≡◌, ◌+◌, List, [], ◌∷◌, ◌++◌, None, map, length}
use Rattle.row_values.specs.Ids.{Id}
use Rattle.model.specs.Activity.{Interval}
use Rattle.model.specs.Catalog.{Owner, owner_of}
use Rattle.model.specs.Parts.{Master}
use Rattle.model.specs.Records.{IdPair, TabletPair, CloneRecord}

-- the table of a pair is the namespace's
abbrev pub owner_by : Id → IdPair → Owner
owner_by ns p = record { table = p.target; namespace = ns }

-- each of the tables has no owner before it gets its own
abbrev pub Unowned : Id → List Owner → List IdPair → Type 0
Unowned ns owners [] = Unit {0}
Unowned ns owners (p ∷ ps) = (owner_of owners p.target ≡ None) × Unowned ns (owners ++ owner_by ns p ∷ []) ps

-- the target tablet of a pair is active from a time on
abbrev pub target_at : ℕ → TabletPair → Interval
target_at at p = record { slot = p.slot; tablet = p.target; table = p.table; low = p.low; high = p.high; from = at; to = None }

-- the identifiers of a clone are drawn
abbrev pub with_drawn : CloneRecord → ℕ → Master → Master
with_drawn made n m = record m {
  clock = n;
  drawn = record m.drawn {
    namespaces = m.drawn.namespaces + 1;
    tables = m.drawn.tables + length made.tables;
    tablets = m.drawn.tablets + length made.tablets;
    clones = m.drawn.clones + 1;
  };
}

-- its tables get their namespace
abbrev pub with_owners : CloneRecord → Master → Master
with_owners made m = record m {
  catalog = record m.catalog { owners = m.catalog.owners ++ map (owner_by made.target_id) made.tables };
}
