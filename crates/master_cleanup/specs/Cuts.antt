-- Up to which stamps a prune takes the records of namespaces, one after the other.
use Rattle.std.specs.Prelude.{ℕ, ◌||◌, ◌++◌, ◌∷◌, [], Bool, false, List, if◌then◌else◌}
use Rattle.row_values.specs.Ids.{Id, same}
use Rattle.model.specs.Catalog.{NamespaceRecord, TableRecord}
use Rattle.model.specs.Parts.{Master}
use Rattle.model.specs.Cleanup.{prune_to}
use Rattle.master_part.specs.declared.cut.Cut.{Cut}

abbrev pub has_cut : List Cut → Id → Bool
has_cut [] ns = false
has_cut (c ∷ cs) ns = same c.namespace ns || has_cut cs ns

abbrev pub cut_for : Master → ℕ → Id → Cut
cut_for m n ns = record { namespace = ns; to = prune_to m ns n }

-- with that of a namespace, if it isn't there yet
abbrev pub add_cut : Master → ℕ → Id → List Cut → List Cut
add_cut m n ns cuts = if has_cut cuts ns then cuts else cuts ++ cut_for m n ns ∷ []

-- with those of the namespaces of records
abbrev pub with_all : {A : Type 0} → (A → Id) → Master → ℕ → List A → List Cut → List Cut
with_all space m n [] cuts = cuts
with_all space m n (r ∷ rs) cuts = with_all space m n rs (add_cut m n (space r) cuts)

abbrev pub with_namespaces : Master → ℕ → List NamespaceRecord → List Cut → List Cut
with_namespaces m n rs cuts = with_all (λ r. r.id) m n rs cuts

abbrev pub with_tables : Master → ℕ → List TableRecord → List Cut → List Cut
with_tables m n rs cuts = with_all (λ r. r.namespace) m n rs cuts

-- those of the namespaces that have records
abbrev pub cuts_of : Master → ℕ → List Cut
cuts_of m n = with_tables m n m.catalog.tables (with_namespaces m n m.catalog.namespaces [])
