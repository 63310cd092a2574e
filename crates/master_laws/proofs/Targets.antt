-- A clone that copies has nothing of its target in the catalog yet.
use Rattle.std.proofs.Common.{ℕ, ◌≡◌, List, [], ◌∷◌, Some, None, false, sym, ap, ◌∙◌, arith}
use Rattle.row_values.specs.Ids.{Id}
use Rattle.row_values.specs.Elements.{In}
use Rattle.model.specs.Catalog.{NamespaceRecord, TableRecord, namespace_named, name_of, owner_of}
use Rattle.model.specs.Records.{IdPair, CloneRecord, Copying, is_visible}
use Rattle.model.specs.Parts.{Master}
use Rattle.model.specs.Journal.{Change}
use Rattle.law_invariants.specs.Operations as law
use Rattle.law_invariants.specs.Operations.{CloneGood}
use Rattle.law_invariants.proofs.Finding.{none_or_some}
use Rattle.law_invariants.proofs.Names.{named_is, name_is}
use Rattle.law_clones.proofs.Growing.{taker_there}
use Rattle.catalog_core.specs.Cloned.{PairsApart, TargetFits}

pairs_apart : (ds : List IdPair) → law.PairsApart ds → PairsApart ds
pairs_apart [] apart = tt
pairs_apart (d ∷ ds) apart = (apart.0, pairs_apart ds apart.1)

name_free : (rs : List NamespaceRecord) (name : List ℕ) → ((id : Id) → namespace_named rs name ≡ Some id → ⊥) → namespace_named rs name ≡ None
name_free rs name none_is = none_or_some (namespace_named rs name) (λ none. none) (λ id found. absurd (none_is id found))

id_free : (rs : List NamespaceRecord) (id : Id) → ((name : List ℕ) → name_of rs id ≡ Some name → ⊥) → name_of rs id ≡ None
id_free rs id none_is = none_or_some (name_of rs id) (λ none. none) (λ name found. absurd (none_is name found))

pub target_fits : (m : Master) (changes : List Change) (r : CloneRecord) (serving : Id) (copied_at : ℕ) → CloneGood m changes r
    → ((t : TableRecord) → In t m.catalog.tables → owner_of m.catalog.owners t.id ≡ Some t.namespace)
    → r.state ≡ Copying serving copied_at → TargetFits m.catalog r
target_fits m changes r serving copied_at good owned is =
    let rs = m.catalog.namespaces in
    let unseen : is_visible r.state ≡ false = ap is_visible is in
    record {
      free = name_free rs r.target (λ id found. let k = named_is rs r.target id found in (good.no_namespace unseen k.record_ k.listed).1 k.current k.name_is);
      fresh = id_free rs r.target_id (λ name found. let k = name_is rs r.target_id name found in (good.no_namespace unseen k.record_ k.listed).0 k.id_is);
      apart = pairs_apart r.tables good.tables_apart;
      sources = good.owned;
      targets = λ d isin.
          let one = good.covers d 0 isin (omega arith) in
          let p = taker_there r.tablets d.target 0 (omega (arith, one)) in
          ap (owner_of m.catalog.owners) (sym p.1.1) ∙ (good.pairs p.0 p.1.0).owned;
      owned = owned;
      empty = good.no_table unseen;
    }
