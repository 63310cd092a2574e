-- How many namespaces the view has: as many as the master's records are current.
use Rattle.std.proofs.Common.{ℕ, ◌≡◌, ◌≢◌, ◌≤◌, List, [], ◌∷◌, true, false, inl, inr, refl, sym, ap, subst, ◌∙◌, map, length, is_some}
use Rattle.std.proofs.lemmas.Bool.{true≢false}
use Rattle.std.proofs.lemmas.List.{length-map}
use Rattle.std.specs.List.{filter}
use Rattle.row_values.specs.Ids.{Id, same}
use Rattle.row_values.specs.Elements.{In, AllOf}
use Rattle.model.specs.Times.{is_open}
use Rattle.model.specs.Catalog.{NamespaceRecord}
use Rattle.model.specs.Journal.{Change, namespace_at}
use Rattle.model.specs.Windows.{EachOnce, AreNamespaces}
use Rattle.law_store.proofs.Keys.{either_way}
use Rattle.law_invariants.specs.Invariant.{NamespacesStand}
use Rattle.law_invariants.proofs.Finding.{not_same, in_filter, filter_in, map_in, none_or_some}
use Rattle.law_invariants.proofs.Names.{name_is}

-- no two records are of one namespace
abbrev pub RecordsApart : List NamespaceRecord → Type 0
RecordsApart [] = Unit {0}
RecordsApart (r ∷ rs) = ((q : NamespaceRecord) → In q rs → r.id ≢ q.id) × RecordsApart rs

abbrev pub current_in : List NamespaceRecord → List NamespaceRecord
current_in rs = filter (λ r. is_open r.to) rs

abbrev pub ids_of : List NamespaceRecord → List Id
ids_of rs = map {A = NamespaceRecord} (λ r. r.id) rs

all_of_ids : (P : Id → Type 0) (rs : List NamespaceRecord) → ((r : NamespaceRecord) → In r rs → P r.id) → AllOf P (ids_of rs)
all_of_ids P [] each = tt
all_of_ids P (r ∷ rs) each = (each r (inl refl), all_of_ids P rs (λ q isin. each q (inr isin)))

each_once : (rs : List NamespaceRecord) → RecordsApart rs → EachOnce (ids_of (current_in rs))
each_once [] apart = tt
each_once (r ∷ rs) apart = either_way (is_open r.to)
    (λ b. rw b (all_of_ids (λ later. same r.id later ≡ false) (current_in rs) (λ q isin. not_same r.id q.id (apart.0 q (filter_in rs (λ r. is_open r.to) q isin).0)), each_once rs apart.1))
    (λ b. rw b (each_once rs apart.1))

-- the view's namespaces are those of the current records
pub current_namespaces : (rs : List NamespaceRecord) (time drawn n : ℕ) (changes : List Change) → time ≤ n → NamespacesStand rs time drawn changes → RecordsApart rs → AreNamespaces changes n (ids_of (current_in rs))
current_namespaces rs time drawn n changes le h apart = record {
  once = each_once rs apart;
  each = all_of_ids (λ id. is_some (namespace_at changes n id) ≡ true) (current_in rs) (λ r isin.
      let k = filter_in rs (λ r. is_open r.to) r isin in ap is_some (h.viewed r.id n le ∙ h.found r k.0 k.1));
  all = λ id some. none_or_some (namespace_at changes n id)
      (λ none. absurd (true≢false (sym some ∙ ap is_some none)))
      (λ name is. let r = name_is rs id name (sym (h.viewed id n le) ∙ is) in
      subst (λ k. In k (ids_of (current_in rs))) r.id_is (map_in (λ r. r.id) (current_in rs) r.record_ (in_filter rs (λ r. is_open r.to) r.record_ r.listed r.current)));
}

pub ids_long : (rs : List NamespaceRecord) → length (ids_of (current_in rs)) ≡ length (current_in rs)
ids_long rs = length-map (current_in rs) (λ r. r.id)
