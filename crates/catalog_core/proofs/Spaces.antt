-- Records of namespaces: the book's look-ups by the last place of a name or of an identifier, and one more or one that ends.
use Rattle.std.proofs.Common.{ℕ, ◌≡◌, ◌<◌, Bool, true, false, not, ◌&&◌, cond, List, [], ◌∷◌, ◌++◌, map, Option, Some, None, if◌then◌else◌, slice_get, nat_eq, refl, sym, ap, ◌∙◌}
use Rattle.std.specs.List.{find}
use Rattle.std.specs.Option.{option_map}
use Rattle.std.specs.Str.{bytes_eq}
use Rattle.std.specs.Cmp.{IsEquivalence}
use Rattle.row_values.specs.Ids.{Id, same}
use Rattle.model.specs.Times.{is_open, ended}
use Rattle.model.specs.Catalog.{NamespaceRecord, namespace_named, name_of, end_namespace}
use Rattle.newest_index.specs.Newest.{last_place, open_at, changed_at, InTurn}
use Rattle.newest_index.proofs.Opens.{last_place-same, none_at, keys_kept}
use Rattle.newest_index.proofs.Turns.{last_place-map, find_last, changes_last, turns_last, in_turn-next, in_turn-map}
use Rattle.catalog_core.specs.Codes.{space_code, name_code}
use Rattle.catalog_core.specs.Kept.{space_id, is_current_space, same_space_name, same_space_id, space_over, space_ended}
use Rattle.catalog_core.proofs.Names.{bytes_meet, code_apart, open_at-record, was_open, open_not, ended_to}

abbrev pub has_this_name : List ℕ → NamespaceRecord → Bool
has_this_name name r = bytes_eq r.name name

abbrev pub has_this_id : Id → NamespaceRecord → Bool
has_this_id id r = same r.id id

-- the records of other names by their numbers
pub other_name : (name : List ℕ) (r : NamespaceRecord) → nat_eq (name_code 0 name) (space_code r) ≡ false → has_this_name name r ≡ false
other_name name r apart = code_apart 0 name r.name apart

-- Each look-up is a find

named_by : (b : Bool) (r : NamespaceRecord) (x : Option Id) (f : Option NamespaceRecord) → x ≡ option_map space_id f → (if b then Some r.id else x) ≡ option_map space_id (cond b (Some r) f)
named_by true r x f same = refl
named_by false r x f same = same

pub namespace_named-find : (rs : List NamespaceRecord) (name : List ℕ) → namespace_named rs name ≡ option_map space_id (find (λ r. is_open r.to && bytes_eq r.name name) rs)
namespace_named-find [] name = refl
namespace_named-find (r ∷ rs) name = named_by (is_open r.to && bytes_eq r.name name) r (namespace_named rs name) _ (namespace_named-find rs name)

abbrev pub space_name : NamespaceRecord → List ℕ
space_name r = r.name

name_by : (b : Bool) (r : NamespaceRecord) (x : Option (List ℕ)) (f : Option NamespaceRecord) → x ≡ option_map space_name f → (if b then Some r.name else x) ≡ option_map space_name (cond b (Some r) f)
name_by true r x f same = refl
name_by false r x f same = same

pub name_of-find : (rs : List NamespaceRecord) (id : Id) → name_of rs id ≡ option_map space_name (find (λ r. is_open r.to && same r.id id) rs)
name_of-find [] id = refl
name_of-find (r ∷ rs) id = name_by (is_open r.to && same r.id id) r (name_of rs id) _ (name_of-find rs id)

pub space_here : (rs : List NamespaceRecord) (name : List ℕ) → InTurn same_space_name space_over rs
    → namespace_named rs name ≡ option_map space_id (open_at is_current_space rs (last_place (has_this_name name) rs))
space_here rs name turn =
    namespace_named-find rs name
    ∙ ap (option_map space_id)
    (find_last (has_this_name name) is_current_space rs
    (turns_last same_space_name space_over (has_this_name name) is_current_space rs
    (λ r s first second. bytes_meet r.name s.name name first second) (λ r s at over. open_not (is_open r.to) over) turn)
    ∙ sym (open_at-record is_current_space rs (last_place (has_this_name name) rs)))

abbrev pub ends : Id → ℕ → NamespaceRecord → NamespaceRecord
ends id at r = record r { to = if same r.id id then ended at r.to else r.to }

module _ (eq : Id → Id → Bool) (laws : IsEquivalence eq) (agree : (a b : Id) → eq a b ≡ same a b) where
  id_test : (id k : Id) → eq id k ≡ same k id
  id_test id k = laws.symm id k ∙ agree k id

  pub id_place : (rs : List NamespaceRecord) (id : Id) → last_place (eq id) (map space_id rs) ≡ last_place (has_this_id id) rs
  id_place rs id = last_place-map space_id (eq id) rs ∙ last_place-same (λ r. eq id r.id) (has_this_id id) (λ r. id_test id r.id) rs

  meet : (a b id : Id) → same a id ≡ true → same b id ≡ true → same a b ≡ true
  meet a b id first second = sym (agree a b) ∙ laws.congr a id b (agree a id ∙ first) ∙ id_test id b ∙ second

  only_id : (rs : List NamespaceRecord) (id : Id) → InTurn same_space_id space_over rs → (i j : ℕ) (r s : NamespaceRecord) → i < j → slice_get rs i ≡ Some r → slice_get rs j ≡ Some s
      → has_this_id id r ≡ true → has_this_id id s ≡ true → is_current_space r ≡ false
  only_id rs id turn = turns_last same_space_id space_over (has_this_id id) is_current_space rs
      (λ r s first second. meet r.id s.id id first second) (λ r s at over. open_not (is_open r.to) over) turn

  pub name_here : (rs : List NamespaceRecord) (id : Id) → InTurn same_space_id space_over rs
      → name_of rs id ≡ option_map space_name (open_at is_current_space rs (last_place (eq id) (map space_id rs)))
  name_here rs id turn =
      name_of-find rs id
      ∙ ap (option_map space_name)
      (find_last (has_this_id id) is_current_space rs (only_id rs id turn)
      ∙ sym (open_at-record is_current_space rs (last_place (has_this_id id) rs))
      ∙ sym (ap (open_at is_current_space rs) (id_place rs id)))

  -- the current record of a namespace ends at its last place
  pub end_here : (rs : List NamespaceRecord) (id : Id) (at : ℕ) → InTurn same_space_id space_over rs
      → end_namespace id at rs ≡ changed_at (space_ended at) rs (last_place (eq id) (map space_id rs))
  end_here rs id at turn =
      changes_last (has_this_id id) is_current_space (space_ended at) (ends id at) rs (only_id rs id turn)
      (λ r mine. ap (λ b. record r { to = if b then ended at r.to else r.to }) mine)
      (λ r none. ap (λ t. record r { to = t }) (ended_to (same r.id id) r.to at none))
      ∙ sym (ap (changed_at (space_ended at) rs) (id_place rs id))

-- what an end leaves
pub ended_codes : (rs : List NamespaceRecord) (id : Id) (at : ℕ) → map space_code (end_namespace id at rs) ≡ map space_code rs
ended_codes rs id at = keys_kept space_code (ends id at) rs (λ r. refl)

pub ended_ids : (rs : List NamespaceRecord) (id : Id) (at : ℕ) → map space_id (end_namespace id at rs) ≡ map space_id rs
ended_ids rs id at = keys_kept space_id (ends id at) rs (λ r. refl)

pub ended_names : (rs : List NamespaceRecord) (id : Id) (at : ℕ) → InTurn same_space_name space_over rs → InTurn same_space_name space_over (end_namespace id at rs)
ended_names rs id at turn = in_turn-map same_space_name space_over (ends id at) rs (λ r s like. like) (λ r s over. was_open (same r.id id) r.to at over) turn

pub ended_by_id : (rs : List NamespaceRecord) (id : Id) (at : ℕ) → InTurn same_space_id space_over rs → InTurn same_space_id space_over (end_namespace id at rs)
ended_by_id rs id at turn = in_turn-map same_space_id space_over (ends id at) rs (λ r s like. like) (λ r s over. was_open (same r.id id) r.to at over) turn

-- One more

none_named : (o : Option NamespaceRecord) → option_map space_id o ≡ None → o ≡ None
none_named None e = refl
none_named (Some r) e = absurd (cc)

none_name : (o : Option NamespaceRecord) → option_map space_name o ≡ None → o ≡ None
none_name None e = refl
none_name (Some r) e = absurd (cc)

over_by : (a b : Bool) → (a && b) ≡ false → b ≡ true → not a ≡ true
over_by true b e h = let q : true ≡ false = sym h ∙ e in absurd (cc)
over_by false b e h = refl

pub added_name : (rs : List NamespaceRecord) (r : NamespaceRecord) → namespace_named rs r.name ≡ None → InTurn same_space_name space_over rs → InTurn same_space_name space_over (rs ++ r ∷ [])
added_name rs r free turn =
    let none = none_named (find (λ s. is_open s.to && bytes_eq s.name r.name) rs) (sym (namespace_named-find rs r.name) ∙ free) in
    in_turn-next same_space_name space_over rs r
    (λ i s is like. over_by (is_open s.to) (bytes_eq s.name r.name) (none_at (λ t. is_open t.to && bytes_eq t.name r.name) rs i s none is) like) turn

pub added_id : (rs : List NamespaceRecord) (r : NamespaceRecord) → name_of rs r.id ≡ None → InTurn same_space_id space_over rs → InTurn same_space_id space_over (rs ++ r ∷ [])
added_id rs r fresh turn =
    let none = none_name (find (λ s. is_open s.to && same s.id r.id) rs) (sym (name_of-find rs r.id) ∙ fresh) in
    in_turn-next same_space_id space_over rs r
    (λ i s is like. over_by (is_open s.to) (same s.id r.id) (none_at (λ t. is_open t.to && same t.id r.id) rs i s none is) like) turn
