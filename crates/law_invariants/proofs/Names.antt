-- The names of namespaces: by the master's records, and in the view of the journal.
use Rattle.std.proofs.Common.{ℕ, ◌≡◌, ◌<◌, ◌≤◌, Bool, true, false, cond, ◌&&◌, List, [], ◌∷◌, ◌++◌, Option, Some, None, refl, sym, ap, subst, ◌∙◌, arith, le_trans, le_refl, le-leb, leb}
use Rattle.std.specs.List.{find}
use Rattle.std.specs.Option.{option_map}
use Rattle.std.proofs.lemmas.Bool.{cond_both, true≢false}
use Rattle.std.specs.Str.{bytes_eq}
use Rattle.model.specs.Cluster.{Id, same, In, is_open, ended}
use Rattle.model.specs.Catalog.{NamespaceRecord, namespace_named, name_of, end_namespace}
use Rattle.model.specs.Journal.{Change, ChangeAct, NamespaceMade, NamespaceDropped, NamespaceCloned, name_after, namespace_at}
use Rattle.law_store.proofs.Keys.{either_way, equal_keys, key_self}
use Rattle.law_invariants.specs.Invariant.{IsPast, NamespacesStand}
use Rattle.law_invariants.proofs.Finding.{both_pass, first_fails, second_fails, none_or_some, same_equal, same_self, not_same, apart_by_number, in_added, in_mapped, find_is, none_found}
use Rattle.law_invariants.proofs.Ticking.{past_later}

-- a current record of a name, and one of an identifier
abbrev pub has_name : List ℕ → NamespaceRecord → Bool
has_name name r = is_open r.to && bytes_eq r.name name

abbrev pub is_namespace : Id → NamespaceRecord → Bool
is_namespace id r = is_open r.to && same r.id id

abbrev pub id_of : Option NamespaceRecord → Option Id
id_of found = option_map {T = NamespaceRecord} (λ r. r.id) found

abbrev pub title_of : Option NamespaceRecord → Option (List ℕ)
title_of found = option_map {T = NamespaceRecord} (λ r. r.name) found

pub named_found : (rs : List NamespaceRecord) (name : List ℕ) → namespace_named rs name ≡ id_of (find (has_name name) rs)
named_found [] name = refl
named_found (r ∷ rs) name = either_way (has_name name r) (λ t. rw t refl) (λ n. rw n (named_found rs name))

pub name_found : (rs : List NamespaceRecord) (id : Id) → name_of rs id ≡ title_of (find (is_namespace id) rs)
name_found [] id = refl
name_found (r ∷ rs) id = either_way (is_namespace id r) (λ t. rw t refl) (λ n. rw n (name_found rs id))

-- a current record of this identifier and name
pub record IsNamespace (rs : List NamespaceRecord) (id : Id) (name : List ℕ) : Type 0 where
  pub record_ : NamespaceRecord
  pub listed : In record_ rs
  pub current : is_open record_.to ≡ true
  pub id_is : record_.id ≡ id
  pub name_is : record_.name ≡ name

pub named_is : (rs : List NamespaceRecord) (name : List ℕ) (id : Id) → namespace_named rs name ≡ Some id → IsNamespace rs id name
named_is rs name id e = none_or_some (find (has_name name) rs)
    (λ none. let q : namespace_named rs name ≡ None = named_found rs name ∙ ap id_of none in cc)
    (λ r found. let f = find_is (has_name name) rs r found in
    let both = both_pass (is_open r.to) (bytes_eq r.name name) f.passes in
    let q : namespace_named rs name ≡ Some r.id = named_found rs name ∙ ap id_of found in
    record { record_ = r; listed = f.listed; current = both.0; id_is = cc; name_is = equal_keys r.name name both.1 })

pub name_is : (rs : List NamespaceRecord) (id : Id) (name : List ℕ) → name_of rs id ≡ Some name → IsNamespace rs id name
name_is rs id name e = none_or_some (find (is_namespace id) rs)
    (λ none. let q : name_of rs id ≡ None = name_found rs id ∙ ap title_of none in cc)
    (λ r found. let f = find_is (is_namespace id) rs r found in
    let both = both_pass (is_open r.to) (same r.id id) f.passes in
    let q : name_of rs id ≡ Some r.name = name_found rs id ∙ ap title_of found in
    record { record_ = r; listed = f.listed; current = both.0; id_is = same_equal r.id id both.1; name_is = cc })

-- a namespace of this identifier and name is found by either
pub named_by_name : (rs : List NamespaceRecord) (time drawn : ℕ) (changes : List Change) (id : Id) (name : List ℕ) → NamespacesStand rs time drawn changes → name_of rs id ≡ Some name → namespace_named rs name ≡ Some id
named_by_name rs time drawn changes id name h e = let r = name_is rs id name e in
    let P : List ℕ → Type 0 = λ k. namespace_named rs k ≡ Some r.record_.id in
    subst P r.name_is (h.unique r.record_ r.listed r.current) ∙ ap Some r.id_is

pub name_by_named : (rs : List NamespaceRecord) (time drawn : ℕ) (changes : List Change) (id : Id) (name : List ℕ) → NamespacesStand rs time drawn changes → namespace_named rs name ≡ Some id → name_of rs id ≡ Some name
name_by_named rs time drawn changes id name h e = let r = named_is rs name id e in
    let P : Id → Type 0 = λ k. name_of rs k ≡ Some r.record_.name in
    subst P r.id_is (h.found r.record_ r.listed r.current) ∙ ap Some r.name_is

-- Changes that name no namespace

-- a change that leaves the names of namespaces
abbrev pub LeavesNames : ChangeAct → Type 0
LeavesNames (NamespaceMade namespace name) = ⊥
LeavesNames (NamespaceDropped namespace) = ⊥
LeavesNames (NamespaceCloned source target name to tables) = ⊥
LeavesNames _ = Unit {0}

name_stays : (act : ChangeAct) (id : Id) (before : Option (List ℕ)) → LeavesNames act → name_after act id before ≡ before
name_stays (NamespaceMade namespace name) id before h = absurd h
name_stays (NamespaceDropped namespace) id before h = absurd h
name_stays (NamespaceCloned source target name to tables) id before h = absurd h
name_stays _ id before h = refl

pub names_stay : (c : Change) (changes : List Change) (x : ℕ) (id : Id) → LeavesNames c.act → namespace_at (c ∷ changes) x id ≡ namespace_at changes x id
names_stay c changes x id h = cond_both (leb c.stamp x) _ _ (λ o. o ≡ namespace_at changes x id) (λ b. name_stays c.act id (namespace_at changes x id) h) (λ b. refl)

-- the view after a change, at and after its stamp
pub name_then : (c : Change) (changes : List Change) (x : ℕ) (id : Id) → c.stamp ≤ x → namespace_at (c ∷ changes) x id ≡ name_after c.act id (namespace_at changes x id)
name_then c changes x id l = let t : leb c.stamp x ≡ true = le-leb c.stamp x l in rw t refl

-- at a later time, with further identifiers drawn
pub names_further : (rs : List NamespaceRecord) (time drawn m more : ℕ) (changes : List Change) → time ≤ m → drawn ≤ more → NamespacesStand rs time drawn changes → NamespacesStand rs m more changes
names_further rs time drawn m more changes le further h = record {
  past = λ r isin. past_later r.from time m r.to le (h.past r isin);
  drawn_before = λ r isin. le_trans (h.drawn_before r isin) further;
  unique = h.unique;
  found = h.found;
  viewed = λ id x after. h.viewed id x (le_trans le after);
}

-- another change in front of the journal, at a later time, and with further identifiers drawn
pub names_kept : (rs : List NamespaceRecord) (time drawn m more : ℕ) (c : Change) (changes : List Change) → time ≤ m → drawn ≤ more → LeavesNames c.act → NamespacesStand rs time drawn changes → NamespacesStand rs m more (c ∷ changes)
names_kept rs time drawn m more c changes le further leaves h = record {
  past = λ r isin. past_later r.from time m r.to le (h.past r isin);
  drawn_before = λ r isin. le_trans (h.drawn_before r isin) further;
  unique = h.unique;
  found = h.found;
  viewed = λ id x after. names_stay c changes x id leaves ∙ h.viewed id x (le_trans le after);
}

-- A new namespace

-- an identifier beyond those drawn has no record
pub name_fresh : (rs : List NamespaceRecord) (drawn : ℕ) (id : Id) → ((r : NamespaceRecord) → In r rs → r.id.number ≤ drawn) → drawn < id.number → name_of rs id ≡ None
name_fresh rs drawn id before new = name_found rs id ∙ ap title_of (none_found (is_namespace id) rs
    (λ r isin. second_fails (is_open r.to) (same r.id id) (not_same r.id id (apart_by_number r.id id (let b = before r isin in omega arith)))))

abbrev pub new_namespace : Id → List ℕ → ℕ → NamespaceRecord
new_namespace id name n = record { id = id; name = name; from = n; to = None }

-- names among the records with one more
pub named_added : (rs : List NamespaceRecord) (r : NamespaceRecord) (name : List ℕ) → namespace_named rs name ≡ None → has_name name r ≡ true → namespace_named (rs ++ r ∷ []) name ≡ Some r.id
named_added [] r name e t = rw t refl
named_added (s ∷ rs) r name e t = either_way (has_name name s) (λ p. cc) (λ n. rw n (named_added rs r name (rw n at e) t))

pub named_before : (rs : List NamespaceRecord) (r : NamespaceRecord) (name : List ℕ) (id : Id) → namespace_named rs name ≡ Some id → namespace_named (rs ++ r ∷ []) name ≡ Some id
named_before [] r name id e = cc
named_before (s ∷ rs) r name id e = either_way (has_name name s) (λ p. rw p (rw p at e)) (λ n. rw n (named_before rs r name id (rw n at e)))

pub name_added : (rs : List NamespaceRecord) (r : NamespaceRecord) (id : Id) → name_of rs id ≡ None → is_namespace id r ≡ true → name_of (rs ++ r ∷ []) id ≡ Some r.name
name_added [] r id e t = rw t refl
name_added (s ∷ rs) r id e t = either_way (is_namespace id s) (λ p. cc) (λ n. rw n (name_added rs r id (rw n at e) t))

pub name_beside : (rs : List NamespaceRecord) (r : NamespaceRecord) (id : Id) → is_namespace id r ≡ false → name_of (rs ++ r ∷ []) id ≡ name_of rs id
name_beside [] r id n = rw n refl
name_beside (s ∷ rs) r id n = ap (cond (is_namespace id s) (Some s.name)) (name_beside rs r id n)

pub name_before : (rs : List NamespaceRecord) (r : NamespaceRecord) (id : Id) (name : List ℕ) → name_of rs id ≡ Some name → name_of (rs ++ r ∷ []) id ≡ Some name
name_before [] r id name e = cc
name_before (s ∷ rs) r id name e = either_way (is_namespace id s) (λ p. rw p (rw p at e)) (λ n. rw n (name_before rs r id name (rw n at e)))

-- a namespace begins under an identifier that no record has and a name that none has, by a change that gives it the name; others may be
-- drawn besides
pub names_begun : (rs : List NamespaceRecord) (time drawn more n : ℕ) (id : Id) (name : List ℕ) (act : ChangeAct) (changes : List Change) → time ≤ n → drawn ≤ more → id.number ≤ more → namespace_named rs name ≡ None
    → name_of rs id ≡ None → ((k : Id) (before : Option (List ℕ)) → name_after act k before ≡ cond (same id k) (Some name) before)
    → NamespacesStand rs time drawn changes → NamespacesStand (rs ++ new_namespace id name n ∷ []) n more (record { stamp = n; act = act } ∷ changes)
names_begun rs time drawn more n id name act changes le further drawn_by free unknown gives h =
    let r = new_namespace id name n in
    let c : Change = record { stamp = n; act = act } in
    record {
      past = in_added (λ s. IsPast n s.from s.to) rs r (λ s isin. past_later s.from time n s.to le (h.past s isin)) (record { begun = le_refl n; ended = tt });
      drawn_before = in_added (λ s. s.id.number ≤ more) rs r (λ s isin. le_trans (h.drawn_before s isin) further) drawn_by;
      unique = in_added (λ s. is_open s.to ≡ true → namespace_named (rs ++ r ∷ []) s.name ≡ Some s.id) rs r
          (λ s isin current. named_before rs r s.name s.id (h.unique s isin current))
          (λ current. named_added rs r name free (key_self name));
      found = in_added (λ s. is_open s.to ≡ true → name_of (rs ++ r ∷ []) s.id ≡ Some s.name) rs r
          (λ s isin current. name_before rs r s.id s.name (h.found s isin current))
          (λ current. name_added rs r id unknown (same_self id));
      viewed = λ k x after. name_then c changes x k after ∙ gives k (namespace_at changes x k) ∙ either_way (same id k)
          (λ e. let is : id ≡ k = same_equal id k e in
          let P : Id → Type 0 = λ j. name_of (rs ++ r ∷ []) j ≡ Some name in
          rw e (sym (subst P is (name_added rs r id unknown (same_self id)))))
          (λ e. rw e (h.viewed k x (le_trans le after) ∙ sym (name_beside rs r k e)));
    }

-- a namespace is made, under a fresh identifier and a name that none has
pub names_made : (rs : List NamespaceRecord) (time drawn more n : ℕ) (id : Id) (name : List ℕ) (changes : List Change) → time ≤ n → drawn < id.number → id.number ≤ more → namespace_named rs name ≡ None
    → NamespacesStand rs time drawn changes → NamespacesStand (rs ++ new_namespace id name n ∷ []) n more (record { stamp = n; act = NamespaceMade id name } ∷ changes)
names_made rs time drawn more n id name changes le fresh drawn_by free h =
    names_begun rs time drawn more n id name (NamespaceMade id name) changes le (omega arith) drawn_by free (name_fresh rs drawn id h.drawn_before fresh) (λ k before. refl) h

-- A namespace that ends

abbrev end_one : Id → ℕ → NamespaceRecord → NamespaceRecord
end_one id at r = record r { to = cond (same r.id id) (ended at r.to) r.to }

-- what ended is not current
ended_closed : (at : ℕ) (to : Option ℕ) → is_open (ended at to) ≡ false
ended_closed at None = refl
ended_closed at (Some to) = refl

pub ended_past : (from time at : ℕ) (to : Option ℕ) → time ≤ at → IsPast time from to → IsPast at from (ended at to)
ended_past from time at None le h = record { begun = le_trans h.begun le; ended = (le_trans h.begun le, le_refl at) }
ended_past from time at (Some to) le h = past_later from time at (Some to) le h

pub end_past : (b : Bool) (from time at : ℕ) (to : Option ℕ) → time ≤ at → IsPast time from to → IsPast at from (cond b (ended at to) to)
end_past true from time at to le h = ended_past from time at to le h
end_past false from time at to le h = past_later from time at to le h

-- a record that is current still is another's, and as it was
still : (id : Id) (at : ℕ) (r : NamespaceRecord) → is_open (end_one id at r).to ≡ true → (same r.id id ≡ false) × (is_open r.to ≡ true)
still id at r e = either_way (same r.id id)
    (λ t. absurd (true≢false (sym e ∙ ap (λ b. is_open (cond b (ended at r.to) r.to)) t ∙ ended_closed at r.to)))
    (λ f. (f, ap (λ b. is_open (cond b (ended at r.to) r.to)) (sym f) ∙ e))

-- a record of another is as it was
end_other : (id : Id) (at : ℕ) (r : NamespaceRecord) → same r.id id ≡ false → is_open (end_one id at r).to ≡ is_open r.to
end_other id at r f = ap (λ b. is_open (cond b (ended at r.to) r.to)) f

end_closes : (id : Id) (at : ℕ) (r : NamespaceRecord) (b : Bool) → (is_open r.to && b) ≡ false → (is_open (end_one id at r).to && b) ≡ false
end_closes id at r b n = either_way (same r.id id)
    (λ t. first_fails (is_open (end_one id at r).to) b (ap (λ b. is_open (cond b (ended at r.to) r.to)) t ∙ ended_closed at r.to))
    (λ f. ap (λ o. o && b) (end_other id at r f) ∙ n)

-- the name of another namespace stays
pub named_ended : (rs : List NamespaceRecord) (id : Id) (at : ℕ) (name : List ℕ) (k : Id) → same k id ≡ false → namespace_named rs name ≡ Some k → namespace_named (end_namespace id at rs) name ≡ Some k
named_ended [] id at name k apart e = cc
named_ended (r ∷ rs) id at name k apart e = either_way (has_name name r)
    (λ p. let first : r.id ≡ k = cc in
    let other : same r.id id ≡ false = ap (λ j. same j id) first ∙ apart in
    let passes : (is_open (end_one id at r).to && bytes_eq r.name name) ≡ true = ap (λ o. o && bytes_eq r.name name) (end_other id at r other) ∙ p in
    rw passes (ap Some first))
    (λ n. rw (end_closes id at r (bytes_eq r.name name) n) (named_ended rs id at name k apart (rw n at e)))

pub name_ended : (rs : List NamespaceRecord) (id : Id) (at : ℕ) (k : Id) → same id k ≡ false → name_of (end_namespace id at rs) k ≡ name_of rs k
name_ended [] id at k apart = refl
name_ended (r ∷ rs) id at k apart = either_way (same r.id id)
    (λ t. let other : same r.id k ≡ false = ap (λ j. same j k) (same_equal r.id id t) ∙ apart in
    rw (second_fails (is_open (end_one id at r).to) (same r.id k) other) (rw (second_fails (is_open r.to) (same r.id k) other) (name_ended rs id at k apart)))
    (λ f. ap (λ o. cond (o && same r.id k) (Some r.name) (name_of (end_namespace id at rs) k)) (end_other id at r f)
    ∙ ap (cond (is_open r.to && same r.id k) (Some r.name)) (name_ended rs id at k apart))

pub name_gone : (rs : List NamespaceRecord) (id : Id) (at : ℕ) → name_of (end_namespace id at rs) id ≡ None
name_gone [] id at = refl
name_gone (r ∷ rs) id at = let gone : (is_open (end_one id at r).to && same r.id id) ≡ false = either_way (same r.id id)
    (λ t. first_fails (is_open (end_one id at r).to) (same r.id id) (ap (λ b. is_open (cond b (ended at r.to) r.to)) t ∙ ended_closed at r.to))
    (λ f. second_fails (is_open (end_one id at r).to) (same r.id id) f) in
    rw gone (name_gone rs id at)

-- a namespace is dropped
pub names_dropped : (rs : List NamespaceRecord) (time drawn n : ℕ) (id : Id) (changes : List Change) → time ≤ n
    → NamespacesStand rs time drawn changes → NamespacesStand (end_namespace id n rs) n drawn (record { stamp = n; act = NamespaceDropped id } ∷ changes)
names_dropped rs time drawn n id changes le h =
    let c : Change = record { stamp = n; act = NamespaceDropped id } in
    record {
      past = in_mapped (end_one id n) (λ s. IsPast n s.from s.to) rs (λ s isin. end_past (same s.id id) s.from time n s.to le (h.past s isin));
      drawn_before = in_mapped (end_one id n) (λ s. s.id.number ≤ drawn) rs h.drawn_before;
      unique = in_mapped (end_one id n) (λ s. is_open s.to ≡ true → namespace_named (end_namespace id n rs) s.name ≡ Some s.id) rs
          (λ s isin current. let was = still id n s current in named_ended rs id n s.name s.id was.0 (h.unique s isin was.1));
      found = in_mapped (end_one id n) (λ s. is_open s.to ≡ true → name_of (end_namespace id n rs) s.id ≡ Some s.name) rs
          (λ s isin current. let was = still id n s current in name_ended rs id n s.id (not_same id s.id (λ e. true≢false (sym (same_self id) ∙ ap (λ j. same j id) e ∙ was.0))) ∙ h.found s isin was.1);
      viewed = λ k x after. name_then c changes x k after ∙ either_way (same id k)
          (λ e. let is : id ≡ k = same_equal id k e in
          let P : Id → Type 0 = λ j. name_of (end_namespace id n rs) j ≡ None in
          rw e (sym (subst P is (name_gone rs id n))))
          (λ e. rw e (h.viewed k x (le_trans le after) ∙ sym (name_ended rs id n k e)));
    }
