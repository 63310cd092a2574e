-- The catalog with a clone's target: its tables are the source's of the time, under identifiers and a namespace of their own.
use Rattle.std.proofs.Common.{ℕ, ◌≡◌, ◌≤◌, List, [], ◌∷◌, ◌++◌, max, Option, Some, None, true, false, inl, inr, refl, sym, ap, subst, ◌∙◌, arith, leb, leb-true, leb-false, le-leb, le_trans, le_refl}
use Rattle.std.specs.List.{find}
use Rattle.std.specs.Option.{option_map, option_map_or}
use Rattle.std.specs.Str.{bytes_eq}
use Rattle.model.specs.Cluster.{Id, same, In, is_open, holds_at, Catalog, NamespaceRecord, TableRecord, KeptFrom, namespace_named, name_of, owner_of, kept_from, set_kept_from, IdPair, CloneRecord}
use Rattle.model.specs.Restored.{record_at, cloned, cloned_tables}
use Rattle.model.specs.Journal.{Change, NamespaceCloned, TableView, source_of, moved_to, table_at}
use Rattle.law_store.proofs.Keys.{either_way, equal_keys, key_self}
use Rattle.law_invariants.specs.Operations.{PairsApart}
use Rattle.law_invariants.specs.Invariant.{IsPast, view_of, view_at, ColumnsStand, NamespacesStand, RecordsRise, TablesStand, MarksStand, is_marked}
use Rattle.law_invariants.proofs.Finding.{both_pass, passes_both, second_fails, none_or_some, same_equal, same_self, in_append, in_first, in_second, none_found, not_same, find_only, find_in_first}
use Rattle.law_invariants.proofs.Cataloguing.{marked_set, marks_namespace_made}
use Rattle.law_invariants.proofs.Names.{named_is, name_is, new_namespace, names_begun}
use Rattle.law_invariants.proofs.Records.{has_title, is_named_at, is_table_at, table_named_found, record_at_found, record_at_is, kept_rises, kept_by}
use Rattle.law_invariants.proofs.Ticking.{past_later}
use Rattle.law_invariants.proofs.Tables.{Alike, old_one}
use Rattle.law_invariants.proofs.Rising.{rise_append, newest_most}
use Rattle.law_clones.proofs.Pairing.{one_target_of, one_source_of}
use Rattle.law_clones.proofs.Viewing.{clone, source_is, by_source, table_early, table_aside, table_target}

-- The target's tables

-- one of them is the table of a source at the time
pub record IsCloned (ds : List IdPair) (rs : List TableRecord) (target : Id) (to n : ℕ) (q : TableRecord) : Type 0 where
  pub pair : IdPair
  pub paired : In pair ds
  pub was : TableRecord
  pub found : record_at rs pair.source to ≡ Some was
  pub is : cloned rs target pair.target n was ≡ q

module _ (rs : List TableRecord) (target : Id) (to n : ℕ) where
  -- the tables of one pair
  abbrev of_pair : IdPair → Option TableRecord → List TableRecord
  of_pair d o = option_map_or {T = TableRecord} (λ r. cloned rs target d.target n r ∷ []) o []

  of_one : (d : IdPair) (o : Option TableRecord) (q : TableRecord) → record_at rs d.source to ≡ o → In q (of_pair d o) → IsCloned (d ∷ []) rs target to n q
  of_one d None q e isin = absurd isin
  of_one d (Some was) q e (inl is) = record { pair = d; paired = inl refl; was = was; found = e; is = is }
  of_one d (Some was) q e (inr none) = absurd none

  pub cloned_is : (ds : List IdPair) (q : TableRecord) → In q (cloned_tables ds rs target to n) → IsCloned ds rs target to n q
  cloned_is [] q isin = absurd isin
  cloned_is (d ∷ ds) q isin = elim (in_append (of_pair d (record_at rs d.source to)) (cloned_tables ds rs target to n) q isin) [
    | inl here ↦ (let k = of_one d (record_at rs d.source to) q refl here in
        record { pair = k.pair; paired = elim k.paired [ inl e ↦ inl e | inr none ↦ absurd none ]; was = k.was; found = k.found; is = k.is })
    | inr more ↦ (let k = cloned_is ds q more in record { pair = k.pair; paired = inr k.paired; was = k.was; found = k.found; is = k.is })
  ]

  pub cloned_has : (ds : List IdPair) (d : IdPair) (was : TableRecord) → In d ds → record_at rs d.source to ≡ Some was → In (cloned rs target d.target n was) (cloned_tables ds rs target to n)
  cloned_has [] d was isin e = absurd isin
  cloned_has (c ∷ ds) d was (inl is) e = in_first (of_pair c (record_at rs c.source to)) (cloned_tables ds rs target to n) (cloned rs target d.target n was)
      (subst (λ k. In (cloned rs target d.target n was) (of_pair k (record_at rs k.source to))) (sym is) (subst (λ o. In (cloned rs target d.target n was) (of_pair d o)) (sym e) (inl refl)))
  cloned_has (c ∷ ds) d was (inr rest) e = in_second (of_pair c (record_at rs c.source to)) (cloned_tables ds rs target to n) (cloned rs target d.target n was) (cloned_has ds d was rest e)

  rise_one : (d : IdPair) (o : Option TableRecord) → RecordsRise (of_pair d o)
  rise_one d None = tt
  rise_one d (Some was) = (λ q none. absurd none, tt)

  pub cloned_rise : (ds : List IdPair) → PairsApart ds → RecordsRise (cloned_tables ds rs target to n)
  cloned_rise [] apart = tt
  cloned_rise (d ∷ ds) apart = rise_append (of_pair d (record_at rs d.source to)) (cloned_tables ds rs target to n) (rise_one d (record_at rs d.source to)) (cloned_rise ds apart.1)
      (λ x y in_x in_y e.
      let a = of_one d (record_at rs d.source to) x refl in_x in
      let b = cloned_is ds y in_y in
      let first : d ≡ a.pair = elim a.paired [ inl is ↦ is | inr none ↦ absurd none ] in
      absurd ((apart.0 b.pair b.paired).1 (ap (λ k. k.target) first ∙ ap (λ k. k.id) a.is ∙ sym e ∙ ap (λ k. k.id) (sym b.is))))

-- What a clone finds of the catalog

pub record MayTake (c : Catalog) (drawn : ℕ) (changes : List Change) (r : CloneRecord) : Type 0 where
  pub apart : PairsApart r.tables
  pub source : (d : IdPair) → In d r.tables → owner_of c.owners d.source ≡ Some r.source
  pub target : (d : IdPair) → In d r.tables → owner_of c.owners d.target ≡ Some r.target_id
  pub drawn_target : (d : IdPair) → In d r.tables → d.target.number ≤ drawn
  pub none : (q : TableRecord) → In q c.tables → q.namespace ≡ r.target_id → ⊥
  pub unmade : (d : IdPair) (x : ℕ) → In d r.tables → table_at changes x d.target ≡ None
  pub known : kept_from c.kept_from r.source ≤ r.to

kept_now : (ks : List KeptFrom) (id : Id) (n : ℕ) → n ≤ kept_from (set_kept_from ks id n) id
kept_now [] id n = rw (same_self id) (le_refl n)
kept_now (k ∷ ks) id n = either_way (same k.namespace id)
    (λ b. rw b (rw (same_self id) (ap_le k.from n)))
    (λ b. rw b (rw b (kept_now ks id n)))
  where
    ap_le : (a b : ℕ) → b ≤ max a b
    ap_le a b = omega arith

moved_none : (ns : Id) (o : Option TableView) (v : TableView) → moved_to ns o ≡ Some v → ns ≡ v.namespace
moved_none ns None v e = absurd (let q = e in grind arith)
moved_none ns (Some t) v e = let is : record t { namespace = ns } ≡ v = cc in ap (λ k. k.namespace) is

abbrev pub with_tables : Catalog → CloneRecord → ℕ → List TableRecord
with_tables c r n = c.tables ++ cloned_tables r.tables c.tables r.target_id r.to n

module _ (c : Catalog) (time drawn n : ℕ) (changes : List Change) (r : CloneRecord) (w : MayTake c drawn changes r) (h : TablesStand c time drawn changes) where
  abbrev Comes : TableRecord → Type 0
  Comes q = IsCloned r.tables c.tables r.target_id r.to n q

  -- a record is one that was there, or of a target
  by_table : (P : TableRecord → Type 0) → ((q : TableRecord) → In q c.tables → P q) → ((q : TableRecord) (k : Comes q) → P (cloned c.tables r.target_id k.pair.target n k.was)) → (q : TableRecord) → In q (with_tables c r n) → P q
  by_table P old new q isin = elim (in_append c.tables (cloned_tables r.tables c.tables r.target_id r.to n) q isin) [
    | inl here ↦ old q here
    | inr came ↦ (let k = cloned_is c.tables r.target_id r.to n r.tables q came in subst P k.is (new q k))
  ]

  of_target : (q : TableRecord) → In q c.tables → owner_of c.owners q.id ≡ Some r.target_id → ⊥
  of_target q isin e = w.none q isin (let k : Some q.namespace ≡ Some r.target_id = sym (h.owned q isin) ∙ e in cc)

  was_of : (q : TableRecord) (k : Comes q) → k.was.namespace ≡ r.source
  was_of q k =
      let is = record_at_is c.tables k.pair.source r.to k.was k.found in
      let e : Some k.was.namespace ≡ Some r.source = sym (h.owned k.was is.listed) ∙ ap (owner_of c.owners) is.id_is ∙ w.source k.pair k.paired in cc

  same_pair : (a b : TableRecord) (j : Comes a) (k : Comes b) → j.pair ≡ k.pair → cloned c.tables r.target_id j.pair.target n j.was ≡ cloned c.tables r.target_id k.pair.target n k.was
  same_pair a b j k e =
      let found : Some j.was ≡ Some k.was = sym j.found ∙ ap (λ p. record_at c.tables p.source r.to) e ∙ k.found in
      let is : j.was ≡ k.was = cc in
      ap (λ p. cloned c.tables r.target_id p.target n j.was) e ∙ ap (cloned c.tables r.target_id k.pair.target n) is

  same_new : (a b : TableRecord) (j : Comes a) (k : Comes b) → Alike (cloned c.tables r.target_id j.pair.target n j.was) (cloned c.tables r.target_id k.pair.target n k.was)
      → cloned c.tables r.target_id j.pair.target n j.was ≡ cloned c.tables r.target_id k.pair.target n k.was
  same_new a b j k (inl e) = same_pair a b j k (one_target_of r.tables j.pair k.pair w.apart j.paired k.paired e)
  same_new a b j k (inr e) =
      let p = record_at_is c.tables j.pair.source r.to j.was j.found in
      let q = record_at_is c.tables k.pair.source r.to k.was k.found in
      let is : j.was ≡ k.was = old_one c time drawn changes r.to j.was k.was h p.listed q.listed p.holds q.holds (inr (was_of a j ∙ sym (was_of b k), e.1)) in
      same_pair a b j k (one_source_of r.tables j.pair k.pair w.apart j.paired k.paired (sym p.id_is ∙ ap (λ t. t.id) is ∙ q.id_is))

  -- one that was there is not alike to a target
  apart_new : (a b : TableRecord) (k : Comes b) → In a c.tables → Alike a (cloned c.tables r.target_id k.pair.target n k.was) → ⊥
  apart_new a b k isin (inl e) = of_target a isin (ap (owner_of c.owners) e ∙ w.target k.pair k.paired)
  apart_new a b k isin (inr e) = w.none a isin e.0

  alike_back : (a b : TableRecord) → Alike a b → Alike b a
  alike_back a b (inl e) = inl (sym e)
  alike_back a b (inr e) = inr (sym e.0, sym e.1)

  new_one : (x : ℕ) (a b : TableRecord) → In a (with_tables c r n) → In b (with_tables c r n) → holds_at x a.from a.to ≡ true → holds_at x b.from b.to ≡ true → Alike a b → a ≡ b
  new_one x a b in_a in_b = by_table (λ a. holds_at x a.from a.to ≡ true → holds_at x b.from b.to ≡ true → Alike a b → a ≡ b)
      (λ a old. by_table (λ b. holds_at x a.from a.to ≡ true → holds_at x b.from b.to ≡ true → Alike a b → a ≡ b)
      (λ b older held_a held_b alike. old_one c time drawn changes x a b h old older held_a held_b alike)
      (λ b k held_a held_b alike. absurd (apart_new a b k old alike)) b in_b)
      (λ a j. by_table (λ b. holds_at x n None ≡ true → holds_at x b.from b.to ≡ true → Alike (cloned c.tables r.target_id j.pair.target n j.was) b → cloned c.tables r.target_id j.pair.target n j.was ≡ b)
      (λ b older held_a held_b alike. absurd (apart_new b a j older (alike_back (cloned c.tables r.target_id j.pair.target n j.was) b alike)))
      (λ b k held_a held_b alike. same_new a b j k alike) b in_b) a in_a

  -- The view

  record_aside : (x : ℕ) (id : Id) → source_of r.tables id ≡ None → record_at (with_tables c r n) id x ≡ record_at c.tables id x
  record_aside x id none =
      record_at_found (with_tables c r n) id x
      ∙ find_in_first (is_table_at id x) c.tables (cloned_tables r.tables c.tables r.target_id r.to n) (λ a isin.
      let k = cloned_is c.tables r.target_id r.to n r.tables a isin in
      second_fails (holds_at x a.from a.to) (same a.id id) (not_same a.id id (λ e.
      let q : None ≡ Some k.pair.source = sym none ∙ ap (source_of r.tables) (sym (ap (λ t. t.id) k.is ∙ e)) ∙ source_is r.tables k.pair w.apart k.paired in grind arith)))
      ∙ sym (record_at_found c.tables id x)

  view_target : (x : ℕ) (d : IdPair) → In d r.tables → n ≤ x → view_at (with_tables c r n) x d.target ≡ moved_to r.target_id (view_at c.tables r.to d.source)
  view_target x d isin l = none_or_some (record_at c.tables d.source r.to)
      (λ none.
      let nothing : find (is_table_at d.target x) (with_tables c r n) ≡ None = none_found (is_table_at d.target x) (with_tables c r n) (by_table (λ a. is_table_at d.target x a ≡ false)
      (λ a old. second_fails (holds_at x a.from a.to) (same a.id d.target) (not_same a.id d.target (λ e. of_target a old (ap (owner_of c.owners) e ∙ w.target d isin))))
      (λ a k. second_fails (holds_at x n None) (same k.pair.target d.target) (not_same k.pair.target d.target (λ e.
      let one = one_target_of r.tables k.pair d w.apart k.paired isin e in
      let q : None ≡ Some k.was = sym none ∙ ap (λ p. record_at c.tables p.source r.to) (sym one) ∙ k.found in grind arith)))) in
      ap (option_map view_of) (record_at_found (with_tables c r n) d.target x ∙ nothing) ∙ sym (ap (λ o. moved_to r.target_id (option_map view_of o)) none))
      (λ was some.
      let a = cloned c.tables r.target_id d.target n was in
      let there : In a (with_tables c r n) = in_second c.tables (cloned_tables r.tables c.tables r.target_id r.to n) a (cloned_has c.tables r.target_id r.to n r.tables d was isin some) in
      let now : holds_at x n None ≡ true = passes_both (leb n x) true (le-leb n x l) refl in
      let found : find (is_table_at d.target x) (with_tables c r n) ≡ Some a = find_only (is_table_at d.target x) (with_tables c r n) a there (passes_both (holds_at x n None) (same d.target d.target) now (same_self d.target))
      (λ b in_b passes. let k = both_pass (holds_at x b.from b.to) (same b.id d.target) passes in new_one x b a in_b there k.0 now (inl (same_equal b.id d.target k.1))) in
      ap (option_map view_of) (record_at_found (with_tables c r n) d.target x ∙ found) ∙ sym (ap (λ o. moved_to r.target_id (option_map view_of o)) some))

  inside_cloned : (id : Id) (x : ℕ) (v : TableView) → table_at (clone n r changes) x id ≡ Some v → owner_of c.owners id ≡ Some v.namespace
  inside_cloned id x v there = by_source r.tables id
      (λ none. h.inside id x v (sym (table_aside n r changes x id none) ∙ there))
      (λ d isin e. subst (λ i. table_at (clone n r changes) x i ≡ Some v → owner_of c.owners i ≡ Some v.namespace) e (λ seen. either_way (leb n x)
      (λ l. w.target d isin ∙ ap Some (moved_none r.target_id (table_at changes r.to d.source) v (sym (table_target n r changes x d w.apart isin (leb-true n x l)) ∙ seen)))
      (λ l. h.inside d.target x v (sym (table_early n r changes x d.target (leb-false n x l)) ∙ seen))) there)

  pub tables_cloned : (namespaces : List NamespaceRecord) → time ≤ n
      → TablesStand (record c { namespaces = namespaces; tables = with_tables c r n; kept_from = set_kept_from c.kept_from r.target_id n }) n drawn (clone n r changes)
  tables_cloned namespaces le = record {
    past = by_table (λ a. IsPast n a.from a.to) (λ a old. past_later a.from time n a.to le (h.past a old)) (λ a k. record { begun = le_refl n; ended = tt });
    drawn_before = by_table (λ a. a.id.number ≤ drawn) (λ a old. h.drawn_before a old) (λ a k. w.drawn_target k.pair k.paired);
    owned = by_table (λ a. owner_of c.owners a.id ≡ Some a.namespace) (λ a old. h.owned a old) (λ a k. w.target k.pair k.paired);
    owners_drawn = h.owners_drawn;
    unique = λ x a isin held. table_named_found (with_tables c r n) a.namespace a.name x
        ∙ find_only (is_named_at a.namespace a.name x) (with_tables c r n) a isin
        (passes_both (holds_at x a.from a.to) (has_title a.namespace a.name a) held (passes_both (same a.namespace a.namespace) (bytes_eq a.name a.name) (same_self a.namespace) (key_self a.name)))
        (λ b in_b passes.
        let k = both_pass (holds_at x b.from b.to) (has_title a.namespace a.name b) passes in
        let t = both_pass (same b.namespace a.namespace) (bytes_eq b.name a.name) k.1 in
        new_one x b a in_b isin k.0 held (inr (same_equal b.namespace a.namespace t.0, equal_keys b.name a.name t.1)));
    found = λ x a isin held. record_at_found (with_tables c r n) a.id x
        ∙ find_only (is_table_at a.id x) (with_tables c r n) a isin (passes_both (holds_at x a.from a.to) (same a.id a.id) held (same_self a.id))
        (λ b in_b passes. let k = both_pass (holds_at x b.from b.to) (same b.id a.id) passes in new_one x b a in_b isin k.0 held (inl (same_equal b.id a.id k.1)));
    columns = by_table (λ a. ColumnsStand a.schema) (λ a old. h.columns a old) (λ a k.
        let is = record_at_is c.tables k.pair.source r.to k.was k.found in
        let g = h.columns k.was is.listed in
        record { apart = g.apart; drawn = λ col there. (let l = g.drawn col there in let m = newest_most c.tables k.was k.was h.rise is.listed refl in omega arith) });
    rise = rise_append c.tables (cloned_tables r.tables c.tables r.target_id r.to n) h.rise (cloned_rise c.tables r.target_id r.to n r.tables w.apart)
        (λ x y in_x in_y e. (let k = cloned_is c.tables r.target_id r.to n r.tables y in_y in absurd (apart_new x y k in_x (inl (sym e ∙ ap (λ t. t.id) (sym k.is))))));
    viewed = λ id ns x owned kept. by_source r.tables id
        (λ none. table_aside n r changes x id none ∙ h.viewed id ns x owned (le_trans (kept_rises c.kept_from r.target_id n ns) kept) ∙ sym (ap (option_map view_of) (record_aside x id none)))
        (λ d isin e. subst (λ i. owner_of c.owners i ≡ Some ns → table_at (clone n r changes) x i ≡ view_at (with_tables c r n) x i) e (λ own.
        let q : Some r.target_id ≡ Some ns = sym (w.target d isin) ∙ own in
        let is : r.target_id ≡ ns = cc in
        let l : n ≤ x = le_trans (kept_now c.kept_from r.target_id n) (subst (λ k. kept_from (set_kept_from c.kept_from r.target_id n) k ≤ x) (sym is) kept) in
        table_target n r changes x d w.apart isin l ∙ ap (moved_to r.target_id) (h.viewed d.source r.source r.to (w.source d isin) w.known) ∙ sym (view_target x d isin l)) owned);
    unmade = λ id x none. by_source r.tables id
        (λ aside. table_aside n r changes x id aside ∙ h.unmade id x none)
        (λ d isin e. absurd (let q : None ≡ Some r.target_id = sym none ∙ ap (owner_of c.owners) (sym e) ∙ w.target d isin in grind arith));
    inside = inside_cloned;
    kept = λ ns. kept_by c.kept_from r.target_id n n ns (le_trans (h.kept ns) le) (le_refl n);
  }

  pub marks_cloned : MarksStand c → MarksStand (record c { namespaces = c.namespaces ++ new_namespace r.target_id r.target n ∷ []; tables = with_tables c r n; kept_from = set_kept_from c.kept_from r.target_id n })
  marks_cloned m = (let g = marks_namespace_made c (new_namespace r.target_id r.target n) n m in record {
    namespaces = g.namespaces;
    tables = by_table (λ a. is_marked (set_kept_from c.kept_from r.target_id n) a.namespace ≡ true) (λ a old. g.tables a old) (λ a k. marked_set c.kept_from r.target_id n);
  })

-- the target's name is current
pub names_cloned : (rs : List NamespaceRecord) (time drawn n : ℕ) (changes : List Change) (r : CloneRecord) → time ≤ n → r.target_id.number ≤ drawn
    → ((q : NamespaceRecord) → In q rs → (q.id ≡ r.target_id → ⊥) × (is_open q.to ≡ true → q.name ≡ r.target → ⊥)) → NamespacesStand rs time drawn changes
    → NamespacesStand (rs ++ new_namespace r.target_id r.target n ∷ []) n drawn (clone n r changes)
names_cloned rs time drawn n changes r le drawn_by none h =
    names_begun rs time drawn drawn n r.target_id r.target (NamespaceCloned r.source r.target_id r.target r.to r.tables) changes le (le_refl drawn) drawn_by
    (none_or_some (namespace_named rs r.target) (λ e. e) (λ id e. let k = named_is rs r.target id e in absurd ((none k.record_ k.listed).1 k.current k.name_is)))
    (none_or_some (name_of rs r.target_id) (λ e. e) (λ name e. let k = name_is rs r.target_id name e in absurd ((none k.record_ k.listed).0 k.id_is)))
    (λ k before. refl) h
