-- The tables that a clone takes over of its source may begin in its target.
use Rattle.std.proofs.Common.{ℕ, zero, suc, ◌≡◌, ◌<◌, ◌⊎◌, inl, inr, Bool, true, false, ◌&&◌, cond, List, [], ◌∷◌, ◌++◌, Option, Some, None, slice_get, nat_le, refl, sym, ap, ◌∙◌, arith}
use Rattle.std.specs.List.{find}
use Rattle.std.specs.Option.{option_map_or}
use Rattle.std.specs.Str.{bytes_eq}
use Rattle.row_values.specs.Ids.{Id, same}
use Rattle.row_values.specs.Elements.{In, AllOf}
use Rattle.model.specs.Times.{is_open, before_end, holds_at}
use Rattle.model.specs.Records.{IdPair, CloneRecord}
use Rattle.model.specs.Catalog.{Catalog, TableRecord, owner_of}
use Rattle.model.specs.Restored.{record_at, cloned, cloned_tables}
use Rattle.newest_index.specs.Newest.{InTurn}
use Rattle.catalog_core.specs.Kept.{same_table_name, table_over}
use Rattle.catalog_core.specs.Begins.{Clears, BeginsAll}
use Rattle.catalog_core.specs.Cloned.{PairsApart, TargetFits}
use Rattle.catalog_core.proofs.Replaced.{and_left, and_right, and_both}
use Rattle.catalog_core.proofs.Back.{never, over_at, Differ, Apart, IsNew, begin_all, swap_bytes}

-- Records found

-- the record of a place is in the list
in_at : (rs : List TableRecord) (i : ℕ) (r : TableRecord) → slice_get rs i ≡ Some r → In r rs
in_at [] i r is = absurd (cc)
in_at (s ∷ ss) zero r is = inl (cc)
in_at (s ∷ ss) (suc i) r is = inr (in_at ss i r is)

-- a record that was found stands at a place, and passes the test
record Place (test : TableRecord → Bool) (rs : List TableRecord) (r : TableRecord) : Type 0 where
  at : ℕ
  stands : slice_get rs at ≡ Some r
  passes : test r ≡ true

placed : (test : TableRecord → Bool) (rs : List TableRecord) (r : TableRecord) → find test rs ≡ Some r → Place test rs r
placed test [] r e = absurd (cc)
placed test (s ∷ ss) r e = by (test s) refl e (placed test ss r)
  where
    later : Place test ss r → Place test (s ∷ ss) r
    later p = record { at = suc p.at; stands = p.stands; passes = p.passes }

    by : (b : Bool) → test s ≡ b → cond b (Some s) (find test ss) ≡ Some r → (find test ss ≡ Some r → Place test ss r) → Place test (s ∷ ss) r
    by true is e rest = let one : s ≡ r = cc in record { at = 0; stands = ap Some one; passes = ap test (sym one) ∙ is }
    by false is e rest = later (rest e)

abbrev was : Id → ℕ → TableRecord → Bool
was id x r = holds_at x r.from r.to && same r.id id

was_find : (rs : List TableRecord) (id : Id) (x : ℕ) → record_at rs id x ≡ find (was id x) rs
was_find [] id x = refl
was_find (r ∷ rs) id x = ap (cond (was id x r) (Some r)) (was_find rs id x)

-- no record passes
none_passes : (test : TableRecord → Bool) (rs : List TableRecord) → ((r : TableRecord) → In r rs → test r ≡ false) → find test rs ≡ None
none_passes test [] none = refl
none_passes test (r ∷ rs) none = ap (λ b. cond b (Some r) (find test rs)) (none r (inl refl)) ∙ none_passes test rs (λ q isin. none q (inr isin))

second_false : (a b : Bool) → b ≡ false → (a && b) ≡ false
second_false true b e = e
second_false false b e = refl

first_false : (a b : Bool) → a ≡ false → (a && b) ≡ false
first_false true b e = absurd (cc)
first_false false b e = refl

all_append : (P : TableRecord → Type 0) (ts us : List TableRecord) → AllOf P ts → AllOf P us → AllOf P (ts ++ us)
all_append P [] us first second = second
all_append P (t ∷ ts) us first second = (first.0, all_append P ts us first.1 second)

-- Clones

three : (i j : ℕ) → (i < j) ⊎ ((i ≡ j) ⊎ (j < i))
three zero zero = inr (inl refl)
three zero (suc j) = inl (omega arith)
three (suc i) zero = inr (inr (omega arith))
three (suc i) (suc j) = by (three i j)
  where
    by : (i < j) ⊎ ((i ≡ j) ⊎ (j < i)) → (suc i < suc j) ⊎ ((suc i ≡ suc j) ⊎ (suc j < suc i))
    by (inl e) = inl (omega (arith, e))
    by (inr (inl e)) = inr (inl (ap suc e))
    by (inr (inr e)) = inr (inr (omega (arith, e)))

module _ (equal : (a b : Id) → same a b ≡ true → a ≡ b) (same_self : (a b : Id) → a ≡ b → same a b ≡ true) (c : Catalog) (r : CloneRecord) (at : ℕ) (fits : TargetFits c r) where
  abbrev made : IdPair → TableRecord → TableRecord
  made p q = cloned c.tables r.target_id p.target at q

  not_target : (t : TableRecord) → In t c.tables → same t.namespace r.target_id ≡ true → ⊥
  not_target t isin e = fits.empty t isin (equal t.namespace r.target_id e)

  not_made : (p : IdPair) → In p r.tables → (t : TableRecord) → In t c.tables → same t.id p.target ≡ true → ⊥
  not_made p paired t isin e =
      let owner : Some t.namespace ≡ Some r.target_id =
      sym (fits.owned t isin) ∙ ap (owner_of c.owners) (equal t.id p.target e) ∙ fits.targets p paired in
      fits.empty t isin (cc)

  clears : (p : IdPair) (q : TableRecord) → In p r.tables → Clears c.tables (made p q)
  clears p q paired = record {
    names = λ i t is like.
        let no : ⊥ = not_target t (in_at c.tables i t is) (and_left (same t.namespace r.target_id) (bytes_eq t.name q.name) like) in absurd no;
    ids = λ i t is like. let no : ⊥ = not_made p paired t (in_at c.tables i t is) like in absurd no;
  }

  new_made : (p : IdPair) (q : TableRecord) → In p r.tables → IsNew c.tables at (made p q)
  new_made p q paired = record {
    current = refl;
    begun = refl;
    past = clears p q paired;
    free = none_passes (λ (t : TableRecord). is_open t.to && (same t.namespace r.target_id && bytes_eq t.name q.name)) c.tables
        (λ t isin. second_false (is_open t.to) (same t.namespace r.target_id && bytes_eq t.name q.name)
        (first_false (same t.namespace r.target_id) (bytes_eq t.name q.name) (never (same t.namespace r.target_id) (not_target t isin))));
    fresh = none_passes (λ (t : TableRecord). is_open t.to && same t.id p.target) c.tables
        (λ t isin. second_false (is_open t.to) (same t.id p.target) (never (same t.id p.target) (not_made p paired t isin)));
  }

  -- the record of a source at the time is of the source's namespace
  of_source : (p : IdPair) (q : TableRecord) → In p r.tables → In q c.tables → same q.id p.source ≡ true → q.namespace ≡ r.source
  of_source p q paired isin e =
      let owner : Some q.namespace ≡ Some r.source =
      sym (fits.owned q isin) ∙ ap (owner_of c.owners) (equal q.id p.source e) ∙ fits.sources p paired in
      cc

  -- no two of the tables share a name or an identifier
  module _ (names : InTurn same_table_name table_over c.tables) where
    abbrev Held : IdPair → TableRecord → Type 0
    Held p q = Place (was p.source r.to) c.tables q

    held : (p : IdPair) (q : TableRecord) → Held p q → holds_at r.to q.from q.to ≡ true
    held p q place = and_left (holds_at r.to q.from q.to) (same q.id p.source) place.passes

    its : (p : IdPair) (q : TableRecord) → Held p q → same q.id p.source ≡ true
    its p q place = and_right (holds_at r.to q.from q.to) (same q.id p.source) place.passes

    within : (p : IdPair) (q : TableRecord) → In p r.tables → Held p q → q.namespace ≡ r.source
    within p q paired place = of_source p q paired (in_at c.tables place.at q place.stands) (its p q place)

    -- of two records of a name the earlier was over
    clash : (d e : IdPair) (q s : TableRecord) → In d r.tables → In e r.tables → (there : Held d q) → (here : Held e s) → there.at < here.at
        → bytes_eq q.name s.name ≡ true → ⊥
    clash d e q s first second there here before like =
        let spaces : q.namespace ≡ s.namespace = within d q first there ∙ sym (within e s second here) in
        let names_alike : same_table_name q s ≡ true =
        and_both (same q.namespace s.namespace) (bytes_eq q.name s.name) (same_self q.namespace s.namespace spaces) like in
        over_at r.to s.from q.to (names.turns there.at here.at q s before there.stands here.stands names_alike)
        (and_left (nat_le s.from r.to) (before_end r.to s.to) (held e s here))
        (and_right (nat_le q.from r.to) (before_end r.to q.to) (held d q there))

    apart_names : (d e : IdPair) (q s : TableRecord) → In d r.tables → In e r.tables → (d.source ≡ e.source → ⊥) → Held d q → Held e s
        → bytes_eq q.name s.name ≡ true → ⊥
    apart_names d e q s first second apart there here like = by (three there.at here.at)
      where
        by : (there.at < here.at) ⊎ ((there.at ≡ here.at) ⊎ (here.at < there.at)) → ⊥
        by (inl before) = clash d e q s first second there here before like
        by (inr (inr behind)) = clash e d s q second first here there behind (swap_bytes q.name s.name like)
        by (inr (inl one)) =
            let both : Some q ≡ Some s = sym there.stands ∙ ap (slice_get c.tables) one ∙ here.stands in
            let record_is : q ≡ s = cc in
            apart (sym (equal q.id d.source (its d q there)) ∙ ap (λ (t : TableRecord). t.id) record_is ∙ equal s.id e.source (its e s here))

    differ_made : (d e : IdPair) (q s : TableRecord) → In d r.tables → In e r.tables → (d.source ≡ e.source → ⊥) × (d.target ≡ e.target → ⊥)
        → Held d q → Held e s → Differ (made d q) (made e s)
    differ_made d e q s first second apart there here = record {
      names = second_false (same r.target_id r.target_id) (bytes_eq q.name s.name)
          (never (bytes_eq q.name s.name) (apart_names d e q s first second apart.0 there here));
      names_back = second_false (same r.target_id r.target_id) (bytes_eq s.name q.name)
          (never (bytes_eq s.name q.name) (λ like. apart_names d e q s first second apart.0 there here (swap_bytes s.name q.name like)));
      ids = never (same d.target e.target) (λ is. apart.1 (equal d.target e.target is));
      ids_back = never (same e.target d.target) (λ is. apart.1 (sym (equal e.target d.target is)));
    }

    -- what each of the tables of pairs meets
    all_made : (P : TableRecord → Type 0) (ps : List IdPair)
        → ((p : IdPair) (q : TableRecord) → In p ps → Held p q → P (made p q))
        → AllOf P (cloned_tables ps c.tables r.target_id r.to at)
    all_made P [] each = tt
    all_made P (p ∷ ps) each = by (record_at c.tables p.source r.to) refl (all_made P ps (λ d q isin. each d q (inr isin)))
      where
        by : (o : Option TableRecord) → record_at c.tables p.source r.to ≡ o → AllOf P (cloned_tables ps c.tables r.target_id r.to at)
            → AllOf P (option_map_or (λ q. made p q ∷ []) o [] ++ cloned_tables ps c.tables r.target_id r.to at)
        by None is rest = rest
        by (Some q) is rest = (each p q (inl refl) (placed (was p.source r.to) c.tables q (sym (was_find c.tables p.source r.to) ∙ is)), rest)

    all_apart : (ps : List IdPair) → ((p : IdPair) → In p ps → In p r.tables) → PairsApart ps
        → Apart (cloned_tables ps c.tables r.target_id r.to at)
    all_apart [] within apart = tt
    all_apart (p ∷ ps) within apart = by (record_at c.tables p.source r.to) refl (all_apart ps (λ d isin. within d (inr isin)) apart.1)
      where
        by : (o : Option TableRecord) → record_at c.tables p.source r.to ≡ o → Apart (cloned_tables ps c.tables r.target_id r.to at)
            → Apart (option_map_or (λ q. made p q ∷ []) o [] ++ cloned_tables ps c.tables r.target_id r.to at)
        by None is rest = rest
        by (Some q) is rest =
            let there = placed (was p.source r.to) c.tables q (sym (was_find c.tables p.source r.to) ∙ is) in
            (all_made (Differ (made p q)) ps (λ e s isin here. differ_made p e q s (within p (inl refl)) (within e (inr isin)) (apart.0 e isin) there here), rest)

    pub cloned_begin : BeginsAll c.tables (cloned_tables r.tables c.tables r.target_id r.to at)
    cloned_begin =
        begin_all c.tables at (cloned_tables r.tables c.tables r.target_id r.to at)
        (all_made (IsNew c.tables at) r.tables (λ p q isin here. new_made p q isin))
        (all_apart r.tables (λ p isin. isin) fits.apart)
