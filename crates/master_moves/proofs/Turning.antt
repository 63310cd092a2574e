-- What a switch brings back, where the master is lawful.
use Rattle.std.proofs.Common.{ℕ, zero, suc, ◌≡◌, ◌<◌, ◌+◌, ◌^◌, Bool, true, false, cond, List, [], ◌∷◌, ◌++◌, map, Option, Some, None, length, get_or, ◌&&◌, inl, inr, refl, sym, ap, subst, ◌∙◌, arith, ltb}
use Rattle.std.specs.List.{filter, find}
use Rattle.std.specs.Option.{unwrap_or}
use Rattle.row_values.specs.Elements.{In}
use Rattle.row_values.specs.Ids.{Id, same}
use Rattle.row_values.specs.Schema.{Schema}
use Rattle.model.specs.Activity.{Interval, active_at}
use Rattle.model.specs.Catalog.{TableRecord, Owner, owner_of, owns, put_table, by_id, tables_at, end_tables, latest_from}
use Rattle.model.specs.Lists.{once, intervals_in, active_tablets, tablets_active_at}
use Rattle.model.specs.Cluster.{option_map_or}
use Rattle.model.specs.Parts.{Master}
use Rattle.model.specs.Records.{Listed}
use Rattle.model.specs.Restored.{tables_back, restored_tables, version_of, concerned, switch_list}
use Rattle.model.specs.Tablets.{RestoreFrom, Hide}
use Rattle.model.specs.Times.{holds_at, is_open, ended}
use Rattle.law_store.proofs.Keys.{either_way}
use Rattle.law_invariants.proofs.Finding.{in_append, filter_in, in_mapped, none_found, same_equal, same_self, first_fails, second_fails}
use Rattle.law_invariants.proofs.Listing.{once_only}
use Rattle.law_invariants.proofs.Parting.{ordered_only}
use Rattle.law_invariants.proofs.Undoing.{owned_is}
use Rattle.master_part.specs.Acts.{IsLawful}
use Rattle.master_moves.specs.Switches.{GoesOn, line_with}

-- Tables

pub in_at : {A : Type 0} (xs : List A) (i : ℕ) (x : A) → i < length xs → In (get_or xs i x) xs
in_at [] i x lt = absurd (omega (arith, lt))
in_at (y ∷ ys) zero x lt = inl refl
in_at (y ∷ ys) (suc i) x lt = inr (in_at ys i x (omega (arith, lt)))

put_only : (t : TableRecord) (us : List TableRecord) (a : TableRecord) → In a (put_table t us) → In a (t ∷ us)
put_only t [] a isin = isin
put_only t (u ∷ us) a isin = either_way (ltb t.id.number u.id.number)
    (λ b. let k : In a (t ∷ u ∷ us) = subst (λ c. In a (cond c (t ∷ u ∷ us) (u ∷ put_table t us))) b isin in k)
    (λ b. let k : In a (u ∷ put_table t us) = subst (λ c. In a (cond c (t ∷ u ∷ us) (u ∷ put_table t us))) b isin in
    elim k as (λ _. In a (t ∷ u ∷ us)) [ inl e ↦ inr (inl e) | inr rest ↦ (let q = put_only t us a rest in elim q as (λ _. In a (t ∷ u ∷ us)) [ inl e ↦ inl e | inr more ↦ inr (inr more) ]) ])

by_id_only : (ts : List TableRecord) (a : TableRecord) → In a (by_id ts) → In a ts
by_id_only [] a isin = isin
by_id_only (t ∷ ts) a isin = elim (put_only t (by_id ts) a isin) as (λ _. In a (t ∷ ts)) [ inl e ↦ inl e | inr rest ↦ inr (by_id_only ts a rest) ]

-- the tables of a time are among the records
pub was_listed : (rs : List TableRecord) (ns : Id) (x : ℕ) (a : TableRecord) → In a (tables_at rs ns x) → In a rs
was_listed rs ns x a isin =
    let test : TableRecord → Bool = λ r. holds_at x r.from r.to && same r.namespace ns in
    (filter_in rs test a (by_id_only (filter test rs) a isin)).0

-- what holds of the schema of each record holds of the last found one
later_holds : (P : Schema → Type 0) (rs : List TableRecord) (id : Id) (found : Option Schema) (d : Schema)
    → ((q : TableRecord) → In q rs → P q.schema) → P (unwrap_or found d) → P (unwrap_or (latest_from rs id found) d)
later_holds P [] id found d each here = here
later_holds P (r ∷ rs) id found d each here =
    later_holds P rs id (cond (same r.id id) (Some r.schema) found) d (λ q isin. each q (inr isin))
    (either_way (same r.id id)
    (λ b. subst (λ c. P (unwrap_or (cond c (Some r.schema) found) d)) (sym b) (each r (inl refl)))
    (λ b. subst (λ c. P (unwrap_or (cond c (Some r.schema) found) d)) (sym b) here))

-- a table may go on
pub goes_on : (m : Master) → IsLawful m → (t : TableRecord) → In t m.catalog.tables → GoesOn m.catalog.tables t
goes_on m lawful t isin = record {
  version = later_holds (λ s. s.version + 1 < 2 ^ 32) m.catalog.tables t.id None t.schema (λ q there. (lawful.columns q there).0) (lawful.columns t isin).0;
  next = lawful.newest t isin;
}

pub goes_on_then : (m : Master) → IsLawful m → (ns : Id) (x : ℕ) (t : TableRecord) → In t (tables_at m.catalog.tables ns x) → GoesOn m.catalog.tables t
goes_on_then m lawful ns x t isin = goes_on m lawful t (was_listed m.catalog.tables ns x t isin)

-- The list

found_behind : {A : Type 0} (test : A → Bool) (xs ys : List A) → find test xs ≡ None → find test (xs ++ ys) ≡ find test ys
found_behind test [] ys none = refl
found_behind test (x ∷ xs) ys none = either_way (test x)
    (λ b. let k : Some x ≡ None = sym (ap (λ c. cond c (Some x) (find test xs)) b) ∙ none in absurd (cc))
    (λ b. ap (λ c. cond c (Some x) (find test (xs ++ ys))) b ∙ found_behind test xs ys (sym (ap (λ c. cond c (Some x) (find test xs)) b) ∙ none))

module _ (owners : List Owner) (rs : List TableRecord) (owned : (t : TableRecord) → In t rs → owner_of owners t.id ≡ Some t.namespace) (ns : Id) (table : Id) (here : owns owners ns table ≡ true) where
  abbrev is_current : TableRecord → Bool
  is_current r = is_open r.to && same r.id table

  -- a record of the table is one of the namespace
  of_namespace : (t : TableRecord) → In t rs → same t.id table ≡ true → same t.namespace ns ≡ true
  of_namespace t isin is =
      let one : t.id ≡ table = same_equal t.id table is in
      let first : owner_of owners table ≡ Some t.namespace = ap (owner_of owners) (sym one) ∙ owned t isin in
      let second : owner_of owners table ≡ Some ns = owned_is (owner_of owners table) ns here in
      let both : Some t.namespace ≡ Some ns = sym first ∙ second in
      let equal : t.namespace ≡ ns = cc in
      ap (λ n. same n ns) equal ∙ same_self ns

  -- where the namespace's records ended, none of them is current
  none_open : (point : ℕ) (to : Option ℕ) → is_open (ended point to) ≡ false
  none_open point None = refl
  none_open point (Some end_) = refl

  not_current : (point : ℕ) (t : TableRecord) → In t rs → is_current (record t { to = cond (same t.namespace ns) (ended point t.to) t.to }) ≡ false
  not_current point t isin = either_way (same t.id table)
      (λ is. first_fails (is_open (cond (same t.namespace ns) (ended point t.to) t.to)) (same t.id table)
      (ap (λ b. is_open (cond b (ended point t.to) t.to)) (of_namespace t isin is) ∙ none_open point t.to))
      (λ is. second_fails (is_open (cond (same t.namespace ns) (ended point t.to) t.to)) (same t.id table) is)

  none_current : (point : ℕ) → find is_current (end_tables ns point rs) ≡ None
  none_current point = none_found is_current (end_tables ns point rs)
      (in_mapped {A = TableRecord} {B = TableRecord} (λ r. record r { to = cond (same r.namespace ns) (ended point r.to) r.to })
      (λ r. is_current r ≡ false) rs (not_current point))

  -- the table's version behind the switch is that of the time's tables that go on
  pub version_back : (to point : ℕ) → version_of (restored_tables rs ns to point) table ≡ version_of (tables_back rs ns to point) table
  version_back to point = ap (λ f. option_map_or (λ (r : TableRecord). r.schema.version) f 0)
      (found_behind is_current (end_tables ns point rs) (tables_back rs ns to point) (none_current point))

map_alike : {A B : Type 0} (f g : A → B) (xs : List A) → ((a : A) → In a xs → f a ≡ g a) → map f xs ≡ map g xs
map_alike f g [] each = refl
map_alike f g (x ∷ xs) each =
    ap (λ y. y ∷ map f xs) (each x (inl refl)) ∙ ap (λ ys. g x ∷ ys) (map_alike f g xs (λ a isin. each a (inr isin)))

-- a tablet that a switch concerns is one of the namespace's
concerned_owned : (owners : List Owner) (activity : List Interval) (ns : Id) (to : ℕ) (i : Interval) → In i (concerned owners activity ns to) → owns owners ns i.table ≡ true
concerned_owned owners activity ns to i isin =
    let owned : Interval → Bool = λ i. owns owners ns i.table in
    let first = tablets_active_at owners activity ns to in
    let now_ = active_tablets owners activity ns in
    let both : In i (first ++ now_) = once_only (first ++ now_) i (ordered_only _ (once (first ++ now_)) i isin) in
    let within : In i (intervals_in owners activity ns) = elim (in_append first now_ i both) as (λ _. In i (intervals_in owners activity ns)) [
      | inl was ↦ (filter_in (intervals_in owners activity ns) (active_at to) i was).0
      | inr is ↦ (filter_in (intervals_in owners activity ns) (λ i. is_open i.to) i is).0
    ] in
    (filter_in activity owned i within).1

abbrev line_of : ℕ → ℕ → Id → Interval → ℕ → Listed
line_of to point serving i version = record {
  tablet = i.tablet;
  slot = i.slot;
  body = cond (active_at to i) (RestoreFrom serving to point version) (Hide point);
  acked = false;
}

-- the list by the tables that go on is that by all tables behind the switch
pub switch_is : (m : Master) → IsLawful m → (ns : Id) (to point : ℕ) (serving : Id)
    → map (line_with to point serving (tables_back m.catalog.tables ns to point)) (concerned m.catalog.owners m.activity ns to)
    ≡ switch_list m.catalog.owners m.activity ns to point serving (restored_tables m.catalog.tables ns to point)
switch_is m lawful ns to point serving =
    let before = tables_back m.catalog.tables ns to point in
    let behind = restored_tables m.catalog.tables ns to point in
    map_alike (line_with to point serving before) (line_with to point serving behind) (concerned m.catalog.owners m.activity ns to)
    (λ i isin. ap (line_of to point serving i)
    (sym (version_back m.catalog.owners m.catalog.tables lawful.owned ns i.table (concerned_owned m.catalog.owners m.activity ns to i isin) to point)))
