-- The records of a table rise: in the ids that its next columns get, and in time.
use Rattle.std.proofs.Common.{ℕ, ◌≡◌, ◌≤◌, List, [], ◌∷◌, ◌++◌, Option, Some, None, Bool, true, false, cond, inl, inr, refl, sym, ap, subst, ◌∙◌, arith, le_refl, ◌<◌, ◌+◌, not, length, eqb}
use Rattle.std.proofs.lemmas.Bool.{true≢false}
use Rattle.std.proofs.lemmas.Bool.Decides.{nat_tests}
use Rattle.model.specs.Cluster.{Id, same, In, is_open, ended, ended_by, Schema, Column, ColumnKind, NewColumn, column_named, numbered, first_schema, with_column, without_column}
use Rattle.model.specs.Catalog.{TableRecord, end_table, latest_from, latest}
use Rattle.law_invariants.specs.Invariant.{EndsBy, IsPast, RecordsRise, ColumnsStand}
use Rattle.law_invariants.proofs.Finding.{same_self, in_append, in_mapped, same_equal, in_added}
use Rattle.std.specs.Option.{unwrap_or}
use Rattle.model.specs.Restored.{newest}
use Rattle.law_store.proofs.Keys.{either_way, equal_keys, key_self, key_sym}
use Rattle.std.specs.List.{filter}
use Rattle.std.specs.Str.{bytes_eq}
use Rattle.model.specs.Entries.{NotNamed, NamesDiffer}

-- what had ended stays so
ended_stays : (b : Bool) (n x : ℕ) (to : Option ℕ) → ended_by x to ≡ true → ended_by x (cond b (ended n to) to) ≡ true
ended_stays b n x None h = absurd (true≢false (sym h))
ended_stays true n x (Some e) h = h
ended_stays false n x (Some e) h = h

pub rise_ended : (rs : List TableRecord) (id : Id) (n : ℕ) → RecordsRise rs → RecordsRise (end_table id n rs)
rise_ended [] id n h = tt
rise_ended (r ∷ rs) id n h = (
  in_mapped {A = TableRecord} {B = TableRecord} (λ s. record s { to = cond (same s.id id) (ended n s.to) s.to })
      (λ q. q.id ≡ r.id → (r.schema.next ≤ q.schema.next) × (ended_by q.from (cond (same r.id id) (ended n r.to) r.to) ≡ true)) rs
      (λ q isin e. let k = h.0 q isin e in (k.0, ended_stays (same r.id id) n q.from r.to k.1)),
  rise_ended rs id n h.1,
)

pub rise_added : (rs : List TableRecord) (q : TableRecord) → ((r : TableRecord) → In r rs → q.id ≡ r.id → (r.schema.next ≤ q.schema.next) × (ended_by q.from r.to ≡ true)) → RecordsRise rs → RecordsRise (rs ++ q ∷ [])
rise_added [] q above h = ((λ p none. absurd none), tt)
rise_added (r ∷ rs) q above h = ((λ p isin e. last rs p isin e), rise_added rs q (λ s isin. above s (inr isin)) h.1)
  where
    last : (ss : List TableRecord) (p : TableRecord) → In p (rs ++ q ∷ []) → p.id ≡ r.id → (r.schema.next ≤ p.schema.next) × (ended_by p.from r.to ≡ true)
    last ss p isin e = elim (in_append rs (q ∷ []) p isin) [
      | inl old ↦ h.0 p old e
      | inr new ↦ elim new [ inl is ↦ subst (λ k. k.id ≡ r.id → (r.schema.next ≤ k.schema.next) × (ended_by k.from r.to ≡ true)) is (λ f. above r (inl refl) f) e | inr none ↦ absurd none ]
    ]

-- an open record has the greatest next id
pub rise_top : (rs : List TableRecord) (t r : TableRecord) → RecordsRise rs → In t rs → is_open t.to ≡ true → In r rs → r.id ≡ t.id → r.schema.next ≤ t.schema.next
rise_top [] t r h there open_ isin e = absurd there
rise_top (s ∷ rs) t r h (inl at) open_ (inl is) e = subst (λ k. r.schema.next ≤ k.schema.next) (sym is ∙ at) (le_refl r.schema.next)
rise_top (s ∷ rs) t r h (inl at) open_ (inr isin) e = absurd (
    let k = (h.0 r isin (e ∙ ap (λ u. u.id) (sym at))).1 in
    not_ended s.to r.from (ap (λ u. is_open u.to) at ∙ open_) k)
  where
    not_ended : (to : Option ℕ) (x : ℕ) → is_open to ≡ true → ended_by x to ≡ true → ⊥
    not_ended None x o k = true≢false (sym k)
    not_ended (Some f) x o k = true≢false (sym o)
rise_top (s ∷ rs) t r h (inr there) open_ (inl is) e = subst (λ k. k.schema.next ≤ t.schema.next) is (h.0 t there (sym e ∙ ap (λ u. u.id) (sym is))).0
rise_top (s ∷ rs) t r h (inr there) open_ (inr isin) e = rise_top rs t r h.1 there open_ isin e

-- the records of a table that ends have ended
pub rise_over : (r : TableRecord) (id : Id) (time n : ℕ) → r.id ≡ id → IsPast time r.from r.to → time ≤ n → ended_by n (cond (same r.id id) (ended n r.to) r.to) ≡ true
rise_over r id time n e past le =
    let k : same r.id id ≡ true = ap (λ i. same i id) e ∙ same_self id in
    ap (λ b. ended_by n (cond b (ended n r.to) r.to)) k ∙ over r.to past.ended
  where
    over : (to : Option ℕ) → EndsBy time r.from to → ended_by n (ended n to) ≡ true
    over None h = grind (arith, nat_tests)
    over (Some f) h = let l : f ≤ time = h.1 in grind (arith, nat_tests)

later_least : (rs : List TableRecord) (id : Id) (s : Schema) (low : ℕ) → low ≤ s.next → ((q : TableRecord) → In q rs → q.id ≡ id → low ≤ q.schema.next) → (k : Schema) × ((latest_from rs id (Some s) ≡ Some k) × (low ≤ k.next))
later_least [] id s low le each = (s, (refl, le))
later_least (r ∷ rs) id s low le each = either_way (same r.id id)
    (λ b. let k = later_least rs id r.schema low (each r (inl refl) (same_equal r.id id b)) (λ q isin. each q (inr isin)) in (k.0, (ap (λ c. latest_from rs id (cond c (Some r.schema) (Some s))) b ∙ k.1.0, k.1.1)))
    (λ b. let k = later_least rs id s low le (λ q isin. each q (inr isin)) in (k.0, (ap (λ c. latest_from rs id (cond c (Some r.schema) (Some s))) b ∙ k.1.0, k.1.1)))

latest_most : (rs : List TableRecord) (found : Option Schema) (q : TableRecord) → RecordsRise rs → In q rs → (k : Schema) × ((latest_from rs q.id found ≡ Some k) × (q.schema.next ≤ k.next))
latest_most [] found q rise isin = absurd isin
latest_most (r ∷ rs) found q rise (inl e) =
    let here : same r.id q.id ≡ true = ap (λ x. same x.id q.id) e ∙ same_self q.id in
    let k = later_least rs q.id r.schema q.schema.next (let n : r.schema.next ≡ q.schema.next = ap (λ x. x.schema.next) e in omega arith)
    (λ p there is. let l = (rise.0 p there (is ∙ ap (λ x. x.id) (sym e))).0 in let n : r.schema.next ≡ q.schema.next = ap (λ x. x.schema.next) e in omega arith) in
    (k.0, (ap (λ c. latest_from rs q.id (cond c (Some r.schema) found)) here ∙ k.1.0, k.1.1))
latest_most (r ∷ rs) found q rise (inr isin) = latest_most rs (cond (same r.id q.id) (Some r.schema) found) q rise.1 isin

pub newest_most : (rs : List TableRecord) (q r : TableRecord) → RecordsRise rs → In q rs → q.id ≡ r.id → q.schema.next ≤ (newest rs r).next
newest_most rs q r rise isin e =
    let k = latest_most rs None q rise isin in
    let is : latest rs r.id ≡ Some k.0 = ap (latest rs) (sym e) ∙ k.1.0 in
    subst (λ o. q.schema.next ≤ (unwrap_or o r.schema).next) (sym is) k.1.1

pub rise_append : (xs ys : List TableRecord) → RecordsRise xs → RecordsRise ys → ((x y : TableRecord) → In x xs → In y ys → y.id ≡ x.id → (x.schema.next ≤ y.schema.next) × (ended_by y.from x.to ≡ true)) → RecordsRise (xs ++ ys)
rise_append [] ys h g between = g
rise_append (x ∷ xs) ys h g between = (
  (λ q isin e. elim (in_append xs ys q isin) [ inl old ↦ h.0 q old e | inr new ↦ between x q (inl refl) new e ]),
  rise_append xs ys h.1 g (λ a b in_a. between a b (inr in_a)),
)

-- The columns of a schema stand apart by name and by id, whatever is made of it.

in_chosen : {A : Type 0} (test : A → Bool) (xs : List A) (a : A) → In a (filter test xs) → In a xs
in_chosen test [] a isin = absurd isin
in_chosen test (x ∷ xs) a isin = either_way (test x)
    (λ t. let here : In a (x ∷ filter test xs) = rw t at isin in elim here [ inl e ↦ inl e | inr h ↦ inr (in_chosen test xs a h) ])
    (λ f. let here : In a (filter test xs) = rw f at isin in inr (in_chosen test xs a here))

-- two tests that agree on the members choose the same
chosen_alike : {A : Type 0} (test other : A → Bool) (xs : List A) → ((a : A) → In a xs → test a ≡ other a) → filter test xs ≡ filter other xs
chosen_alike test other [] each = refl
chosen_alike test other (x ∷ xs) each = let rest = chosen_alike test other xs (λ a h. each a (inr h)) in
    ap (λ b. cond b (x ∷ filter test xs) (filter test xs)) (each x (inl refl)) ∙ ap (λ ys. cond (other x) (x ∷ ys) ys) rest

-- A new table's columns

numbered_from : (cs : List NewColumn) (k : ℕ) (c : Column) → In c (numbered k cs) → k ≤ c.id
numbered_from [] k c isin = absurd isin
numbered_from (d ∷ ds) k c (inl e) = let q : k ≡ c.id = ap (λ x. x.id) e in omega arith
numbered_from (d ∷ ds) k c (inr isin) = let rest = numbered_from ds (k + 1) c isin in omega arith

numbered_to : (cs : List NewColumn) (k : ℕ) (c : Column) → In c (numbered k cs) → c.id < length cs + k
numbered_to [] k c isin = absurd isin
numbered_to (d ∷ ds) k c (inl e) = let q : k ≡ c.id = ap (λ x. x.id) e in omega arith
numbered_to (d ∷ ds) k c (inr isin) = let rest = numbered_to ds (k + 1) c isin in omega arith

numbered_named : (cs : List NewColumn) (k : ℕ) (name : List ℕ) (c : Column) → NotNamed name cs → In c (numbered k cs) → bytes_eq c.name name ≡ false
numbered_named [] k name c differ isin = absurd isin
numbered_named (d ∷ ds) k name c differ (inl e) = ap (λ x. bytes_eq x.name name) (sym e) ∙ differ.0
numbered_named (d ∷ ds) k name c differ (inr isin) = numbered_named ds (k + 1) name c differ.1 isin

numbered_apart : (cs : List NewColumn) (k : ℕ) (c d : Column) → NamesDiffer cs → In c (numbered k cs) → In d (numbered k cs) → bytes_eq c.name d.name ≡ eqb c.id d.id
numbered_apart [] k c d differ ic id_ = absurd ic
numbered_apart (x ∷ xs) k c d differ (inl e) (inl f) =
    let same_name : c.name ≡ d.name = ap (λ y. y.name) (sym e ∙ f) in
    let same_id : c.id ≡ d.id = ap (λ y. y.id) (sym e ∙ f) in
    ap (bytes_eq c.name) (sym same_name) ∙ key_self c.name ∙ (let q = same_id in grind (arith, nat_tests))
numbered_apart (x ∷ xs) k c d differ (inl e) (inr f) =
    let other = key_sym d.name x.name (numbered_named xs (k + 1) x.name d differ.0 f) in
    let apart : bytes_eq c.name d.name ≡ false = ap (λ y. bytes_eq y.name d.name) (sym e) ∙ other in
    let at : k ≡ c.id = ap (λ y. y.id) e in
    let past = numbered_from xs (k + 1) d f in
    apart ∙ (let q = past in grind (arith, nat_tests))
numbered_apart (x ∷ xs) k c d differ (inr e) (inl f) =
    let other = numbered_named xs (k + 1) x.name c differ.0 e in
    let apart : bytes_eq c.name d.name ≡ false = ap (λ y. bytes_eq c.name y.name) (sym f) ∙ other in
    let at : k ≡ d.id = ap (λ y. y.id) f in
    let past = numbered_from xs (k + 1) c e in
    apart ∙ (let q = past in grind (arith, nat_tests))
numbered_apart (x ∷ xs) k c d differ (inr e) (inr f) = numbered_apart xs (k + 1) c d differ.1 e f

pub columns_made : (cs : List NewColumn) → NamesDiffer cs → ColumnsStand (first_schema cs)
columns_made cs differ = record { apart = λ c d ic id_. numbered_apart cs 1 c d differ ic id_; drawn = λ c ic. numbered_to cs 1 c ic }

-- One column more

none_named : (cs : List Column) (name : List ℕ) → column_named cs name ≡ None → (c : Column) → In c cs → bytes_eq c.name name ≡ false
none_named [] name e c isin = absurd isin
none_named (d ∷ ds) name e c (inl is) = either_way (bytes_eq d.name name) (λ t. cc) (λ f. ap (λ y. bytes_eq y.name name) (sym is) ∙ f)
none_named (d ∷ ds) name e c (inr isin) = either_way (bytes_eq d.name name) (λ t. cc) (λ f. none_named ds name (rw f at e) c isin)

pub columns_added : (name : List ℕ) (kind : ColumnKind) (s : Schema) → column_named s.columns name ≡ None → ColumnsStand s → ColumnsStand (with_column name kind s)
columns_added name kind s free h =
    let new : Column = record { id = s.next; name = name; kind = kind } in
    let old_new : (c : Column) → In c s.columns → bytes_eq c.name name ≡ eqb c.id s.next =
    λ c ic. none_named s.columns name free c ic ∙ (let q = h.drawn c ic in grind (arith, nat_tests)) in
    let new_old : (c : Column) → In c s.columns → bytes_eq name c.name ≡ eqb s.next c.id =
    λ c ic. key_sym c.name name (none_named s.columns name free c ic) ∙ (let q = h.drawn c ic in grind (arith, nat_tests)) in
    record {
      apart = λ c d ic id_.
          in_added (λ x. bytes_eq x.name d.name ≡ eqb x.id d.id) s.columns new
          (λ x ix. in_added (λ y. bytes_eq x.name y.name ≡ eqb x.id y.id) s.columns new (λ y iy. h.apart x y ix iy) (old_new x ix) d id_)
          (in_added (λ y. bytes_eq name y.name ≡ eqb s.next y.id) s.columns new new_old (key_self name ∙ grind (arith, nat_tests)) d id_)
          c ic;
      drawn = in_added (λ x. x.id < s.next + 1) s.columns new (λ x ix. let q = h.drawn x ix in omega arith) (omega arith);
    }

-- One column less

pub columns_dropped : (name : List ℕ) (s : Schema) → ColumnsStand s → ColumnsStand (without_column name s)
columns_dropped name s h = record {
  apart = λ c d ic id_. h.apart c d (in_chosen _ s.columns c ic) (in_chosen _ s.columns d id_);
  drawn = λ c ic. h.drawn c (in_chosen _ s.columns c ic);
}

named_column : (cs : List Column) (name : List ℕ) (c : Column) → column_named cs name ≡ Some c → In c cs × (c.name ≡ name)
named_column [] name c e = cc
named_column (d ∷ ds) name c e = either_way (bytes_eq d.name name)
    (λ t. let first : d ≡ c = cc in (inl first, ap (λ y. y.name) (sym first) ∙ equal_keys d.name name t))
    (λ f. let rest = named_column ds name c (rw f at e) in (inr rest.0, rest.1))

-- the column is dropped by its name as by its id
pub dropped_alike : (name : List ℕ) (s : Schema) (c : Column) → column_named s.columns name ≡ Some c → ColumnsStand s
    → filter (λ d. not (eqb d.id c.id)) s.columns ≡ (without_column name s).columns
dropped_alike name s c e h = let found = named_column s.columns name c e in
    chosen_alike (λ d. not (eqb d.id c.id)) (λ d. not (bytes_eq d.name name)) s.columns
    (λ d id_. ap not (sym (h.apart d c id_ found.0) ∙ ap (bytes_eq d.name) found.1))
