-- A new clone's tables and tablets stand in order, and have the next numbers.
use Rattle.std.proofs.Common.{ℕ, ◌≡◌, ◌≤◌, ◌<◌, ◌+◌, List, [], ◌∷◌, map, Bool, true, false, cond, ◌&&◌, ◌||◌, inl, inr, refl, sym, ap, subst, ◌∙◌, arith, le_trans, ltb, ltb-true, eqb}
use Rattle.std.proofs.lemmas.Bool.{true≢false}
use Rattle.std.proofs.lemmas.Bool.Decides.{nat_tests}
use Rattle.model.specs.Cluster.{Id, Kind, TableKind as Table, TabletKind as Tablet, same, Interval, IdPair, TabletPair}
use Rattle.row_values.specs.Elements.{In, put_in, in_order}
use Rattle.model.specs.Catalog.{TableRecord, put_table, by_id}
use Rattle.model.specs.Changed.{pair_tables, pair_tablets, target_in}
use Rattle.model.specs.Drawn.{AreNext, is_pair_before}
use Rattle.law_store.proofs.Keys.{either_way}
use Rattle.law_invariants.proofs.Finding.{same_self, not_same}
use Rattle.law_clones.proofs.Pairing.{TablesApart, table_pair, target_there}

-- no element comes before the one in front of it
abbrev pub Chained : {A : Type 0} → (A → A → Bool) → List A → Type 0
Chained before [] = Unit {0}
Chained before (x ∷ []) = Unit {0}
Chained before (x ∷ y ∷ ys) = (before y x ≡ false) × Chained before (y ∷ ys)

rest_chained : {A : Type 0} (before : A → A → Bool) (x : A) (ys : List A) → Chained before (x ∷ ys) → Chained before ys
rest_chained before x [] h = tt
rest_chained before x (y ∷ ys) h = h.1

-- such a list is in order
pub order_same : {A : Type 0} (before : A → A → Bool) (xs : List A) → Chained before xs → in_order before xs ≡ xs
order_same before (x ∷ y ∷ ys) h = ap (put_in before x) (order_same before (y ∷ ys) h.1) ∙ ap (λ b. cond b (y ∷ put_in before x ys) (x ∷ y ∷ ys)) h.0
order_same before _ h = refl

behind : {A : Type 0} (before : A → A → Bool) (x y : A) (zs : List A) → before x y ≡ false → Chained before (y ∷ zs) → Chained before (put_in before x zs) → Chained before (y ∷ put_in before x zs)
behind before x y [] e h put = (e, tt)
behind {A} before x y (z ∷ zs) e h put = either_way (before z x)
    (λ b. subst (λ c. Chained before (y ∷ cond c (z ∷ put_in before x zs) (x ∷ z ∷ zs))) (sym b) (h.0, subst (λ c. Chained before (cond c (z ∷ put_in before x zs) (x ∷ z ∷ zs))) b put))
    (λ b. subst (λ c. Chained before (y ∷ cond c (z ∷ put_in before x zs) (x ∷ z ∷ zs))) (sym b) (e, subst (λ c. Chained before (cond c (z ∷ put_in before x zs) (x ∷ z ∷ zs))) b put))

put_chained : {A : Type 0} (before : A → A → Bool) → ((a b : A) → before a b ≡ true → before b a ≡ false) → (x : A) (ys : List A) → Chained before ys → Chained before (put_in before x ys)
put_chained before one_way x [] h = tt
put_chained {A} before one_way x (y ∷ ys) h = either_way (before y x)
    (λ b. subst (λ c. Chained before (cond c (y ∷ put_in before x ys) (x ∷ y ∷ ys))) (sym b) (behind before x y ys (one_way y x b) h (put_chained before one_way x ys (rest_chained before y ys h))))
    (λ b. subst (λ c. Chained before (cond c (y ∷ put_in before x ys) (x ∷ y ∷ ys))) (sym b) (b, h))

pub order_chained : {A : Type 0} (before : A → A → Bool) → ((a b : A) → before a b ≡ true → before b a ≡ false) → (xs : List A) → Chained before (in_order before xs)
order_chained before one_way [] = tt
order_chained before one_way (x ∷ xs) = put_chained before one_way x (in_order before xs) (order_chained before one_way xs)

-- Tables

abbrev pub by_number : TableRecord → TableRecord → Bool
by_number t u = ltb t.id.number u.id.number

table_behind : (t u : TableRecord) (us : List TableRecord) → by_number t u ≡ false → Chained by_number (u ∷ us) → Chained by_number (put_table t us) → Chained by_number (u ∷ put_table t us)
table_behind t u [] e h put = (e, tt)
table_behind t u (z ∷ zs) e h put = either_way (by_number t z)
    (λ b. subst (λ c. Chained by_number (u ∷ cond c (t ∷ z ∷ zs) (z ∷ put_table t zs))) (sym b) (e, subst (λ c. Chained by_number (cond c (t ∷ z ∷ zs) (z ∷ put_table t zs))) b put))
    (λ b. subst (λ c. Chained by_number (u ∷ cond c (t ∷ z ∷ zs) (z ∷ put_table t zs))) (sym b) (h.0, subst (λ c. Chained by_number (cond c (t ∷ z ∷ zs) (z ∷ put_table t zs))) b put))

one_way_number : (a b : ℕ) → ltb a b ≡ true → ltb b a ≡ false
one_way_number a b e = grind (arith, nat_tests)

table_chained : (t : TableRecord) (us : List TableRecord) → Chained by_number us → Chained by_number (put_table t us)
table_chained t [] h = tt
table_chained t (u ∷ us) h = either_way (by_number t u)
    (λ b. subst (λ c. Chained by_number (cond c (t ∷ u ∷ us) (u ∷ put_table t us))) (sym b) (one_way_number t.id.number u.id.number b, h))
    (λ b. subst (λ c. Chained by_number (cond c (t ∷ u ∷ us) (u ∷ put_table t us))) (sym b) (table_behind t u us b h (table_chained t us (rest_chained by_number u us h))))

pub by_id_chained : (ts : List TableRecord) → Chained by_number (by_id ts)
by_id_chained [] = tt
by_id_chained (t ∷ ts) = table_chained t (by_id ts) (by_id_chained ts)

pub pair_tables_chained : (ts : List TableRecord) (drawn : ℕ) → Chained by_number ts → Chained (λ (p q : IdPair). ltb p.source.number q.source.number) (pair_tables ts drawn)
pair_tables_chained (t ∷ u ∷ us) drawn h = (h.0, pair_tables_chained (u ∷ us) (drawn + 1) h.1)
pair_tables_chained _ drawn h = tt

pub tables_next : (ts : List TableRecord) (drawn : ℕ) → AreNext Table drawn (map {A = IdPair} (λ p. p.target) (pair_tables ts drawn))
tables_next [] drawn = tt
tables_next (t ∷ ts) drawn = (refl, tables_next ts (drawn + 1))

pub tablets_next : (is : List Interval) (slots : List ℕ) (drawn : ℕ) (ds : List IdPair) → AreNext Tablet drawn (map {A = TabletPair} (λ p. p.target) (pair_tablets is slots drawn ds))
tablets_next [] slots drawn ds = tt
tablets_next (i ∷ is) [] drawn ds = tt
tablets_next (i ∷ is) (slot ∷ slots) drawn ds = (refl, tablets_next is slots (drawn + 1) ds)

-- Targets of later tables have greater numbers

low_first : (t : TableRecord) (ts : List TableRecord) (u : TableRecord) → Chained by_number (t ∷ ts) → In u ts → t.id.number ≤ u.id.number
low_first t [] u h isin = absurd isin
low_first t (v ∷ vs) u h isin =
    let first : t.id.number ≤ v.id.number = (let e = h.0 in grind (arith, nat_tests)) in
    elim isin [ inl e ↦ subst (λ k. t.id.number ≤ k.id.number) e first | inr rest ↦ le_trans first (low_first v vs u h.1 rest) ]

targets_rise : (ts : List TableRecord) (drawn : ℕ) (t u : TableRecord) → Chained by_number ts → TablesApart ts → In t ts → In u ts → t.id.number < u.id.number
    → (target_in (pair_tables ts drawn) t.id).number < (target_in (pair_tables ts drawn) u.id).number
targets_rise [] drawn t u h apart in_t in_u l = absurd in_t
targets_rise (v ∷ vs) drawn t u h apart (inl a) (inl b) l = absurd (let e : t.id.number ≡ u.id.number = ap (λ k. k.id.number) (sym a ∙ b) in omega arith)
targets_rise (v ∷ vs) drawn t u h apart (inl a) (inr b) l =
    let mine : same v.id t.id ≡ true = ap (λ k. same k.id t.id) a ∙ same_self t.id in
    let other : same v.id u.id ≡ false = not_same v.id u.id (apart.0 u b) in
    let d = target_there vs (drawn + 1) u b in
    let more : drawn + 1 < d.0.target.number = (table_pair vs (drawn + 1) d.0 d.1.0).above in
    let is : target_in (pair_tables vs (drawn + 1)) u.id ≡ d.0.target = d.1.1.1 in
    rw (mine, other) (subst (λ i. drawn + 1 < i.number) (sym is) more)
targets_rise (v ∷ vs) drawn t u h apart (inr a) (inl b) l = absurd (let low = low_first v vs t h a in let e : v.id.number ≡ u.id.number = ap (λ k. k.id.number) b in omega arith)
targets_rise (v ∷ vs) drawn t u h apart (inr a) (inr b) l =
    let one : same v.id t.id ≡ false = not_same v.id t.id (apart.0 t a) in
    let two : same v.id u.id ≡ false = not_same v.id u.id (apart.0 u b) in
    let rest = targets_rise vs (drawn + 1) t u (rest_chained by_number v vs h) apart.1 a b l in
    rw (one, two) rest

-- Tablets

or_false : (a b : Bool) → (a || b) ≡ false → (a ≡ false) × (b ≡ false)
or_false true b e = absurd (true≢false e)
or_false false b e = (refl, e)

false_or : (a b : Bool) → a ≡ false → b ≡ false → (a || b) ≡ false
false_or true b e f = absurd (true≢false e)
false_or false b e f = f

and_false : (a b : Bool) → a ≡ true → (a && b) ≡ false → b ≡ false
and_false true b e f = f
and_false false b e f = absurd (true≢false (sym e))

off : (a b : Bool) → a ≡ false → (a && b) ≡ false
off true b e = absurd (true≢false e)
off false b e = refl

on : (a b : Bool) → b ≡ false → (a && b) ≡ false
on true b e = e
on false b e = refl

same_id : (a b : Id) → a.kind ≡ b.kind → a.number ≡ b.number → a ≡ b
same_id a b e f = let made : Kind → ℕ → Id = λ k n. record { kind = k; number = n } in ap (λ k. made k a.number) e ∙ ap (made b.kind) f

abbrev pub by_place : Interval → Interval → Bool
by_place i j = ltb i.table.number j.table.number || (eqb i.table.number j.table.number && ltb i.low j.low)

pub one_way_place : (i j : Interval) → by_place i j ≡ true → by_place j i ≡ false
one_way_place i j e = grind (arith, nat_tests)

-- a source's table is one of these
abbrev pub TableOf : List TableRecord → Interval → Type 0
TableOf ts i = (t : TableRecord) × (In t ts × (t.id ≡ i.table))

pair_behind : (ts : List TableRecord) (drawn : ℕ) (i j : Interval) → Chained by_number ts → TablesApart ts → ((t : TableRecord) → In t ts → t.id.kind ≡ Table) → TableOf ts i → TableOf ts j → by_place j i ≡ false
    → (ltb (target_in (pair_tables ts drawn) j.table).number (target_in (pair_tables ts drawn) i.table).number
    || (eqb (target_in (pair_tables ts drawn) j.table).number (target_in (pair_tables ts drawn) i.table).number && ltb j.low i.low)) ≡ false
pair_behind ts drawn i j h apart kinds t u e =
    let target : Id → ℕ = λ id. (target_in (pair_tables ts drawn) id).number in
    let parts = or_false (ltb j.table.number i.table.number) (eqb j.table.number i.table.number && ltb j.low i.low) e in
    either_way (ltb i.table.number j.table.number)
    (λ b.
    let less : t.0.id.number < u.0.id.number = (let l = ltb-true i.table.number j.table.number b in let x : t.0.id.number ≡ i.table.number = ap (λ k. k.number) t.1.1 in let y : u.0.id.number ≡ j.table.number = ap (λ k. k.number) u.1.1 in omega arith) in
    let rise = targets_rise ts drawn t.0 u.0 h apart t.1.0 u.1.0 less in
    let up : target i.table < target j.table = subst (λ id. target i.table < target id) u.1.1 (subst (λ id. target id < target u.0.id) t.1.1 rise) in
    false_or (ltb (target j.table) (target i.table)) _ (grind (arith, nat_tests)) (off (eqb (target j.table) (target i.table)) (ltb j.low i.low) (grind (arith, nat_tests))))
    (λ b.
    let numbers : j.table.number ≡ i.table.number = (let f = parts.0 in grind (arith, nat_tests)) in
    let level : eqb j.table.number i.table.number ≡ true = grind (arith, nat_tests) in
    let kind_i : i.table.kind ≡ Table = ap (λ k. k.kind) (sym t.1.1) ∙ kinds t.0 t.1.0 in
    let kind_j : j.table.kind ≡ Table = ap (λ k. k.kind) (sym u.1.1) ∙ kinds u.0 u.1.0 in
    let is : j.table ≡ i.table = same_id j.table i.table (kind_j ∙ sym kind_i) numbers in
    let ranges : ltb j.low i.low ≡ false = and_false (eqb j.table.number i.table.number) (ltb j.low i.low) level parts.1 in
    let equal : target j.table ≡ target i.table = ap target is in
    false_or (ltb (target j.table) (target i.table)) _ (grind (arith, nat_tests)) (on (eqb (target j.table) (target i.table)) (ltb j.low i.low) ranges))

pub pair_tablets_chained : (is : List Interval) (slots : List ℕ) (drawn from : ℕ) (ts : List TableRecord) → Chained by_number ts → TablesApart ts → ((t : TableRecord) → In t ts → t.id.kind ≡ Table) → ((i : Interval) → In i is → TableOf ts i) → Chained by_place is
    → Chained is_pair_before (pair_tablets is slots drawn (pair_tables ts from))
pair_tablets_chained [] slots drawn from ts h apart kinds tables chain = tt
pair_tablets_chained (i ∷ is) [] drawn from ts h apart kinds tables chain = tt
pair_tablets_chained (i ∷ []) (slot ∷ slots) drawn from ts h apart kinds tables chain = tt
pair_tablets_chained (i ∷ j ∷ is) (slot ∷ []) drawn from ts h apart kinds tables chain = tt
pair_tablets_chained (i ∷ j ∷ is) (slot ∷ other ∷ slots) drawn from ts h apart kinds tables chain = (
  pair_behind ts from i j h apart kinds (tables i (inl refl)) (tables j (inr (inl refl))) chain.0,
  pair_tablets_chained (j ∷ is) (other ∷ slots) (drawn + 1) from ts h apart kinds (λ k isin. tables k (inr isin)) chain.1,
)
