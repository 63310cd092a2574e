-- The records of tables after a switch: those of the namespace have ended by the point, and those of the time are current again from it on.
use Rattle.std.proofs.Common.{ℕ, ◌≡◌, ◌≤◌, ◌<◌, List, [], ◌∷◌, map, Option, Some, None, Bool, true, false, cond, ◌&&◌, inl, inr, refl, sym, ap, subst, ◌∙◌, arith, leb, ltb, le-leb, leb-true, leb-false, ltb-true, le_trans, le_refl, le_of_lt}
use Rattle.std.specs.List.{filter, find}
use Rattle.std.specs.Option.{option_map}
use Rattle.std.specs.Str.{bytes_eq}
use Rattle.std.proofs.lemmas.Bool.{true≢false, cond_both}
use Rattle.std.proofs.lemmas.Bool.Decides.{nat_tests}
use Rattle.model.specs.Cluster.{Id, same, In, holds_at, ended, ended_by, before_end}
use Rattle.model.specs.Catalog.{Catalog, TableRecord, owner_of, owns, is_owned_by, kept_from, put_table, by_id, tables_at, end_tables}
use Rattle.model.specs.Restored.{newest, back_at, tables_back, restored_tables, record_at}
use Rattle.model.specs.Journal.{Change}
use Rattle.law_store.proofs.Keys.{either_way, equal_keys, key_self}
use Rattle.law_invariants.specs.Invariant.{IsPast, EndsBy, view_of, view_at, ColumnsStand, RecordsRise, TablesStand}
use Rattle.law_invariants.proofs.Finding.{both_pass, passes_both, first_fails, second_fails, none_or_some, same_equal, same_self, in_append, in_second, in_mapped, map_in, in_filter, filter_in, none_found, find_through, find_only, find_in_first}
use Rattle.law_invariants.proofs.Records.{has_title, is_named_at, is_table_at, table_named_found, record_at_found, record_at_is, end_held}
use Rattle.law_invariants.proofs.Undoing.{owned_is}
use Rattle.law_moves.proofs.Viewing.{Inside, restore, restored_before, table_back, table_other}
use Rattle.law_invariants.proofs.Using.{mapped_is}
use Rattle.law_invariants.proofs.Rising.{rise_append, newest_most}
use Rattle.law_invariants.proofs.Tables.{Alike, alike_back, old_one}

-- Lists

put_only : (t : TableRecord) (us : List TableRecord) (a : TableRecord) → In a (put_table t us) → In a (t ∷ us)
put_only t [] a isin = isin
put_only t (u ∷ us) a isin = either_way (ltb t.id.number u.id.number)
    (λ b. let k : In a (t ∷ u ∷ us) = subst (λ c. In a (cond c (t ∷ u ∷ us) (u ∷ put_table t us))) b isin in k)
    (λ b. let k : In a (u ∷ put_table t us) = subst (λ c. In a (cond c (t ∷ u ∷ us) (u ∷ put_table t us))) b isin in
    elim k as (λ _. In a (t ∷ u ∷ us)) [ inl e ↦ inr (inl e) | inr rest ↦ (let q = put_only t us a rest in elim q as (λ _. In a (t ∷ u ∷ us)) [ inl e ↦ inl e | inr more ↦ inr (inr more) ]) ])

put_has : (t : TableRecord) (us : List TableRecord) (a : TableRecord) → In a (t ∷ us) → In a (put_table t us)
put_has t [] a isin = isin
put_has t (u ∷ us) a isin = either_way (ltb t.id.number u.id.number)
    (λ b. subst (λ c. In a (cond c (t ∷ u ∷ us) (u ∷ put_table t us))) (sym b) isin)
    (λ b. subst (λ c. In a (cond c (t ∷ u ∷ us) (u ∷ put_table t us))) (sym b)
    (elim isin as (λ _. In a (u ∷ put_table t us)) [ inl e ↦ inr (put_has t us a (inl e)) | inr rest ↦ (elim rest as (λ _. In a (u ∷ put_table t us)) [ inl e ↦ inl e | inr more ↦ inr (put_has t us a (inr more)) ]) ]))

by_id_only : (ts : List TableRecord) (a : TableRecord) → In a (by_id ts) → In a ts
by_id_only [] a isin = isin
by_id_only (t ∷ ts) a isin = elim (put_only t (by_id ts) a isin) as (λ _. In a (t ∷ ts)) [ inl e ↦ inl e | inr rest ↦ inr (by_id_only ts a rest) ]

by_id_has : (ts : List TableRecord) (a : TableRecord) → In a ts → In a (by_id ts)
by_id_has [] a isin = isin
by_id_has (t ∷ ts) a isin = put_has t (by_id ts) a (elim isin as (λ _. In a (t ∷ by_id ts)) [ inl e ↦ inl e | inr rest ↦ inr (by_id_has ts a rest) ])

-- no two records of the list are of one table
abbrev NoneSame : List TableRecord → Type 0
NoneSame [] = Unit {0}
NoneSame (t ∷ ts) = ((u : TableRecord) → In u ts → u.id ≡ t.id → ⊥) × NoneSame ts

put_apart : (t : TableRecord) (us : List TableRecord) → ((u : TableRecord) → In u us → u.id ≡ t.id → ⊥) → NoneSame us → NoneSame (put_table t us)
put_apart t [] apart h = ((λ u none. absurd none), tt)
put_apart t (u ∷ us) apart h = cond_both (ltb t.id.number u.id.number) (t ∷ u ∷ us) (u ∷ put_table t us) NoneSame
    (λ b. (apart, h))
    (λ b. ((λ v isin e. elim (put_only t us v isin) [ inl is ↦ apart u (inl refl) (sym e ∙ ap (λ k. k.id) (sym is)) | inr rest ↦ h.0 v rest e ]), put_apart t us (λ v isin. apart v (inr isin)) h.1))

by_id_apart : (ts : List TableRecord) → NoneSame ts → NoneSame (by_id ts)
by_id_apart [] h = tt
by_id_apart (t ∷ ts) h = put_apart t (by_id ts) (λ u isin. h.0 u (by_id_only ts u isin)) (by_id_apart ts h.1)

-- Times

held_before : (x from : ℕ) (to : Option ℕ) → holds_at x from to ≡ true → before_end x to ≡ true
held_before x from to h = (both_pass (leb from x) (before_end x to) h).1

not_ended : (x from y : ℕ) (to : Option ℕ) → holds_at x from to ≡ true → ended_by y to ≡ true → y ≤ x → ⊥
not_ended x from y None h e l = true≢false (sym e)
not_ended x from y (Some end_) h e l = let b : x < end_ = ltb-true x end_ (held_before x from (Some end_) h) in let k : end_ ≤ y = leb-true end_ y e in omega arith

ended_then : (point : ℕ) (to : Option ℕ) → ((e : ℕ) → to ≡ Some e → e ≤ point) → ended_by point (ended point to) ≡ true
ended_then point None over = le-leb point point (le_refl point)
ended_then point (Some e) over = le-leb e point (over e refl)

gone : (x point from : ℕ) (to : Option ℕ) → point ≤ x → ((e : ℕ) → to ≡ Some e → e ≤ point) → holds_at x from (ended point to) ≡ true → ⊥
gone x point from to l over h = not_ended x from point (ended point to) h (ended_then point to over) l

since : (x point : ℕ) → holds_at x point None ≡ true → point ≤ x
since x point h = leb-true point x (both_pass (leb point x) true h).0

-- before the end all holds as it did
end_same : (b : Bool) (x point from : ℕ) (to : Option ℕ) → x < point → holds_at x from (cond b (ended point to) to) ≡ holds_at x from to
end_same false x point from to l = refl
end_same true x point from (Some e) l = refl
end_same true x point from None l = ap (λ b. leb from x && b) (grind (arith, nat_tests))

-- The newest schema

-- The records

abbrev pub over : Id → ℕ → TableRecord → TableRecord
over ns point r = record r { to = cond (same r.namespace ns) (ended point r.to) r.to }

-- what a switch of a namespace finds of the catalog
pub record MaySwitch (c : Catalog) (ns : Id) (point to time : ℕ) : Type 0 where
  pub less : to < point
  pub begun : (r : TableRecord) → In r c.tables → r.namespace ≡ ns → r.from < point
  pub ended : (r : TableRecord) (e : ℕ) → In r c.tables → r.namespace ≡ ns → r.to ≡ Some e → e ≤ point
  pub known : kept_from c.kept_from ns ≤ to
  pub past : point ≤ time

record WasThen (rs : List TableRecord) (ns : Id) (to point : ℕ) (a : TableRecord) : Type 0 where
  was : TableRecord
  kept : In was rs
  held : holds_at to was.from was.to ≡ true
  namespace_is : was.namespace ≡ ns
  is : back_at rs point was ≡ a

pub then_is : (rs : List TableRecord) (ns : Id) (to : ℕ) (r : TableRecord) → In r (tables_at rs ns to) → In r rs × ((holds_at to r.from r.to ≡ true) × (r.namespace ≡ ns))
then_is rs ns to r isin =
    let k = filter_in rs (λ r. holds_at to r.from r.to && same r.namespace ns) r (by_id_only _ r isin) in
    let b = both_pass (holds_at to r.from r.to) (same r.namespace ns) k.1 in (k.0, (b.0, same_equal r.namespace ns b.1))

pub then_has : (rs : List TableRecord) (ns : Id) (to : ℕ) (r : TableRecord) → In r rs → holds_at to r.from r.to ≡ true → r.namespace ≡ ns → In r (tables_at rs ns to)
then_has rs ns to r isin held is = by_id_has _ r (in_filter rs (λ r. holds_at to r.from r.to && same r.namespace ns) r isin (passes_both (holds_at to r.from r.to) (same r.namespace ns) held (ap (λ i. same i ns) is ∙ same_self ns)))

back_is : (rs : List TableRecord) (ns : Id) (to point : ℕ) (a : TableRecord) → In a (tables_back rs ns to point) → WasThen rs ns to point a
back_is rs ns to point a isin = in_mapped (back_at rs point) (WasThen rs ns to point) (tables_at rs ns to)
    (λ r there. let k = then_is rs ns to r there in record { was = r; kept = k.0; held = k.1.0; namespace_is = k.1.1; is = refl }) a isin

-- one of the records after the switch is one that was there, or comes back
pub new_is : (P : TableRecord → Type 0) (rs : List TableRecord) (ns : Id) (to point : ℕ) → ((r : TableRecord) → In r rs → P (over ns point r)) → ((r : TableRecord) → In r rs → holds_at to r.from r.to ≡ true → r.namespace ≡ ns → P (back_at rs point r))
    → (a : TableRecord) → In a (restored_tables rs ns to point) → P a
new_is P rs ns to point old back a isin = elim (in_append (end_tables ns point rs) (tables_back rs ns to point) a isin) [
  | inl there ↦ in_mapped (over ns point) P rs old a there
  | inr came ↦ (let k = back_is rs ns to point a came in subst P k.is (back k.was k.kept k.held k.namespace_is))
]

-- one that is alike to a table of the namespace is of the namespace
of_it : (c : Catalog) (time drawn : ℕ) (changes : List Change) (ns : Id) (a b : TableRecord) → TablesStand c time drawn changes → In a c.tables → In b c.tables → b.namespace ≡ ns → Alike a b → a.namespace ≡ ns
of_it c time drawn changes ns a b h in_a in_b is (inl e) =
    let q : Some a.namespace ≡ Some b.namespace = sym (h.owned a in_a) ∙ ap (owner_of c.owners) e ∙ h.owned b in_b in
    let k : a.namespace ≡ b.namespace = cc in k ∙ is
of_it c time drawn changes ns a b h in_a in_b is (inr e) = e.0 ∙ is

over_gone : (c : Catalog) (ns : Id) (point to time x : ℕ) (r : TableRecord) → MaySwitch c ns point to time → In r c.tables → r.namespace ≡ ns → point ≤ x → holds_at x r.from (over ns point r).to ≡ true → ⊥
over_gone c ns point to time x r may isin is l held =
    let b : same r.namespace ns ≡ true = ap (λ i. same i ns) is ∙ same_self ns in
    gone x point r.from r.to l (λ e. may.ended r e isin is) (ap (λ q. holds_at x r.from (cond q (ended point r.to) r.to)) (sym b) ∙ held)

new_one : (c : Catalog) (time drawn : ℕ) (changes : List Change) (ns : Id) (point to now x : ℕ) → TablesStand c time drawn changes → MaySwitch c ns point to now → (a b : TableRecord) → In a (restored_tables c.tables ns to point) → In b (restored_tables c.tables ns to point)
    → holds_at x a.from a.to ≡ true → holds_at x b.from b.to ≡ true → Alike a b → a ≡ b
new_one c time drawn changes ns point to now x h may a b in_a in_b =
    new_is (λ a. holds_at x a.from a.to ≡ true → holds_at x b.from b.to ≡ true → Alike a b → a ≡ b) c.tables ns to point
    (λ r in_r. new_is (λ b. holds_at x r.from (over ns point r).to ≡ true → holds_at x b.from b.to ≡ true → Alike (over ns point r) b → over ns point r ≡ b) c.tables ns to point
    (λ q in_q held_r held_q alike. ap (over ns point) (old_one c time drawn changes x r q h in_r in_q (end_held (same r.namespace ns) x point r.from r.to held_r) (end_held (same q.namespace ns) x point q.from q.to held_q) alike))
    (λ q in_q then_q is held_r held_q alike. absurd (over_gone c ns point to now x r may in_r (of_it c time drawn changes ns r q h in_r in_q is alike) (since x point held_q) held_r)) b in_b)
    (λ r in_r then_r is_r. new_is (λ b. holds_at x point None ≡ true → holds_at x b.from b.to ≡ true → Alike (back_at c.tables point r) b → back_at c.tables point r ≡ b) c.tables ns to point
    (λ q in_q held_r held_q alike. absurd (over_gone c ns point to now x q may in_q (of_it c time drawn changes ns q r h in_q in_r is_r (alike_back r q alike)) (since x point held_r) held_q))
    (λ q in_q then_q is held_r held_q alike. ap (back_at c.tables point) (old_one c time drawn changes to r q h in_r in_q then_r then_q alike)) b in_b)
    a in_a

-- Records rise

rise_over : (rs : List TableRecord) (ns : Id) (point : ℕ) → RecordsRise rs → RecordsRise (end_tables ns point rs)
rise_over [] ns point h = tt
rise_over (r ∷ rs) ns point h = (
  in_mapped {A = TableRecord} {B = TableRecord} (over ns point) (λ q. q.id ≡ r.id → (r.schema.next ≤ q.schema.next) × (ended_by q.from (over ns point r).to ≡ true)) rs
      (λ q isin e. let k = h.0 q isin e in (k.0, ended_stays (same r.namespace ns) point q.from r.to k.1)),
  rise_over rs ns point h.1,
)
  where
    ended_stays : (b : Bool) (n x : ℕ) (to : Option ℕ) → ended_by x to ≡ true → ended_by x (cond b (ended n to) to) ≡ true
    ended_stays b n x None h = absurd (true≢false (sym h))
    ended_stays true n x (Some e) h = h
    ended_stays false n x (Some e) h = h

rise_apart : (ts rs : List TableRecord) (point : ℕ) → NoneSame ts → RecordsRise (map (back_at rs point) ts)
rise_apart [] rs point h = tt
rise_apart (t ∷ ts) rs point h = (in_mapped {A = TableRecord} {B = TableRecord} (back_at rs point) (λ q. q.id ≡ t.id → ((back_at rs point t).schema.next ≤ q.schema.next) × (ended_by q.from None ≡ true)) ts (λ q isin e. absurd (h.0 q isin e)), rise_apart ts rs point h.1)

none_twice : (rs : List TableRecord) (ns : Id) (to : ℕ) → RecordsRise rs → NoneSame (filter (λ r. holds_at to r.from r.to && same r.namespace ns) rs)
none_twice [] ns to h = tt
none_twice (r ∷ rs) ns to h = cond_both (holds_at to r.from r.to && same r.namespace ns) (r ∷ filter (λ r. holds_at to r.from r.to && same r.namespace ns) rs) (filter (λ r. holds_at to r.from r.to && same r.namespace ns) rs) NoneSame
    (λ b. (
      (λ u isin e.
          let k = filter_in rs (λ r. holds_at to r.from r.to && same r.namespace ns) u isin in
          let held = (both_pass (holds_at to u.from u.to) (same u.namespace ns) k.1).0 in
          let from : u.from ≤ to = leb-true u.from to (both_pass (leb u.from to) (before_end to u.to) held).0 in
          not_ended to r.from u.from r.to (both_pass (holds_at to r.from r.to) (same r.namespace ns) b).0 (h.0 u k.0 e).1 from),
      none_twice rs ns to h.1,
    ))
    (λ b. none_twice rs ns to h.1)

-- The view

view_over : (ns : Id) (point : ℕ) (found : Option TableRecord) → option_map view_of (option_map (over ns point) found) ≡ option_map view_of found
view_over ns point None = refl
view_over ns point (Some r) = refl

pub over_other : (ns : Id) (point : ℕ) (r : TableRecord) → same r.namespace ns ≡ false → over ns point r ≡ r
over_other ns point r f = let made : Option ℕ → TableRecord = λ to. record r { to = to } in ap (λ b. made (cond b (ended point r.to) r.to)) f

owner_apart : (c : Catalog) (time drawn : ℕ) (changes : List Change) (ns id : Id) (r : TableRecord) → TablesStand c time drawn changes → In r c.tables → r.id ≡ id → owns c.owners ns id ≡ false → same r.namespace ns ≡ false
owner_apart c time drawn changes ns id r h isin e other = ap (λ o. is_owned_by o ns) (sym (h.owned r isin)) ∙ ap (owns c.owners ns) e ∙ other

view_other : (c : Catalog) (time drawn : ℕ) (changes : List Change) (ns : Id) (point to x : ℕ) (id : Id) → TablesStand c time drawn changes → owns c.owners ns id ≡ false → view_at (restored_tables c.tables ns to point) x id ≡ view_at c.tables x id
view_other c time drawn changes ns point to x id h other =
    ap (option_map view_of) (record_at_found (restored_tables c.tables ns to point) id x
    ∙ find_in_first (is_table_at id x) (end_tables ns point c.tables) (tables_back c.tables ns to point)
    (λ a isin. let k = back_is c.tables ns to point a isin in second_fails (holds_at x a.from a.to) (same a.id id) (either_way (same a.id id)
    (λ b. absurd (
    let e : k.was.id ≡ id = ap (λ q. q.id) k.is ∙ same_equal a.id id b in
    true≢false (sym (ap (λ i. same i ns) k.namespace_is ∙ same_self ns) ∙ owner_apart c time drawn changes ns id k.was h k.kept e other)))
    (λ b. b)))
    ∙ find_through (is_table_at id x) (over ns point) c.tables (λ r isin. either_way (same r.id id)
    (λ b. ap (is_table_at id x) (over_other ns point r (owner_apart c time drawn changes ns id r h isin (same_equal r.id id b) other)))
    (λ b. second_fails (holds_at x r.from (over ns point r).to) (same r.id id) b ∙ sym (second_fails (holds_at x r.from r.to) (same r.id id) b)))
    ∙ ap (option_map (over ns point)) (sym (record_at_found c.tables id x)))
    ∙ view_over ns point (record_at c.tables id x)

view_early : (c : Catalog) (ns : Id) (point to x : ℕ) (id : Id) → x < point → view_at (restored_tables c.tables ns to point) x id ≡ view_at c.tables x id
view_early c ns point to x id l =
    ap (option_map view_of) (record_at_found (restored_tables c.tables ns to point) id x
    ∙ find_in_first (is_table_at id x) (end_tables ns point c.tables) (tables_back c.tables ns to point)
    (λ a isin. let k = back_is c.tables ns to point a isin in
    let early : leb point x ≡ false = grind (arith, nat_tests) in
    first_fails (holds_at x a.from a.to) (same a.id id) (ap (λ q. holds_at x q.from q.to) (sym k.is) ∙ first_fails (leb point x) true early))
    ∙ find_through (is_table_at id x) (over ns point) c.tables (λ r isin. ap (λ b. b && same r.id id) (end_same (same r.namespace ns) x point r.from r.to l))
    ∙ ap (option_map (over ns point)) (sym (record_at_found c.tables id x)))
    ∙ view_over ns point (record_at c.tables id x)

view_since : (c : Catalog) (time drawn : ℕ) (changes : List Change) (ns : Id) (point to now x : ℕ) (id : Id) → TablesStand c time drawn changes → MaySwitch c ns point to now → owner_of c.owners id ≡ Some ns → point ≤ x
    → view_at (restored_tables c.tables ns to point) x id ≡ view_at c.tables to id
view_since c time drawn changes ns point to now x id h may owned l =
    let new = restored_tables c.tables ns to point in
    none_or_some (record_at c.tables id to)
    (λ none.
    let nothing : find (is_table_at id x) new ≡ None = none_found (is_table_at id x) new (new_is (λ a. is_table_at id x a ≡ false) c.tables ns to point
    (λ r isin. either_way (is_table_at id x (over ns point r))
    (λ b. absurd (
    let k = both_pass (holds_at x r.from (over ns point r).to) (same r.id id) b in
    let q : Some r.namespace ≡ Some ns = sym (h.owned r isin) ∙ ap (owner_of c.owners) (same_equal r.id id k.1) ∙ owned in
    over_gone c ns point to now x r may isin (let e : r.namespace ≡ ns = cc in e) l k.0))
    (λ b. b))
    (λ r isin held is. second_fails (holds_at x point None) (same r.id id) (either_way (same r.id id)
    (λ b. absurd (let q : None ≡ Some r = sym none ∙ ap (λ i. record_at c.tables i to) (sym (same_equal r.id id b)) ∙ h.found to r isin held in grind arith))
    (λ b. b)))) in
    ap (option_map view_of) (record_at_found new id x ∙ nothing) ∙ sym (ap (option_map view_of) none))
    (λ r some.
    let is = record_at_is c.tables id to r some in
    let q : Some r.namespace ≡ Some ns = sym (h.owned r is.listed) ∙ ap (owner_of c.owners) is.id_is ∙ owned in
    let named : r.namespace ≡ ns = cc in
    let a = back_at c.tables point r in
    let there : In a new = in_second (end_tables ns point c.tables) (tables_back c.tables ns to point) a (map_in (back_at c.tables point) (tables_at c.tables ns to) r (then_has c.tables ns to r is.listed is.holds named)) in
    let now_ : holds_at x point None ≡ true = passes_both (leb point x) true (le-leb point x l) refl in
    let found : find (is_table_at id x) new ≡ Some a = find_only (is_table_at id x) new a there (passes_both (holds_at x point None) (same r.id id) now_ (ap (λ i. same i id) is.id_is ∙ same_self id))
    (λ b in_b passes. let k = both_pass (holds_at x b.from b.to) (same b.id id) passes in new_one c time drawn changes ns point to now x h may b a in_b there k.0 now_ (inl (same_equal b.id id k.1 ∙ sym is.id_is))) in
    ap (option_map view_of) (record_at_found new id x ∙ found) ∙ sym (ap (option_map view_of) some))

pub tables_switched : (c : Catalog) (time drawn n : ℕ) (ns : Id) (point to : ℕ) (changes : List Change) → time ≤ n → MaySwitch c ns point to n → TablesStand c time drawn changes
    → TablesStand (record c { tables = restored_tables c.tables ns to point }) n drawn (restore point ns to changes)
tables_switched c time drawn n ns point to changes le may h =
    let rs = c.tables in
    let new = restored_tables rs ns to point in
    let inside : Inside c.owners changes = h.inside in
    record {
      past = new_is (λ a. IsPast n a.from a.to) rs ns to point
          (λ r isin. record {
            begun = le_trans (h.past r isin).begun le;
            ended = over_past (same r.namespace ns) r (λ b. may.begun r isin (same_equal r.namespace ns b)) (h.past r isin).ended;
          })
          (λ r isin held is. record { begun = may.past; ended = tt });
      drawn_before = new_is (λ a. a.id.number ≤ drawn) rs ns to point (λ r isin. h.drawn_before r isin) (λ r isin held is. h.drawn_before r isin);
      owned = new_is (λ a. owner_of c.owners a.id ≡ Some a.namespace) rs ns to point (λ r isin. h.owned r isin) (λ r isin held is. h.owned r isin);
      owners_drawn = h.owners_drawn;
      unique = λ x a isin held. table_named_found new a.namespace a.name x
          ∙ find_only (is_named_at a.namespace a.name x) new a isin (passes_both (holds_at x a.from a.to) (has_title a.namespace a.name a) held (passes_both (same a.namespace a.namespace) (bytes_eq a.name a.name) (same_self a.namespace) (key_self a.name)))
          (λ b in_b passes.
          let k = both_pass (holds_at x b.from b.to) (has_title a.namespace a.name b) passes in
          let t = both_pass (same b.namespace a.namespace) (bytes_eq b.name a.name) k.1 in
          new_one c time drawn changes ns point to n x h may b a in_b isin k.0 held (inr (same_equal b.namespace a.namespace t.0, equal_keys b.name a.name t.1)));
      found = λ x a isin held. record_at_found new a.id x
          ∙ find_only (is_table_at a.id x) new a isin (passes_both (holds_at x a.from a.to) (same a.id a.id) held (same_self a.id))
          (λ b in_b passes. let k = both_pass (holds_at x b.from b.to) (same b.id a.id) passes in new_one c time drawn changes ns point to n x h may b a in_b isin k.0 held (inl (same_equal b.id a.id k.1)));
      columns = new_is (λ a. ColumnsStand a.schema) rs ns to point (λ r isin. h.columns r isin)
          (λ r isin held is. let g = h.columns r isin in record { apart = g.apart; drawn = λ col there. (let l = g.drawn col there in let m = newest_most rs r r h.rise isin refl in omega arith) });
      rise = rise_append (end_tables ns point rs) (tables_back rs ns to point) (rise_over rs ns point h.rise) (rise_apart (tables_at rs ns to) rs point (by_id_apart _ (none_twice rs ns to h.rise)))
          (λ a b in_a in_b e.
          let p = mapped_is {A = TableRecord} (over ns point) rs a in_a in
          let q = back_is rs ns to point b in_b in
          let ids : p.0.id ≡ q.was.id = ap (λ k. k.id) p.1.1 ∙ sym e ∙ ap (λ k. k.id) (sym q.is) in
          let named = of_it c time drawn changes ns p.0 q.was h p.1.0 q.kept q.namespace_is (inl ids) in
          let b_is : same p.0.namespace ns ≡ true = ap (λ i. same i ns) named ∙ same_self ns in
          let next : p.0.schema.next ≤ (newest rs q.was).next = newest_most rs p.0 q.was h.rise p.1.0 ids in
          let over_ : ended_by point (over ns point p.0).to ≡ true = ap (λ z. ended_by point (cond z (ended point p.0.to) p.0.to)) b_is ∙ ended_then point p.0.to (λ e. may.ended p.0 e p.1.0 named) in
          subst (λ b. (a.schema.next ≤ b.schema.next) × (ended_by b.from a.to ≡ true)) q.is (subst (λ a. (a.schema.next ≤ (newest rs q.was).next) × (ended_by point a.to ≡ true)) p.1.1 (next, over_)));
      viewed = λ id owner x owned kept. either_way (owns c.owners ns id)
          (λ b.
          let is : owner_of c.owners id ≡ Some ns = owned_is (owner_of c.owners id) ns b in
          either_way (leb point x)
          (λ l. table_back c.owners changes ns id point to x inside b (leb-true point x l) ∙ h.viewed id ns to is may.known ∙ sym (view_since c time drawn changes ns point to n x id h may is (leb-true point x l)))
          (λ l. restored_before point ns to changes x id (leb-false point x l) ∙ h.viewed id owner x owned kept ∙ sym (view_early c ns point to x id (leb-false point x l))))
          (λ b. table_other c.owners changes ns id point to x inside b ∙ h.viewed id owner x owned kept ∙ sym (view_other c time drawn changes ns point to x id h b));
      unmade = λ id x none. either_way (owns c.owners ns id)
          (λ b. absurd (true≢false (sym b ∙ ap (λ o. is_owned_by o ns) none)))
          (λ b. table_other c.owners changes ns id point to x inside b ∙ h.unmade id x none);
      inside = λ id x v there. either_way (owns c.owners ns id)
          (λ b. either_way (leb point x)
          (λ l. h.inside id to v (sym (table_back c.owners changes ns id point to x inside b (leb-true point x l)) ∙ there))
          (λ l. h.inside id x v (sym (restored_before point ns to changes x id (leb-false point x l)) ∙ there)))
          (λ b. h.inside id x v (sym (table_other c.owners changes ns id point to x inside b) ∙ there));
      kept = λ k. le_trans (h.kept k) le;
    }
  where
    end_later : (to_ : Option ℕ) (from : ℕ) → EndsBy time from to_ → EndsBy n from to_
    end_later None from e = tt
    end_later (Some t) from e = (e.0, le_trans e.1 le)

    end_now : (to_ : Option ℕ) (from : ℕ) → from < point → EndsBy time from to_ → EndsBy n from (ended point to_)
    end_now None from l e = (le_of_lt l, may.past)
    end_now (Some t) from l e = (e.0, le_trans e.1 le)

    over_past : (b : Bool) (r : TableRecord) → (b ≡ true → r.from < point) → EndsBy time r.from r.to → EndsBy n r.from (cond b (ended point r.to) r.to)
    over_past true r l e = end_now r.to r.from (l refl) e
    over_past false r l e = end_later r.to r.from e
