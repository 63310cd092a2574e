-- What the changes of a write do to the view: they change the rows of their keys from their stamp on, and nothing else.
use Rattle.std.proofs.Common.{ℕ, ◌≡◌, ◌≤◌, ◌<◌, List, [], ◌∷◌, Bool, true, false, cond, ◌&&◌, ◌⊎◌, inl, inr, refl, sym, ap, subst, ◌∙◌, arith, leb, leb-true, le-leb, fold, is_some}
use Rattle.std.specs.Str.{bytes_eq}
use Rattle.std.specs.List.{list_all}
use Rattle.model.specs.Cluster.{applied, code_of, Row, Item, Id, same, In, in_range, Tablet}
use Rattle.model.specs.Journal.{Change, RowChanged, namespace_at, table_at, row_at}
use Rattle.model.specs.Right.{is_fixed}
use Rattle.model.specs.RowActs.{covers}
use Rattle.law_invariants.specs.Operations.{is_switched}
use Rattle.law_invariants.proofs.Working.{before_any}
use Rattle.model.specs.Stands.{before_restore}
use Rattle.model.specs.History.{rows_made}
use Rattle.law_store.specs.Sorted.{item_step}
use Rattle.law_store.proofs.Keys.{equal_keys}
use Rattle.law_invariants.proofs.Finding.{both_pass, same_self}

one_way : {A : Type 0} (b : Bool) (x : A) → cond b x x ≡ x
one_way true x = refl
one_way false x = refl

abbrev pub row_change : ℕ → Id → Item → Change
row_change n table item = record { stamp = n; act = RowChanged table item.key item.op }

pub tables_stay : (items : List Item) (n : ℕ) (table : Id) (changes : List Change) (x : ℕ) (id : Id) → table_at (rows_made n table items changes) x id ≡ table_at changes x id
tables_stay [] n table changes x id = refl
tables_stay (item ∷ items) n table changes x id = tables_stay items n table (row_change n table item ∷ changes) x id ∙ one_way (leb n x) (table_at changes x id)

pub namespaces_stay : (items : List Item) (n : ℕ) (table : Id) (changes : List Change) (x : ℕ) (id : Id) → namespace_at (rows_made n table items changes) x id ≡ namespace_at changes x id
namespaces_stay [] n table changes x id = refl
namespaces_stay (item ∷ items) n table changes x id = namespaces_stay items n table (row_change n table item ∷ changes) x id ∙ one_way (leb n x) (namespace_at changes x id)

pub fixed_stay : (items : List Item) (n : ℕ) (table : Id) (changes : List Change) (ns : Id) (t : ℕ) → is_fixed (rows_made n table items changes) ns t ≡ is_fixed changes ns t
fixed_stay [] n table changes ns t = refl
fixed_stay (item ∷ items) n table changes ns t = fixed_stay items n table (row_change n table item ∷ changes) ns t

-- rows of other tables, keys outside the tablet's range, and times before the stamp stay
row_stays : (late table_same key_same there : Bool) (r s : Row) → (late ≡ true → table_same ≡ true → key_same ≡ true → ⊥)
    → cond late (cond ((table_same && key_same) && there) s r) r ≡ r
row_stays true true true there r s h = absurd (h refl refl refl)
row_stays true true false there r s h = refl
row_stays true false key_same there r s h = refl
row_stays false table_same key_same there r s h = refl

pub not_written : (items : List Item) (n : ℕ) (table other : Id) (t : Tablet) (changes : List Change) (key : List ℕ) (x : ℕ) → list_all (λ item. covers t item.key) items ≡ true
    → (same table other ≡ true → in_range t.low t.high (code_of key) ≡ true → x < n) → row_at (rows_made n table items changes) x other key ≡ row_at changes x other key
not_written [] n table other t changes key x all h = refl
not_written (item ∷ items) n table other t changes key x all h =
    let each = both_pass (covers t item.key) (list_all (λ i. covers t i.key) items) all in
    not_written items n table other t (row_change n table item ∷ changes) key x each.1 h
    ∙ row_stays (leb n x) (same table other) (bytes_eq item.key key) (is_some (table_at changes x other)) (row_at changes x other key) (applied (row_at changes x other key) item.op)
    (λ late tables_same keys_same.
    let range : in_range t.low t.high (code_of key) ≡ true = subst (λ q. in_range t.low t.high (code_of q) ≡ true) (equal_keys item.key key keys_same) each.0 in
    let sooner = h tables_same range in
    let l : n ≤ x = leb-true _ _ late in absurd (omega arith))

-- from the stamp on the row of a key is what its items make of it
row_then : (late table_same there key_same : Bool) (r s : Row) → late ≡ true → table_same ≡ true → there ≡ true
    → cond late (cond ((table_same && key_same) && there) s r) r ≡ cond key_same s r
row_then true true true true r s a b c = refl
row_then true true true false r s a b c = refl
row_then true true false key_same r s a b c = absurd (let q = c in grind arith)
row_then true false there key_same r s a b c = absurd (let q = b in grind arith)
row_then false table_same there key_same r s a b c = absurd (let q = a in grind arith)

pub rows_written : (items : List Item) (n : ℕ) (table : Id) (changes : List Change) (key : List ℕ) (x : ℕ) → n ≤ x → is_some (table_at changes x table) ≡ true
    → row_at (rows_made n table items changes) x table key ≡ fold (item_step key) (row_at changes x table key) items
rows_written [] n table changes key x le there = refl
rows_written (item ∷ items) n table changes key x le there =
    rows_written items n table (row_change n table item ∷ changes) key x le (ap is_some (one_way (leb n x) (table_at changes x table)) ∙ there)
    ∙ ap (λ row. fold (item_step key) row items)
    (row_then (leb n x) (same table table) (is_some (table_at changes x table)) (bytes_eq item.key key) (row_at changes x table key) (applied (row_at changes x table key) item.op)
    (le-leb _ _ le) (same_self table) there)

pub switched_stay : (items : List Item) (n : ℕ) (table : Id) (changes : List Change) (ns : Id) (point : ℕ) → is_switched changes ns point ≡ true → is_switched (rows_made n table items changes) ns point ≡ true
switched_stay [] n table changes ns point h = h
switched_stay (item ∷ items) n table changes ns point h = switched_stay items n table (record { stamp = n; act = RowChanged table item.key item.op } ∷ changes) ns point h

-- the changes before a restore stay
pub before_stay : (items : List Item) (n : ℕ) (table : Id) (changes : List Change) (ns : Id) (point : ℕ) (all : List Change) → is_switched changes ns point ≡ true
    → before_restore (rows_made n table items changes) ns point all ≡ before_restore changes ns point changes
before_stay [] n table changes ns point all h = before_any changes ns point all changes h
before_stay (item ∷ items) n table changes ns point all h =
    before_stay items n table (row_change n table item ∷ changes) ns point all h ∙ before_any changes ns point (row_change n table item ∷ changes) changes h

-- a change is an earlier one, or one of the batch
pub rows_in : (items : List Item) (n : ℕ) (table : Id) (changes : List Change) (c : Change) → In c (rows_made n table items changes) → In c changes ⊎ ((item : Item) × (c ≡ row_change n table item))
rows_in [] n table changes c isin = inl isin
rows_in (item ∷ items) n table changes c isin = elim (rows_in items n table (row_change n table item ∷ changes) c isin) [
  | inl q ↦ (elim q as (λ _. In c changes ⊎ ((item : Item) × (c ≡ row_change n table item))) [ inl e ↦ inr (item, sym e) | inr old ↦ inl old ])
  | inr q ↦ inr q
]

pub unswitched_stay : (items : List Item) (n : ℕ) (table : Id) (changes : List Change) (ns : Id) (point : ℕ) → is_switched (rows_made n table items changes) ns point ≡ is_switched changes ns point
unswitched_stay [] n table changes ns point = refl
unswitched_stay (item ∷ items) n table changes ns point = unswitched_stay items n table (row_change n table item ∷ changes) ns point
