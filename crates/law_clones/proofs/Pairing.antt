-- The pairs of a new clone: each table of the source with a new one, each tablet with a new one in a free slot.
use Rattle.std.proofs.Common.{ℕ, ◌≡◌, ◌≤◌, ◌<◌, ◌+◌, List, [], ◌∷◌, length, take, Option, Some, None, true, ◌&&◌, ◌⊎◌, inl, inr, refl, sym, ap, subst, ◌∙◌, arith, leb, leb-true, ltb, ltb-true}
use Rattle.std.specs.List.{filter}
use Rattle.std.proofs.lemmas.Bool.{true≢false}
use Rattle.model.specs.Cluster.{Id, same, In, holds_at, before_end, ended_by, Interval, active_at, IdPair, TabletPair, Master}
use Rattle.model.specs.Catalog.{TableRecord, tables_at, by_id, put_table, owner_of}
use Rattle.model.specs.Lists.{tablets_active_at, intervals_in}
use Rattle.model.specs.Looks.{free_slots}
use Rattle.model.specs.Changed.{pair_tables, pair_tablets, target_in, sources}
use Rattle.law_store.proofs.Keys.{either_way}
use Rattle.law_invariants.specs.Operations.{PairsApart}
use Rattle.law_invariants.specs.Invariant.{RecordsRise}
use Rattle.law_invariants.proofs.Finding.{both_pass, same_equal, same_self, filter_in}
use Rattle.law_invariants.proofs.Parting.{ordered_only}
use Rattle.law_invariants.proofs.Free.{RiseFrom, rise_in, AreFree, least_free}
use Rattle.law_invariants.proofs.Listing.{namespace_only}

-- Tables at a time: each is there once

abbrev pub TablesApart : List TableRecord → Type 0
TablesApart [] = Unit {0}
TablesApart (t ∷ ts) = ((u : TableRecord) → In u ts → t.id ≡ u.id → ⊥) × TablesApart ts

put_only : (ts : List TableRecord) (t u : TableRecord) → In u (put_table t ts) → (t ≡ u) ⊎ In u ts
put_only [] t u (inl e) = inl e
put_only [] t u (inr none) = absurd none
put_only (v ∷ vs) t u isin = either_way (ltb t.id.number v.id.number)
    (λ b. let k : In u (t ∷ v ∷ vs) = rw b at isin in elim k [ inl e ↦ inl e | inr rest ↦ inr rest ])
    (λ b. let k : In u (v ∷ put_table t vs) = rw b at isin in elim k [ inl e ↦ inr (inl e) | inr rest ↦ elim (put_only vs t u rest) [ inl e ↦ inl e | inr there ↦ inr (inr there) ] ])

put_first : (ts : List TableRecord) (t u : TableRecord) → (t ≡ u) ⊎ In u ts → In u (put_table t ts)
put_first [] t u (inl e) = inl e
put_first [] t u (inr none) = absurd none
put_first (v ∷ vs) t u isin = either_way (ltb t.id.number v.id.number)
    (λ b. rw b isin)
    (λ b. rw b (elim isin as (λ _. In u (v ∷ put_table t vs)) [ inl e ↦ inr (put_first vs t u (inl e)) | inr rest ↦ (elim rest as (λ _. In u (v ∷ put_table t vs)) [ inl e ↦ inl e | inr there ↦ inr (put_first vs t u (inr there)) ]) ]))

pub by_id_only : (ts : List TableRecord) (u : TableRecord) → In u (by_id ts) → In u ts
by_id_only [] u isin = isin
by_id_only (t ∷ ts) u isin = elim (put_only (by_id ts) t u isin) [ inl e ↦ inl e | inr there ↦ inr (by_id_only ts u there) ]

pub by_id_has : (ts : List TableRecord) (u : TableRecord) → In u ts → In u (by_id ts)
by_id_has [] u isin = isin
by_id_has (t ∷ ts) u (inl e) = put_first (by_id ts) t u (inl e)
by_id_has (t ∷ ts) u (inr there) = put_first (by_id ts) t u (inr (by_id_has ts u there))

put_apart : (ts : List TableRecord) (t : TableRecord) → ((u : TableRecord) → In u ts → t.id ≡ u.id → ⊥) → TablesApart ts → TablesApart (put_table t ts)
put_apart [] t others h = (λ u none. absurd none, tt)
put_apart (v ∷ vs) t others h = either_way (ltb t.id.number v.id.number)
    (λ b. rw b (others, h))
    (λ b. rw b (
      λ u isin e. elim (put_only vs t u isin) [ inl is ↦ others v (inl refl) (ap (λ k. k.id) is ∙ sym e) | inr there ↦ h.0 u there e ],
      put_apart vs t (λ u isin. others u (inr isin)) h.1,
    ))

id_apart : (ts : List TableRecord) → TablesApart ts → TablesApart (by_id ts)
id_apart [] h = tt
id_apart (t ∷ ts) h = put_apart (by_id ts) t (λ u isin. h.0 u (by_id_only ts u isin)) (id_apart ts h.1)

pub ends_after : (to : Option ℕ) (from x : ℕ) → ended_by from to ≡ true → before_end x to ≡ true → from ≤ x → ⊥
ends_after None from x ended open_ le = true≢false (sym ended)
ends_after (Some e) from x ended open_ le = let a : e ≤ from = leb-true e from ended in let b : x < e = ltb-true x e open_ in omega arith

then_apart : (rs : List TableRecord) (ns : Id) (x : ℕ) → RecordsRise rs → TablesApart (filter (λ r. holds_at x r.from r.to && same r.namespace ns) rs)
then_apart [] ns x rise = tt
then_apart (r ∷ rs) ns x rise = either_way (holds_at x r.from r.to && same r.namespace ns)
    (λ b. rw b (
      λ u isin e. (
          let there = filter_in rs (λ r. holds_at x r.from r.to && same r.namespace ns) u isin in
          let held = both_pass (holds_at x u.from u.to) (same u.namespace ns) there.1 in
          let here = both_pass (holds_at x r.from r.to) (same r.namespace ns) b in
          ends_after r.to u.from x (rise.0 u there.0 (sym e)).1 (both_pass (leb r.from x) (before_end x r.to) here.0).1 (leb-true u.from x (both_pass (leb u.from x) (before_end x u.to) held.0).0)),
      then_apart rs ns x rise.1,
    ))
    (λ b. rw b (then_apart rs ns x rise.1))

pub tables_then_apart : (rs : List TableRecord) (ns : Id) (x : ℕ) → RecordsRise rs → TablesApart (tables_at rs ns x)
tables_then_apart rs ns x rise = id_apart (filter (λ r. holds_at x r.from r.to && same r.namespace ns) rs) (then_apart rs ns x rise)

-- Pairs of tables

pub record IsTablePair (ts : List TableRecord) (drawn count : ℕ) (d : IdPair) : Type 0 where
  pub table : TableRecord
  pub listed : In table ts
  pub source_is : d.source ≡ table.id
  pub above : drawn < d.target.number
  pub by : d.target.number ≤ drawn + count

pub table_pair : (ts : List TableRecord) (drawn : ℕ) (d : IdPair) → In d (pair_tables ts drawn) → IsTablePair ts drawn (length (pair_tables ts drawn)) d
table_pair [] drawn d isin = absurd isin
table_pair (t ∷ ts) drawn d (inl e) = let q : drawn + 1 ≡ d.target.number = ap (λ k. k.target.number) e in record { table = t; listed = inl refl; source_is = ap (λ k. k.source) (sym e); above = omega arith; by = omega arith }
table_pair (t ∷ ts) drawn d (inr isin) = let r = table_pair ts (drawn + 1) d isin in let a = r.above in let b = r.by in
    record { table = r.table; listed = inr r.listed; source_is = r.source_is; above = omega arith; by = omega arith }

pub tables_pair_apart : (ts : List TableRecord) (drawn : ℕ) → TablesApart ts → PairsApart (pair_tables ts drawn)
tables_pair_apart [] drawn h = tt
tables_pair_apart (t ∷ ts) drawn h = (
  λ e isin. (let r = table_pair ts (drawn + 1) e isin in (
    λ is. h.0 r.table r.listed (is ∙ r.source_is),
    λ is. (let q : drawn + 1 ≡ e.target.number = ap (λ i. i.number) is in let a = r.above in omega arith),
  )),
  tables_pair_apart ts (drawn + 1) h.1,
)

pub one_target_of : (ds : List IdPair) (d e : IdPair) → PairsApart ds → In d ds → In e ds → d.target ≡ e.target → d ≡ e
one_target_of [] d e h in_d in_e is = absurd in_d
one_target_of (c ∷ cs) d e h (inl a) (inl b) is = sym a ∙ b
one_target_of (c ∷ cs) d e h (inl a) (inr b) is = absurd ((h.0 e b).1 (ap (λ k. k.target) a ∙ is))
one_target_of (c ∷ cs) d e h (inr a) (inl b) is = absurd ((h.0 d a).1 (ap (λ k. k.target) b ∙ sym is))
one_target_of (c ∷ cs) d e h (inr a) (inr b) is = one_target_of cs d e h.1 a b is

pub one_source_of : (ds : List IdPair) (d e : IdPair) → PairsApart ds → In d ds → In e ds → d.source ≡ e.source → d ≡ e
one_source_of [] d e h in_d in_e is = absurd in_d
one_source_of (c ∷ cs) d e h (inl a) (inl b) is = sym a ∙ b
one_source_of (c ∷ cs) d e h (inl a) (inr b) is = absurd ((h.0 e b).0 (ap (λ k. k.source) a ∙ is))
one_source_of (c ∷ cs) d e h (inr a) (inl b) is = absurd ((h.0 d a).0 (ap (λ k. k.source) b ∙ sym is))
one_source_of (c ∷ cs) d e h (inr a) (inr b) is = one_source_of cs d e h.1 a b is

-- the pair of a table of the source
pub target_there : (ts : List TableRecord) (drawn : ℕ) (t : TableRecord) → In t ts → (d : IdPair) × (In d (pair_tables ts drawn) × ((d.source ≡ t.id) × (target_in (pair_tables ts drawn) t.id ≡ d.target)))
target_there [] drawn t isin = absurd isin
target_there (u ∷ us) drawn t isin = either_way (same u.id t.id)
    (λ b. (_, (inl refl, (same_equal u.id t.id b, rw b refl))))
    (λ b. elim isin [
      | inl e ↦ absurd (true≢false (sym (ap (λ k. same k.id t.id) e ∙ same_self t.id) ∙ b))
      | inr rest ↦ (let r = target_there us (drawn + 1) t rest in (r.0, (inr r.1.0, (r.1.1.0, rw b r.1.1.1))))
    ])

-- Pairs of tablets

pub record IsTabletPair (is : List Interval) (slots : List ℕ) (drawn count : ℕ) (tables : List IdPair) (p : TabletPair) : Type 0 where
  pub interval : Interval
  pub listed : In interval is
  pub source_is : p.source ≡ interval.tablet
  pub source_slot_is : p.source_slot ≡ interval.slot
  pub low_is : p.low ≡ interval.low
  pub high_is : p.high ≡ interval.high
  pub table_is : p.table ≡ target_in tables interval.table
  pub isin : In p.slot slots
  pub above : drawn < p.target.number
  pub by : p.target.number ≤ drawn + count

pub tablet_pair : (is : List Interval) (slots : List ℕ) (drawn : ℕ) (tables : List IdPair) (p : TabletPair) → In p (pair_tablets is slots drawn tables) → IsTabletPair is slots drawn (length (pair_tablets is slots drawn tables)) tables p
tablet_pair [] slots drawn tables p isin = absurd isin
tablet_pair (i ∷ is) [] drawn tables p isin = absurd isin
tablet_pair (i ∷ is) (slot ∷ slots) drawn tables p (inl e) = let q : drawn + 1 ≡ p.target.number = ap (λ k. k.target.number) e in record {
  interval = i;
  listed = inl refl;
  source_is = ap (λ k. k.source) (sym e);
  source_slot_is = ap (λ k. k.source_slot) (sym e);
  low_is = ap (λ k. k.low) (sym e);
  high_is = ap (λ k. k.high) (sym e);
  table_is = ap (λ k. k.table) (sym e);
  isin = inl (ap (λ k. k.slot) e);
  above = omega arith;
  by = omega arith;
}
tablet_pair (i ∷ is) (slot ∷ slots) drawn tables p (inr isin) = let r = tablet_pair is slots (drawn + 1) tables p isin in let a = r.above in let b = r.by in record {
  interval = r.interval;
  listed = inr r.listed;
  source_is = r.source_is;
  source_slot_is = r.source_slot_is;
  low_is = r.low_is;
  high_is = r.high_is;
  table_is = r.table_is;
  isin = inr r.isin;
  above = omega arith;
  by = omega arith;
}

pub tablets_one_slot : (is : List Interval) (slots : List ℕ) (drawn low : ℕ) (tables : List IdPair) (p q : TabletPair) → RiseFrom low slots → In p (pair_tablets is slots drawn tables) → In q (pair_tablets is slots drawn tables) → p.slot ≡ q.slot → p ≡ q
tablets_one_slot [] slots drawn low tables p q rise in_p in_q e = absurd in_p
tablets_one_slot (i ∷ is) [] drawn low tables p q rise in_p in_q e = absurd in_p
tablets_one_slot (i ∷ is) (slot ∷ slots) drawn low tables p q rise (inl a) (inl b) e = sym a ∙ b
tablets_one_slot (i ∷ is) (slot ∷ slots) drawn low tables p q rise (inl a) (inr b) e = absurd (
    let l : slot + 1 ≤ q.slot = rise_in slots (slot + 1) q.slot rise.1 (tablet_pair is slots (drawn + 1) tables q b).isin in let s : slot ≡ p.slot = ap (λ k. k.slot) a in omega arith)
tablets_one_slot (i ∷ is) (slot ∷ slots) drawn low tables p q rise (inr a) (inl b) e = absurd (
    let l : slot + 1 ≤ p.slot = rise_in slots (slot + 1) p.slot rise.1 (tablet_pair is slots (drawn + 1) tables p a).isin in let s : slot ≡ q.slot = ap (λ k. k.slot) b in omega arith)
tablets_one_slot (i ∷ is) (slot ∷ slots) drawn low tables p q rise (inr a) (inr b) e = tablets_one_slot is slots (drawn + 1) (slot + 1) tables p q rise.1 a b e

pub tablets_one_target : (is : List Interval) (slots : List ℕ) (drawn : ℕ) (tables : List IdPair) (p q : TabletPair) → In p (pair_tablets is slots drawn tables) → In q (pair_tablets is slots drawn tables) → p.target ≡ q.target → p ≡ q
tablets_one_target [] slots drawn tables p q in_p in_q e = absurd in_p
tablets_one_target (i ∷ is) [] drawn tables p q in_p in_q e = absurd in_p
tablets_one_target (i ∷ is) (slot ∷ slots) drawn tables p q (inl a) (inl b) e = sym a ∙ b
tablets_one_target (i ∷ is) (slot ∷ slots) drawn tables p q (inl a) (inr b) e = absurd (
    let l = (tablet_pair is slots (drawn + 1) tables q b).above in let s : drawn + 1 ≡ p.target.number = ap (λ k. k.target.number) a in let t : p.target.number ≡ q.target.number = ap (λ i. i.number) e in omega arith)
tablets_one_target (i ∷ is) (slot ∷ slots) drawn tables p q (inr a) (inl b) e = absurd (
    let l = (tablet_pair is slots (drawn + 1) tables p a).above in let s : drawn + 1 ≡ q.target.number = ap (λ k. k.target.number) b in let t : p.target.number ≡ q.target.number = ap (λ i. i.number) e in omega arith)
tablets_one_target (i ∷ is) (slot ∷ slots) drawn tables p q (inr a) (inr b) e = tablets_one_target is slots (drawn + 1) tables p q a b e

-- The source tablets, and the free slots

pub record IsActiveOf (m : Master) (ns : Id) (to : ℕ) (i : Interval) : Type 0 where
  pub kept : In i m.activity
  pub owned : owner_of m.catalog.owners i.table ≡ Some ns
  pub active : active_at to i ≡ true

pub source_then : (m : Master) (ns : Id) (to : ℕ) (i : Interval) → In i (sources m ns to) → IsActiveOf m ns to i
source_then m ns to i isin =
    let h = filter_in (intervals_in m.catalog.owners m.activity ns) (active_at to) i (ordered_only _ (tablets_active_at m.catalog.owners m.activity ns to) i isin) in
    let k = namespace_only m ns i h.0 in record { kept = k.0; owned = k.1; active = h.1 }

take_all : {A : Type 0} (xs : List A) → take (length xs) xs ≡ xs
take_all [] = refl
take_all (x ∷ xs) = ap (λ ys. x ∷ ys) (take_all xs)

pub all_free : (m : Master) → AreFree m (length (free_slots m)) (free_slots m)
all_free m = subst (AreFree m (length (free_slots m))) (take_all (free_slots m)) (least_free m (length (free_slots m)) (omega arith))
