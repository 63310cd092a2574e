-- The master after a split: operations go on, and what is remembered of all tablets.
use Rattle.std.proofs.Common.{ℕ, ◌≡◌, ◌≤◌, ◌<◌, ◌+◌, List, [], ◌∷◌, Some, ◌⊎◌, inl, inr, refl, sym, ap, subst, ◌∙◌, arith, le_trans, le_refl, le_of_lt}
use Rattle.std.proofs.lemmas.Bool.{true≢false}
use Rattle.model.specs.Cluster.{Kind, TabletKind, Id, same, In, ended_by, Interval, end_tablet, owner_of, Master, Drawn}
use Rattle.model.specs.Drawn.{drawn_of}
use Rattle.model.specs.Journal.{Change}
use Rattle.law_store.proofs.Keys.{either_way}
use Rattle.law_invariants.specs.Remembered.{IsForgotten, Remembered}
use Rattle.law_invariants.specs.Operations.{OperationsGood}
use Rattle.law_invariants.specs.Invariant.{MasterGood}
use Rattle.law_invariants.proofs.Finding.{same_equal, in_second}
use Rattle.law_invariants.proofs.Ticking.{namespaces_later, tables_later}
use Rattle.law_invariants.proofs.Remembering.{forgotten_on, kept_all}
use Rattle.law_invariants.proofs.Operating.{NotHeld, GoesOn, IsNew, Onward}
use Rattle.law_invariants.proofs.Working.{TablesDrawn}
use Rattle.law_invariants.proofs.Quiet.{same_names}
use Rattle.law_splits.proofs.Cutting.{cut, cut_other, cut_stays, stays_same, goes_cut}
use Rattle.law_splits.proofs.Counting.{low_child, high_child, both_children}
use Rattle.law_splits.proofs.Slots.{IsSplit, split_activity, split_master, each_split, cut_in}
use Rattle.law_invariants.proofs.Parting.{part_same, part_append, part_mapped}

pub low_in : (p : Interval) (code a b n : ℕ) (m : Master) (is : List Interval) → In (low_child p code a n m) (split_activity p code a b n m is)
low_in p code a b n m is = in_second (end_tablet p.tablet n is) (both_children p code a b n m) (low_child p code a n m) (inl refl)

pub high_in : (p : Interval) (code a b n : ℕ) (m : Master) (is : List Interval) → In (high_child p code b n m) (split_activity p code a b n m is)
high_in p code a b n m is = in_second (end_tablet p.tablet n is) (both_children p code a b n m) (high_child p code b n m) (inr (inl refl))

pub master_split_good : (m : Master) (n : ℕ) (changes : List Change) (p : Interval) (code a b : ℕ) → IsSplit m n p code a b → MasterGood m changes → MasterGood (split_master p code a b n m) changes
master_split_good m n changes p code a b s h = record {
  namespaces = namespaces_later m.catalog.namespaces m.clock n m.drawn.namespaces changes (le_of_lt s.before) h.namespaces;
  tables = tables_later m.catalog m.clock n m.drawn.tables changes (le_of_lt s.before) h.tables;
  marks = h.marks;
  past = λ owner to is. le_trans (h.past owner to is) (le_of_lt s.before);
  complete = λ q isin. le_trans (h.complete q isin) (le_of_lt s.before);
  listed = λ r l isin lists. le_trans (h.listed r l isin lists) (omega arith);
  listed_of = λ r l isin lists. (let old = h.listed r l isin lists in each_split (λ i. i.tablet ≡ l.tablet → owner_of m.catalog.owners i.table ≡ Some r.namespace) p code a b n m m.activity (h.listed_of r l isin lists)
      (λ e. absurd (let q : m.drawn.tablets + 1 ≡ l.tablet.number = ap (λ k. k.number) e in omega arith))
      (λ e. absurd (let q : m.drawn.tablets + 2 ≡ l.tablet.number = ap (λ k. k.number) e in omega arith)));
}

-- What is remembered

forgotten_cut : (m : Master) (n : ℕ) (p : Interval) (code a b : ℕ) (i : Interval) → m.clock < n → i.tablet.number ≤ m.drawn.tablets → IsForgotten m i → IsForgotten (split_master p code a b n m) (cut p.tablet n i)
forgotten_cut m n p code a b i before drawn gone =
    let stays = cut_stays p.tablet n i (λ opened mine. true≢false (sym gone.over ∙ ap (ended_by m.clock) opened)) in
    subst (IsForgotten (split_master p code a b n m)) (sym (stays_same p.tablet n i stays))
    (forgotten_on m (split_master p code a b n m) i (record { clock = le_of_lt before; schedules = refl; restorations = refl; clones = refl }) refl
    (each_split (λ j. j.tablet ≡ i.tablet → ⊥) p code a b n m m.activity gone.unknown
    (λ e. absurd (let q : m.drawn.tablets + 1 ≡ i.tablet.number = ap (λ k. k.number) e in omega arith))
    (λ e. absurd (let q : m.drawn.tablets + 2 ≡ i.tablet.number = ap (λ k. k.number) e in omega arith)))
    gone)

pub remembered_split : (m : Master) (n : ℕ) (changes : List Change) (activity : List Interval) (p : Interval) (code a b : ℕ) → IsSplit m n p code a b → OperationsGood m changes → Remembered m activity
    → Remembered (split_master p code a b n m) (split_activity p code a b n m activity)
remembered_split m n changes activity p code a b s ops h =
    let k = split_master p code a b n m in
    let old = split_activity p code a b n m m.activity in
    let all = split_activity p code a b n m activity in record {
      part = part_append (end_tablet p.tablet n activity) (end_tablet p.tablet n m.activity) (both_children p code a b n m) (both_children p code a b n m) (part_mapped (cut p.tablet n) activity m.activity h.part)
          (part_same (both_children p code a b n m));
      each = each_split (λ j. In j old ⊎ IsForgotten k j) p code a b n m activity
          (λ i isin. elim (h.each i isin) [
            | inl here ↦ inl (cut_in p code a b n m m.activity i here)
            | inr gone ↦ inr (forgotten_cut m n p code a b i s.before (h.drawn i isin) gone)
          ])
          (inl (low_in p code a b n m m.activity)) (inl (high_in p code a b n m m.activity));
      drawn = each_split (λ j. j.tablet.number ≤ m.drawn.tablets + 2) p code a b n m activity (λ i isin. le_trans (h.drawn i isin) (omega arith)) (omega arith) (le_refl _);
      drawn_table = (let table = h.drawn_table p (kept_all h p s.listed) in each_split (λ j. j.table.number ≤ m.drawn.tables) p code a b n m activity h.drawn_table table table);
      reserved = λ c q j known unseen paired. (
          let g = (ops.clones c known).pairs q paired in
          let drawn : q.target.number ≤ m.drawn.tablets = g.drawn in
          let not_table : p.table ≡ q.table → ⊥ = (h.reserved c q p known unseen paired (kept_all h p s.listed)).1 in
          each_split (λ i. (i.tablet ≡ q.target → ⊥) × (i.table ≡ q.table → ⊥)) p code a b n m activity (λ i isin. h.reserved c q i known unseen paired isin)
          (λ e. absurd (let l : m.drawn.tablets + 1 ≡ q.target.number = ap (λ k. k.number) e in omega arith), not_table)
          (λ e. absurd (let l : m.drawn.tablets + 2 ≡ q.target.number = ap (λ k. k.number) e in omega arith), not_table) j);
    }

-- Operations

two_more : (d : Drawn) (kind : Kind) → drawn_of kind d ≤ drawn_of kind (record d { tablets = d.tablets + 2 })
two_more d TabletKind = omega arith
two_more d _ = le_refl _

-- a tablet has its intervals in one slot, and of one table
abbrev pub OfParent : Master → Interval → Type 0
OfParent m p = (i : Interval) → In i m.activity → i.tablet ≡ p.tablet → (i.slot ≡ p.slot) × (i.table ≡ p.table)

free_here : (m : Master) (n : ℕ) (p : Interval) (code a b : ℕ) (ns : Id) → IsSplit m n p code a b → owner_of m.catalog.owners p.table ≡ Some ns → NotHeld m ns
free_here m n p code a b ns s of = let q : Some s.ns ≡ Some ns = sym s.owner ∙ of in let is : s.ns ≡ ns = cc in subst (NotHeld m) is s.unheld

goes_on : (m : Master) (n : ℕ) (p : Interval) (code a b : ℕ) (i : Interval) → IsSplit m n p code a b → OfParent m p → In i m.activity → GoesOn m n i (cut p.tablet n i)
goes_on m n p code a b i s mine isin = goes_cut m n p.tablet i (λ e ns of. free_here m n p code a b ns s (ap (owner_of m.catalog.owners) (sym (mine i isin e).1) ∙ of))

new_child : (m : Master) (n : ℕ) (p : Interval) (code a b : ℕ) (j : Interval) → IsSplit m n p code a b → m.drawn.tablets < j.tablet.number → j.from ≡ n → j.table ≡ p.table → In j.slot (a ∷ b ∷ []) → IsNew m m.catalog j
new_child m n p code a b j s drawn from table_is at = record {
  drawn = drawn;
  later = (let l = s.before in omega arith);
  free = λ ns of. free_here m n p code a b ns s (ap (owner_of m.catalog.owners) (sym table_is) ∙ of);
  unreserved = s.free.unreserved j.slot at;
  vacant = λ i listed is. s.free.vacant j.slot at i listed is;
}

pub onward_split : (m : Master) (n : ℕ) (changes : List Change) (p : Interval) (code a b : ℕ) → IsSplit m n p code a b → TablesDrawn m → OfParent m p
    → Onward m n m.catalog (split_activity p code a b n m m.activity) (record m.drawn { tablets = m.drawn.tablets + 2 }) changes changes
onward_split m n changes p code a b s drawn mine = record {
  clock = le_of_lt s.before;
  drawn = two_more m.drawn;
  owned = λ table ns is. is;
  owners = λ table l. refl;
  tables = drawn;
  kept = λ i isin. (cut p.tablet n i, (cut_in p code a b n m m.activity i isin, goes_on m n p code a b i s mine isin));
  came = each_split (λ j. ((i : Interval) × (In i m.activity × GoesOn m n i j)) ⊎ IsNew m m.catalog j) p code a b n m m.activity
      (λ i isin. inl (i, (isin, goes_on m n p code a b i s mine isin)))
      (inr (new_child m n p code a b (low_child p code a n m) s (omega arith) refl refl (inl refl)))
      (inr (new_child m n p code a b (high_child p code b n m) s (omega arith) refl refl (inr (inl refl))));
  fixed = λ ns to. refl;
  switched = λ ns point is. is;
  tables_held = λ ns r isin of held. isin;
  names = same_names m;
  before = λ ns point is. refl;
}

-- an interval stays, or its tablet hears of the end
pub hears : (m : Master) (n : ℕ) (p : Interval) (code a b clock : ℕ) (i : Interval) → (i.tablet ≡ p.tablet → clock ≤ n) → In i m.activity → In i (split_activity p code a b n m m.activity) ⊎ (clock ≤ n)
hears m n p code a b clock i early isin = either_way (same i.tablet p.tablet)
    (λ e. inr (early (same_equal i.tablet p.tablet e)))
    (λ e. inl (subst (λ j. In j (split_activity p code a b n m m.activity)) (stays_same p.tablet n i (cut_other p.tablet n i e)) (cut_in p code a b n m m.activity i isin)))
