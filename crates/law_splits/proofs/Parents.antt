-- The tablet that is to be split: the one active tablet of the table that holds the code.
use Rattle.std.proofs.Common.{ℕ, ◌≡◌, List, Option, Some, None, true, ◌&&◌, inl, inr, sym, ap, ◌∙◌, arith}
use Rattle.std.specs.Option.{option_map}
use Rattle.std.proofs.lemmas.Bool.{true≢false}
use Rattle.model.specs.Cluster.{Id, same, In, ended_by, is_open, in_range, Interval, Master, UnknownTable, TableRecord}
use Rattle.model.specs.Looks.{holding, active_in, found_table, Parent, found_parent}
use Rattle.law_invariants.proofs.Judging.{and_found_is}
use Rattle.std.specs.Prelude.{Ok}
use Rattle.law_invariants.specs.Remembered.{Remembered}
use Rattle.law_invariants.proofs.Finding.{both_pass, same_equal, find_is, filter_in}
use Rattle.law_splits.proofs.Counting.{opened_is}

-- A table's tablet

pub record IsParent (is : List Interval) (table : Id) (code : ℕ) (p : Interval) : Type 0 where
  pub listed : In p is
  pub opened : p.to ≡ None
  pub table_is : p.table ≡ table
  pub ranged : in_range p.low p.high code ≡ true

found_parent_is : (m : Master) (table : Id) (code : ℕ) (p : Interval) → holding m table code ≡ Some p → IsParent m.activity table code p
found_parent_is m table code p e =
    let f = find_is (λ i. in_range i.low i.high code) (active_in m table) p e in
    let g = filter_in m.activity (λ i. is_open i.to && same i.table table) p f.listed in
    let both = both_pass (is_open p.to) (same p.table table) g.1 in
    record { listed = g.0; opened = opened_is p.to both.0; table_is = same_equal p.table table both.1; ranged = f.passes }

-- what a split is of

parent_is : (m : Master) (code : ℕ) (t : TableRecord) (p : Parent) → option_map {T = Interval} (λ i. record { table = t; tablet = i }) (holding m t.id code) ≡ Some p → (p.table ≡ t) × (holding m t.id code ≡ Some p.tablet)
parent_is m code t p e = by_tablet (holding m t.id code) e
  where
    by_tablet : (o : Option Interval) → option_map {T = Interval} (λ i. record { table = t; tablet = i }) o ≡ Some p → (p.table ≡ t) × (o ≡ Some p.tablet)
    by_tablet None e = absurd (let q = e in grind arith)
    by_tablet (Some i) e =
        let one : Parent = record { table = t; tablet = i } in
        let is : one ≡ p = cc in
        (ap (λ k. k.table) (sym is), ap (λ k. Some k.tablet) is)

pub parent_found : (m : Master) (namespace table : List ℕ) (code : ℕ) (p : Parent) → found_parent m namespace table code ≡ Ok p → (found_table m namespace table ≡ Ok p.table) × IsParent m.activity p.table.id code p.tablet
parent_found m namespace table code p e =
    let f = and_found_is (found_table m namespace table) (λ t. option_map {T = Interval} (λ i. record { table = t; tablet = i }) (holding m t.id code)) UnknownTable p e in
    let its = parent_is m code f.0 p f.1.1 in
    (f.1.0 ∙ ap Ok (sym its.0), found_parent_is m p.table.id code p.tablet (ap (λ t. holding m t.id code) its.0 ∙ its.1))

-- an interval without end is one that the master keeps
pub open_kept : (m : Master) (activity : List Interval) (i : Interval) → Remembered m activity → In i activity → i.to ≡ None → In i m.activity
open_kept m activity i h isin opened = elim (h.each i isin) [
  | inl here ↦ here
  | inr gone ↦ absurd (true≢false (sym gone.over ∙ ap (ended_by m.clock) opened))
]
