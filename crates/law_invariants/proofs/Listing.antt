-- Which tablets a record lists, and that a tablet has one slot and one table.
use Rattle.std.proofs.Common.{ℕ, ◌≡◌, List, [], ◌∷◌, Option, Some, None, true, false, inl, inr, refl, sym, ap, ◌∙◌, not}
use Rattle.model.specs.Cluster.{Id, same, In, is_open, Interval, owner_of, owns, is_owned_by, Body, Listed, Master, Parts}
use Rattle.model.specs.Journal.{Change}
use Rattle.model.specs.Lists.{once, listing, intervals_in, active_tablets, by_table_and_number}
use Rattle.law_store.proofs.Keys.{either_way}
use Rattle.law_invariants.specs.Operations.{IsListed, IsOpenOf}
use Rattle.law_invariants.specs.Invariant.{Inv}
use Rattle.law_invariants.proofs.Finding.{in_mapped, map_in, in_filter, filter_in, same_equal, same_self}
use Rattle.law_invariants.proofs.Parting.{ordered_has, ordered_only}
use Rattle.law_invariants.proofs.Undoing.{owned_is}

-- a line of a list is that of one of its intervals
pub record IsLineOf (body : Body) (is : List Interval) (l : Listed) : Type 0 where
  pub interval : Interval
  pub listed : In interval is
  pub tablet_is : l.tablet ≡ interval.tablet
  pub slot_is : l.slot ≡ interval.slot
  pub body_is : l.body ≡ body
  pub unacked : l.acked ≡ false

pub listing_only : (body : Body) (is : List Interval) (l : Listed) → In l (listing body is) → IsLineOf body is l
listing_only body is l isin = in_mapped {A = Interval} {B = Listed} (λ i. record { tablet = i.tablet; slot = i.slot; body = body; acked = false }) (IsLineOf body is) (by_table_and_number is)
    (λ i there. record { interval = i; listed = ordered_only _ is i there; tablet_is = refl; slot_is = refl; body_is = refl; unacked = refl }) l isin

pub listing_has : (body : Body) (is : List Interval) (i : Interval) → In i is → IsListed (listing body is) i
listing_has body is i isin = record {
  line = record { tablet = i.tablet; slot = i.slot; body = body; acked = false };
  listed = map_in {A = Interval} {B = Listed} (λ i. record { tablet = i.tablet; slot = i.slot; body = body; acked = false }) (by_table_and_number is) i (ordered_has _ is i isin);
  tablet_is = refl;
  slot_is = refl;
}

pub once_only : (is : List Interval) (i : Interval) → In i (once is) → In i is
once_only [] i isin = isin
once_only (k ∷ ks) i (inl e) = inl e
once_only (k ∷ ks) i (inr isin) = inr (once_only ks i (filter_in (once ks) (λ j. not (same j.tablet k.tablet)) i isin).0)

pub once_has : (is : List Interval) (i : Interval) → In i is → (j : Interval) × (In j (once is) × (j.tablet ≡ i.tablet))
once_has [] i isin = absurd isin
once_has (k ∷ ks) i (inl e) = (k, (inl refl, ap (λ q. q.tablet) e))
once_has (k ∷ ks) i (inr isin) = let r = once_has ks i isin in either_way (same r.0.tablet k.tablet)
    (λ b. (k, (inl refl, sym (same_equal r.0.tablet k.tablet b) ∙ r.1.1)))
    (λ b. (r.0, (inr (in_filter (once ks) (λ j. not (same j.tablet k.tablet)) r.0 r.1.0 (ap not b)), r.1.1)))

pub namespace_only : (m : Master) (ns : Id) (i : Interval) → In i (intervals_in m.catalog.owners m.activity ns) → In i m.activity × (owner_of m.catalog.owners i.table ≡ Some ns)
namespace_only m ns i isin = let h = filter_in m.activity (λ i. owns m.catalog.owners ns i.table) i isin in (h.0, owned_is (owner_of m.catalog.owners i.table) ns h.1)

pub namespace_has : (m : Master) (ns : Id) (i : Interval) → In i m.activity → owner_of m.catalog.owners i.table ≡ Some ns → In i (intervals_in m.catalog.owners m.activity ns)
namespace_has m ns i isin owner = in_filter m.activity (λ i. owns m.catalog.owners ns i.table) i isin (ap (λ o. is_owned_by o ns) owner ∙ same_self ns)

open_none : (to : Option ℕ) → is_open to ≡ true → to ≡ None
open_none None e = refl
open_none (Some x) e = cc

pub active_only : (m : Master) (ns : Id) (i : Interval) → In i (active_tablets m.catalog.owners m.activity ns) → IsOpenOf m ns i
active_only m ns i isin = let h = filter_in (intervals_in m.catalog.owners m.activity ns) (λ i. is_open i.to) i isin in let k = namespace_only m ns i h.0 in record { kept = k.0; opened = open_none i.to h.1; owned = k.1 }

pub active_has : (m : Master) (ns : Id) (i : Interval) → IsOpenOf m ns i → In i (active_tablets m.catalog.owners m.activity ns)
active_has m ns i h = in_filter (intervals_in m.catalog.owners m.activity ns) (λ i. is_open i.to) i (namespace_has m ns i h.kept h.owned) (ap is_open h.opened)

-- a tablet has its intervals in one slot, for one table
pub record OnePlace (i j : Interval) : Type 0 where
  pub slot_is : i.slot ≡ j.slot
  pub table_is : i.table ≡ j.table

pub one_place : (ps : Parts) (activity : List Interval) (changes : List Change) (i j : Interval) → Inv ps activity changes → In i ps.master.activity → In j ps.master.activity → i.tablet ≡ j.tablet → OnePlace i j
one_place ps activity changes i j inv in_i in_j e =
    let h = inv.slots j.slot in
    let g = h.each j in_j refl in
    let home : i.slot ≡ j.slot = h.home g.present i in_i (e ∙ sym g.tablet_is) in
    record { slot_is = home; table_is = sym (h.each i in_i home).table_is ∙ g.table_is }
