-- The parts hold the tablets that the master knows, and stand for the journal: the reads of a live store and of frozen sets are
-- those of the view.
use Rattle.std.proofs.Common.{ℕ, ◌≡◌, List, Option, Some, None, true, false, not, refl, sym, ap, ◌∙◌, eqb, arith}
use Rattle.std.proofs.lemmas.Bool.Decides.{nat_tests}
use Rattle.std.specs.Option.{is_some}
use Rattle.model.specs.Cluster.{In, is_open, in_range, Interval, FrozenSet, is_empty, Parts}
use Rattle.model.specs.Journal.{Change, table_at, row_at}
use Rattle.model.specs.Stands.{Stands, LiveStands, FrozenStands, awaited, counted}
use Rattle.law_invariants.specs.Invariant.{Inv, TurnsAt, is_awaited}
use Rattle.law_invariants.proofs.Finding.{same_equal, second_fails, filter_in}
use Rattle.law.proofs.Fixing.{OwnersStand}
use Rattle.law_invariants.proofs.Lasting.{last_in}
use Rattle.law_invariants.proofs.Ticking.{not_true}

-- an interval that doesn't begin at the point of awaited rows had ended by it
ended_then : (point from : ℕ) (to : Option ℕ) → not (eqb from point) ≡ true → TurnsAt point from to → is_awaited (Some point) to ≡ false
ended_then point from None apart turns = absurd (let q : eqb from point ≡ false = not_true (eqb from point) apart in grind (arith, nat_tests))
ended_then point from (Some to) apart turns = refl

-- a counted interval is one of the activity, and its rows are not yet to come
counted_in : (point : Option ℕ) (is : List Interval) (i : Interval) → In i (counted point is) → In i is
counted_in None is i isin = isin
counted_in (Some point) is i isin = (filter_in is (λ j. not (eqb j.from point)) i isin).0

counted_came : (point : Option ℕ) (is : List Interval) (i : Interval) → In i (counted point is) → ((p : ℕ) → point ≡ Some p → TurnsAt p i.from i.to) → is_awaited point i.to ≡ false
counted_came None is i isin turns = second_fails (is_open i.to) false refl
counted_came (Some point) is i isin turns = ended_then point i.from i.to (filter_in is (λ j. not (eqb j.from point)) i isin).1 (turns point refl)

range_same : (low high from to code : ℕ) → low ≡ from → high ≡ to → in_range low high code ≡ true → in_range from to code ≡ true
range_same low high from to code e f h = rw (← e, ← f) h

live_stands : (ps : Parts) (activity : List Interval) (changes : List Change) (slot : ℕ) → is_empty (ps.tablet slot).presence ≡ false → Inv ps activity changes → LiveStands ps changes slot
live_stands ps activity changes slot present inv = record {
  reads = λ i key x last ranged cut by before point there. (
      let t = ps.tablet slot in
      let found = last_in (counted (awaited ps t) ps.master.activity) t.tablet i last in
      let listed = counted_in (awaited ps t) ps.master.activity i found.0 in
      let s = inv.slots slot in
      let g = s.each i listed (s.home present i listed (same_equal i.tablet t.tablet found.1)) in
      g.stands (counted_came (awaited ps t) ps.master.activity i found.0 g.waits) key x (range_same t.low t.high i.low i.high _ g.low_is g.high_is ranged) cut before (ap (λ k. is_some (table_at changes x k)) (sym g.table_is) ∙ there)
      ∙ ap (λ k. row_at changes x k key) (sym g.table_is));
}

frozen_stands : (ps : Parts) (activity : List Interval) (changes : List Change) (slot : ℕ) (f : FrozenSet) → is_empty (ps.tablet slot).presence ≡ false → In f (ps.tablet slot).frozen → Inv ps activity changes
    → FrozenStands ps changes slot f
frozen_stands ps activity changes slot f present held inv = record {
  reads = λ i key x listed is active ranged cut by there. (
      let t = ps.tablet slot in
      let s = inv.slots slot in
      let g = s.each i listed (s.home present i listed is) in
      g.sets f held key x (range_same t.low t.high i.low i.high _ g.low_is g.high_is ranged) cut by active ∙ ap (λ k. row_at changes x k key) (sym g.table_is));
}

pub all_stand : (ps : Parts) (activity : List Interval) (changes : List Change) → Inv ps activity changes → OwnersStand ps.master.catalog.owners changes → Stands ps changes
all_stand ps activity changes inv owners = record {
  held = λ i isin. let g = (inv.slots i.slot).each i isin refl in record { present = g.present; tablet_is = g.tablet_is; table_is = g.table_is; low_is = g.low_is; high_is = g.high_is };
  serves = λ i isin opened came. ((inv.slots i.slot).each i isin refl).serves opened came;
  active = λ slot serving unfenced. let o = (inv.slots slot).opens serving unfenced in (o.interval, (o.listed, (o.slot_is, o.opened)));
  home = λ slot present. (inv.works slot).obeyed.home present;
  hidden = λ i at isin hides came. ((inv.slots i.slot).each i isin refl).hidden at hides came;
  owners = owners;
  live = λ slot present. live_stands ps activity changes slot present inv;
  frozen = λ slot f present held. frozen_stands ps activity changes slot f present held inv;
}
