-- A schedule's periods are edited. Its window only closes further: what was out of it stays out.
use Rattle.std.proofs.Common.{ℕ, ◌≡◌, ◌≤◌, ◌<◌, List, [], ◌∷◌, Bool, true, false, cond, inl, refl, sym, ap, ◌∙◌, arith, le_trans, le_refl, le_of_lt}
use Rattle.std.proofs.lemmas.Bool.{true≢false}
use Rattle.model.specs.Cluster.{Id, same, same_slots, Interval, Schedule, EditSchedule, Change, Master, Parts, EditsSchedule}
use Rattle.model.specs.Journal.{Change as Made}
use Rattle.model.specs.Schedules.{low, least_low, edited}
use Rattle.model.specs.Operations.{time_of_user}
use Rattle.model.specs.Cleanup.{floor_of}
use Rattle.model.specs.Changes.{accepts, judge_edit_schedule, edit_schedule}
use Rattle.model.specs.Changed.{with_periods}
use Rattle.law_invariants.specs.Operations.{ScheduleGood}
use Rattle.law_invariants.specs.Invariant.{Inv, Later}
use Rattle.law_invariants.proofs.Finding.{in_mapped, map_in}
use Rattle.law_invariants.proofs.Remembering.{floor_up}
use Rattle.law_invariants.proofs.Ticking.{by_judgement, refused_keeps, KeepsAll}
use Rattle.law_invariants.proofs.Recording.{same_on, Records, recorded, Onto}
use Rattle.law_invariants.proofs.Staying.{schedule_on, scheduled_on}
use Rattle.law_invariants.proofs.Slots.{records_keep}
use Rattle.law_invariants.proofs.Advancing.{alone_keeps}
use Rattle.law_invariants.proofs.Pending.{point_complete, pending_drawn, pending_unmoved, pending_stays, fence_stays}
use Rattle.law_invariants.proofs.Using.{mapped_is, alone_mapped, mapped_rise}

abbrev with_edit : Id → ℕ → ℕ → ℕ → Master → Records
with_edit id interval retention n m = record {
  clock = n;
  schedules = with_periods id interval retention n m.schedules;
  scheduled = m.scheduled;
  snapshots = m.snapshots;
  restorations = m.restorations;
  sent = m.sent;
  drawn = m.drawn;
}

-- what an edit leaves of a schedule
either_stays : {A : Type 0} (read : Schedule → A) (b : Bool) (s t : Schedule) → read s ≡ read t → read (cond b s t) ≡ read t
either_stays read true s t e = e
either_stays read false s t e = refl

-- the low end of its window at the stamp is at or past that of before
low_rises : (b : Bool) (interval retention m n : ℕ) (s : Schedule) → m ≤ n → low s m ≤ low (cond b (edited interval retention n s) s) n
low_rises true interval retention m n s le = omega arith
low_rises false interval retention m n s le = omega arith

edited_floors : (m : Master) (id : Id) (interval retention n : ℕ) (ns : Id) → m.clock ≤ n → floor_of m ns m.clock ≤ floor_of (recorded m (with_edit id interval retention n m)) ns n
edited_floors m id interval retention n ns le =
    let f : Schedule → Schedule = λ t. cond (same t.id id) (edited interval retention n t) t in
    floor_up (least_low m.schedules ns m.clock) (least_low (with_periods id interval retention n m.schedules) ns n) (time_of_user m ns) m.clock n le
    (mapped_rise m.schedules f ns m.clock n (λ t. either_stays (λ k. k.namespace) (same t.id id) _ t refl) (λ t. low_rises (same t.id id) interval retention m.clock n t le))

-- one that began by the stamp goes on so
edited_good : (b : Bool) (m : Master) (interval retention : ℕ) (s : Schedule) → ScheduleGood m s → ScheduleGood m (cond b (edited interval retention m.clock s) s)
edited_good false m interval retention s h = h
edited_good true m interval retention s h = record {
  drawn = h.drawn;
  drawn_namespace = h.drawn_namespace;
  begun = (let begun = h.begun in omega arith);
  scheduled = (let k = h.scheduled in (k.0, (k.1.0, (k.1.1.0, le_trans k.1.1.1 (kept m.clock)))));
}
  where
    kept : (n : ℕ) → s.kept_low ≤ low s n
    kept n = omega arith

edited_onto : (ps : Parts) (activity : List Interval) (changes : List Made) (n interval retention : ℕ) (id : Id) → ps.master.clock < n → Inv ps activity changes
    → Onto ps changes (with_edit id interval retention n ps.master)
edited_onto ps activity changes n interval retention id before inv =
    let m = ps.master in
    let w = with_edit id interval retention n m in
    let ops = inv.operations in
    let a = ops.apart in
    let f : Schedule → Schedule = λ t. cond (same t.id id) (edited interval retention n t) t in
    let ids : (t : Schedule) → (f t).id ≡ t.id = λ t. either_stays (λ k. k.id) (same t.id id) _ t refl in
    let names : (t : Schedule) → (f t).namespace ≡ t.namespace = λ t. either_stays (λ k. k.namespace) (same t.id id) _ t refl in
    let floors : (ns : Id) → floor_of m ns m.clock ≤ floor_of (recorded m w) ns n = λ ns. edited_floors m id interval retention n ns (le_of_lt before) in
    record {
      clock = le_of_lt before;
      drawn = λ kind. le_refl _;
      floors = floors;
      apart = assumption (alone_mapped {A = Schedule} (λ t. t.id) f m.schedules ids a.schedule_ids, a);
      complete = λ k isin. le_trans (inv.master.complete k isin) (le_of_lt before);
      schedule = in_mapped {A = Schedule} {B = Schedule} f (ScheduleGood (recorded m w)) m.schedules
          (λ t isin. edited_good (same t.id id) (recorded m w) interval retention t
          (schedule_on m w t (le_of_lt before) (λ kind. le_refl _) (λ k there is. (k, (there, (refl, refl)))) (ops.schedules t isin)));
      scheduled = λ k isin. (let g = ops.scheduled k isin in
          scheduled_on m w k (le_of_lt before) (λ kind. le_refl _) (floors k.namespace) (λ q there. (q, (there, same_on q)))
          (f g.has.0, (map_in {A = Schedule} {B = Schedule} f m.schedules g.has.0 g.has.1.0, names g.has.0 ∙ g.has.1.1)) g);
      schedule_came = λ t isin. (let p = mapped_is {A = Schedule} f m.schedules t isin in inl (record { was = p.0; kept = p.1.0; namespace_is = ap (λ q. q.namespace) (sym p.1.1) ∙ names p.0 }));
      schedule_kept = λ t isin. inl (f t, (map_in {A = Schedule} {B = Schedule} f m.schedules t isin, (ids t, names t)));
      points = λ r point k there unfinished at isin is. point_complete m changes r point k ops there unfinished at isin is;
      last = λ q there now unfinished k isin is lasts. (k, (isin, (is, lasts)));
      sent = λ mark isin. ops.sent mark isin;
      snapshot_came = λ q isin. inl isin;
      snapshot_kept = λ q isin. (q, (isin, same_on q));
      restoration_came = λ r isin. inl isin;
      restored = inv.journal.restored;
      one_point = inv.journal.one_point;
      awaits = λ slot present. refl;
      fences = λ slot operation h. fence_stays m w slot (ps.tablet slot).table (ps.tablet slot).done operation (λ r isin. inl isin) h;
      pendings = λ operation slot l e. pending_stays m w operation slot l (record { snapshot = λ id slot l r e at. e; restoration = λ id slot l r e at. e }) e;
      given = λ operation slot l e. pending_drawn m changes operation slot l ops e;
      unmoved = λ operation slot l r e v is. pending_unmoved m changes operation slot l r ops e v is;
    }

pub edit_schedule_keeps : (ps : Parts) (activity : List Interval) (changes : List Made) (n interval retention : ℕ) (schedule : Id) (slots : List ℕ) → Later (0 ∷ slots) ps n → same_slots slots [] ≡ true → Inv ps activity changes
    → KeepsAll (Change (EditSchedule schedule interval retention) slots) n ps activity changes (edit_schedule schedule interval retention ps.master)
unfolding edit_schedule
edit_schedule_keeps ps activity changes n interval retention schedule (slot ∷ slots) later plan inv = absurd (true≢false (sym plan))
edit_schedule_keeps ps activity changes n interval retention schedule [] later plan inv =
    let m = ps.master in
    let act = Change (EditSchedule schedule interval retention) [] in
    let before : m.clock < n = later 0 refl in
    by_judgement act n ps activity changes (judge_edit_schedule schedule interval retention m) _
    (λ why. refused_keeps act why n ps activity changes later inv refl)
    (λ s found.
    let w = with_edit s.id interval retention n m in
    alone_keeps act (accepts (EditsSchedule s.id interval retention) [] []) n ps activity activity changes changes (recorded m w) refl refl refl refl refl
    (records_keep ps activity changes w (edited_onto ps activity changes n interval retention s.id before inv) inv))
