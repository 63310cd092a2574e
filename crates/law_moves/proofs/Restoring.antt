-- A restoration of a schedule's namespace begins.
use Rattle.std.proofs.Common.{ℕ, ◌≡◌, ◌≤◌, ◌<◌, ◌+◌, List, [], ◌∷◌, ◌++◌, Some, None, true, false, cond, ◌&&◌, ◌⊎◌, inl, inr, refl, sym, ap, subst, ◌∙◌, arith, not, le_trans, le_refl, le_of_lt}
use Rattle.std.specs.Option.{option_or, option_map}
use Rattle.std.proofs.lemmas.Bool.{true≢false, ltb-false, leb-false}
use Rattle.model.specs.Cluster.{Kind, RestorationKind as Restoration, Id, same, In, same_slots, Interval, owner_of, Fence, FenceKind, Mark, Listed, Schedule, RestorationRecord, Fencing, is_restored, point_of, schedule_with, Restore, Change, UnknownSchedule, Master, Parts, Drawn, BeginsRestoration}
use Rattle.model.specs.Journal.{Change as Made}
use Rattle.model.specs.Schedules.{floor, low, least_with, least_low}
use Rattle.model.specs.Stands.{awaited_in, awaited_of}
use Rattle.model.specs.Drawn.{drawn_of}
use Rattle.model.specs.Operations.{time_of_user, restoration_of, clone_with}
use Rattle.model.specs.Cleanup.{floor_of}
use Rattle.model.specs.Lists.{active_tablets, listing}
use Rattle.model.specs.Changes.{accepts, restore_checks, judge_restore, found_schedule, restore}
use Rattle.model.specs.Changed.{next_restoration}
use Rattle.law_store.proofs.Keys.{either_way}
use Rattle.law_invariants.specs.Operations.{IsKnown, IsOpenOf, Uses}
use Rattle.law_invariants.specs.Invariant.{Inv, Later}
use Rattle.law_invariants.proofs.Finding.{same_equal, in_append, in_added, in_first, passes_both}
use Rattle.law_invariants.proofs.Remembering.{has_low, floor_rises}
use Rattle.law_invariants.proofs.Judging.{checked_is, found_is}
use Rattle.law_invariants.proofs.Ticking.{refused_keeps, KeepsAll, by_judgement}
use Rattle.law_invariants.proofs.Recording.{same_on, Records, recorded, RestorationCame, Onto}
use Rattle.law_invariants.proofs.Staying.{schedule_on, scheduled_on}
use Rattle.law_invariants.proofs.Slots.{records_keep, done_mark}
use Rattle.law_invariants.proofs.Advancing.{alone_keeps}
use Rattle.law_invariants.proofs.Listing.{IsLineOf, listing_only, listing_has, active_only, active_has, one_place}
use Rattle.law_invariants.proofs.Pending.{point_complete, pending_drawn, pending_unmoved, pending_stays, fence_stays, restoration_added}
use Rattle.law_invariants.proofs.Using.{alone_added, schedule_with_is, NotUsed, not_used, none_restores, no_time}

-- The restorations with one more

restoration_beside : (rs : List RestorationRecord) (r : RestorationRecord) (ns : Id) → (same r.namespace ns && not (is_restored r.state)) ≡ false → restoration_of (rs ++ r ∷ []) ns ≡ restoration_of rs ns
restoration_beside [] r ns other = ap (λ b. cond b (Some r) None) other
restoration_beside (q ∷ rs) r ns other = ap (cond (same q.namespace ns && not (is_restored q.state)) (Some q)) (restoration_beside rs r ns other)

restoration_last : (rs : List RestorationRecord) (r : RestorationRecord) (ns : Id) → restoration_of rs ns ≡ None → (same r.namespace ns && not (is_restored r.state)) ≡ true → restoration_of (rs ++ r ∷ []) ns ≡ Some r
restoration_last [] r ns none is = ap (λ b. cond b (Some r) None) is
restoration_last (q ∷ rs) r ns none is = either_way (same q.namespace ns && not (is_restored q.state))
    (λ b. absurd (let k : Some q ≡ None = rw b at none in grind arith))
    (λ b. rw b (restoration_last rs r ns (rw b at none) is))

pub awaited_beside : (rs : List RestorationRecord) (r : RestorationRecord) (tablet : Id) (done : List Mark) → awaited_of r.state r tablet done ≡ None → awaited_in (rs ++ r ∷ []) tablet done ≡ awaited_in rs tablet done
awaited_beside [] r tablet done e = ap (λ x. option_or x None) e
awaited_beside (q ∷ rs) r tablet done e = ap (option_or (awaited_of q.state q tablet done)) (awaited_beside rs r tablet done e)

abbrev new_restoration : Schedule → ℕ → Master → RestorationRecord
new_restoration s to m = record {
  id = next_restoration m;
  schedule = s.id;
  namespace = s.namespace;
  to = to;
  listed = listing Fence (active_tablets m.catalog.owners m.activity s.namespace);
  state = Fencing;
}

abbrev begun : Schedule → ℕ → ℕ → Master → Records
begun s to n m = record {
  clock = n;
  schedules = m.schedules;
  scheduled = m.scheduled;
  snapshots = m.snapshots;
  restorations = m.restorations ++ new_restoration s to m ∷ [];
  sent = m.sent;
  drawn = record m.drawn { restorations = m.drawn.restorations + 1 };
}

drawn_more : (d : Drawn) (kind : Kind) → drawn_of kind d ≤ drawn_of kind (record d { restorations = d.restorations + 1 })
drawn_more d Restoration = omega arith
drawn_more d _ = le_refl _

-- what may be restored: the namespace of a schedule that no operation uses, to a time in the window
record MayRestore (m : Master) (s : Schedule) (to n : ℕ) : Type 0 where
  there : In s m.schedules
  free : NotUsed m s.namespace
  from : low s n ≤ to
  before : to < n

begun_floors : (m : Master) (n to : ℕ) (s : Schedule) (ns : Id) → m.clock ≤ n → MayRestore m s to n → floor_of m ns m.clock ≤ floor_of (recorded m (begun s to n m)) ns n
begun_floors m n to s ns le may =
    let r = new_restoration s to m in
    let w = begun s to n m in
    let up : floor_of m ns m.clock ≤ floor (least_low m.schedules ns n) (time_of_user m ns) n =
    floor_rises m (record m { clock = n }) ns (record { clock = le; schedules = refl; restorations = refl; clones = refl }) in
    either_way (same s.namespace ns)
    (λ b.
    let is : s.namespace ≡ ns = same_equal s.namespace ns b in
    let least = has_low m.schedules ns n s may.there is in
    let none : time_of_user m ns ≡ None = ap (time_of_user m) (sym is) ∙ no_time m s.namespace may.free in
    let first : restoration_of m.restorations ns ≡ None = none_restores m.restorations ns (λ q isin unfinished e. may.free.restoration q isin unfinished (e ∙ sym is)) in
    let now : time_of_user (recorded m w) ns ≡ Some to = ap (λ q. option_or (option_map (λ q. q.to) q) (option_map (λ q. q.to) (clone_with m.clones ns))) (restoration_last m.restorations r ns first (passes_both (same s.namespace ns) true b refl)) in
    let here : floor_of (recorded m w) ns n ≡ least_with (Some to) least.0 = ap (λ t. floor (least_low m.schedules ns n) t n) now ∙ ap (λ q. floor q (Some to) n) least.1.0 in
    let old : floor_of m ns m.clock ≤ least.0 = subst (λ t. floor_of m ns m.clock ≤ floor (Some least.0) t n) none (subst (λ q. floor_of m ns m.clock ≤ floor q (time_of_user m ns) n) least.1.0 up) in
    let most : least.0 ≤ least_with (Some to) least.0 = (let l = may.from in let k = least.1.1 in omega arith) in
    subst (λ y. floor_of m ns m.clock ≤ y) (sym here) (le_trans old most))
    (λ b.
    let beside : restoration_of w.restorations ns ≡ restoration_of m.restorations ns = restoration_beside m.restorations r ns (ap (λ c. c && true) b) in
    let here : floor_of (recorded m w) ns n ≡ floor (least_low m.schedules ns n) (time_of_user m ns) n =
    ap (λ q. floor (least_low m.schedules ns n) (option_or (option_map (λ q. q.to) q) (option_map (λ q. q.to) (clone_with m.clones ns))) n) beside in
    subst (λ y. floor_of m ns m.clock ≤ y) (sym here) up)

begun_came : (ps : Parts) (activity : List Interval) (changes : List Made) (n to : ℕ) (s : Schedule) → ps.master.clock < n → MayRestore ps.master s to n → Inv ps activity changes
    → RestorationCame ps changes (begun s to n ps.master) (new_restoration s to ps.master)
begun_came ps activity changes n to s before may inv =
    let m = ps.master in
    let w = begun s to n m in
    let r = new_restoration s to m in
    let g = inv.operations.schedules s may.there in
    let line : (l : Listed) → In l r.listed → IsLineOf Fence (active_tablets m.catalog.owners m.activity s.namespace) l = λ l isin. listing_only Fence (active_tablets m.catalog.owners m.activity s.namespace) l isin in
    let was : (l : Listed) (isin : In l r.listed) → IsOpenOf m s.namespace (line l isin).interval = λ l isin. active_only m s.namespace _ (line l isin).listed in
    let known_ : (l : Listed) → In l r.listed → IsKnown m l = λ l isin. record { interval = (line l isin).interval; kept = (was l isin).kept; tablet_is = sym (line l isin).tablet_is; slot_is = sym (line l isin).slot_is } in
    record {
      how = inl (record { kind_is = refl; drawn = omega arith; fencing = refl; unacked = λ l isin. (line l isin).unacked });
      known = known_;
      listed_of = λ l i isin there is. (let k = one_place ps activity changes i (line l isin).interval inv there (was l isin).kept (is ∙ (line l isin).tablet_is) in ap (owner_of m.catalog.owners) k.table_is ∙ (was l isin).owned);
      unawaited = λ tablet done. refl;
      good = record {
        kind_is = refl;
        drawn = le_refl _;
        drawn_namespace = g.drawn_namespace;
        past = may.before;
        scheduled = λ unfinished. (s, (may.there, (refl, refl)));
        known = λ unfinished l isin. (let k = known_ l isin in record { interval = k.interval; kept = k.kept; tablet_is = k.tablet_is; slot_is = k.slot_is });
        in_state = record {
          bodies = λ l isin. (line l isin).body_is;
          lists = λ i opened. listing_has Fence (active_tablets m.catalog.owners m.activity s.namespace) i (active_has m s.namespace i (record { kept = opened.kept; opened = opened.opened; owned = opened.owned }));
          opens = λ l isin. ((line l isin).interval, (record { kept = (was l isin).kept; opened = (was l isin).opened; owned = (was l isin).owned }, (sym (line l isin).tablet_is, sym (line l isin).slot_is)));
        };
      };
      slots = λ slot. record {
        acked = λ l isin at acked. absurd (true≢false (sym acked ∙ (line l isin).unacked));
        fenced = λ did. absurd (
            let k = done_mark (ps.tablet slot).done r.id FenceKind did in
            let d = ((inv.works slot).orders.marks k.0 k.1.0).drawn in
            let q : r.id.number ≤ drawn_of r.id.kind m.drawn = subst (λ i. i.number ≤ drawn_of i.kind m.drawn) k.1.1 d in
            omega arith);
      };
    }

begun_onto : (ps : Parts) (activity : List Interval) (changes : List Made) (n to : ℕ) (s : Schedule) → ps.master.clock < n → MayRestore ps.master s to n → Inv ps activity changes → Onto ps changes (begun s to n ps.master)
begun_onto ps activity changes n to s before may inv =
    let m = ps.master in
    let w = begun s to n m in
    let r0 = new_restoration s to m in
    let ops = inv.operations in
    let a = ops.apart in
    let floors : (id : Id) → floor_of m id m.clock ≤ floor_of (recorded m w) id n = λ id. begun_floors m n to s id (le_of_lt before) may in
    record {
      clock = le_of_lt before;
      drawn = drawn_more m.drawn;
      floors = floors;
      apart = record {
        schedule_ids = a.schedule_ids;
        one_scheduled = a.one_scheduled;
        snapshots_rise = a.snapshots_rise;
        one_snapshot = a.one_snapshot;
        restoration_ids = alone_added {A = RestorationRecord} (λ r. r.id) m.restorations r0 a.restoration_ids
            (λ r isin is. let l = (ops.restorations r isin).drawn in let e : r.id.number ≡ m.drawn.restorations + 1 = ap (λ i. i.number) is in omega arith);
        one_restoration = λ q r in_q in_r open_q open_r e. elim (in_append m.restorations (r0 ∷ []) q in_q) [
          | inl old_q ↦ elim (in_append m.restorations (r0 ∷ []) r in_r) [
            | inl old_r ↦ a.one_restoration q r old_q old_r open_q open_r e
            | inr new_r ↦ elim new_r [ inl is ↦ absurd (may.free.restoration q old_q open_q (e ∙ sym (ap (λ k. k.namespace) is))) | inr none ↦ absurd none ]
          ]
          | inr new_q ↦ elim new_q [
            | inl is ↦ elim (in_append m.restorations (r0 ∷ []) r in_r) [
              | inl old_r ↦ absurd (may.free.restoration r old_r open_r (sym e ∙ sym (ap (λ k. k.namespace) is)))
              | inr new_r ↦ elim new_r [ inl is_r ↦ sym is ∙ is_r | inr none ↦ absurd none ]
            ]
            | inr none ↦ absurd none
          ]
        ];
        clone_ids = a.clone_ids;
        one_clone = a.one_clone;
        one_operation = λ r c in_r in_c open_r open_c uses. elim (in_append m.restorations (r0 ∷ []) r in_r) [
          | inl old ↦ a.one_operation r c old in_c open_r open_c uses
          | inr new ↦ elim new [ inl is ↦ may.free.clone c in_c open_c (subst (Uses c) (sym (ap (λ k. k.namespace) is)) uses) | inr none ↦ none ]
        ];
        one_target = a.one_target;
        one_made = a.one_made;
        one_name = a.one_name;
      };
      complete = λ t isin. le_trans (inv.master.complete t isin) (le_of_lt before);
      schedule = λ t isin. schedule_on m w t (le_of_lt before) (drawn_more m.drawn) (λ k there is. (k, (there, (refl, refl)))) (ops.schedules t isin);
      scheduled = λ k isin. (let g = ops.scheduled k isin in scheduled_on m w k (le_of_lt before) (drawn_more m.drawn) (floors k.namespace) (λ q q_in. (q, (q_in, same_on q))) g.has g);
      schedule_came = λ t isin. inl (record { was = t; kept = isin; namespace_is = refl });
      schedule_kept = λ t isin. inl (t, (isin, (refl, refl)));
      points = λ r point t there unfinished at isin is. point_complete m changes r point t ops there unfinished at isin is;
      last = λ q there now unfinished t isin is lasts. (t, (isin, (is, lasts)));
      sent = λ mark isin. elim (ops.sent mark isin) [
        | inl q ↦ inl q
        | inr more ↦ elim more [ inl r ↦ inr (inl (r.0, (in_first m.restorations (r0 ∷ []) r.0 r.1.0, r.1.1))) | inr c ↦ inr (inr c) ]
      ];
      snapshot_came = λ q isin. inl isin;
      snapshot_kept = λ q isin. (q, (isin, same_on q));
      restoration_came = in_added (λ r. In r m.restorations ⊎ RestorationCame ps changes w r) m.restorations r0 (λ r isin. inl isin) (inr (begun_came ps activity changes n to s before may inv));
      restored = λ ns point is. (let k = inv.journal.restored ns point is in
          record { restoration = k.restoration; kept = in_first m.restorations (r0 ∷ []) k.restoration k.kept; namespace_is = k.namespace_is; point_is = k.point_is; switched = k.switched });
      one_point = λ q r point in_q in_r is at_q at_r. elim (in_append m.restorations (r0 ∷ []) q in_q) [
        | inl old_q ↦ elim (in_append m.restorations (r0 ∷ []) r in_r) [
          | inl old_r ↦ inv.journal.one_point q r point old_q old_r is at_q at_r
          | inr new_r ↦ elim new_r [ inl e ↦ absurd (let k : None ≡ Some point = ap (λ x. point_of x.state) e ∙ at_r in grind arith) | inr none ↦ absurd none ]
        ]
        | inr new_q ↦ elim new_q [ inl e ↦ absurd (let k : None ≡ Some point = ap (λ x. point_of x.state) e ∙ at_q in grind arith) | inr none ↦ absurd none ]
      ];
      awaits = λ slot present. awaited_beside m.restorations r0 (ps.tablet slot).tablet (ps.tablet slot).done refl;
      fences = λ slot operation h. fence_stays m w slot (ps.tablet slot).table (ps.tablet slot).done operation (λ r isin. inl (in_first m.restorations (r0 ∷ []) r isin)) h;
      pendings = λ operation slot l e. pending_stays m w operation slot l
          (record { snapshot = λ id slot l r e at. e; restoration = λ id slot l r e at. restoration_added m.restorations r0 id r e }) e;
      given = λ operation slot l e. pending_drawn m changes operation slot l ops e;
      unmoved = λ operation slot l r e v is. pending_unmoved m changes operation slot l r ops e v is;
    }

pub restore_keeps : (ps : Parts) (activity : List Interval) (changes : List Made) (n : ℕ) (schedule : Id) (to : ℕ) (slots : List ℕ) → Later (0 ∷ slots) ps n → same_slots slots [] ≡ true → Inv ps activity changes
    → KeepsAll (Change (Restore schedule to) slots) n ps activity changes (restore schedule to n ps.master)
unfolding restore
restore_keeps ps activity changes n schedule to (slot ∷ slots) later plan inv = absurd (true≢false (sym plan))
restore_keeps ps activity changes n schedule to [] later plan inv =
    let m = ps.master in
    let act = Change (Restore schedule to) [] in
    by_judgement act n ps activity changes (judge_restore schedule to n m) _
    (λ why. refused_keeps act why n ps activity changes later inv refl)
    (λ s found.
    let judged = checked_is (found_schedule m schedule) (λ s. restore_checks s to n m) s found in
    let is = schedule_with_is m.schedules schedule s (found_is (schedule_with m.schedules schedule) UnknownSchedule s judged.0) in
    let may : MayRestore m s to n = record { there = is.0; free = not_used m s.namespace judged.1.0; from = ltb-false to (low s n) judged.1.1.0; before = leb-false n to judged.1.1.1.0 } in
    alone_keeps act (accepts (BeginsRestoration s to) [] (next_restoration m ∷ [])) n ps activity activity changes changes (recorded m (begun s to n m)) refl refl refl refl refl
    (records_keep ps activity changes (begun s to n m) (begun_onto ps activity changes n to s (later 0 refl) may inv) inv))
