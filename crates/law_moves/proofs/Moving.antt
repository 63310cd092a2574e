-- The moves of a restoration before its switch and after it.
use Rattle.std.proofs.Common.{ℕ, ◌≡◌, ◌≤◌, ◌<◌, List, [], ◌∷◌, map, Option, Some, None, true, false, cond, ◌&&◌, ◌||◌, ◌⊎◌, inl, inr, refl, sym, ap, subst, ◌∙◌, arith, not, le_trans, le_refl, le_of_lt}
use Rattle.std.specs.List.{list_any}
use Rattle.std.specs.Option.{option_map, option_or}
use Rattle.std.proofs.lemmas.Bool.{true≢false}
use Rattle.model.specs.Cluster.{Id, same, In, Interval, Body, RestoreFrom, Hide, Release, BodyKind, RestoreFromKind, HideKind, ReleaseKind, is_done, kind_of, Listed, RestorationRecord, RestorationState, Restoring, Releasing, Restored, CloneRecord, is_restored, point_of, Master, Parts}
use Rattle.model.specs.Journal.{Change}
use Rattle.model.specs.Schedules.{floor, least_low}
use Rattle.model.specs.Stands.{awaited_of, is_restore}
use Rattle.model.specs.Operations.{restoration_of, clone_with, time_of_user}
use Rattle.model.specs.Cleanup.{floor_of}
use Rattle.model.specs.Moves.{released, brought_back}
use Rattle.law_store.proofs.Keys.{either_way}
use Rattle.law_invariants.specs.Operations.{Uses, IsPoint, IsAfterSwitch, RestoringGood, ReleasingGood, RestorationStateGood}
use Rattle.law_invariants.specs.Orders.{restoring_stage, stage_of_restoration, FencePlace, RestoringSlot, ReleasingSlot, RestorationSlot}
use Rattle.law_invariants.specs.Invariant.{Inv}
use Rattle.law_invariants.proofs.Finding.{same_equal, same_self, in_mapped, map_in, both_pass, first_fails, second_fails, filter_in, in_filter}
use Rattle.law_invariants.proofs.Remembering.{floor_rises}
use Rattle.law_invariants.proofs.Recording.{Records, recorded}
use Rattle.law_invariants.proofs.Using.{none_restores, none_clones}
use Rattle.law_moves.proofs.Entering.{entered, entering, enters, Enters, by_record, times_stay, going_floors}
use Rattle.law_invariants.proofs.Slots.{done_is}

-- Marks

-- a restoration has given no command of a later stage
pub not_yet : (ps : Parts) (activity : List Interval) (changes : List Change) (r : RestorationRecord) (slot : ℕ) (kind : BodyKind) → Inv ps activity changes → In r ps.master.restorations → stage_of_restoration r.state < restoring_stage kind
    → is_done (ps.tablet slot).done r.id kind ≡ false
not_yet ps activity changes r slot kind inv there later = either_way (is_done (ps.tablet slot).done r.id kind)
    (λ did. absurd (
    let k = done_is (ps.tablet slot).done r.id kind did in
    let l = ((inv.works slot).orders.marks k.0 k.1.0).by_restoration r there (sym k.1.1.0) in
    let e : restoring_stage k.0.kind ≡ restoring_stage kind = ap restoring_stage k.1.1.1 in omega arith))
    (λ b. b)

-- Bodies

restore_kind : (b : Body) → is_restore b ≡ true → kind_of b ≡ RestoreFromKind
restore_kind (RestoreFrom snapshot to point version) e = refl
restore_kind _ e = absurd (true≢false (sym e))

either_body : (r : RestorationRecord) (point : ℕ) (serving_ : Id) (b : Body) → IsAfterSwitch r.to point serving_ b → (is_restore b ≡ true) ⊎ (kind_of b ≡ HideKind)
either_body r point serving_ (RestoreFrom snapshot to at version) h = inl refl
either_body r point serving_ (Hide ended) h = inr refl
either_body r point serving_ _ h = absurd h

any_restoring : (ls : List Listed) (tablet : Id) → list_any (λ l. same l.tablet tablet && is_restore l.body) ls ≡ true → (l : Listed) × (In l ls × ((l.tablet ≡ tablet) × (is_restore l.body ≡ true)))
any_restoring [] tablet e = absurd (true≢false (sym e))
any_restoring (l ∷ ls) tablet e = either_way (same l.tablet tablet && is_restore l.body)
    (λ b. let k = both_pass (same l.tablet tablet) (is_restore l.body) b in (l, (inl refl, (same_equal l.tablet tablet k.0, k.1))))
    (λ b. let k : list_any (λ l. same l.tablet tablet && is_restore l.body) ls ≡ true = sym (ap (λ c. c || list_any (λ l. same l.tablet tablet && is_restore l.body) ls) b) ∙ e in
    let r = any_restoring ls tablet k in (r.0, (inr r.1.0, r.1.1)))

pub point_moves : (m : Master) (w : Records) (changes : List Change) (r : RestorationRecord) (state : RestorationState) (listed : List Listed) (point : ℕ) → w.snapshots ≡ m.snapshots → w.scheduled ≡ m.scheduled → IsPoint m changes r point
    → IsPoint (recorded m w) changes (entered r state listed) point
point_moves m w changes r state listed point snapshots scheduled h = record {
  later = h.later;
  fixed = h.fixed;
  snapshots = λ q isin is. h.snapshots q (subst (In q) snapshots isin) is;
  complete = λ s isin is. h.complete s (subst (In s) scheduled isin) is;
}

-- All took back their rows or are hidden: those that took them back are released

released_is : (point : ℕ) (ls : List Listed) (l : Listed) → In l (released point (brought_back ls)) → (k : Listed) × ((In k ls × (is_restore k.body ≡ true)) × ((k.tablet ≡ l.tablet) × ((k.slot ≡ l.slot) × ((l.body ≡ Release point) × (l.acked ≡ false)))))
released_is point ls l isin = in_mapped {A = Listed} {B = Listed} (λ k. record { tablet = k.tablet; slot = k.slot; body = Release point; acked = false })
    (λ l. (k : Listed) × ((In k ls × (is_restore k.body ≡ true)) × ((k.tablet ≡ l.tablet) × ((k.slot ≡ l.slot) × ((l.body ≡ Release point) × (l.acked ≡ false)))))) (brought_back ls)
    (λ k there. let f = filter_in ls (λ l. is_restore l.body) k there in (k, ((f.0, f.1), (refl, (refl, (refl, refl)))))) l isin

released_has : (point : ℕ) (ls : List Listed) (k : Listed) → In k ls → is_restore k.body ≡ true → In (record { tablet = k.tablet; slot = k.slot; body = Release point; acked = false }) (released point (brought_back ls))
released_has point ls k isin is = map_in {A = Listed} {B = Listed} (λ k. record { tablet = k.tablet; slot = k.slot; body = Release point; acked = false }) (brought_back ls) k
    (in_filter ls (λ l. is_restore l.body) k isin is)

pub releases : (ps : Parts) (activity : List Interval) (changes : List Change) (n : ℕ) (r : RestorationRecord) (point : ℕ) (serving_ : Id) → ps.master.clock < n → In r ps.master.restorations → r.state ≡ Restoring point serving_
    → ((l : Listed) → In l r.listed → l.acked ≡ true) → Inv ps activity changes → Enters ps changes n r (Releasing point serving_) (released point (brought_back r.listed))
releases ps activity changes n r point serving_ before there is acked inv =
    let m = ps.master in
    let new = released point (brought_back r.listed) in
    let state = Releasing point serving_ in
    let w = enters r state new n m in
    let h = inv.operations.restorations r there in
    let unfinished : is_restored r.state ≡ false = ap is_restored is in
    let g : RestoringGood m changes r point serving_ = subst (λ st. RestorationStateGood st m changes r) is h.in_state in
    let slots : (slot : ℕ) (l : Listed) → In l r.listed → l.slot ≡ slot → RestoringSlot changes r point l (ps.tablet slot) = λ slot. subst (λ st. RestorationSlot st m changes r slot (ps.tablet slot)) is ((inv.works slot).obeyed.restorations r there) in
    let unreleased : (slot : ℕ) → is_done (ps.tablet slot).done r.id ReleaseKind ≡ false = λ slot. not_yet ps activity changes r slot ReleaseKind inv there (let e : stage_of_restoration r.state ≡ 2 = ap stage_of_restoration is in omega arith) in
    record {
      there = there;
      unfinished = unfinished;
      acked = acked;
      clock = le_of_lt before;
      floors = λ ns. going_floors m n r state new ns (le_of_lt before) inv.operations.apart.restoration_ids there unfinished refl;
      moving = λ e. let q = e in grind arith;
      switched = λ e. (refl, sym (ap point_of is));
      one_point = λ q at isin e at_q at_r. inv.journal.one_point q r at isin there e at_q (ap point_of is ∙ at_r);
      stage = (let e : stage_of_restoration r.state ≡ 2 = ap stage_of_restoration is in omega arith);
      point = λ at e. inl (ap point_of is ∙ e);
      undone = λ at e. inv.journal.undone r at there (ap point_of is ∙ e);
      unawaited = λ tablet done. refl;
      settled = λ slot present. ap (λ st. awaited_of st r (ps.tablet slot).tablet (ps.tablet slot).done) is
          ∙ either_way (list_any (λ l. same l.tablet (ps.tablet slot).tablet && is_restore l.body) r.listed)
          (λ b.
          let l = any_restoring r.listed (ps.tablet slot).tablet b in
          let k = h.known unfinished l.0 l.1.0 in
          let at : l.0.slot ≡ slot = sym k.slot_is ∙ (inv.slots slot).home present k.interval k.kept (k.tablet_is ∙ l.1.1.0) in
          let did : is_done (ps.tablet slot).done r.id RestoreFromKind ≡ true = ap (is_done (ps.tablet slot).done r.id) (sym (restore_kind l.0.body l.1.1.1)) ∙ (slots slot l.0 l.1.0 at).acked (acked l.0 l.1.0) in
          ap (λ c. cond c (Some point) None) (second_fails (list_any (λ l. same l.tablet (ps.tablet slot).tablet && is_restore l.body) r.listed) (not (is_done (ps.tablet slot).done r.id RestoreFromKind)) (ap not did)))
          (λ b. ap (λ c. cond c (Some point) None) (first_fails (list_any (λ l. same l.tablet (ps.tablet slot).tablet && is_restore l.body) r.listed) (not (is_done (ps.tablet slot).done r.id RestoreFromKind)) b));
      known = λ l isin. (let k = released_is point r.listed l isin in let q = h.known unfinished k.0 k.1.0.0 in record { interval = q.interval; kept = q.kept; tablet_is = q.tablet_is ∙ k.1.1.0; slot_is = q.slot_is ∙ k.1.1.1.0 });
      listed_of = λ l i isin active e. (let k = released_is point r.listed l isin in inv.master.listed_of r k.0 there k.1.0.0 i active (e ∙ sym k.1.1.0));
      state_good = record {
        is_point = point_moves m w changes r state new point refl refl g.is_point;
        begun = le_trans g.begun (le_of_lt before);
        switched = g.switched;
        bodies = λ l isin. (released_is point r.listed l isin).1.1.1.1.0;
        active = λ l isin. (let k = released_is point r.listed l isin in let b = g.back k.0 k.1.0.0 k.1.0.1 in
            record { interval = b.now; kept = b.kept_now; tablet_is = b.tablet_now ∙ k.1.1.0; slot_is = b.slot_now ∙ k.1.1.1.0; opened = b.opened; from_is = b.from_is });
        opens = λ i opened. (let c = g.opens i (record { kept = opened.kept; opened = opened.opened; owned = opened.owned }) in let l = c.is_listed in
            record {
              line = record { tablet = l.line.tablet; slot = l.line.slot; body = Release point; acked = false };
              listed = released_has point r.listed l.line l.listed c.restores;
              tablet_is = l.tablet_is;
              slot_is = l.slot_is;
            });
      };
      slots = λ slot l isin at. (
          let k = released_is point r.listed l isin in
          let q = slots slot k.0 k.1.0.0 (k.1.1.1.0 ∙ at) in
          let did : is_done (ps.tablet slot).done r.id RestoreFromKind ≡ true = ap (is_done (ps.tablet slot).done r.id) (sym (restore_kind k.0.body k.1.0.1)) ∙ q.acked (acked k.0 k.1.0.0) in
          let serves = (q.restored k.1.0.1 did).serves in
          record {
            acked = λ e. absurd (true≢false (sym e ∙ k.1.1.1.1.1));
            serves = serves;
            released = λ e. absurd (true≢false (sym e ∙ unreleased slot));
            fenced = λ e. q.fenced serves;
          });
      place = λ slot p. (
          let q : FencePlace (Restoring point serving_) r m slot (ps.tablet slot).done = subst (λ st. FencePlace st r m slot (ps.tablet slot).done) is p in
          let l = q.0 in
          elim (either_body r point serving_ l.body (g.bodies l q.1.0)) [
            | inl restores ↦ (record { tablet = l.tablet; slot = l.slot; body = Release point; acked = false }, (released_has point r.listed l q.1.0 restores, (q.1.1.0, unreleased slot)))
            | inr hides ↦ elim q.1.1.1 [
              | inl restores ↦ (record { tablet = l.tablet; slot = l.slot; body = Release point; acked = false }, (released_has point r.listed l q.1.0 restores, (q.1.1.0, unreleased slot)))
              | inr not_ ↦ absurd (true≢false (sym (ap (is_done (ps.tablet slot).done r.id) (sym hides) ∙ (slots slot l q.1.0 q.1.1.0).acked (acked l q.1.0)) ∙ not_))
            ]
          ]);
    }

-- All are released: the restoration is finished

floor_free : (s : Option ℕ) (to : Option ℕ) (n : ℕ) → floor s to n ≤ floor s None n
floor_free None to n = le_refl n
floor_free (Some s) None n = le_refl _
floor_free (Some s) (Some to) n = omega arith

restored_floors : (ps : Parts) (activity : List Interval) (changes : List Change) (n : ℕ) (r : RestorationRecord) (point : ℕ) (serving_ ns : Id) → ps.master.clock < n → In r ps.master.restorations → is_restored r.state ≡ false → Inv ps activity changes
    → floor_of ps.master ns ps.master.clock ≤ floor_of (recorded ps.master (enters r (Restored point serving_) [] n ps.master)) ns n
restored_floors ps activity changes n r point serving_ ns before there unfinished inv =
    let m = ps.master in
    let state = Restored point serving_ in
    let f = entering r state [] in
    let w = enters r state [] n m in
    let a = inv.operations.apart in
    let up : floor_of m ns m.clock ≤ floor (least_low m.schedules ns n) (time_of_user m ns) n =
    floor_rises m (record m { clock = n }) ns (record { clock = le_of_lt before; schedules = refl; restorations = refl; clones = refl }) in
    either_way (same r.namespace ns)
    (λ b.
    let is : r.namespace ≡ ns = same_equal r.namespace ns b in
    let none : restoration_of (map f m.restorations) ns ≡ None = none_restores (map f m.restorations) ns
    (in_mapped {A = RestorationRecord} {B = RestorationRecord} f (λ q. is_restored q.state ≡ false → q.namespace ≡ ns → ⊥) m.restorations
    (λ x isin. by_record (λ x y. is_restored y.state ≡ false → x.namespace ≡ ns → ⊥) m r state [] x a.restoration_ids there isin
    (λ open_ e. true≢false open_)
    (λ other open_ e.
    let one : x ≡ r = a.one_restoration x r isin there open_ unfinished (e ∙ sym is) in
    true≢false (sym (ap (λ k. same k.id r.id) one ∙ same_self r.id) ∙ other)))) in
    let no_clone : clone_with m.clones ns ≡ None = none_clones m.clones ns (λ c isin open_ uses. a.one_operation r c there isin unfinished open_ (subst (Uses c) (sym is) uses)) in
    let time : time_of_user (recorded m w) ns ≡ None = ap (λ q. option_or (option_map {T = RestorationRecord} (λ r. r.to) q) (option_map {T = CloneRecord} (λ c. c.to) (clone_with m.clones ns))) none
    ∙ ap (λ q. option_or None (option_map {T = CloneRecord} (λ c. c.to) q)) no_clone in
    subst (λ y. floor_of m ns m.clock ≤ y) (sym (ap (λ t. floor (least_low m.schedules ns n) t n) time)) (le_trans up (floor_free (least_low m.schedules ns n) (time_of_user m ns) n)))
    (λ b.
    let times : option_map {T = RestorationRecord} (λ r. r.to) (restoration_of (map f m.restorations) ns) ≡ option_map {T = RestorationRecord} (λ r. r.to) (restoration_of m.restorations ns) = times_stay m.restorations f ns
    (λ x isin. (
      refl,
      by_record (λ x y. (same x.namespace ns && not (is_restored y.state)) ≡ (same x.namespace ns && not (is_restored x.state))) m r state [] x a.restoration_ids there isin
          (first_fails (same r.namespace ns) false b ∙ sym (first_fails (same r.namespace ns) (not (is_restored r.state)) b)) (λ c. refl),
    )) in
    let here : floor_of (recorded m w) ns n ≡ floor (least_low m.schedules ns n) (time_of_user m ns) n =
    ap (λ t. floor (least_low m.schedules ns n) (option_or t (option_map {T = CloneRecord} (λ c. c.to) (clone_with m.clones ns))) n) times in
    subst (λ y. floor_of m ns m.clock ≤ y) (sym here) up)

pub finishes : (ps : Parts) (activity : List Interval) (changes : List Change) (n : ℕ) (r : RestorationRecord) (point : ℕ) (serving_ : Id) → ps.master.clock < n → In r ps.master.restorations → r.state ≡ Releasing point serving_
    → ((l : Listed) → In l r.listed → l.acked ≡ true) → Inv ps activity changes → Enters ps changes n r (Restored point serving_) []
finishes ps activity changes n r point serving_ before there is acked inv =
    let m = ps.master in
    let state = Restored point serving_ in
    let h = inv.operations.restorations r there in
    let unfinished : is_restored r.state ≡ false = ap is_restored is in
    let g : ReleasingGood m changes r point serving_ = subst (λ st. RestorationStateGood st m changes r) is h.in_state in
    let slots : (slot : ℕ) (l : Listed) → In l r.listed → l.slot ≡ slot → ReleasingSlot r.id l (ps.tablet slot) = λ slot. subst (λ st. RestorationSlot st m changes r slot (ps.tablet slot)) is ((inv.works slot).obeyed.restorations r there) in
    record {
      there = there;
      unfinished = unfinished;
      acked = acked;
      clock = le_of_lt before;
      floors = λ ns. restored_floors ps activity changes n r point serving_ ns before there unfinished inv;
      moving = λ e. let q = e in grind arith;
      switched = λ e. (refl, sym (ap point_of is));
      one_point = λ q at isin e at_q at_r. inv.journal.one_point q r at isin there e at_q (ap point_of is ∙ at_r);
      stage = (let e : stage_of_restoration r.state ≡ 3 = ap stage_of_restoration is in omega arith);
      point = λ at e. inl (ap point_of is ∙ e);
      undone = λ at e. inv.journal.undone r at there (ap point_of is ∙ e);
      unawaited = λ tablet done. refl;
      settled = λ slot present. ap (λ st. awaited_of st r (ps.tablet slot).tablet (ps.tablet slot).done) is;
      known = λ l isin. absurd isin;
      listed_of = λ l i isin. absurd isin;
      state_good = record { empty = refl; begun = le_trans g.begun (le_of_lt before); later = g.is_point.later; switched = g.switched };
      slots = λ slot. tt;
      place = λ slot p. (
          let q : FencePlace (Releasing point serving_) r m slot (ps.tablet slot).done = subst (λ st. FencePlace st r m slot (ps.tablet slot).done) is p in
          true≢false (sym ((slots slot q.0 q.1.0 q.1.1.0).acked (acked q.0 q.1.0)) ∙ q.1.1.1));
    }
