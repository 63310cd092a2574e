-- The facts hold on where snapshots and scheduled namespaces were there or are new, intervals go on or begin, and each tablet that is
-- present goes back as far as before, or to where a cutoff may go.
use Rattle.std.proofs.Common.{◌≤◌, ◌≡◌, ◌∙◌, ◌+◌, ◌<◌, ◌⊎◌, ℕ, true, false, List, Some, None, max, refl, sym, ap, subst, inl, inr, arith, le_trans, le_refl, eqb}
use Rattle.std.proofs.lemmas.Bool.{cond_both}
use Rattle.row_values.specs.Ids.{Id}
use Rattle.row_values.specs.Elements.{In}
use Rattle.row_values.specs.Slots.{has}
use Rattle.model.specs.Activity.{Interval, last_of}
use Rattle.model.specs.Acts.{Act, Reply}
use Rattle.model.specs.Catalog.{Catalog, owner_of, owns}
use Rattle.model.specs.Entries.{slots_of}
use Rattle.model.specs.History.{master_effect, told}
use Rattle.model.specs.Journal.{Change}
use Rattle.model.specs.Parts.{Master, Outcome, Parts, answered}
use Rattle.model.specs.Records.{RestorationRecord, RestorationState, Fencing, Snapshotting, Switching, Restoring, Releasing, Restored, ScheduledNamespace, SnapshotRecord, Sent}
use Rattle.model.specs.Retained.{IsTabletOf}
use Rattle.model.specs.Schedules.{complete_to}
use Rattle.model.specs.Tablets.{Clock, FrozenSet, Tablet, TabletAct, act_for, effect, is_empty}
use Rattle.law_invariants.specs.Invariant.{Inv, Later}
use Rattle.law_invariants.specs.Operations.{RestorationStateGood}
use Rattle.law_invariants.proofs.Finding.{none_or_some, same_equal}
use Rattle.law_invariants.proofs.Frame.{tells, touched}
use Rattle.law_invariants.proofs.Lasting.{last_in}
use Rattle.law_invariants.proofs.Ticking.{master_before}
use Rattle.law_retention.specs.Facts.{Facts, GoesBack, LastSince, OwnComplete, TimesFollow, own_point}
use Rattle.law_retention.proofs.Growing.{ActivityOn, GoOn, activity_goes_on, begun_from, no_last, they_go_on}
use Rattle.law_invariants.proofs.Bodies.{snapshot_alone}

-- a snapshot's record is there, but for which tablets are acked
pub record HasLike (rs : List SnapshotRecord) (r : SnapshotRecord) : Type 0 where
  pub snapshot : SnapshotRecord
  pub kept : In snapshot rs
  pub id_is : snapshot.id ≡ r.id
  pub namespace_is : snapshot.namespace ≡ r.namespace
  pub complete_is : snapshot.complete ≡ r.complete
  pub after_is : snapshot.after ≡ r.after
  pub at_is : snapshot.at ≡ r.at

pub like_itself : (rs : List SnapshotRecord) (r : SnapshotRecord) → In r rs → HasLike rs r
like_itself rs r inside = record { snapshot = r; kept = inside; id_is = refl; namespace_is = refl; complete_is = refl; after_is = refl; at_is = refl }

-- a scheduled namespace was one, and its last complete snapshot was no later
pub record WasScheduled (m : Master) (s : ScheduledNamespace) : Type 0 where
  pub was : ScheduledNamespace
  pub listed : In was m.scheduled
  pub namespace_is : was.namespace ≡ s.namespace
  pub later : complete_to was ≤ complete_to s

-- a snapshot was there
pub record WasTaken (m : Master) (r : SnapshotRecord) : Type 0 where
  pub was : SnapshotRecord
  pub kept : In was m.snapshots
  pub id_is : was.id ≡ r.id
  pub after_is : was.after ≡ r.after
  pub at_is : was.at ≡ r.at

-- what how far back a tablet goes rests on: snapshots and scheduled namespaces were there or are new, and intervals go on or begin
pub record MasterOn (m k : Master) : Type 0 where
  pub later : m.clock ≤ k.clock
  pub scheduled : (s : ScheduledNamespace) → In s k.scheduled → WasScheduled m s ⊎ (m.clock ≤ complete_to s)
  pub owned : (ns : Id) (i : Interval) → In i m.activity → IsTabletOf k ns i → IsTabletOf m ns i
  pub activity : ActivityOn m k
  pub taken : (r : SnapshotRecord) → In r k.snapshots → WasTaken m r ⊎ (m.drawn.snapshots < r.id.number)

-- all facts of the master
pub record MasterHolds (m k : Master) : Type 0 where
  pub on : MasterOn m k
  pub times : (s : ScheduledNamespace) → In s k.scheduled → TimesFollow k s
  pub own : OwnComplete k

-- a tablet that is present was so, and it goes back as far, or to the next time after a last complete snapshot
pub record TabletOn (k : Master) (t u : Tablet) : Type 0 where
  pub there : is_empty t.presence ≡ false
  pub tablet_is : u.tablet ≡ t.tablet
  pub live : (s : ScheduledNamespace) (i : Interval) → In s k.scheduled → last_of k.activity u.tablet ≡ Some i → IsTabletOf k s.namespace i → u.cutoff ≤ max t.cutoff (complete_to s + 1)
  pub now : t.cutoff ≤ k.clock → u.cutoff ≤ k.clock
  pub sets : (f : FrozenSet) → In f u.frozen → In f t.frozen

owned_was : (m k : Master) (ns : Id) (i w : Interval) → MasterOn m k → In w m.activity → w.table ≡ i.table → IsTabletOf k ns i → IsTabletOf m ns w
owned_was m k ns i w on inside is owned = on.owned ns w inside (subst (λ id. owns k.catalog.owners ns id ≡ true) (sym is) owned)

begun_by : (ps : Parts) (activity : List Interval) (changes : List Change) (i : Interval) → Inv ps activity changes → In i ps.master.activity → i.from ≤ ps.master.clock
begun_by ps activity changes i inv inside = ((inv.slots i.slot).each i inside refl).past.begun

since_on : (ps : Parts) (activity : List Interval) (changes : List Change) (k : Master) → Inv ps activity changes → MasterOn ps.master k → LastSince ps.master → LastSince k
since_on ps activity changes k inv on since s i j x listed inside owned active last late =
    let m = ps.master in
    let begun : i.from ≤ x = begun_from i x active in
    elim (on.activity.last i.tablet j last) [
      | inr begins ↦ begins.since s i x listed inside (sym (same_equal j.tablet i.tablet (last_in k.activity i.tablet j last).1)) owned active late
      | inl w ↦ (
          let there = last_in m.activity i.tablet w.was w.last in
          elim (on.activity.each i inside) [
            | inr begins ↦ (
                let le : w.was.from ≤ i.from = (begins.after w.was there.0 (same_equal w.was.tablet i.tablet there.1)).0 in
                subst (λ f. f ≤ x) w.from_is (le_trans le begun))
            | inl a ↦ elim (on.scheduled s listed) [
              | inr newly ↦ (
                  let from : w.was.from ≤ m.clock = begun_by ps activity changes w.was inv there.0 in
                  subst (λ f. f ≤ x) w.from_is (omega (arith, from, newly, late)))
              | inl q ↦ (
                  let owned_then : IsTabletOf m q.was.namespace a.was = subst (λ ns. IsTabletOf m ns a.was) (sym q.namespace_is) (owned_was m k s.namespace i a.was on a.inside a.table_is owned) in
                  let late_then : complete_to q.was < x = (let le = q.later in omega (arith, le, late)) in
                  subst (λ f. f ≤ x) w.from_is (since q.was a.was w.was x q.listed a.inside owned_then (a.active x active) (ap (last_of m.activity) a.tablet_is ∙ w.last) late_then))
            ]
          ])
    ]

-- the snapshot of a frozen set, by its id
set_snapshot : (ps : Parts) (activity : List Interval) (changes : List Change) (slot : ℕ) (f : FrozenSet) (q : SnapshotRecord) → Inv ps activity changes → In f (ps.tablet slot).frozen
    → In q ps.master.snapshots → q.id ≡ f.snapshot → (j : Interval) → In j ps.master.activity → j.tablet ≡ (ps.tablet slot).tablet → owner_of ps.master.catalog.owners j.table ≡ Some q.namespace
set_snapshot ps activity changes slot f q inv held kept is j inside of =
    let set = (inv.works slot).orders.sets f held in
    let one : set.snapshot ≡ q = snapshot_alone ps.master.snapshots set.snapshot q inv.operations.apart.snapshots_rise set.kept kept (set.id_is ∙ sym is) in
    let owner = ((inv.operations.snapshots set.snapshot set.kept).listed_of set.line j set.listed inside (of ∙ sym set.tablet_is)).0 in
    owner ∙ ap (λ r. Some r.namespace) one

pub back_on : (ps : Parts) (activity : List Interval) (changes : List Change) (k : Master) (slot : ℕ) (u : Tablet) → Inv ps activity changes → MasterOn ps.master k → GoesBack ps.master (ps.tablet slot)
    → TabletOn k (ps.tablet slot) u → GoesBack k u
back_on ps activity changes k slot u inv on back tablet =
    let m = ps.master in
    let t = ps.tablet slot in
    record {
      live = λ s i listed last owned.
          let is = tablet.live s i listed last owned in
          let now = back.now in
          elim (on.scheduled s listed) [
            | inr newly ↦ (let c : t.cutoff ≤ complete_to s = le_trans now newly in past u.cutoff t.cutoff (complete_to s + 1) i.from is (omega (arith, c)))
            | inl q ↦ (
                let of_was : (w : Interval) → last_of m.activity t.tablet ≡ Some w → w.table ≡ i.table → w.from ≤ i.from → u.cutoff ≤ max (complete_to s + 1) i.from = λ w was table le.
                let owned_then : IsTabletOf m q.was.namespace w = subst (λ ns. IsTabletOf m ns w) (sym q.namespace_is) (owned_was m k s.namespace i w on (last_in m.activity t.tablet w was).0 table owned) in
                let then_ = back.live q.was w q.listed was owned_then in
                let later = q.later in
                both_most u.cutoff t.cutoff (complete_to s) i.from (complete_to q.was) w.from is then_ later le in
                elim (on.activity.last t.tablet i (subst (λ id. last_of k.activity id ≡ Some i) tablet.tablet_is last)) [
                  | inl w ↦ of_was w.was w.last w.table_is (subst (λ f. w.was.from ≤ f) w.from_is (le_refl w.was.from))
                  | inr b ↦ none_or_some (last_of m.activity t.tablet)
                      (λ none.
                      let mine : i.tablet ≡ t.tablet = same_equal i.tablet u.tablet (last_in k.activity u.tablet i last).1 ∙ tablet.tablet_is in
                      let from = b.first (λ j inside of. no_last m.activity t.tablet j None inside (of ∙ mine) none) in
                      past_start u.cutoff t.cutoff m.clock (complete_to s + 1) i.from is now from)
                      (λ w some.
                      let mine : i.tablet ≡ t.tablet = same_equal i.tablet u.tablet (last_in k.activity u.tablet i last).1 ∙ tablet.tablet_is in
                      let there = last_in m.activity t.tablet w some in
                      let h = b.after w there.0 (same_equal w.tablet t.tablet there.1 ∙ sym mine) in
                      of_was w some h.1 h.0)
                ])
          ];
      now = tablet.now (le_trans back.now on.later);
      sets = λ f r i x held inside id_is listed of active after late.
          let was = tablet.sets f held in
          elim (on.taken r inside) [
            | inr drawn ↦ (
                let set = (inv.works slot).orders.sets f was in
                let by = (inv.operations.snapshots set.snapshot set.kept).drawn in
                let number : set.snapshot.id.number ≡ r.id.number = ap (λ id. id.number) (set.id_is ∙ sym id_is) in
                absurd (omega (arith, by, number, drawn)))
            | inl q ↦ elim (on.activity.each i listed) [
              | inl a ↦ back.sets f q.was a.was x was q.kept (q.id_is ∙ id_is) a.inside (a.tablet_is ∙ of ∙ tablet.tablet_is) (a.active x active)
                  (subst (λ y. y < x) (sym q.after_is) after) (subst (λ y. x ≤ y) (sym q.at_is) late)
              | inr b ↦ (
                  let past_it : q.was.at < i.from = b.sets q.was q.kept (λ j there mine. set_snapshot ps activity changes slot f q.was inv was q.kept (q.id_is ∙ id_is) j there (mine ∙ of ∙ tablet.tablet_is)) in
                  let from : i.from ≤ x = begun_from i x active in
                  let at : q.was.at ≡ r.at = q.at_is in
                  absurd (omega (arith, past_it, from, at, late)))
            ]
          ];
    }
  where
    past : (u t a b : ℕ) → u ≤ max t a → t ≤ a → u ≤ max a b
    past u t a b h g = omega arith

    past_start : (u t c a b : ℕ) → u ≤ max t a → t ≤ c → c ≤ b → u ≤ max a b
    past_start u t c a b h g l = omega arith

    both_most : (u t a b c w : ℕ) → u ≤ max t (a + 1) → t ≤ max (c + 1) w → c ≤ a → w ≤ b → u ≤ max (a + 1) b
    both_most u t a b c w h g l e = omega arith

-- where each tablet that is present goes back far enough
pub facts_by : (ps after : Parts) (activity : List Interval) (changes : List Change) → Inv ps activity changes → Facts ps → MasterHolds ps.master after.master
    → ((slot : ℕ) → is_empty (after.tablet slot).presence ≡ false → GoesBack after.master (after.tablet slot)) → Facts after
facts_by ps after activity changes inv facts holds tablets = record {
  tablets = tablets;
  last_since = since_on ps activity changes after.master inv holds.on facts.last_since;
  latest = holds.on.activity.latest;
  times = holds.times;
  own = holds.own;
}

pub facts_on : (ps after : Parts) (activity : List Interval) (changes : List Change) → Inv ps activity changes → Facts ps → MasterHolds ps.master after.master
    → ((slot : ℕ) → is_empty (after.tablet slot).presence ≡ false → TabletOn after.master (ps.tablet slot) (after.tablet slot)) → Facts after
facts_on ps after activity changes inv facts holds tablets = facts_by ps after activity changes inv facts holds
    (λ slot here. let t = tablets slot here in back_on ps activity changes after.master slot (after.tablet slot) inv holds.on (facts.tablets slot t.there) t)

-- A master that keeps what it has

-- a restoration had this point, with its own snapshot complete
pub record WasIn (m : Master) (r : RestorationRecord) (point : ℕ) : Type 0 where
  pub was : RestorationRecord
  pub kept : In was m.restorations
  pub namespace_is : was.namespace ≡ r.namespace
  pub point_is : own_point was.state ≡ Some point

-- a restoration that has a point so had it so before
abbrev pub StatesGoOn : Master → Master → Type 0
StatesGoOn m k = (r : RestorationRecord) (point : ℕ) → In r k.restorations → own_point r.state ≡ Some point → WasIn m r point

pub record MasterLike (m k : Master) : Type 0 where
  pub later : m.clock ≤ k.clock
  pub scheduled : k.scheduled ≡ m.scheduled
  pub owners : k.catalog.owners ≡ m.catalog.owners
  -- a tablet that the master knows has the intervals that it had
  pub activity : GoOn m k.activity
  pub was : (r : SnapshotRecord) → In r k.snapshots → HasLike m.snapshots r
  pub still : (q : SnapshotRecord) → In q m.snapshots → q.complete ≡ false → HasLike k.snapshots q
  pub states : StatesGoOn m k

times_like : (m k : Master) (s : ScheduledNamespace) → MasterLike m k → TimesFollow m s → TimesFollow k s
times_like m k s like times = record {
  complete = λ r inside of complete. let q = like.was r inside in subst (λ x. x ≤ complete_to s) q.at_is (times.complete q.snapshot q.kept (q.namespace_is ∙ of) (q.complete_is ∙ complete));
  unfinished = λ r inside of open_. let q = like.was r inside in sym q.after_is ∙ times.unfinished q.snapshot q.kept (q.namespace_is ∙ of) (q.complete_is ∙ open_);
  last = λ none. times.last (λ r inside of open_. let q = like.still r inside open_ in none q.snapshot q.kept (q.namespace_is ∙ of) (q.complete_is ∙ open_));
}

-- its point is over
own_begun : (state : RestorationState) (m : Master) (changes : List Change) (r : RestorationRecord) (point : ℕ) → own_point state ≡ Some point → RestorationStateGood state m changes r → point ≤ m.clock
own_begun (Switching at serving) m changes r point is good = let e : at ≡ point = cc in subst (λ p. p ≤ m.clock) e good.begun
own_begun (Restoring at serving) m changes r point is good = let e : at ≡ point = cc in subst (λ p. p ≤ m.clock) e good.begun
own_begun _ m changes r point is good = absurd (let q = is in grind arith)

-- where a restoration's own snapshot is complete, it is so still
pub own_goes_on : (ps : Parts) (activity : List Interval) (changes : List Change) (k : Master) → Inv ps activity changes → OwnComplete ps.master → ((s : ScheduledNamespace) → In s k.scheduled → WasScheduled ps.master s ⊎ (ps.master.clock ≤ complete_to s))
    → StatesGoOn ps.master k → OwnComplete k
own_goes_on ps activity changes k inv own scheduled states r s point inside is listed of =
    let m = ps.master in
    let q = states r point inside is in
    elim (scheduled s listed) [
      | inl h ↦ (
          let then_ : point ≤ complete_to h.was + 1 = own q.was h.was point q.kept q.point_is h.listed (h.namespace_is ∙ of ∙ sym q.namespace_is) in
          let later = h.later in
          omega (arith, then_, later))
      | inr newly ↦ (
          let begun = own_begun q.was.state m changes q.was point q.point_is (inv.operations.restorations q.was q.kept).in_state in
          omega (arith, begun, newly))
    ]

pub they_were : (m k : Master) → k.scheduled ≡ m.scheduled → (s : ScheduledNamespace) → In s k.scheduled → WasScheduled m s ⊎ (m.clock ≤ complete_to s)
they_were m k e s listed = inl (record { was = s; listed = subst (In s) e listed; namespace_is = refl; later = le_refl _ })

pub holds_like : (ps : Parts) (activity : List Interval) (changes : List Change) (k : Master) → Inv ps activity changes → Facts ps → MasterLike ps.master k → MasterHolds ps.master k
holds_like ps activity changes k inv facts like = let m = ps.master in record {
  on = record {
    later = like.later;
    scheduled = they_were m k like.scheduled;
    owned = λ ns i inside owned. subst (λ os. owns os ns i.table ≡ true) like.owners owned;
    activity = activity_goes_on m k like.activity facts.latest;
    taken = λ r inside. let q = like.was r inside in inl (record { was = q.snapshot; kept = q.kept; id_is = q.id_is; after_is = q.after_is; at_is = q.at_is });
  };
  times = λ s listed. times_like m k s like (facts.times s (subst (In s) like.scheduled listed));
  own = own_goes_on ps activity changes k inv facts.own (they_were m k like.scheduled) like.states;
}

-- Acts

-- what is to be shown of an outcome
abbrev pub HoldsFacts : Act → ℕ → Parts → Outcome → Type 0
HoldsFacts act n ps o = Facts (told act o n ps)

pub they_are : (m : Master) → StatesGoOn m m
they_are m r point there is = record { was = r; kept = there; namespace_is = refl; point_is = is }

pub on_clock : (m : Master) (n : ℕ) (sent : List Sent) (catalog : Catalog) → catalog.owners ≡ m.catalog.owners → m.clock ≤ n → MasterLike m (record m { clock = n; sent = sent; catalog = catalog })
on_clock m n sent catalog owners before = record {
  later = before;
  scheduled = refl;
  owners = owners;
  activity = they_go_on m;
  was = λ r there. like_itself m.snapshots r there;
  still = λ q there open_. like_itself m.snapshots q there;
  states = they_are m;
}

-- a tablet that is as it was, but for what doesn't count
pub like_on : (k : Master) (t u : Tablet) → is_empty t.presence ≡ false → u.tablet ≡ t.tablet → u.cutoff ≡ t.cutoff → u.frozen ≡ t.frozen → TabletOn k t u
like_on k t u there tablet cutoff frozen = record {
  there = there;
  tablet_is = tablet;
  live = λ s i listed last owned. (let e = cutoff in first u.cutoff t.cutoff (complete_to s + 1) e);
  now = λ past. subst (λ c. c ≤ k.clock) (sym cutoff) past;
  sets = λ f held. subst (In f) frozen held;
}
  where
    first : (u t a : ℕ) → u ≡ t → u ≤ max t a
    first u t a e = omega arith

-- where each touched tablet goes back far enough
pub told_by : (act : Act) (o : Outcome) (n : ℕ) (ps : Parts) (activity : List Interval) (changes : List Change) → Inv ps activity changes → Facts ps → MasterHolds ps.master (told act o n ps).master
    → ((slot : ℕ) → touched act slot ≡ true → is_empty (effect (act_for o.tablets slot) n (ps.tablet slot)).presence ≡ false → GoesBack (told act o n ps).master (effect (act_for o.tablets slot) n (ps.tablet slot)))
    → HoldsFacts act n ps o
told_by act o n ps activity changes inv facts holds tablets =
    let after = told act o n ps in
    facts_by ps after activity changes inv facts holds
    (λ slot. cond_both (touched act slot) (effect (act_for o.tablets slot) n (ps.tablet slot)) (ps.tablet slot) (λ u. is_empty u.presence ≡ false → GoesBack after.master u)
    (tablets slot)
    (λ b here. back_on ps activity changes after.master slot (ps.tablet slot) inv holds.on (facts.tablets slot here) (like_on after.master (ps.tablet slot) (ps.tablet slot) here refl refl refl)))

pub told_holds : (act : Act) (o : Outcome) (n : ℕ) (ps : Parts) (activity : List Interval) (changes : List Change) → Inv ps activity changes → Facts ps
    → (has (slots_of act) 0 ≡ true → MasterLike ps.master (master_effect o.master n ps.master))
    → ((slot : ℕ) → touched act slot ≡ true → is_empty (effect (act_for o.tablets slot) n (ps.tablet slot)).presence ≡ false → TabletOn (told act o n ps).master (ps.tablet slot) (effect (act_for o.tablets slot) n (ps.tablet slot)))
    → HoldsFacts act n ps o
told_holds act o n ps activity changes inv facts master tablets =
    let m = ps.master in
    let after = told act o n ps in
    let self : MasterLike m m = on_clock m m.clock m.sent m.catalog refl (le_refl _) in
    let like : MasterLike m after.master = cond_both (has (slots_of act) 0) (master_effect o.master n m) m (λ k. MasterLike m k) master (λ b. self) in
    let holds = holds_like ps activity changes after.master inv facts like in
    told_by act o n ps activity changes inv facts holds
    (λ slot is here. let t = tablets slot is here in back_on ps activity changes after.master slot _ inv holds.on (facts.tablets slot t.there) t)

pub answer_holds : (act : Act) (reply : Reply) (n : ℕ) (ps : Parts) (activity : List Interval) (changes : List Change) → Later (slots_of act) ps n → Inv ps activity changes → Facts ps → HoldsFacts act n ps (answered reply)
answer_holds act reply n ps activity changes later inv facts = told_holds act (answered reply) n ps activity changes inv facts
    (λ is. on_clock ps.master n ps.master.sent ps.master.catalog refl (master_before (slots_of act) ps n later is))
    (λ slot is here. like_on (told act (answered reply) n ps).master (ps.tablet slot) (record (ps.tablet slot) { clock = n }) here refl refl refl)

-- one tablet that is told something
pub one_holds : (act : Act) (slot : ℕ) (what : TabletAct) (reply : Reply) (n : ℕ) (ps : Parts) (activity : List Interval) (changes : List Change) → Later (slots_of act) ps n → Inv ps activity changes → Facts ps
    → ((i : ℕ) → eqb slot i ≡ true → touched act i ≡ true → is_empty (effect what n (ps.tablet i)).presence ≡ false → TabletOn (told act (tells slot what reply) n ps).master (ps.tablet i) (effect what n (ps.tablet i)))
    → HoldsFacts act n ps (tells slot what reply)
one_holds act slot what reply n ps activity changes later inv facts on =
    let k = (told act (tells slot what reply) n ps).master in
    told_holds act (tells slot what reply) n ps activity changes inv facts
    (λ is. on_clock ps.master n ps.master.sent ps.master.catalog refl (master_before (slots_of act) ps n later is))
    (λ i is. cond_both (eqb slot i) what Clock (λ a. is_empty (effect a n (ps.tablet i)).presence ≡ false → TabletOn k (ps.tablet i) (effect a n (ps.tablet i)))
    (λ e. on i e is) (λ e here. like_on k (ps.tablet i) (record (ps.tablet i) { clock = n }) here refl refl refl))
