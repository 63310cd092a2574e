-- Sends, acks and cleanup keep how far back tablets go, and how snapshots follow each other.
use Rattle.std.proofs.Common.{max, ◌<◌, ◌≤◌, ◌≡◌, ◌∷◌, ◌∙◌, ℕ, List, [], false, Option, Some, None, map, not, refl, sym, ap, subst, inl, inr, arith, le_of_lt, eqb, leb}
use Rattle.std.proofs.lemmas.Bool.{cond_both, true≢false}
use Rattle.std.proofs.lemmas.Bool.Decides.{nat_tests}
use Rattle.row_values.specs.Ids.{Clone, Id, Kind, Restoration, Snapshot, Tablet as TabletKind, same}
use Rattle.row_values.specs.Elements.{In}
use Rattle.row_values.specs.Slots.{same_slots}
use Rattle.model.specs.Activity.{Interval, forget, last_from, last_of}
use Rattle.model.specs.Acts.{Ack, Acked, InWindow, Moved, NotDone, NotPending, Prune, Refusal, Refused, Remove, Removed, Send, StalePlan, UnknownSnapshot}
use Rattle.model.specs.Cleanup.{floor_of, floor_of_table, hidden_at, is_hidden_as, lister_of_snapshot, lister_of_tablet, prune, pruned, remove, removed_of, removing, removing_snapshot, removing_tablet, removable_snapshot, removable_tablet, snapshot_plan}
use Rattle.model.specs.Coordination.{ack, acked_by, acked_restoration, acked_snapshot, acknowledging, command_for, pending, send, sending}
use Rattle.model.specs.Entries.{IsRemovable, slots_of}
use Rattle.model.specs.History.{told}
use Rattle.model.specs.Journal.{Change}
use Rattle.model.specs.Parts.{judged, Acks, Fault, If, Master, Outcome, Parts, Removes, Unsends, refused}
use Rattle.model.specs.Records.{Listed, RestorationRecord, SnapshotRecord, snapshot_with}
use Rattle.model.specs.Tablets.{Clear, Clock, DropFrozen, Empty, Offer, Tablet, effect, is_done, is_empty, kind_of, standing}
use Rattle.law_store.proofs.Keys.{either_way}
use Rattle.law_invariants.specs.Invariant.{Inv, Later}
use Rattle.law_invariants.proofs.Finding.{filter_in, in_mapped, map_in, not_passing, same_equal}
use Rattle.law_invariants.proofs.Ticking.{master_before}
use Rattle.law_retention.specs.Facts.{Facts, own_point}
use Rattle.law_retention.proofs.Outcomes.{by_refusal}
use Rattle.law_retention.proofs.Holding.{HasLike, HoldsFacts, MasterLike, TabletOn, WasIn, answer_holds, like_itself, like_on, on_clock, they_are, told_holds}
use Rattle.law_retention.proofs.Growing.{they_go_on}
use Rattle.law_retention.proofs.Acts.{KeepsFacts}
use Rattle.law_retention.proofs.Cleaning.{either_told}
use Rattle.law_invariants.proofs.Unneeded.{IsDiscarded, discarding, is_discarded, kept_record, was_record, nothing_keeps}

-- Sends

sending_keeps_facts : (l : Option Listed) (operation : Id) (slot : ℕ) → KeepsFacts (Send operation slot) (λ n ps. sending l operation slot)
sending_keeps_facts None operation slot n ps activity changes later inv facts = answer_holds (Send operation slot) (Refused (NotPending operation)) n ps activity changes later inv facts
sending_keeps_facts (Some l) operation slot n ps activity changes later inv facts =
    let act = Send operation slot in
    let o = sending (Some l) operation slot in
    let offer = Offer (command_for operation l) in
    told_holds act o n ps activity changes inv facts
    (λ is. on_clock ps.master n _ ps.master.catalog refl (master_before (slots_of act) ps n later is))
    (λ i is. cond_both (eqb slot i) offer Clock (λ a. is_empty (effect a n (ps.tablet i)).presence ≡ false → TabletOn (told act o n ps).master (ps.tablet i) (effect a n (ps.tablet i)))
    (λ e here. like_on _ (ps.tablet i) (effect offer n (ps.tablet i)) here refl refl refl)
    (λ e here. like_on _ (ps.tablet i) (effect Clock n (ps.tablet i)) here refl refl refl))

pub send_keeps_facts : (operation : Id) (slot : ℕ) → KeepsFacts (Send operation slot) (send operation slot)
unfolding send
send_keeps_facts operation slot n ps activity changes later inv facts = sending_keeps_facts (pending ps.master operation slot) operation slot n ps activity changes later inv facts

-- Acks

acked_was : (rs : List SnapshotRecord) (operation : Id) (slot : ℕ) (r : SnapshotRecord) → In r (acked_snapshot operation slot rs) → HasLike rs r
acked_was [] operation slot r inside = absurd inside
acked_was (q ∷ rs) operation slot r (inl here) = record {
  snapshot = q;
  kept = inl refl;
  id_is = ap (λ x. x.id) here;
  namespace_is = ap (λ x. x.namespace) here;
  complete_is = ap (λ x. x.complete) here;
  after_is = ap (λ x. x.after) here;
  at_is = ap (λ x. x.at) here;
}
acked_was (q ∷ rs) operation slot r (inr later) =
    let h = acked_was rs operation slot r later in
    record { snapshot = h.snapshot; kept = inr h.kept; id_is = h.id_is; namespace_is = h.namespace_is; complete_is = h.complete_is; after_is = h.after_is; at_is = h.at_is }

acked_still : (rs : List SnapshotRecord) (operation : Id) (slot : ℕ) (q : SnapshotRecord) → In q rs → HasLike (acked_snapshot operation slot rs) q
acked_still rs operation slot q inside = record {
  snapshot = _;
  kept = map_in _ rs q inside;
  id_is = refl;
  namespace_is = refl;
  complete_is = refl;
  after_is = refl;
  at_is = refl;
}

restored_was : (m : Master) (operation : Id) (slot point : ℕ) (r : RestorationRecord) → In r (acked_restoration operation slot m.restorations) → own_point r.state ≡ Some point → WasIn m r point
restored_was m operation slot point =
    in_mapped {A = RestorationRecord} {B = RestorationRecord} _ (λ r. own_point r.state ≡ Some point → WasIn m r point) m.restorations (λ r there is. record { was = r; kept = there; namespace_is = refl; point_is = is })

acked_on : (kind : Kind) (m : Master) (operation : Id) (slot n : ℕ) → m.clock ≤ n → MasterLike m (acked_by kind operation slot n m)
acked_on Snapshot m operation slot n before = record {
  later = before;
  scheduled = refl;
  owners = refl;
  activity = they_go_on m;
  was = λ r there. acked_was m.snapshots operation slot r there;
  still = λ q there open_. acked_still m.snapshots operation slot q there;
  states = they_are m;
}
acked_on Restoration m operation slot n before = record {
  later = before;
  scheduled = refl;
  owners = refl;
  activity = they_go_on m;
  was = λ r there. like_itself m.snapshots r there;
  still = λ q there open_. like_itself m.snapshots q there;
  states = λ r point there is. restored_was m operation slot point r there is;
}
acked_on Clone m operation slot n before = record {
  later = before;
  scheduled = refl;
  owners = refl;
  activity = they_go_on m;
  was = λ r there. like_itself m.snapshots r there;
  still = λ q there open_. like_itself m.snapshots q there;
  states = they_are m;
}
acked_on _ m operation slot n before = on_clock m n m.sent m.catalog refl before

acknowledging_keeps_facts : (l : Option Listed) (operation : Id) (slot : ℕ) → KeepsFacts (Ack operation slot) (λ n ps. acknowledging l operation slot (ps.tablet slot))
acknowledging_keeps_facts None operation slot n ps activity changes later inv facts = answer_holds (Ack operation slot) (Refused (NotPending operation)) n ps activity changes later inv facts
acknowledging_keeps_facts (Some l) operation slot n ps activity changes later inv facts =
    let act = Ack operation slot in
    let yes_ : Outcome = record { master = Acks operation slot; tablets = []; reply = Acked } in
    let no_ : Outcome = record { master = Unsends operation slot; tablets = []; reply = Refused NotDone } in
    cond_both (is_done (ps.tablet slot).done operation (kind_of l.body)) yes_ no_ (HoldsFacts act n ps)
    (λ e. told_holds act yes_ n ps activity changes inv facts
    (λ is. acked_on operation.kind ps.master operation slot n (master_before (slots_of act) ps n later is))
    (λ i is here. like_on _ (ps.tablet i) (effect Clock n (ps.tablet i)) here refl refl refl))
    (λ e. told_holds act no_ n ps activity changes inv facts
    (λ is. on_clock ps.master n _ ps.master.catalog refl (master_before (slots_of act) ps n later is))
    (λ i is here. like_on _ (ps.tablet i) (effect Clock n (ps.tablet i)) here refl refl refl))

pub ack_keeps_facts : (operation : Id) (slot : ℕ) → KeepsFacts (Ack operation slot) (ack operation slot)
unfolding ack
ack_keeps_facts operation slot n ps activity changes later inv facts = acknowledging_keeps_facts (pending ps.master operation slot) operation slot n ps activity changes later inv facts

-- A prune

pub prune_keeps_facts : KeepsFacts Prune prune
unfolding prune
prune_keeps_facts n ps activity changes later inv facts =
    told_holds Prune (prune n ps) n ps activity changes inv facts
    (λ is. on_clock ps.master n ps.master.sent (pruned n ps.master).catalog refl (master_before (slots_of Prune) ps n later refl))
    (λ i is here. like_on _ (ps.tablet i) (effect Clock n (ps.tablet i)) here refl refl refl)

-- The removal of a tablet

last_left : (is : List Interval) (target tablet : Id) (found : Option Interval) → same tablet target ≡ false → last_from (forget target is) tablet found ≡ last_from is tablet found
last_left [] target tablet found apart = refl
last_left (i ∷ is) target tablet found apart = either_way (same i.tablet target)
    (λ gone.
    let other : same i.tablet tablet ≡ false = not_passing (same i.tablet tablet) (λ e.
    true≢false (sym (ap (λ id. same id target) (sym (same_equal i.tablet tablet e)) ∙ gone) ∙ apart)) in
    rw gone (rw other (last_left is target tablet found apart)))
    (λ stays. rw stays (last_left is target tablet _ apart))

last_gone : (is : List Interval) (target tablet : Id) → tablet ≡ target → last_from (forget target is) tablet None ≡ None
last_gone [] target tablet is_target = refl
last_gone (i ∷ is) target tablet is_target = either_way (same i.tablet target)
    (λ gone. rw gone (last_gone is target tablet is_target))
    (λ stays.
    let other : same i.tablet tablet ≡ false = ap (same i.tablet) is_target ∙ stays in
    rw stays (rw other (last_gone is target tablet is_target)))

last_known : (is : List Interval) (target tablet : Id) (i : Interval) → last_of (forget target is) tablet ≡ Some i → last_of is tablet ≡ Some i
last_known is target tablet i e = either_way (same tablet target)
    (λ gone. let none : None ≡ Some i = sym (last_gone is target tablet (same_equal tablet target gone)) ∙ e in cc)
    (λ stays. sym (last_left is target tablet None stays) ∙ e)

forgotten_on : (m : Master) (n : ℕ) (target : Id) → m.clock ≤ n → MasterLike m (record m { clock = n; activity = forget target m.activity })
forgotten_on m n target before = record {
  later = before;
  scheduled = refl;
  owners = refl;
  activity = record {
    each = λ i there. (they_go_on m).each i (filter_in m.activity (λ j. not (same j.tablet target)) i there).0;
    last = λ tablet i is. (they_go_on m).last tablet i (last_known m.activity target tablet i is);
  };
  was = λ r there. like_itself m.snapshots r there;
  still = λ q there open_. like_itself m.snapshots q there;
  states = they_are m;
}

unknown_keeps_facts : (target : Id) (slots : List ℕ) (why : Refusal) → KeepsFacts (Remove target slots) (λ n ps. judged (If (not (same_slots slots [])) (StalePlan []) ∷ []) (refused why))
unknown_keeps_facts target slots why n ps activity changes later inv facts =
    by_refusal (HoldsFacts (Remove target slots) n ps) (If (not (same_slots slots [])) (StalePlan []) ∷ []) (refused why)
    (λ other. answer_holds (Remove target slots) (Refused other) n ps activity changes later inv facts)
    (λ passes. answer_holds (Remove target slots) (Refused why) n ps activity changes later inv facts)

removing_tablet_keeps_facts : (found : Option Interval) (target : Id) (slots : List ℕ) → target.kind ≡ TabletKind → KeepsFacts (Remove target slots) (λ n ps. removing_tablet found target slots n ps)
removing_tablet_keeps_facts None target slots kind n ps activity changes later inv facts = unknown_keeps_facts target slots (Moved 0 Empty) n ps activity changes later inv facts
removing_tablet_keeps_facts (Some i) target slots kind n ps activity changes later inv facts =
    let t = ps.tablet i.slot in
    let act = Remove target slots in
    let o : Outcome = record { master = Removes target; tablets = record { slot = i.slot; act = Clear } ∷ []; reply = Removed } in
    by_refusal (HoldsFacts act n ps)
    (If (not (same_slots slots (i.slot ∷ []))) (StalePlan (i.slot ∷ []))
    ∷ If (not (is_hidden_as target t)) (Moved i.slot (standing t))
    ∷ Fault (removable_tablet (hidden_at t.presence) (floor_of_table ps.master i.table n) (lister_of_tablet ps.master target))
    ∷ [])
    o
    (λ why. answer_holds act (Refused why) n ps activity changes later inv facts)
    (λ passes. told_holds act o n ps activity changes inv facts
    (λ is. subst (λ k. MasterLike ps.master (removed_of k target n ps.master)) (sym kind) (forgotten_on ps.master n target (master_before (slots_of act) ps n later refl)))
    (λ slot is. cond_both (eqb i.slot slot) Clear Clock (λ a. is_empty (effect a n (ps.tablet slot)).presence ≡ false → TabletOn (told act o n ps).master (ps.tablet slot) (effect a n (ps.tablet slot)))
    (λ e here. absurd (true≢false here))
    (λ e here. like_on _ (ps.tablet slot) (effect Clock n (ps.tablet slot)) here refl refl refl)))

-- The removal of a snapshot

discarded_on : (ps : Parts) (activity : List Interval) (changes : List Change) (n : ℕ) (target : Id) (r : SnapshotRecord) → Inv ps activity changes → IsDiscarded ps.master n target r → MasterLike ps.master (discarding ps.master n target)
discarded_on ps activity changes n target r inv d =
    let m = ps.master in
    let k = discarding m n target in
    record {
      later = le_of_lt d.before;
      scheduled = refl;
      owners = refl;
      activity = they_go_on m;
      was = λ q there. like_itself m.snapshots q (was_record target m.snapshots q there).0;
      still = λ q there open_. like_itself k.snapshots q (kept_record target m.snapshots q there
          (λ is. true≢false (sym d.complete ∙ sym (ap (λ x. x.complete) (d.alone q there is)) ∙ open_)));
      states = they_are m;
    }

unfrozen_on : (k : Master) (t : Tablet) (target : Id) (n : ℕ) → is_empty t.presence ≡ false → TabletOn k t (effect (DropFrozen target) n t)
unfrozen_on k t target n here = record {
  there = here;
  tablet_is = refl;
  live = λ s i listed last owned. at_most t.cutoff _;
  now = λ past. past;
  sets = λ f held. (filter_in t.frozen (λ g. not (same g.snapshot target)) f held).0;
}
  where
    at_most : (c a : ℕ) → c ≤ max c a
    at_most c a = omega arith

removing_snapshot_keeps_facts : (found : Option SnapshotRecord) (target : Id) (slots : List ℕ) (n : ℕ) (ps : Parts) (activity : List Interval) (changes : List Change) → snapshot_with ps.master.snapshots target ≡ found → target.kind ≡ Snapshot
    → Later (slots_of (Remove target slots)) ps n → Inv ps activity changes → Facts ps → HoldsFacts (Remove target slots) n ps (removing_snapshot found target slots n ps)
removing_snapshot_keeps_facts None target slots n ps activity changes e kind later inv facts = unknown_keeps_facts target slots UnknownSnapshot n ps activity changes later inv facts
removing_snapshot_keeps_facts (Some r) target slots n ps activity changes e kind later inv facts =
    let m = ps.master in
    let act = Remove target slots in
    let plan = snapshot_plan m r in
    let floor_ = floor_of m r.namespace n in
    let o : Outcome = record { master = Removes target; tablets = map (λ slot. record { slot = slot; act = DropFrozen target }) plan; reply = Removed } in
    by_refusal (HoldsFacts act n ps)
    (If (not (same_slots slots plan)) (StalePlan plan)
    ∷ Fault (removable_snapshot r.at (floor_of m r.namespace n) (lister_of_snapshot m r))
    ∷ [])
    o
    (λ why. answer_holds act (Refused why) n ps activity changes later inv facts)
    (λ passes.
    let unneeded = nothing_keeps (leb floor_ r.at) (lister_of_snapshot m r) (InWindow r.at floor_) passes.1.0 in
    let late : leb floor_ r.at ≡ false = unneeded.0 in
    let below : r.at < floor_ = grind (arith, nat_tests) in
    let d = is_discarded m n changes target r (later 0 refl) inv.operations e below unneeded.1 in
    told_holds act o n ps activity changes inv facts
    (λ is. subst (λ k. MasterLike m (removed_of k target n m)) (sym kind) (discarded_on ps activity changes n target r inv d))
    (λ slot is. either_told (λ a. is_empty (effect a n (ps.tablet slot)).presence ≡ false → TabletOn (told act o n ps).master (ps.tablet slot) (effect a n (ps.tablet slot))) plan (DropFrozen target) slot
    (λ here. unfrozen_on _ (ps.tablet slot) target n here)
    (λ here. like_on _ (ps.tablet slot) (effect Clock n (ps.tablet slot)) here refl refl refl)))

removing_keeps_facts : (kind : Kind) (target : Id) (slots : List ℕ) (n : ℕ) (ps : Parts) (activity : List Interval) (changes : List Change) → target.kind ≡ kind → IsRemovable kind
    → Later (slots_of (Remove target slots)) ps n → Inv ps activity changes → Facts ps → HoldsFacts (Remove target slots) n ps (removing kind target slots n ps)
removing_keeps_facts TabletKind target slots n ps activity changes kind asked later inv facts = removing_tablet_keeps_facts (last_of ps.master.activity target) target slots kind n ps activity changes later inv facts
removing_keeps_facts Snapshot target slots n ps activity changes kind asked later inv facts = removing_snapshot_keeps_facts (snapshot_with ps.master.snapshots target) target slots n ps activity changes refl kind later inv facts
removing_keeps_facts _ target slots n ps activity changes kind asked later inv facts = absurd asked

pub remove_keeps_facts : (target : Id) (slots : List ℕ) → IsRemovable target.kind → KeepsFacts (Remove target slots) (remove target slots)
unfolding remove
remove_keeps_facts target slots asked n ps activity changes later inv facts = removing_keeps_facts target.kind target slots n ps activity changes refl asked later inv facts
