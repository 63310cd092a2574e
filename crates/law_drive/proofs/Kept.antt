-- A settle leaves out no snapshot: each that was kept before is there behind it, and complete.
use Rattle.std.proofs.Common.{ℕ, ◌≡◌, ◌<◌, ◌^◌, zero, suc, List, [], ◌∷◌, ◌++◌, Option, Some, None, refl, sym, subst, ◌∙◌, map}
use Rattle.std.specs.Option.{option_map_or}
use Rattle.std.proofs.lemmas.Bool.{cond_both}
use Rattle.row_values.specs.Ids.{Kind, Id, Snapshot, Restoration, Clone}
use Rattle.row_values.specs.Elements.{In}
use Rattle.row_values.specs.Slots.{has}
use Rattle.model.specs.Journal.{Change as Made}
use Rattle.model.specs.Tablets.{kind_of, is_done}
use Rattle.model.specs.Records.{Listed, Schedule, SnapshotRecord, RestorationRecord, RestorationState, Fencing, Snapshotting, Switching, Restoring, Releasing, Restored, CloneRecord, CloneState, Accepted, CloneSnapshot, Copying, CloneReleasing, CloneComplete, schedule_of}
use Rattle.model.specs.Acts.{Act, Send, Process, Ack, Advance, Acked, NotDone, Refused}
use Rattle.model.specs.Parts.{Master, Parts, Outcome, Acks, Unsends}
use Rattle.model.specs.Lists.{new_snapshot}
use Rattle.model.specs.Coordination.{pending, sending, send, processing, process, acknowledging, ack, acked_by, source_slot}
use Rattle.model.specs.Moves.{Progress, moved, moved_of, completed, restoration_moved, clone_moved, begins_clone, clone_goes, with_clones_snapshot, serving_clone}
use Rattle.model.specs.Work.{next_act}
use Rattle.model.specs.Entries.{Entry, slots_of}
use Rattle.model.specs.History.{Legal, entry_of, master_effect, replay, told}
use Rattle.model.specs.Settling.{after_act, coordinated, event_of, left, stamp_under}
use Rattle.law_invariants.specs.Operations.{OperationsGood}
use Rattle.law_invariants.proofs.Finding.{in_first, map_in, none_or_some}
use Rattle.law_commands.proofs.Acked.{ack_snapshot}
use Rattle.law.proofs.Law.{legal_holds}
use Rattle.law.proofs.Working.{next_fits}
use Rattle.law_drive.specs.Settled.{NoneStops, SettleRuns, SnapshotFinished, history_after, settled}
use Rattle.law_drive.proofs.Choosing.{Unfinished, OfSnapshot, OfRestoration, OfClone, Choice, ChoseSend, ChoseAck, ChoseProcess, ChoseMove, choice, snapshot_found, restoration_found, clone_found}
use Rattle.law_drive.proofs.Moving.{advance_moves, complete_then}
use Rattle.law_drive.proofs.Coming.{fit_of, left_of, processing_ticks, with_next}
use Rattle.law_drive.proofs.Settled.{next_leaves, snapshots_finished, step_of}

-- a snapshot of the identifier is kept
abbrev IsKept : Master → Id → Type 0
IsKept m id = (q : SnapshotRecord) × (In q m.snapshots × (q.id ≡ id))

abbrev Keeps : Master → Master → Type 0
Keeps m after = (id : Id) → IsKept m id → IsKept after id

same_kept : (m after : Master) → after.snapshots ≡ m.snapshots → Keeps m after
same_kept m after same_ = λ id k. (k.0, (subst (In k.0) (sym same_) k.1.0, k.1.1))

mapped_kept : (m after : Master) (h : SnapshotRecord → SnapshotRecord) → ((r : SnapshotRecord) → (h r).id ≡ r.id) → after.snapshots ≡ map h m.snapshots → Keeps m after
mapped_kept m after h ids is = λ id k. (h k.0, (subst (In (h k.0)) (sym is) (map_in h m.snapshots k.0 k.1.0), ids k.0 ∙ k.1.1))

added_kept : (m after : Master) (s : SnapshotRecord) → after.snapshots ≡ m.snapshots ++ s ∷ [] → Keeps m after
added_kept m after s is = λ id k. (k.0, (subst (In k.0) (sym is) (in_first m.snapshots (s ∷ []) k.0 k.1.0), k.1.1))

-- Acts

sending_kept : (ps : Parts) (p : Id) (slot n : ℕ) (found : Option Listed) → Keeps ps.master (told (Send p slot) (sending found p slot) n ps).master
sending_kept ps p slot n None = same_kept ps.master (told (Send p slot) (sending None p slot) n ps).master refl
sending_kept ps p slot n (Some l) = same_kept ps.master (told (Send p slot) (sending (Some l) p slot) n ps).master refl

sent_kept : (ps : Parts) (p : Id) (slot n : ℕ) → Keeps ps.master (told (Send p slot) (send p slot n ps) n ps).master
unfolding send
sent_kept ps p slot n = sending_kept ps p slot n (pending ps.master p slot)

acked_kept : (kind : Kind) (m : Master) (operation : Id) (slot n : ℕ) → Keeps m (acked_by kind operation slot n m)
acked_kept Snapshot m operation slot n = mapped_kept m (acked_by Snapshot operation slot n m) (ack_snapshot operation slot) (λ r. refl) refl
acked_kept Restoration m operation slot n = same_kept m (acked_by Restoration operation slot n m) refl
acked_kept Clone m operation slot n = same_kept m (acked_by Clone operation slot n m) refl
acked_kept kind m operation slot n = same_kept m (acked_by kind operation slot n m) refl

acking_kept : (ps : Parts) (p : Id) (slot n : ℕ) (found : Option Listed) → Keeps ps.master (told (Ack p slot) (acknowledging found p slot (ps.tablet slot)) n ps).master
acking_kept ps p slot n None = same_kept ps.master (told (Ack p slot) (acknowledging None p slot (ps.tablet slot)) n ps).master refl
acking_kept ps p slot n (Some l) =
    cond_both (is_done (ps.tablet slot).done p (kind_of l.body)) (record { master = Acks p slot; tablets = []; reply = Acked }) (record { master = Unsends p slot; tablets = []; reply = Refused NotDone })
    (λ (o : Outcome). Keeps ps.master (told (Ack p slot) o n ps).master)
    (λ _. acked_kept p.kind ps.master p slot n)
    (λ _. same_kept ps.master (told (Ack p slot) (record { master = Unsends p slot; tablets = []; reply = Refused NotDone }) n ps).master refl)

ack_kept : (ps : Parts) (p : Id) (slot n : ℕ) → Keeps ps.master (told (Ack p slot) (ack p slot n ps) n ps).master
unfolding ack
ack_kept ps p slot n = acking_kept ps p slot n (pending ps.master p slot)

processed_kept : (ps : Parts) (slot other n : ℕ) → Keeps ps.master (told (Process slot other) (process slot other n ps) n ps).master
unfolding process
processed_kept ps slot other n =
    let o = processing (ps.tablet slot).inbox slot other (ps.tablet other) in
    let act = Process slot other in
    cond_both (has (slots_of act) 0) (master_effect o.master n ps.master) ps.master (λ m. Keeps ps.master m)
    (λ _. subst (λ k. Keeps ps.master (master_effect k n ps.master)) (sym (processing_ticks (ps.tablet slot).inbox slot other (ps.tablet other))) (same_kept ps.master (record ps.master { clock = n }) refl))
    (λ _ id k. k)

-- Moves

restoration_kept : (state : RestorationState) (m : Master) (r : RestorationRecord) (n : ℕ) → Keeps m (restoration_moved state r n m)
restoration_kept Fencing m r n = added_kept m (restoration_moved Fencing r n m) (new_snapshot m r.namespace r.schedule n) refl
restoration_kept state m r n = same_kept m (restoration_moved state r n m) refl

begins_kept : (serving : Option SnapshotRecord) (schedule : Option Schedule) (m : Master) (r : CloneRecord) (n : ℕ) → schedule_of m.schedules r.source ≡ schedule → Keeps m (begins_clone serving r n m)
begins_kept (Some s) schedule m r n by = same_kept m (begins_clone (Some s) r n m) refl
begins_kept None None m r n by = subst (λ k. Keeps m (clone_goes Accepted None r n m (with_clones_snapshot k r n m))) (sym by) (same_kept m (clone_goes Accepted None r n m m) refl)
begins_kept None (Some s) m r n by =
    subst (λ k. Keeps m (clone_goes Accepted None r n m (with_clones_snapshot k r n m))) (sym by) (added_kept m (clone_goes Accepted None r n m (with_clones_snapshot (Some s) r n m)) (new_snapshot m r.source s.id n) refl)

clone_kept : (state : CloneState) (m : Master) (r : CloneRecord) (n : ℕ) → Keeps m (clone_moved state r n m)
clone_kept Accepted m r n = begins_kept (serving_clone m r) (schedule_of m.schedules r.source) m r n refl
clone_kept state m r n = same_kept m (clone_moved state r n m) refl

moved_kept : (m : Master) (changes : List Made) (n : ℕ) (p : Progress) → OperationsGood m changes → Unfinished m p → Keeps m (moved p.id n m)
moved_kept m changes n p ops (OfSnapshot r kept still is) = subst (λ q. Keeps m (moved q.id n m)) is
    (subst (λ k. Keeps m (moved_of k r.id n m)) (sym (ops.snapshots r kept).kind_is)
    (subst (λ found. Keeps m (option_map_or (λ q. completed q n m) found (record m { clock = n }))) (sym (snapshot_found m changes r ops kept still))
    (mapped_kept m (completed r n m) (complete_then r) (λ q. refl) refl)))
moved_kept m changes n p ops (OfRestoration r kept still is) = subst (λ q. Keeps m (moved q.id n m)) is
    (subst (λ k. Keeps m (moved_of k r.id n m)) (sym (ops.restorations r kept).kind_is)
    (subst (λ found. Keeps m (option_map_or (λ q. restoration_moved q.state q n m) found (record m { clock = n }))) (sym (restoration_found m changes r ops kept still))
    (restoration_kept r.state m r n)))
moved_kept m changes n p ops (OfClone r kept still is) = subst (λ q. Keeps m (moved q.id n m)) is
    (subst (λ k. Keeps m (moved_of k r.id n m)) (sym (ops.clones r kept).kind_is)
    (subst (λ found. Keeps m (option_map_or (λ q. clone_moved q.state q n m) found (record m { clock = n }))) (sym (clone_found m changes r ops kept still))
    (clone_kept r.state m r n)))

-- Whatever comes next

act_kept : (ps : Parts) (changes : List Made) (reading : ℕ) (act : Act) → OperationsGood ps.master changes → Choice ps act → Keeps ps.master (after_act reading act ps).master
act_kept ps changes reading act ops (ChoseSend p record_ l first unsent is) = subst (λ a. Keeps ps.master (after_act reading a ps).master) is (sent_kept ps p.id l.slot (stamp_under reading (Send p.id l.slot) ps))
act_kept ps changes reading act ops (ChoseAck p record_ l first sent held is) = subst (λ a. Keeps ps.master (after_act reading a ps).master) is (ack_kept ps p.id l.slot (stamp_under reading (Ack p.id l.slot) ps))
act_kept ps changes reading act ops (ChoseProcess p record_ l first c cs held is) = subst (λ a. Keeps ps.master (after_act reading a ps).master) is
    (let other = source_slot l.slot l.body in processed_kept ps l.slot other (stamp_under reading (Process l.slot other) ps))
act_kept ps changes reading act ops (ChoseMove p record_ all free is) = subst (λ a. Keeps ps.master (after_act reading a ps).master) is
    (let n = stamp_under reading (Advance p.id) ps in
    subst (λ o. Keeps ps.master (told (Advance p.id) o n ps).master) (sym (advance_moves n ps changes p ops record_ all free)) (moved_kept ps.master changes n p ops record_))

module _ (slots reading : ℕ) (less : reading < 2 ^ 50) where
  abbrev KeptFrom : List Entry → List Act → Type 0
  KeptFrom history acts = NoneStops slots reading acts history → Keeps (replay slots history).master (replay slots (history_after slots reading acts history)).master

  all_kept : (count : ℕ) (history : List Entry) → Legal slots history → KeptFrom history (coordinated count reading (replay slots history))
  all_kept zero history legal = λ stops id k. k
  all_kept (suc count) history legal = none_or_some (next_act (replay slots history))
      (λ none. subst (λ found. KeptFrom history (with_next count reading (replay slots history) found)) (sym none) (λ stops id k. k))
      (λ act some. subst (λ found. KeptFrom history (with_next count reading (replay slots history) found)) (sym some)
      (λ stops id k.
      let ps = replay slots history in
      let h = left_of slots history legal in
      let ops = (legal_holds history slots legal).inv.operations in
      let e = entry_of slots (event_of reading act) history in
      let now = next_leaves slots reading act history in
      let asked = fit_of (next_act ps) slots act some (next_fits slots ps h.activity h.changes h.count h.inv) in
      let one : IsKept (replay slots (e ∷ history)).master id = subst (λ q. IsKept q.master id) (sym now) (act_kept ps _ reading act ops (choice ps act some) id k) in
      subst (λ q. KeptFrom (e ∷ history) (coordinated count reading q)) now (all_kept count (e ∷ history) (legal, step_of slots reading act history less asked stops.0)) stops.1 id one))

pub snapshot_finished : (slots reading : ℕ) (history : List Entry) (r : SnapshotRecord) → Legal slots history → reading < 2 ^ 50 → SettleRuns slots reading history → In r (replay slots history).master.snapshots → SnapshotFinished slots (settled slots reading history) r.id
snapshot_finished slots reading history r legal less runs isin =
    let k = all_kept slots reading less (left (replay slots history).master) history legal runs r.id (r, (isin, refl)) in
    record { snapshot = k.0; kept = k.1.0; id_is = k.1.1; complete = snapshots_finished slots reading history legal less runs k.0 k.1.0 }
