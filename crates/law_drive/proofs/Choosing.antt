-- The record that a coordinator goes on with, and that there is one as long as a record is unfinished.
use Rattle.std.proofs.Common.{ℕ, ◌≡◌, List, [], ◌∷◌, ◌++◌, Bool, true, false, cond, ◌&&◌, Option, Some, None, inl, inr, refl, sym, ap, subst, ◌∙◌, arith, map, not, eqb}
use Rattle.std.specs.Option.{option_and_then, option_map, is_some}
use Rattle.std.specs.List.{filter}
use Rattle.std.proofs.lemmas.Bool.{cond_both, true≢false}
use Rattle.row_values.specs.Ids.{Id, same}
use Rattle.row_values.specs.Elements.{In}
use Rattle.model.specs.Activity.{Interval}
use Rattle.model.specs.Journal.{Change as Made}
use Rattle.model.specs.Records.{Listed, Sent, SnapshotRecord, RestorationRecord, RestorationState, Fencing, Snapshotting, Switching, Restoring, Releasing, Restored, CloneRecord, CloneState, Accepted, CloneSnapshot, Copying, CloneReleasing, CloneComplete, is_restored, is_cloned, is_sent, first_unacked, first_listed, unacked, unacked_at, unfinished_of}
use Rattle.model.specs.Acts.{Act, Send, Process, Ack, Advance, WorkItem, SendWork, CollectWork, AdvanceWork}
use Rattle.model.specs.Tablets.{Command}
use Rattle.model.specs.Parts.{Master, Parts}
use Rattle.model.specs.Coordination.{source_slot, pending, pending_of, unfinished_snapshot, unfinished_restoration, unfinished_clone}
use Rattle.model.specs.Moves.{Progress, snapshot_progress, restoration_progress, clone_progress, progress_of, is_complete, incomplete, serving_clone, awaited_by_restoration, awaited_by_clone}
use Rattle.model.specs.Work.{unfinished_records, work_at, work_for, first_work, next_work, collecting, act_of_work, next_act}
use Rattle.model.specs.Settling.{AlwaysNext}
use Rattle.law_store.proofs.Keys.{either_way}
use Rattle.law_invariants.specs.Operations.{OperationsGood, RestorationStateGood, CloneStateGood}
use Rattle.law_invariants.specs.Invariant.{Inv}
use Rattle.law_invariants.proofs.Finding.{in_append, in_first, in_filter, filter_in, in_mapped, map_in, find_only, same_self, same_equal, passes_both, both_pass, none_or_some}
use Rattle.law_invariants.proofs.Advancing.{mapped_some}
use Rattle.law_invariants.proofs.Ticking.{not_true}
use Rattle.law_invariants.proofs.Unneeded.{rise_alone, any_in}

-- an unfinished record, as it is seen by its progress
pub data Unfinished (m : Master) (p : Progress) : Type 0 where
  OfSnapshot : (r : SnapshotRecord) (kept : In r m.snapshots) (still : r.complete ≡ false) (is : snapshot_progress r ≡ p) → Unfinished m p
  OfRestoration : (r : RestorationRecord) (kept : In r m.restorations) (still : is_restored r.state ≡ false) (is : restoration_progress m r ≡ p) → Unfinished m p
  OfClone : (r : CloneRecord) (kept : In r m.clones) (still : is_cloned r.state ≡ false) (is : clone_progress m r ≡ p) → Unfinished m p

pub unfinished_is : (m : Master) (p : Progress) → In p (unfinished_records m) → Unfinished m p
unfinished_is m p isin = elim (in_append (map snapshot_progress (filter (λ r. not r.complete) m.snapshots) ++ map (restoration_progress m) (filter (λ r. not (is_restored r.state)) m.restorations)) _ p isin) [
  | inl first ↦ elim (in_append (map snapshot_progress (filter (λ r. not r.complete) m.snapshots)) _ p first) [
    | inl a ↦ in_mapped snapshot_progress (Unfinished m) (filter (λ r. not r.complete) m.snapshots) (λ r there. let t = filter_in m.snapshots (λ r. not r.complete) r there in OfSnapshot r t.0 (not_true r.complete t.1) refl) p a
    | inr b ↦ in_mapped (restoration_progress m) (Unfinished m) (filter (λ r. not (is_restored r.state)) m.restorations) (λ r there. let t = filter_in m.restorations (λ r. not (is_restored r.state)) r there in OfRestoration r t.0 (not_true (is_restored r.state) t.1) refl) p b
  ]
  | inr c ↦ in_mapped (clone_progress m) (Unfinished m) (filter (λ r. not (is_cloned r.state)) m.clones) (λ r there. let t = filter_in m.clones (λ r. not (is_cloned r.state)) r there in OfClone r t.0 (not_true (is_cloned r.state) t.1) refl) p c
]

-- The records of an identifier

open_test : (a b : Bool) → a ≡ true → b ≡ false → (a && not b) ≡ true
open_test a b e f = passes_both a (not b) e (ap not f)

pub snapshot_found : (m : Master) (changes : List Made) (r : SnapshotRecord) → OperationsGood m changes → In r m.snapshots → r.complete ≡ false → unfinished_snapshot m.snapshots r.id ≡ Some r
snapshot_found m changes r ops isin still = find_only (λ q. same q.id r.id && not q.complete) m.snapshots r isin (open_test _ _ (same_self r.id) still)
    (λ q inq passes. rise_alone m.snapshots q r ops.apart.snapshots_rise inq isin (same_equal q.id r.id (both_pass _ _ passes).0))

pub restoration_found : (m : Master) (changes : List Made) (r : RestorationRecord) → OperationsGood m changes → In r m.restorations → is_restored r.state ≡ false → unfinished_restoration m.restorations r.id ≡ Some r
restoration_found m changes r ops isin still = find_only (λ q. same q.id r.id && not (is_restored q.state)) m.restorations r isin (open_test _ _ (same_self r.id) still)
    (λ q inq passes. ops.apart.restoration_ids q r inq isin (same_equal q.id r.id (both_pass _ _ passes).0))

pub clone_found : (m : Master) (changes : List Made) (r : CloneRecord) → OperationsGood m changes → In r m.clones → is_cloned r.state ≡ false → unfinished_clone m.clones r.id ≡ Some r
clone_found m changes r ops isin still = find_only (λ q. same q.id r.id && not (is_cloned q.state)) m.clones r isin (open_test _ _ (same_self r.id) still)
    (λ q inq passes. ops.apart.clone_ids q r inq isin (same_equal q.id r.id (both_pass _ _ passes).0))

-- what a record's tablets are yet to do is found by its identifier

pub snapshot_pending : (m : Master) (changes : List Made) (r : SnapshotRecord) (slot : ℕ) → OperationsGood m changes → In r m.snapshots → r.complete ≡ false → pending m r.id slot ≡ unacked_at r.listed slot
snapshot_pending m changes r slot ops isin still =
    ap (λ k. pending_of k m.snapshots m.restorations m.clones r.id slot) (ops.snapshots r isin).kind_is
    ∙ ap (λ found. option_and_then (λ q. unacked_at q.listed slot) found) (snapshot_found m changes r ops isin still)

pub restoration_pending : (m : Master) (changes : List Made) (r : RestorationRecord) (slot : ℕ) → OperationsGood m changes → In r m.restorations → is_restored r.state ≡ false → pending m r.id slot ≡ unacked_at r.listed slot
restoration_pending m changes r slot ops isin still =
    ap (λ k. pending_of k m.snapshots m.restorations m.clones r.id slot) (ops.restorations r isin).kind_is
    ∙ ap (λ found. option_and_then (λ q. unacked_at q.listed slot) found) (restoration_found m changes r ops isin still)

pub clone_pending : (m : Master) (changes : List Made) (r : CloneRecord) (slot : ℕ) → OperationsGood m changes → In r m.clones → is_cloned r.state ≡ false → pending m r.id slot ≡ unacked_at r.listed slot
clone_pending m changes r slot ops isin still =
    ap (λ k. pending_of k m.snapshots m.restorations m.clones r.id slot) (ops.clones r isin).kind_is
    ∙ ap (λ found. option_and_then (λ q. unacked_at q.listed slot) found) (clone_found m changes r ops isin still)

pub progress_pending : (m : Master) (changes : List Made) (p : Progress) (slot : ℕ) → OperationsGood m changes → Unfinished m p → pending m p.id slot ≡ unacked_at p.listed slot
progress_pending m changes p slot ops (OfSnapshot r kept still is) = subst (λ q. pending m q.id slot ≡ unacked_at q.listed slot) is (snapshot_pending m changes r slot ops kept still)
progress_pending m changes p slot ops (OfRestoration r kept still is) = subst (λ q. pending m q.id slot ≡ unacked_at q.listed slot) is (restoration_pending m changes r slot ops kept still)
progress_pending m changes p slot ops (OfClone r kept still is) = subst (λ q. pending m q.id slot ≡ unacked_at q.listed slot) is (clone_pending m changes r slot ops kept still)

pub progress_found : (m : Master) (changes : List Made) (p : Progress) → OperationsGood m changes → Unfinished m p → progress_of p.id.kind m p.id ≡ Some p
progress_found m changes p ops (OfSnapshot r kept still is) = subst (λ q. progress_of q.id.kind m q.id ≡ Some q) is
    (ap (λ k. progress_of k m r.id) (ops.snapshots r kept).kind_is ∙ ap (λ found. option_map snapshot_progress found) (snapshot_found m changes r ops kept still))
progress_found m changes p ops (OfRestoration r kept still is) = subst (λ q. progress_of q.id.kind m q.id ≡ Some q) is
    (ap (λ k. progress_of k m r.id) (ops.restorations r kept).kind_is ∙ ap (λ found. option_map (restoration_progress m) found) (restoration_found m changes r ops kept still))
progress_found m changes p ops (OfClone r kept still is) = subst (λ q. progress_of q.id.kind m q.id ≡ Some q) is
    (ap (λ k. progress_of k m r.id) (ops.clones r kept).kind_is ∙ ap (λ found. option_map (clone_progress m) found) (clone_found m changes r ops kept still))

-- the first listed tablet without ack is the one of its slot
pub first_at : (ls : List Listed) (l : Listed) → first_unacked ls ≡ Some l → unacked_at ls l.slot ≡ Some l
first_at [] l is = absurd (let q = is in grind arith)
first_at (k ∷ ls) l is = either_way k.acked
    (λ e. let later : first_unacked ls ≡ Some l = rw e at is in
    let apart : (eqb k.slot l.slot && not k.acked) ≡ false = second_off (eqb k.slot l.slot) k.acked e in
    ap (λ b. cond b (Some k) (unacked_at ls l.slot)) apart ∙ first_at ls l later)
    (λ e. let now : Some k ≡ Some l = sym (ap (λ c. first_listed (cond (not c) (k ∷ unacked ls) (unacked ls))) e) ∙ is in
    let one : k ≡ l = some_is k l now in
    let here : (eqb k.slot l.slot && not k.acked) ≡ true = passes_both _ _ (slot_same k l one) (ap not e) in
    ap (λ b. cond b (Some k) (unacked_at ls l.slot)) here ∙ ap Some one)
  where
    some_is : (a b : Listed) → Some a ≡ Some b → a ≡ b
    some_is a b e = cc

    second_off : (a b : Bool) → b ≡ true → (a && not b) ≡ false
    second_off true true e = refl
    second_off false true e = refl
    second_off a false e = absurd (true≢false (sym e))

    eqb_self : (n : ℕ) → eqb n n ≡ true
    eqb_self n = grind arith

    slot_same : (a b : Listed) → a ≡ b → eqb a.slot b.slot ≡ true
    slot_same a b e = subst (λ c. eqb a.slot c.slot ≡ true) e (eqb_self a.slot)

-- what comes next is for one of the records

pub record Chosen (m : Master) (ps : List Progress) (sent : List Sent) (w : WorkItem) : Type 0 where
  pub progress : Progress
  pub listed : In progress ps
  pub is : work_for (first_unacked progress.listed) progress.awaited progress.id sent ≡ Some w

pub chosen_in : (ps : List Progress) (m : Master) (sent : List Sent) (w : WorkItem) → first_work ps sent ≡ Some w → Chosen m ps sent w
chosen_in [] m sent w e = absurd (let q = e in grind arith)
chosen_in (p ∷ ps) m sent w e = none_or_some (work_for (first_unacked p.listed) p.awaited p.id sent)
    (λ none. let rest : first_work ps sent ≡ Some w = rw none at e in let c = chosen_in ps m sent w rest in record { progress = c.progress; listed = inr c.listed; is = c.is })
    (λ v some. let now : Some v ≡ Some w = rw some at e in record { progress = p; listed = inl refl; is = some ∙ now })

-- what a coordinator does next: for the first listed tablet without ack of a record it sends the command, has the tablet
-- do the first of its inbox, or collects the ack; or it moves the record
pub data Choice (ps : Parts) (act : Act) : Type 0 where
  ChoseSend : (p : Progress) (record_ : Unfinished ps.master p) (l : Listed) (first : first_unacked p.listed ≡ Some l) (unsent : is_sent ps.master.sent p.id l.slot ≡ false) (is : Send p.id l.slot ≡ act) → Choice ps act
  ChoseAck : (p : Progress) (record_ : Unfinished ps.master p) (l : Listed) (first : first_unacked p.listed ≡ Some l) (sent : is_sent ps.master.sent p.id l.slot ≡ true) (inbox : (ps.tablet l.slot).inbox ≡ []) (is : Ack p.id l.slot ≡ act) → Choice ps act
  ChoseProcess : (p : Progress) (record_ : Unfinished ps.master p) (l : Listed) (first : first_unacked p.listed ≡ Some l) (c : Command) (cs : List Command) (inbox : (ps.tablet l.slot).inbox ≡ c ∷ cs) (is : Process l.slot (source_slot l.slot l.body) ≡ act)
      → Choice ps act
  ChoseMove : (p : Progress) (record_ : Unfinished ps.master p) (all : first_unacked p.listed ≡ None) (free : p.awaited ≡ None) (is : Advance p.id ≡ act) → Choice ps act

chose_inbox : (inbox : List Command) (ps : Parts) (act : Act) (p : Progress) (l : Listed) → (ps.tablet l.slot).inbox ≡ inbox → Unfinished ps.master p → first_unacked p.listed ≡ Some l → is_sent ps.master.sent p.id l.slot ≡ true
    → collecting inbox p.id l.slot (source_slot l.slot l.body) ≡ act → Choice ps act
chose_inbox [] ps act p l held record_ first sent is = ChoseAck p record_ l first sent held is
chose_inbox (c ∷ cs) ps act p l held record_ first sent is = ChoseProcess p record_ l first c cs held is

chose_line : (sent : Bool) (ps : Parts) (act : Act) (p : Progress) (l : Listed) → is_sent ps.master.sent p.id l.slot ≡ sent → Unfinished ps.master p → first_unacked p.listed ≡ Some l
    → act_of_work (cond sent (CollectWork p.id l.slot (source_slot l.slot l.body)) (SendWork p.id l.slot)) ps ≡ act → Choice ps act
chose_line true ps act p l sent record_ first is = chose_inbox (ps.tablet l.slot).inbox ps act p l refl record_ first sent is
chose_line false ps act p l sent record_ first is = ChoseSend p record_ l first sent is

chose_for : (found : Option Listed) (awaited : Option Id) (ps : Parts) (act : Act) (w : WorkItem) (p : Progress) → first_unacked p.listed ≡ found → p.awaited ≡ awaited → Unfinished ps.master p → work_for found awaited p.id ps.master.sent ≡ Some w
    → act_of_work w ps ≡ act → Choice ps act
chose_for (Some l) awaited ps act w p first waits record_ is acts =
    let work : work_at l p.id ps.master.sent ≡ w = some_same _ _ is in
    chose_line (is_sent ps.master.sent p.id l.slot) ps act p l refl record_ first (ap (λ v. act_of_work v ps) work ∙ acts)
  where
    some_same : (a b : WorkItem) → Some a ≡ Some b → a ≡ b
    some_same a b e = cc
chose_for None None ps act w p first waits record_ is acts = ChoseMove p record_ first waits (let work : AdvanceWork p.id ≡ w = cc in ap (λ v. act_of_work v ps) work ∙ acts)
chose_for None (Some on) ps act w p first waits record_ is acts = absurd (let q = is in grind arith)

pub choice : (ps : Parts) (act : Act) → next_act ps ≡ Some act → Choice ps act
choice ps act is =
    let w = mapped_some (λ w. act_of_work w ps) (next_work ps.master) act is in
    let c = chosen_in (unfinished_records ps.master) ps.master ps.master.sent w.0 w.1.0 in
    chose_for (first_unacked c.progress.listed) c.progress.awaited ps act w.0 c.progress refl refl (unfinished_is ps.master c.progress c.listed) c.is w.1.1

-- Something comes next

-- a record with nothing to be done waits for a snapshot
nothing_done : (found : Option Listed) (awaited : Option Id) (id : Id) (sent : List Sent) → work_for found awaited id sent ≡ None → is_some awaited ≡ true
nothing_done (Some l) awaited id sent e = absurd (let q = e in grind arith)
nothing_done None None id sent e = absurd (let q = e in grind arith)
nothing_done None (Some on) id sent e = refl

none_chosen : (ps : List Progress) (sent : List Sent) → first_work ps sent ≡ None → (p : Progress) → In p ps → is_some p.awaited ≡ true
none_chosen [] sent e p isin = absurd isin
none_chosen (q ∷ ps) sent e p isin = none_or_some (work_for (first_unacked q.listed) q.awaited q.id sent)
    (λ none. elim isin [
      | inl is ↦ subst (λ k. is_some k.awaited ≡ true) is (nothing_done (first_unacked q.listed) q.awaited q.id sent none)
      | inr rest ↦ none_chosen ps sent (let q : first_work ps sent ≡ None = rw none at e in q) p rest
    ])
    (λ v some. absurd (let q : Some v ≡ None = rw some at e in grind arith))

-- every snapshot is complete
abbrev AllComplete : Master → Type 0
AllComplete m = (r : SnapshotRecord) → In r m.snapshots → r.complete ≡ true

no_unfinished : (rs : List SnapshotRecord) (ns : Id) → ((r : SnapshotRecord) → In r rs → r.complete ≡ true) → unfinished_of rs ns ≡ None
no_unfinished [] ns all = refl
no_unfinished (r ∷ rs) ns all =
    let off : (same r.namespace ns && not r.complete) ≡ false = off_by (same r.namespace ns) r.complete (all r (inl refl)) in
    rw off (no_unfinished rs ns (λ q isin. all q (inr isin)))
  where
    off_by : (a b : Bool) → b ≡ true → (a && not b) ≡ false
    off_by true true e = refl
    off_by false true e = refl
    off_by a false e = absurd (true≢false (sym e))

complete_now : (m : Master) (id : Id) (r : SnapshotRecord) → AllComplete m → In r m.snapshots → r.id ≡ id → incomplete m.snapshots id ≡ None
complete_now m id r all isin is =
    let there : is_complete m.snapshots id ≡ true = any_in (λ q. same q.id id && q.complete) m.snapshots r isin (passes_both _ _ (subst (λ k. same r.id k ≡ true) is (same_self r.id)) (all r isin)) in
    ap (λ b. cond b None (Some id)) there

restoration_free : (state : RestorationState) (m : Master) (changes : List Made) (r : RestorationRecord) → AllComplete m → RestorationStateGood state m changes r → awaited_by_restoration state m r ≡ None
restoration_free Fencing m changes r all h = no_unfinished m.snapshots r.namespace all
restoration_free (Snapshotting point own) m changes r all h = complete_now m own h.snapshot all h.kept h.id_is
restoration_free _ m changes r all h = refl

clone_free : (state : CloneState) (m : Master) (r : CloneRecord) → AllComplete m → CloneStateGood state m r → awaited_by_clone state m r ≡ None
clone_free Accepted m r all h = cond_both (is_some (serving_clone m r)) None (unfinished_of m.snapshots r.source) (λ o. o ≡ None) (λ _. refl) (λ _. no_unfinished m.snapshots r.source all)
clone_free (CloneSnapshot own) m r all h = complete_now m own h.snapshot all h.kept h.id_is
clone_free _ m r all h = refl

waits : (o : Option Id) → o ≡ None → is_some o ≡ true → ⊥
waits o e is = true≢false (sym is ∙ ap is_some e)

none_unfinished : (m : Master) (changes : List Made) (p : Progress) → OperationsGood m changes → AllComplete m → is_some p.awaited ≡ true → Unfinished m p → ⊥
none_unfinished m changes p ops all awaits (OfSnapshot r kept still is) = true≢false (sym (all r kept) ∙ still)
none_unfinished m changes p ops all awaits (OfRestoration r kept still is) = waits p.awaited (sym (ap (λ q. q.awaited) is) ∙ restoration_free r.state m changes r all (ops.restorations r kept).in_state) awaits
none_unfinished m changes p ops all awaits (OfClone r kept still is) = waits p.awaited (sym (ap (λ q. q.awaited) is) ∙ clone_free r.state m r all (ops.clones r kept).in_state) awaits

empty_list : {A : Type 0} (xs : List A) → ((x : A) → In x xs → ⊥) → xs ≡ []
empty_list [] none = refl
empty_list (x ∷ xs) none = absurd (none x (inl refl))

pub always_next : (ps : Parts) (activity : List Interval) (changes : List Made) → Inv ps activity changes → AlwaysNext ps.master
always_next ps activity changes inv = λ none. (
    let m = ps.master in
    let awaits = none_chosen (unfinished_records m) m.sent none in
    let all : AllComplete m = λ r isin. by_tests r.complete (λ still. true≢false (sym (awaits (snapshot_progress r) (in_first (map snapshot_progress (filter (λ q. not q.complete) m.snapshots) ++ map (restoration_progress m) (filter (λ q. not (is_restored q.state)) m.restorations)) _ _
    (in_first (map snapshot_progress (filter (λ q. not q.complete) m.snapshots)) _ _ (map_in snapshot_progress (filter (λ q. not q.complete) m.snapshots) r (in_filter m.snapshots (λ q. not q.complete) r isin (ap not still)))))))) in
    empty_list (unfinished_records m) (λ p isin. none_unfinished m changes p inv.operations all (awaits p isin) (unfinished_is m p isin)))
  where
    by_tests : (b : Bool) → (b ≡ false → ⊥) → b ≡ true
    by_tests true h = refl
    by_tests false h = absurd (h refl)
