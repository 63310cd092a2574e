-- A send, a process and an ack that come next leave fewer events.
use Rattle.std.proofs.Common.{ℕ, ◌≡◌, ◌≤◌, ◌<◌, ◌+◌, ◌*◌, List, [], ◌∷◌, ◌++◌, Bool, true, false, cond, ◌&&◌, ◌||◌, Some, None, inl, refl, sym, ap, subst, ◌∙◌, arith, map, not, eqb, eqb-true, length, le_refl}
use Rattle.std.proofs.lemmas.Bool.{cond_both, true≢false}
use Rattle.std.proofs.lemmas.Bool.Decides.{nat_tests}
use Rattle.row_values.specs.Ids.{Id, Snapshot, Restoration, Clone, same}
use Rattle.row_values.specs.Elements.{In}
use Rattle.row_values.specs.Slots.{has}
use Rattle.row_values.specs.declared.rows.KeyedRow.{KeyedRow}
use Rattle.model.specs.Activity.{Interval}
use Rattle.model.specs.Journal.{Change as Made}
use Rattle.model.specs.Tablets.{Tablet, TabletAct, Clock, Offer, Process as Processes, Command, Mark, Body, Fence, Freeze, RestoreFrom, Hide, Copy, Release, kind_of, is_done, act_for, effect, obeyed, processed, ticked}
use Rattle.model.specs.Records.{Listed, Sent, SnapshotRecord, RestorationRecord, CloneRecord, is_restored, is_cloned, is_sent, first_unacked, unacked_at, acked_at, unsent_at}
use Rattle.model.specs.Acts.{Act, Send, Process, Ack, Reply, SentTo, Done, Acked, NotDone, Refused, OtherSlot}
use Rattle.model.specs.Parts.{Master, Parts, Outcome, Acks, Unsends}
use Rattle.model.specs.Coordination.{pending, sending, send, processing, process, acknowledging, ack, acked_by, acked as acked_master, command_for, source_slot, rows_for}
use Rattle.model.specs.Moves.{Progress, snapshot_progress, restoration_progress, clone_progress}
use Rattle.model.specs.Entries.{slots_of}
use Rattle.model.specs.History.{told}
use Rattle.law_store.proofs.Keys.{either_way}
use Rattle.law_invariants.specs.Invariant.{Inv, Later}
use Rattle.law_invariants.specs.Operations.{OperationsGood}
use Rattle.law_invariants.proofs.Finding.{both_pass, first_fails, second_fails, same_equal, same_self}
use Rattle.law_invariants.proofs.Frame.{touched, tells, slot_told}
use Rattle.law_invariants.proofs.Commanded.{IsPending, BySnapshot, ByRestoration, ByClone, pending_is}
use Rattle.law_commands.proofs.Acked.{ack_snapshot, ack_restoration, ack_clone}
use Rattle.law_drive.specs.Counting.{steps_left, slot_left, round_left, restoration_moves, restoration_rounds, clone_moves, clone_rounds, snapshot_left, restoration_left, clone_left, total, events_left_in}
use Rattle.law_drive.proofs.Totals.{total_most, total_less, total_mapped}
use Rattle.law_drive.proofs.Choosing.{Unfinished, OfSnapshot, OfRestoration, OfClone, progress_pending, first_at}
use Rattle.law_drive.proofs.Going.{judged_on, first_source}
use Rattle.law_drive.proofs.Steps.{eqb_self, less_most, slot_same, sent_with, sent_beside, with_offer, offer_beside, slot_sent, unsent_beside, slot_unsent, mark_of, slot_done, slot_processed}
use Rattle.law_drive.proofs.Falling.{added_less, added_most, SlotLess, AllOn, left_with, one_less, finished_on, unfinished_less, snapshots_on, restorations_on, clones_on}

-- fewer events are left of the records for the tablets in these slots
abbrev pub Falls : Parts → Parts → List ℕ → Type 0
Falls ps after slots = events_left_in after.master after.tablet slots < events_left_in ps.master ps.tablet slots

-- what the tablet of a slot is told
told_it : (act : Act) (reply : Reply) (slot : ℕ) (what : TabletAct) (n : ℕ) (ps : Parts) → touched act slot ≡ true → (told act (tells slot what reply) n ps).tablet slot ≡ effect what n (ps.tablet slot)
told_it act reply slot what n ps is =
    ap (λ b. cond b (effect (act_for (record { slot = slot; act = what } ∷ []) slot) n (ps.tablet slot)) (ps.tablet slot)) is
    ∙ ap (λ b. effect (cond b what Clock) n (ps.tablet slot)) (eqb_self slot)

-- a record with a pending command
record IsOf (m : Master) (operation : Id) : Type 0 where
  progress : Progress
  is_record : Unfinished m progress
  id_is : progress.id ≡ operation

record_of : (m : Master) (operation : Id) (slot : ℕ) (l : Listed) → IsPending m operation slot l → IsOf m operation
record_of m operation slot l (BySnapshot k) = record { progress = snapshot_progress k.snapshot; is_record = OfSnapshot k.snapshot k.kept k.unfinished refl; id_is = k.id_is }
record_of m operation slot l (ByRestoration k) = record { progress = restoration_progress m k.restoration; is_record = OfRestoration k.restoration k.kept k.unfinished refl; id_is = k.id_is }
record_of m operation slot l (ByClone k) = record { progress = clone_progress m k.clone; is_record = OfClone k.clone k.kept k.unfinished refl; id_is = k.id_is }

-- what the record of an operation with a pending command lists in the slot
line_of : (m : Master) (changes : List Made) (operation : Id) (slot : ℕ) (l : Listed) (p : Progress) → OperationsGood m changes → pending m operation slot ≡ Some l → Unfinished m p → p.id ≡ operation → unacked_at p.listed slot ≡ Some l
line_of m changes operation slot l p ops is record_ id_is = sym (progress_pending m changes p slot ops record_) ∙ ap (λ k. pending m k slot) id_is ∙ is

-- Send

send_touches : (operation : Id) (slot : ℕ) → 1 ≤ slot → touched (Send operation slot) slot ≡ true
send_touches operation slot from = grind (arith, nat_tests)

sent_falls : (ps : Parts) (changes : List Made) (n : ℕ) (operation : Id) (slot : ℕ) (l : Listed) (p : Progress) (slots : List ℕ) → OperationsGood ps.master changes → Later (slots_of (Send operation slot)) ps n → 1 ≤ slot
    → pending ps.master operation slot ≡ Some l → Unfinished ps.master p → p.id ≡ operation → is_sent ps.master.sent operation slot ≡ false → In slot slots → Falls ps (told (Send operation slot) (sending (Some l) operation slot) n ps) slots
sent_falls ps changes n operation slot l p slots ops later from is record_ id_is unsent_ isin =
    let m = ps.master in
    let act = Send operation slot in
    let c = command_for operation l in
    let new = sent_with m.sent operation slot in
    let after = (told act (tells slot (Offer c) SentTo) n ps).tablet in
    let P : Progress → ℕ → Tablet → Type 0 = λ q i t. slot_left new t.inbox t.done q.id i (unacked_at q.listed i) ≤ slot_left m.sent (ps.tablet i).inbox (ps.tablet i).done q.id i (unacked_at q.listed i) in
    let strict : slot_left new (with_offer c (ps.tablet slot).inbox (ps.tablet slot).done) (ps.tablet slot).done operation slot (Some l) + 1 ≤ slot_left m.sent (ps.tablet slot).inbox (ps.tablet slot).done operation slot (Some l)
    = slot_sent m.sent (ps.tablet slot).inbox (ps.tablet slot).done operation slot l unsent_ in
    let all : AllOn m new ps.tablet after = record {
      each = λ q unfinished. λ i. slot_told (P q) act SentTo slot (Offer c) n ps later (send_touches operation slot from) (λ j t le h. h)
          (λ j apart. slot_same m.sent new (ps.tablet j).inbox (ps.tablet j).inbox (ps.tablet j).done q.id j (unacked_at q.listed j) (sent_beside m.sent operation q.id slot j (second_fails _ _ apart)) (λ kind. refl))
          (either_way (same operation q.id)
          (λ e. let one = same_equal operation q.id e in
          let line = line_of m changes operation slot l q ops is unfinished (sym one) in
          subst (λ found. slot_left new (with_offer c (ps.tablet slot).inbox (ps.tablet slot).done) (ps.tablet slot).done q.id slot found ≤ slot_left m.sent (ps.tablet slot).inbox (ps.tablet slot).done q.id slot found) (sym line)
          (subst (λ k. slot_left new (with_offer c (ps.tablet slot).inbox (ps.tablet slot).done) (ps.tablet slot).done k slot (Some l) ≤ slot_left m.sent (ps.tablet slot).inbox (ps.tablet slot).done k slot (Some l)) one (less_most _ _ strict)))
          (λ e. slot_same m.sent new (ps.tablet slot).inbox (with_offer c (ps.tablet slot).inbox (ps.tablet slot).done) (ps.tablet slot).done q.id slot (unacked_at q.listed slot) (sent_beside m.sent operation q.id slot slot (first_fails _ _ e))
          (λ kind. offer_beside c (ps.tablet slot).inbox (ps.tablet slot).done q.id kind (λ one. true≢false (sym (subst (λ k. same operation k ≡ true) one (same_self operation)) ∙ e)))))
          i;
    } in
    one_less m new ps.tablet after slots p slot all record_ isin
    (subst (λ t. slot_left new t.inbox t.done p.id slot (unacked_at p.listed slot) + 1 ≤ slot_left m.sent (ps.tablet slot).inbox (ps.tablet slot).done p.id slot (unacked_at p.listed slot)) (sym (told_it act SentTo slot (Offer c) n ps (send_touches operation slot from)))
    (subst (λ found. slot_left new (with_offer c (ps.tablet slot).inbox (ps.tablet slot).done) (ps.tablet slot).done p.id slot found + 1 ≤ slot_left m.sent (ps.tablet slot).inbox (ps.tablet slot).done p.id slot found) (sym (line_of m changes operation slot l p ops is record_ id_is))
    (subst (λ k. slot_left new (with_offer c (ps.tablet slot).inbox (ps.tablet slot).done) (ps.tablet slot).done k slot (Some l) + 1 ≤ slot_left m.sent (ps.tablet slot).inbox (ps.tablet slot).done k slot (Some l)) (sym id_is) strict)))

pub send_falls : (ps : Parts) (activity : List Interval) (changes : List Made) (n : ℕ) (p : Progress) (l : Listed) (slots : List ℕ) → Inv ps activity changes → Unfinished ps.master p → first_unacked p.listed ≡ Some l
    → Later (slots_of (Send p.id l.slot)) ps n → 1 ≤ l.slot → is_sent ps.master.sent p.id l.slot ≡ false → In l.slot slots → Falls ps (told (Send p.id l.slot) (send p.id l.slot n ps) n ps) slots
unfolding send
send_falls ps activity changes n p l slots inv record_ first later from unsent_ isin =
    let is : pending ps.master p.id l.slot ≡ Some l = progress_pending ps.master changes p l.slot inv.operations record_ ∙ first_at p.listed l first in
    subst (λ found. Falls ps (told (Send p.id l.slot) (sending found p.id l.slot) n ps) slots) (sym is) (sent_falls ps changes n p.id l.slot l p slots inv.operations later from is record_ refl unsent_ isin)

-- Process

process_touches : (slot other : ℕ) → 1 ≤ slot → touched (Process slot other) slot ≡ true
process_touches slot other from = grind (arith, nat_tests)

obeyed_marks : (body : Body) (operation tablet : Id) (rows : List KeyedRow) (t : Tablet) → (obeyed body operation tablet rows t).done ≡ t.done
obeyed_marks Fence operation tablet rows t = refl
obeyed_marks (Freeze snapshot at) operation tablet rows t = refl
obeyed_marks (RestoreFrom snapshot to point version) operation tablet rows t = refl
obeyed_marks (Hide ended) operation tablet rows t = refl
obeyed_marks (Copy source snapshot to stamp table low high version) operation tablet rows t = refl
obeyed_marks (Release cutoff) operation tablet rows t = refl

-- the first command is done, and marked
first_done : (c : Command) (cs : List Command) (rows : List KeyedRow) (n : ℕ) (t : Tablet) → (processed (c ∷ cs) rows n t).done ≡ t.done ++ mark_of c ∷ []
first_done c cs rows n t = ap (λ done. done ++ mark_of c ∷ []) (obeyed_marks c.body c.operation c.tablet rows t)

processed_falls : (ps : Parts) (activity : List Interval) (changes : List Made) (n slot other : ℕ) (rows : List KeyedRow) (reply : Reply) (c : Command) (cs : List Command) (slots : List ℕ) → Inv ps activity changes → Later (slots_of (Process slot other)) ps n
    → 1 ≤ slot → (ps.tablet slot).inbox ≡ c ∷ cs → In slot slots → Falls ps (told (Process slot other) (tells slot (Processes rows) reply) n ps) slots
processed_falls ps activity changes n slot other rows reply c cs slots inv later from held isin =
    let m = ps.master in
    let act = Process slot other in
    let t = ps.tablet slot in
    let after = (told act (tells slot (Processes rows) reply) n ps).tablet in
    let there : In c t.inbox = subst (In c) (sym held) (inl refl) in
    let orders = (inv.works slot).orders in
    let fresh = orders.fresh c there in
    let order = orders.orders c there in
    let line : Listed = record { tablet = c.tablet; slot = slot; body = c.body; acked = false } in
    let owner = record_of m c.operation slot line (pending_is m c.operation slot line order.is_pending) in
    let p = owner.progress in
    let P : Progress → ℕ → Tablet → Type 0 = λ q i u. slot_left m.sent u.inbox u.done q.id i (unacked_at q.listed i) ≤ slot_left m.sent (ps.tablet i).inbox (ps.tablet i).done q.id i (unacked_at q.listed i) in
    let all : AllOn m m.sent ps.tablet after = record {
      each = λ q unfinished. λ i. slot_told (P q) act reply slot (Processes rows) n ps later (process_touches slot other from) (λ j u le h. h) (λ j apart. le_refl _)
          (subst (λ inbox. slot_left m.sent (processed inbox rows n t).inbox (processed inbox rows n t).done q.id slot (unacked_at q.listed slot) ≤ slot_left m.sent inbox t.done q.id slot (unacked_at q.listed slot)) (sym held)
          (subst (λ done. slot_left m.sent cs done q.id slot (unacked_at q.listed slot) ≤ slot_left m.sent (c ∷ cs) t.done q.id slot (unacked_at q.listed slot)) (sym (first_done c cs rows n t))
          (slot_processed m.sent c cs t.done q.id slot (unacked_at q.listed slot) fresh)))
          i;
    } in
    let less : SlotLess m.sent m.sent ps.tablet after p.id p.listed slot =
    subst (λ u. slot_left m.sent u.inbox u.done p.id slot (unacked_at p.listed slot) + 1 ≤ slot_left m.sent t.inbox t.done p.id slot (unacked_at p.listed slot)) (sym (told_it act reply slot (Processes rows) n ps (process_touches slot other from)))
    (subst (λ inbox. slot_left m.sent (processed inbox rows n t).inbox (processed inbox rows n t).done p.id slot (unacked_at p.listed slot) + 1 ≤ slot_left m.sent inbox t.done p.id slot (unacked_at p.listed slot)) (sym held)
    (subst (λ done. slot_left m.sent cs done p.id slot (unacked_at p.listed slot) + 1 ≤ slot_left m.sent (c ∷ cs) t.done p.id slot (unacked_at p.listed slot)) (sym (first_done c cs rows n t))
    (subst (λ found. slot_left m.sent cs (t.done ++ mark_of c ∷ []) p.id slot found + 1 ≤ slot_left m.sent (c ∷ cs) t.done p.id slot found) (sym (line_of m changes c.operation slot line p inv.operations order.is_pending owner.is_record owner.id_is))
    (subst (λ k. slot_left m.sent cs (t.done ++ mark_of c ∷ []) k slot (Some line) + 1 ≤ slot_left m.sent (c ∷ cs) t.done k slot (Some line)) (sym owner.id_is) (slot_done m.sent c cs t.done slot line fresh refl))))) in
    let falls : left_with m m.sent after slots < events_left_in m ps.tablet slots = one_less m m.sent ps.tablet after slots p slot all owner.is_record isin less in
    cond_both (has (slots_of act) 0) (record m { clock = n }) m (λ k. events_left_in k after slots < events_left_in m ps.tablet slots) (λ _. falls) (λ _. falls)

pub process_falls : (ps : Parts) (activity : List Interval) (changes : List Made) (n : ℕ) (p : Progress) (l : Listed) (c : Command) (cs : List Command) (slots : List ℕ) → Inv ps activity changes → Unfinished ps.master p → first_unacked p.listed ≡ Some l
    → Later (slots_of (Process l.slot (source_slot l.slot l.body))) ps n → 1 ≤ l.slot → (ps.tablet l.slot).inbox ≡ c ∷ cs → In l.slot slots
    → Falls ps (told (Process l.slot (source_slot l.slot l.body)) (process l.slot (source_slot l.slot l.body) n ps) n ps) slots
unfolding process
process_falls ps activity changes n p l c cs slots inv record_ first later from held isin =
    let other = source_slot l.slot l.body in
    let slot = l.slot in
    let rows = rows_for c.body (ps.tablet other).frozen in
    let reply = Done c.operation (kind_of c.body) in
    let one : processing (ps.tablet slot).inbox slot other (ps.tablet other) ≡ tells slot (Processes rows) reply =
    ap (λ inbox. processing inbox slot other (ps.tablet other)) held
    ∙ judged_on (not (eqb other (source_slot slot c.body))) (OtherSlot (source_slot slot c.body)) (tells slot (Processes rows) reply)
    (subst (λ k. not (eqb other k) ≡ false) (first_source ps activity changes inv p l c cs record_ first held) (ap not (eqb_self other))) in
    subst (λ o. Falls ps (told (Process slot other) o n ps) slots) (sym one) (processed_falls ps activity changes n slot other rows reply c cs slots inv later from held isin)

-- Ack

-- tablets that set their clocks alone
abbrev pub clocks_set : Act → ℕ → Parts → ℕ → Tablet
clocks_set act n ps i = cond (touched act i) (ticked n (ps.tablet i)) (ps.tablet i)

pub as_before : (act : Act) (n : ℕ) (ps : Parts) (i : ℕ) (P : List Command → List Mark → Type 0) → P (ps.tablet i).inbox (ps.tablet i).done → P (clocks_set act n ps i).inbox (clocks_set act n ps i).done
as_before act n ps i P h = cond_both (touched act i) (ticked n (ps.tablet i)) (ps.tablet i) (λ t. P t.inbox t.done) (λ _. h) (λ _. h)

unsent_falls : (ps : Parts) (changes : List Made) (n : ℕ) (operation : Id) (slot : ℕ) (l : Listed) (p : Progress) (slots : List ℕ) → OperationsGood ps.master changes → pending ps.master operation slot ≡ Some l → Unfinished ps.master p → p.id ≡ operation
    → is_sent ps.master.sent operation slot ≡ true → (ps.tablet slot).inbox ≡ [] → is_done (ps.tablet slot).done operation (kind_of l.body) ≡ false → In slot slots
    → Falls ps (told (Ack operation slot) (record { master = Unsends operation slot; tablets = []; reply = Refused NotDone }) n ps) slots
unsent_falls ps changes n operation slot l p slots ops is record_ id_is sent held undone isin =
    let m = ps.master in
    let act = Ack operation slot in
    let t = ps.tablet slot in
    let new = unsent_at operation slot m.sent in
    let after = clocks_set act n ps in
    let strict : slot_left new t.inbox t.done operation slot (Some l) + 1 ≤ slot_left m.sent t.inbox t.done operation slot (Some l) =
    subst (λ inbox. slot_left new inbox t.done operation slot (Some l) + 1 ≤ slot_left m.sent inbox t.done operation slot (Some l)) (sym held) (slot_unsent m.sent t.done operation slot l sent undone) in
    let here : (q : Progress) → Unfinished m q → q.id ≡ operation → slot_left new t.inbox t.done q.id slot (unacked_at q.listed slot) + 1 ≤ slot_left m.sent t.inbox t.done q.id slot (unacked_at q.listed slot) = λ q unfinished one.
    subst (λ found. slot_left new t.inbox t.done q.id slot found + 1 ≤ slot_left m.sent t.inbox t.done q.id slot found) (sym (line_of m changes operation slot l q ops is unfinished one))
    (subst (λ k. slot_left new t.inbox t.done k slot (Some l) + 1 ≤ slot_left m.sent t.inbox t.done k slot (Some l)) (sym one) strict) in
    let all : AllOn m new ps.tablet after = record {
      each = λ q unfinished. λ i. as_before act n ps i (λ inbox done. slot_left new inbox done q.id i (unacked_at q.listed i) ≤ slot_left m.sent (ps.tablet i).inbox (ps.tablet i).done q.id i (unacked_at q.listed i))
          (either_way (same operation q.id && eqb slot i)
          (λ e. let b = both_pass (same operation q.id) (eqb slot i) e in
          subst (λ j. slot_left new (ps.tablet j).inbox (ps.tablet j).done q.id j (unacked_at q.listed j) ≤ slot_left m.sent (ps.tablet j).inbox (ps.tablet j).done q.id j (unacked_at q.listed j)) (eqb-true slot i b.1)
          (less_most _ _ (here q unfinished (sym (same_equal operation q.id b.0)))))
          (λ e. slot_same m.sent new (ps.tablet i).inbox (ps.tablet i).inbox (ps.tablet i).done q.id i (unacked_at q.listed i) (unsent_beside m.sent operation q.id slot i e) (λ kind. refl)));
    } in
    one_less m new ps.tablet after slots p slot all record_ isin
    (as_before act n ps slot (λ inbox done. slot_left new inbox done p.id slot (unacked_at p.listed slot) + 1 ≤ slot_left m.sent t.inbox t.done p.id slot (unacked_at p.listed slot)) (here p record_ id_is))

-- an ack takes what its slot has left, and nothing else

none_left : (ls : List Listed) (slot : ℕ) → unacked_at (acked_at slot ls) slot ≡ None
none_left [] slot = refl
none_left (k ∷ ls) slot =
    let off : (eqb k.slot slot && not (k.acked || eqb k.slot slot)) ≡ false = never (eqb k.slot slot) k.acked in
    ap (λ b. cond b (Some (record k { acked = k.acked || eqb k.slot slot })) (unacked_at (acked_at slot ls) slot)) off ∙ none_left ls slot
  where
    never : (a b : Bool) → (a && not (b || a)) ≡ false
    never true true = refl
    never true false = refl
    never false b = refl

others_stay : (sent : List Sent) (inbox : List Command) (done : List Mark) (id : Id) (slot i : ℕ) (ls : List Listed) → eqb slot i ≡ false → slot_left sent inbox done id i (unacked_at (acked_at slot ls) i) ≤ slot_left sent inbox done id i (unacked_at ls i)
others_stay sent inbox done id slot i [] apart = le_refl 0
others_stay sent inbox done id slot i (k ∷ ls) apart =
    let rest = others_stay sent inbox done id slot i ls apart in
    let k_then : Listed = record k { acked = k.acked || eqb k.slot slot } in
    either_way (eqb k.slot i && not k.acked)
    (λ e. let b = both_pass (eqb k.slot i) (not k.acked) e in
    let other : eqb k.slot slot ≡ false = other_slot k.slot slot i (eqb-true k.slot i b.0) apart in
    let still : (eqb k.slot i && not (k.acked || eqb k.slot slot)) ≡ true = ap (λ c. eqb k.slot i && not (k.acked || c)) other ∙ no_or (eqb k.slot i) k.acked ∙ e in
    subst (λ c. slot_left sent inbox done id i (cond c (Some k_then) (unacked_at (acked_at slot ls) i)) ≤ slot_left sent inbox done id i (cond (eqb k.slot i && not k.acked) (Some k) (unacked_at ls i))) (sym still)
    (subst (λ c. slot_left sent inbox done id i (Some k_then) ≤ slot_left sent inbox done id i (cond c (Some k) (unacked_at ls i))) (sym e) (le_refl _)))
    (λ e. let off : (eqb k.slot i && not (k.acked || eqb k.slot slot)) ≡ false = still_off (eqb k.slot i) k.acked (eqb k.slot slot) e in
    subst (λ c. slot_left sent inbox done id i (cond c (Some k_then) (unacked_at (acked_at slot ls) i)) ≤ slot_left sent inbox done id i (cond (eqb k.slot i && not k.acked) (Some k) (unacked_at ls i))) (sym off)
    (subst (λ c. slot_left sent inbox done id i (unacked_at (acked_at slot ls) i) ≤ slot_left sent inbox done id i (cond c (Some k) (unacked_at ls i))) (sym e) rest))
  where
    other_slot : (a b c : ℕ) → a ≡ c → eqb b c ≡ false → eqb a b ≡ false
    other_slot a b c e f = grind (arith, nat_tests)

    no_or : (a b : Bool) → (a && not (b || false)) ≡ (a && not b)
    no_or a true = refl
    no_or a false = refl

    still_off : (a b c : Bool) → (a && not b) ≡ false → (a && not (b || c)) ≡ false
    still_off false b c e = refl
    still_off true true c e = refl
    still_off true false c e = absurd (true≢false e)

acked_on : (b : Bool) (sent : List Sent) (inbox : List Command) (done : List Mark) (id : Id) (slot i : ℕ) (ls : List Listed) → slot_left sent inbox done id i (unacked_at (cond b (acked_at slot ls) ls) i) ≤ slot_left sent inbox done id i (unacked_at ls i)
acked_on false sent inbox done id slot i ls = le_refl _
acked_on true sent inbox done id slot i ls = either_way (eqb slot i)
    (λ e. subst (λ j. slot_left sent inbox done id j (unacked_at (acked_at slot ls) j) ≤ slot_left sent inbox done id j (unacked_at ls j)) (eqb-true slot i e)
    (subst (λ found. slot_left sent inbox done id slot found ≤ slot_left sent inbox done id slot (unacked_at ls slot)) (sym (none_left ls slot)) (omega arith)))
    (λ e. others_stay sent inbox done id slot i ls e)

some_step : (a b c : Bool) → 1 ≤ steps_left a b c
some_step true b true = omega arith
some_step false b true = omega arith
some_step true true false = omega arith
some_step true false false = omega arith
some_step false b false = omega arith

round_acked : (act : Act) (n : ℕ) (ps : Parts) (sent : List Sent) (b : Bool) (id : Id) (slot : ℕ) (ls : List Listed) (slots : List ℕ) → round_left sent (clocks_set act n ps) id (cond b (acked_at slot ls) ls) slots ≤ round_left sent ps.tablet id ls slots
round_acked act n ps sent b id slot ls slots = total_most {A = ℕ} (λ i. slot_left sent (clocks_set act n ps i).inbox (clocks_set act n ps i).done id i (unacked_at (cond b (acked_at slot ls) ls) i)) (λ i. slot_left sent (ps.tablet i).inbox (ps.tablet i).done id i (unacked_at ls i)) slots
    (λ i _. as_before act n ps i (λ inbox done. slot_left sent inbox done id i (unacked_at (cond b (acked_at slot ls) ls) i) ≤ slot_left sent (ps.tablet i).inbox (ps.tablet i).done id i (unacked_at ls i))
    (acked_on b sent (ps.tablet i).inbox (ps.tablet i).done id slot i ls))

round_acked_less : (act : Act) (n : ℕ) (ps : Parts) (sent : List Sent) (b : Bool) (id : Id) (slot : ℕ) (ls : List Listed) (slots : List ℕ) (l : Listed) → b ≡ true → unacked_at ls slot ≡ Some l → In slot slots
    → round_left sent (clocks_set act n ps) id (cond b (acked_at slot ls) ls) slots + 1 ≤ round_left sent ps.tablet id ls slots
round_acked_less act n ps sent b id slot ls slots l is found isin = total_less {A = ℕ} (λ i. slot_left sent (clocks_set act n ps i).inbox (clocks_set act n ps i).done id i (unacked_at (cond b (acked_at slot ls) ls) i)) (λ i. slot_left sent (ps.tablet i).inbox (ps.tablet i).done id i (unacked_at ls i)) slots 1 slot
    (λ i _. as_before act n ps i (λ inbox done. slot_left sent inbox done id i (unacked_at (cond b (acked_at slot ls) ls) i) ≤ slot_left sent (ps.tablet i).inbox (ps.tablet i).done id i (unacked_at ls i))
    (acked_on b sent (ps.tablet i).inbox (ps.tablet i).done id slot i ls))
    isin
    (let t = ps.tablet slot in
    as_before act n ps slot (λ inbox done. slot_left sent inbox done id slot (unacked_at (cond b (acked_at slot ls) ls) slot) + 1 ≤ slot_left sent t.inbox t.done id slot (unacked_at ls slot))
    (subst (λ c. slot_left sent t.inbox t.done id slot (unacked_at (cond c (acked_at slot ls) ls) slot) + 1 ≤ slot_left sent t.inbox t.done id slot (unacked_at ls slot)) (sym is)
    (subst (λ k. slot_left sent t.inbox t.done id slot k + 1 ≤ slot_left sent t.inbox t.done id slot (unacked_at ls slot)) (sym (none_left ls slot))
    (subst (λ k. 0 + 1 ≤ slot_left sent t.inbox t.done id slot k) (sym found) (some_step _ _ _)))))

-- the other records' rounds
rounds_on : (act : Act) (n : ℕ) (ps : Parts) → AllOn ps.master ps.master.sent ps.tablet (clocks_set act n ps)
rounds_on act n ps = record {
  each = λ q unfinished. λ i. as_before act n ps i (λ inbox done. slot_left ps.master.sent inbox done q.id i (unacked_at q.listed i) ≤ slot_left ps.master.sent (ps.tablet i).inbox (ps.tablet i).done q.id i (unacked_at q.listed i)) (le_refl _);
}

snapshot_acks : (act : Act) (ps : Parts) (n : ℕ) (r : SnapshotRecord) (slot : ℕ) (l : Listed) (slots : List ℕ) → In r ps.master.snapshots → r.complete ≡ false → unacked_at r.listed slot ≡ Some l → In slot slots
    → events_left_in (acked_by Snapshot r.id slot n ps.master) (clocks_set act n ps) slots < events_left_in ps.master ps.tablet slots
snapshot_acks act ps n r slot l slots kept still found isin =
    let m = ps.master in
    let after = clocks_set act n ps in
    let h = ack_snapshot r.id slot in
    let f = snapshot_left m.sent after slots in
    let a : total (λ q. f (h q)) m.snapshots + 1 ≤ total (snapshot_left m.sent ps.tablet slots) m.snapshots = total_less (λ q. f (h q)) (snapshot_left m.sent ps.tablet slots) m.snapshots 1 r
    (λ q inq. finished_on q.complete _ _ (λ _. added_most 1 _ _ (round_acked act n ps m.sent (same q.id r.id) q.id slot q.listed slots)))
    kept
    (unfinished_less r.complete _ _ still (added_less 1 _ _ (round_acked_less act n ps m.sent (same r.id r.id) r.id slot r.listed slots l (same_self r.id) found isin))) in
    let e : total f (map h m.snapshots) ≡ total (λ q. f (h q)) m.snapshots = total_mapped f h m.snapshots in
    let b = total_most (restoration_left m.sent after slots) (restoration_left m.sent ps.tablet slots) m.restorations (restorations_on m m.sent ps.tablet after slots (rounds_on act n ps)) in
    let c = total_most (clone_left m.sent after slots) (clone_left m.sent ps.tablet slots) m.clones (clones_on m m.sent ps.tablet after slots (rounds_on act n ps)) in
    sums _ _ _ _ _ _ _ e a b c
  where
    sums : (x x' y z u v w : ℕ) → x ≡ x' → x' + 1 ≤ u → y ≤ v → z ≤ w → x + y + z < u + v + w
    sums x x' y z u v w e a b c = omega (arith, e, a, b, c)

restoration_acks : (act : Act) (ps : Parts) (n : ℕ) (r : RestorationRecord) (slot : ℕ) (l : Listed) (slots : List ℕ) → In r ps.master.restorations → is_restored r.state ≡ false → unacked_at r.listed slot ≡ Some l → In slot slots
    → events_left_in (acked_by Restoration r.id slot n ps.master) (clocks_set act n ps) slots < events_left_in ps.master ps.tablet slots
restoration_acks act ps n r slot l slots kept still found isin =
    let m = ps.master in
    let after = clocks_set act n ps in
    let h = ack_restoration r.id slot in
    let f = restoration_left m.sent after slots in
    let b : total (λ q. f (h q)) m.restorations + 1 ≤ total (restoration_left m.sent ps.tablet slots) m.restorations = total_less (λ q. f (h q)) (restoration_left m.sent ps.tablet slots) m.restorations 1 r
    (λ q inq. finished_on (is_restored q.state) _ _ (λ _. added_most (restoration_moves q.state + 4 * length slots * restoration_rounds q.state) _ _ (round_acked act n ps m.sent (same q.id r.id) q.id slot q.listed slots)))
    kept
    (unfinished_less (is_restored r.state) _ _ still (added_less (restoration_moves r.state + 4 * length slots * restoration_rounds r.state) _ _ (round_acked_less act n ps m.sent (same r.id r.id) r.id slot r.listed slots l (same_self r.id) found isin))) in
    let e : total f (map h m.restorations) ≡ total (λ q. f (h q)) m.restorations = total_mapped f h m.restorations in
    let a = total_most (snapshot_left m.sent after slots) (snapshot_left m.sent ps.tablet slots) m.snapshots (snapshots_on m m.sent ps.tablet after slots (rounds_on act n ps)) in
    let c = total_most (clone_left m.sent after slots) (clone_left m.sent ps.tablet slots) m.clones (clones_on m m.sent ps.tablet after slots (rounds_on act n ps)) in
    sums _ _ _ _ _ _ _ e a b c
  where
    sums : (x y y' z u v w : ℕ) → y ≡ y' → x ≤ u → y' + 1 ≤ v → z ≤ w → x + y + z < u + v + w
    sums x y y' z u v w e a b c = omega (arith, e, a, b, c)

clone_acks : (act : Act) (ps : Parts) (n : ℕ) (r : CloneRecord) (slot : ℕ) (l : Listed) (slots : List ℕ) → In r ps.master.clones → is_cloned r.state ≡ false → unacked_at r.listed slot ≡ Some l → In slot slots
    → events_left_in (acked_by Clone r.id slot n ps.master) (clocks_set act n ps) slots < events_left_in ps.master ps.tablet slots
clone_acks act ps n r slot l slots kept still found isin =
    let m = ps.master in
    let after = clocks_set act n ps in
    let h = ack_clone r.id slot in
    let f = clone_left m.sent after slots in
    let c : total (λ q. f (h q)) m.clones + 1 ≤ total (clone_left m.sent ps.tablet slots) m.clones = total_less (λ q. f (h q)) (clone_left m.sent ps.tablet slots) m.clones 1 r
    (λ q inq. finished_on (is_cloned q.state) _ _ (λ _. added_most (clone_moves q.state + 4 * length slots * clone_rounds q.state) _ _ (round_acked act n ps m.sent (same q.id r.id) q.id slot q.listed slots)))
    kept
    (unfinished_less (is_cloned r.state) _ _ still (added_less (clone_moves r.state + 4 * length slots * clone_rounds r.state) _ _ (round_acked_less act n ps m.sent (same r.id r.id) r.id slot r.listed slots l (same_self r.id) found isin))) in
    let e : total f (map h m.clones) ≡ total (λ q. f (h q)) m.clones = total_mapped f h m.clones in
    let a = total_most (snapshot_left m.sent after slots) (snapshot_left m.sent ps.tablet slots) m.snapshots (snapshots_on m m.sent ps.tablet after slots (rounds_on act n ps)) in
    let b = total_most (restoration_left m.sent after slots) (restoration_left m.sent ps.tablet slots) m.restorations (restorations_on m m.sent ps.tablet after slots (rounds_on act n ps)) in
    sums _ _ _ _ _ _ _ e a b c
  where
    sums : (x y z z' u v w : ℕ) → z ≡ z' → x ≤ u → y ≤ v → z' + 1 ≤ w → x + y + z < u + v + w
    sums x y z z' u v w e a b c = omega (arith, e, a, b, c)

acks_falls : (act : Act) (ps : Parts) (changes : List Made) (n : ℕ) (p : Progress) (slot : ℕ) (l : Listed) (slots : List ℕ) → OperationsGood ps.master changes → Unfinished ps.master p → unacked_at p.listed slot ≡ Some l → In slot slots
    → events_left_in (acked_master p.id slot n ps.master) (clocks_set act n ps) slots < events_left_in ps.master ps.tablet slots
acks_falls act ps changes n p slot l slots ops (OfSnapshot r kept still is) found isin =
    subst (λ q. events_left_in (acked_master q.id slot n ps.master) (clocks_set act n ps) slots < events_left_in ps.master ps.tablet slots) is
    (subst (λ k. events_left_in (acked_by k r.id slot n ps.master) (clocks_set act n ps) slots < events_left_in ps.master ps.tablet slots) (sym (ops.snapshots r kept).kind_is)
    (snapshot_acks act ps n r slot l slots kept still (ap (λ q. unacked_at q.listed slot) is ∙ found) isin))
acks_falls act ps changes n p slot l slots ops (OfRestoration r kept still is) found isin =
    subst (λ q. events_left_in (acked_master q.id slot n ps.master) (clocks_set act n ps) slots < events_left_in ps.master ps.tablet slots) is
    (subst (λ k. events_left_in (acked_by k r.id slot n ps.master) (clocks_set act n ps) slots < events_left_in ps.master ps.tablet slots) (sym (ops.restorations r kept).kind_is)
    (restoration_acks act ps n r slot l slots kept still (ap (λ q. unacked_at q.listed slot) is ∙ found) isin))
acks_falls act ps changes n p slot l slots ops (OfClone r kept still is) found isin =
    subst (λ q. events_left_in (acked_master q.id slot n ps.master) (clocks_set act n ps) slots < events_left_in ps.master ps.tablet slots) is
    (subst (λ k. events_left_in (acked_by k r.id slot n ps.master) (clocks_set act n ps) slots < events_left_in ps.master ps.tablet slots) (sym (ops.clones r kept).kind_is)
    (clone_acks act ps n r slot l slots kept still (ap (λ q. unacked_at q.listed slot) is ∙ found) isin))

pub ack_falls : (ps : Parts) (activity : List Interval) (changes : List Made) (n : ℕ) (p : Progress) (l : Listed) (slots : List ℕ) → Inv ps activity changes → Unfinished ps.master p → first_unacked p.listed ≡ Some l
    → is_sent ps.master.sent p.id l.slot ≡ true → (ps.tablet l.slot).inbox ≡ [] → In l.slot slots → Falls ps (told (Ack p.id l.slot) (ack p.id l.slot n ps) n ps) slots
unfolding ack
ack_falls ps activity changes n p l slots inv record_ first sent held isin =
    let ops = inv.operations in
    let slot = l.slot in
    let found = first_at p.listed l first in
    let is : pending ps.master p.id slot ≡ Some l = progress_pending ps.master changes p slot ops record_ ∙ found in
    let P : Outcome → Type 0 = λ o. Falls ps (told (Ack p.id slot) o n ps) slots in
    subst (λ k. P (acknowledging k p.id slot (ps.tablet slot))) (sym is)
    (cond_both (is_done (ps.tablet slot).done p.id (kind_of l.body)) (record { master = Acks p.id slot; tablets = []; reply = Acked }) (record { master = Unsends p.id slot; tablets = []; reply = Refused NotDone }) P
    (λ _. acks_falls (Ack p.id slot) ps changes n p slot l slots ops record_ found isin)
    (λ undone. unsent_falls ps changes n p.id slot l p slots ops is record_ refl sent held undone isin))
