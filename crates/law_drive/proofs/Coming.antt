-- The events that are left fall with each that comes next, so they come to their end.
use Rattle.std.proofs.Common.{ℕ, ◌≡◌, ◌≤◌, ◌<◌, zero, suc, List, [], ◌∷◌, Option, Some, None, refl, sym, subst, ◌∙◌, arith, lt_of_le_of_lt}
use Rattle.std.specs.Option.{option_map, option_map_or}
use Rattle.std.proofs.lemmas.Bool.{cond_both}
use Rattle.row_values.specs.Ids.{Id}
use Rattle.row_values.specs.Elements.{In}
use Rattle.row_values.specs.Slots.{has}
use Rattle.model.specs.Activity.{Interval}
use Rattle.model.specs.Journal.{Change as Made}
use Rattle.model.specs.Tablets.{Tablet, Command, kind_of, is_done}
use Rattle.model.specs.Records.{Listed, first_unacked}
use Rattle.model.specs.Acts.{WorkItem, Refusal, Act, Send, Process, Ack, Advance, Acked, NotDone, Refused}
use Rattle.model.specs.Parts.{Parts, Outcome, Ticks, Acks, Unsends, unless}
use Rattle.model.specs.Coordination.{pending, sending, send, processing, process, acknowledging, ack, source_slot}
use Rattle.model.specs.Moves.{Progress}
use Rattle.model.specs.Work.{next_act, unfinished_records, next_work, act_of_work}
use Rattle.model.specs.Entries.{slots_of, ActAsked, Entry}
use Rattle.model.specs.History.{outcome, told, master_effect, with_changes, Legal, replay, activity_of, journal_of}
use Rattle.model.specs.Settling.{left, event_of, stamp_under, after_act, after_acts, replies_under, coordinated, EachGoesOn, Settles}
use Rattle.law_invariants.specs.Remembered.{activity_after}
use Rattle.law_invariants.specs.Invariant.{Inv, Later}
use Rattle.law_invariants.proofs.Finding.{none_or_some}
use Rattle.law_invariants.proofs.Commanded.{pending_is}
use Rattle.law_retention.specs.Facts.{Facts}
use Rattle.law_retention.proofs.Lasting.{rows_found}
use Rattle.law_retention.proofs.Taking.{act_keeps_facts}
use Rattle.law.proofs.Law.{act_keeps, stamps_later, legal_holds}
use Rattle.law.proofs.Slots.{replay_slots}
use Rattle.law.proofs.Working.{NextFits, next_fits}
use Rattle.law_drive.specs.Counting.{slots_taken, events_left}
use Rattle.law_drive.proofs.Totals.{within_left}
use Rattle.law_drive.proofs.Choosing.{Choice, ChoseSend, ChoseAck, ChoseProcess, ChoseMove, choice, progress_pending, first_at, always_next, Unfinished}
use Rattle.law_drive.proofs.Going.{goes_on, rows_from}
use Rattle.law_drive.proofs.Acting.{Falls, send_falls, process_falls, ack_falls}
use Rattle.law_drive.proofs.Moving.{advance_falls, advance_moves}
use Rattle.law_drive.proofs.Taken.{TakesNone, takes_none, ack_takes_none, move_takes_none, rows_taken, left_fewer}

-- the stamp of an act is later than the clocks of what it touches
pub later_under : (reading : ℕ) (act : Act) (ps : Parts) → Later (slots_of act) ps (stamp_under reading act ps)
later_under reading act ps = stamps_later (record { number = 0; event = event_of reading act; stamp = stamp_under reading act ps; reply = Acked }) ps refl

-- where fewer are left for the tablets in the slots that were taken, fewer are left
falls_by : (ps after : Parts) → TakesNone ps.master after.master → Falls ps after (slots_taken ps.master) → events_left after < events_left ps
falls_by ps after none less = lt_of_le_of_lt (left_fewer ps.master after.master after.tablet none) less

-- the slot of a listed tablet without ack
taken_slot : (ps : Parts) (activity : List Interval) (changes : List Made) (p : Progress) (l : Listed) → Inv ps activity changes → Unfinished ps.master p → first_unacked p.listed ≡ Some l → In l.slot (slots_taken ps.master) × (1 ≤ l.slot)
taken_slot ps activity changes p l inv record_ first =
    rows_taken ps activity changes l.slot l inv (rows_from ps.master changes p.id l.slot l inv.operations (pending_is ps.master p.id l.slot l (progress_pending ps.master changes p l.slot inv.operations record_ ∙ first_at p.listed l first)))

send_takes : (ps : Parts) (operation : Id) (slot n : ℕ) (found : Option Listed) → TakesNone ps.master (told (Send operation slot) (sending found operation slot) n ps).master
send_takes ps operation slot n None = record { slots = refl; each = λ i taken. taken }
send_takes ps operation slot n (Some l) = record { slots = refl; each = λ i taken. taken }

send_none : (ps : Parts) (operation : Id) (slot n : ℕ) → TakesNone ps.master (told (Send operation slot) (send operation slot n ps) n ps).master
unfolding send
send_none ps operation slot n = send_takes ps operation slot n (pending ps.master operation slot)

ack_takes : (ps : Parts) (operation : Id) (slot n : ℕ) (found : Option Listed) → TakesNone ps.master (told (Ack operation slot) (acknowledging found operation slot (ps.tablet slot)) n ps).master
ack_takes ps operation slot n None = record { slots = refl; each = λ i taken. taken }
ack_takes ps operation slot n (Some l) =
    cond_both (is_done (ps.tablet slot).done operation (kind_of l.body)) (record { master = Acks operation slot; tablets = []; reply = Acked }) (record { master = Unsends operation slot; tablets = []; reply = Refused NotDone })
    (λ (o : Outcome). TakesNone ps.master (told (Ack operation slot) o n ps).master)
    (λ _. ack_takes_none ps.master operation slot n)
    (λ _. record { slots = refl; each = λ i taken. taken })

ack_none : (ps : Parts) (operation : Id) (slot n : ℕ) → TakesNone ps.master (told (Ack operation slot) (ack operation slot n ps) n ps).master
unfolding ack
ack_none ps operation slot n = ack_takes ps operation slot n (pending ps.master operation slot)

unless_ticks : (why : Option Refusal) (o : Outcome) → o.master ≡ Ticks → (unless why o).master ≡ Ticks
unless_ticks (Some why) o e = refl
unless_ticks None o e = e

pub processing_ticks : (inbox : List Command) (slot other : ℕ) (source : Tablet) → (processing inbox slot other source).master ≡ Ticks
processing_ticks [] slot other source = refl
processing_ticks (c ∷ cs) slot other source = unless_ticks _ _ refl

process_none : (ps : Parts) (slot other n : ℕ) → TakesNone ps.master (told (Process slot other) (process slot other n ps) n ps).master
unfolding process
process_none ps slot other n =
    let ticks = processing_ticks (ps.tablet slot).inbox slot other (ps.tablet other) in
    let act = Process slot other in
    cond_both (has (slots_of act) 0) (master_effect (processing (ps.tablet slot).inbox slot other (ps.tablet other)).master n ps.master) ps.master (TakesNone ps.master)
    (λ _. subst (λ k. TakesNone ps.master (master_effect k n ps.master)) (sym ticks) (record { slots = refl; each = λ i taken. taken }))
    (λ _. takes_none ps.master)

-- what comes next takes no other slots
by_taken : (ps : Parts) (activity : List Interval) (changes : List Made) (reading : ℕ) (act : Act) → Inv ps activity changes → Choice ps act → TakesNone ps.master (after_act reading act ps).master
by_taken ps activity changes reading act inv (ChoseSend p record_ l first unsent is) = subst (λ a. TakesNone ps.master (after_act reading a ps).master) is (send_none ps p.id l.slot (stamp_under reading (Send p.id l.slot) ps))
by_taken ps activity changes reading act inv (ChoseAck p record_ l first sent held is) = subst (λ a. TakesNone ps.master (after_act reading a ps).master) is (ack_none ps p.id l.slot (stamp_under reading (Ack p.id l.slot) ps))
by_taken ps activity changes reading act inv (ChoseProcess p record_ l first c cs held is) = subst (λ a. TakesNone ps.master (after_act reading a ps).master) is
    (let other = source_slot l.slot l.body in process_none ps l.slot other (stamp_under reading (Process l.slot other) ps))
by_taken ps activity changes reading act inv (ChoseMove p record_ all free is) = subst (λ a. TakesNone ps.master (after_act reading a ps).master) is
    (let n = stamp_under reading (Advance p.id) ps in
    subst (λ o. TakesNone ps.master (told (Advance p.id) o n ps).master) (sym (advance_moves n ps changes p inv.operations record_ all free)) (move_takes_none ps.master changes n p inv.operations record_))

by_choice : (ps : Parts) (activity : List Interval) (changes : List Made) (reading : ℕ) (act : Act) → Inv ps activity changes → Choice ps act → Falls ps (after_act reading act ps) (slots_taken ps.master)
by_choice ps activity changes reading act inv (ChoseSend p record_ l first unsent is) = subst (λ a. Falls ps (after_act reading a ps) (slots_taken ps.master)) is
    (let a = Send p.id l.slot in
    let at = taken_slot ps activity changes p l inv record_ first in
    send_falls ps activity changes (stamp_under reading a ps) p l (slots_taken ps.master) inv record_ first (later_under reading a ps) at.1 unsent at.0)
by_choice ps activity changes reading act inv (ChoseAck p record_ l first sent held is) = subst (λ a. Falls ps (after_act reading a ps) (slots_taken ps.master)) is
    (let at = taken_slot ps activity changes p l inv record_ first in
    ack_falls ps activity changes (stamp_under reading (Ack p.id l.slot) ps) p l (slots_taken ps.master) inv record_ first sent held at.0)
by_choice ps activity changes reading act inv (ChoseProcess p record_ l first c cs held is) = subst (λ a. Falls ps (after_act reading a ps) (slots_taken ps.master)) is
    (let a = Process l.slot (source_slot l.slot l.body) in
    let at = taken_slot ps activity changes p l inv record_ first in
    process_falls ps activity changes (stamp_under reading a ps) p l c cs (slots_taken ps.master) inv record_ first (later_under reading a ps) at.1 held at.0)
by_choice ps activity changes reading act inv (ChoseMove p record_ all free is) = subst (λ a. Falls ps (after_act reading a ps) (slots_taken ps.master)) is
    (advance_falls ps activity changes (stamp_under reading (Advance p.id) ps) p (slots_taken ps.master) inv record_ all free)

next_takes : (ps : Parts) (activity : List Interval) (changes : List Made) (reading : ℕ) (act : Act) → Inv ps activity changes → next_act ps ≡ Some act → TakesNone ps.master (after_act reading act ps).master
next_takes ps activity changes reading act inv is = by_taken ps activity changes reading act inv (choice ps act is)

pub next_falls : (ps : Parts) (activity : List Interval) (changes : List Made) (reading : ℕ) (act : Act) → Inv ps activity changes → next_act ps ≡ Some act → events_left (after_act reading act ps) < events_left ps
next_falls ps activity changes reading act inv is =
    falls_by ps (after_act reading act ps) (next_takes ps activity changes reading act inv is) (by_choice ps activity changes reading act inv (choice ps act is))

-- What holds goes on to hold

pub record IsLeft (slots : ℕ) (ps : Parts) : Type 0 where
  pub activity : List Interval
  pub changes : List Made
  pub count : ps.master.slots ≡ slots
  pub inv : Inv ps activity changes
  pub facts : Facts ps

pub fit_of : (found : Option Act) (slots : ℕ) (act : Act) → found ≡ Some act → NextFits slots found → ActAsked slots act
fit_of None slots act e fits = absurd (let q = e in grind arith)
fit_of (Some a) slots act e fits = let one : a ≡ act = cc in subst (ActAsked slots) one fits.asked

pub goes_left : (slots reading : ℕ) (ps : Parts) (act : Act) → IsLeft slots ps → next_act ps ≡ Some act → IsLeft slots (after_act reading act ps)
goes_left slots reading ps act h is =
    let n = stamp_under reading act ps in
    let o = outcome act n ps in
    let later = later_under reading act ps in
    let asked = fit_of (next_act ps) slots act is (next_fits slots ps h.activity h.changes h.count h.inv) in
    let keeps = act_keeps act slots n ps h.activity h.changes later asked (rows_found ps h.activity h.changes h.inv h.facts) h.inv in
    record {
      activity = activity_after act o n ps h.activity;
      changes = with_changes act o n ps h.changes;
      count = (next_takes ps h.activity h.changes reading act h.inv is).slots ∙ h.count;
      inv = keeps;
      facts = act_keeps_facts act slots asked n ps h.activity h.changes later h.inv h.facts _ _ keeps;
    }

-- Settling

pub record Ends (reading : ℕ) (ps : Parts) (acts : List Act) : Type 0 where
  pub each : EachGoesOn acts (replies_under reading acts ps)
  pub finished : unfinished_records (after_acts reading acts ps).master ≡ []

no_act : (ps : Parts) → next_act ps ≡ None → next_work ps.master ≡ None
no_act ps e = none_mapped (next_work ps.master) e
  where
    none_mapped : (o : Option WorkItem) → option_map (λ w. act_of_work w ps) o ≡ None → o ≡ None
    none_mapped None e = refl
    none_mapped (Some w) e = absurd (let q = e in grind arith)

nothing_more : (slots reading : ℕ) (ps : Parts) → IsLeft slots ps → next_act ps ≡ None → Ends reading ps []
nothing_more slots reading ps h none = record { each = tt; finished = always_next ps h.activity h.changes h.inv (no_act ps none) }

abbrev pub with_next : ℕ → ℕ → Parts → Option Act → List Act
with_next count reading ps found = option_map_or (λ act. act ∷ coordinated count reading (after_act reading act ps)) found []

pub ends : (count : ℕ) (slots reading : ℕ) (ps : Parts) → IsLeft slots ps → events_left ps ≤ count → Ends reading ps (coordinated count reading ps)
ends zero slots reading ps h le = none_or_some (next_act ps)
    (λ none. nothing_more slots reading ps h none)
    (λ act some. absurd (let less = next_falls ps h.activity h.changes reading act h.inv some in omega (arith, le, less)))
ends (suc count) slots reading ps h le = none_or_some (next_act ps)
    (λ none. subst (λ found. Ends reading ps (with_next count reading ps found)) (sym none) (nothing_more slots reading ps h none))
    (λ act some. subst (λ found. Ends reading ps (with_next count reading ps found)) (sym some)
    (let rest = ends count slots reading (after_act reading act ps) (goes_left slots reading ps act h some) (let less = next_falls ps h.activity h.changes reading act h.inv some in omega (arith, le, less)) in
    record { each = (goes_on ps h.activity h.changes h.inv reading act some, rest.each); finished = rest.finished }))

pub settles : (slots reading : ℕ) (ps : Parts) → IsLeft slots ps → Settles reading ps
settles slots reading ps h =
    let e = ends (left ps.master) slots reading ps h (within_left ps h.changes h.inv.operations) in
    record { each = e.each; finished = e.finished }

pub left_of : (slots : ℕ) (history : List Entry) → Legal slots history → IsLeft slots (replay slots history)
left_of slots history legal =
    let h = legal_holds history slots legal in
    record { activity = activity_of slots history; changes = journal_of slots history; count = replay_slots history slots; inv = h.inv; facts = h.facts }
