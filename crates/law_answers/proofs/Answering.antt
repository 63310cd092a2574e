-- Each act's reply is right.
use Rattle.std.proofs.Common.{ℕ, ◌≡◌, ◌≢◌, ◌≤◌, ◌<◌, List, [], ◌∷◌, Option, Some, None, true, ◌⊎◌, inl, inr, refl, sym, ap, arith, eqb, leb, ltb, leb-true, ltb-true, le_of_lt, max, length, not}
use Rattle.std.proofs.lemmas.Bool.Decides.{nat_tests}
use Rattle.row_values.specs.Ids.{Id, Kind, Namespace, Table, Tablet, Schedule, Snapshot, Restoration, Clone}
use Rattle.std.specs.Option.{option_map}
use Rattle.row_values.specs.Slots.{same_slots}
use Rattle.row_values.specs.Store.{kept}
use Rattle.model.specs.Activity.{Interval, last_of}
use Rattle.model.specs.Journal.{Change as Made}
use Rattle.model.specs.Tablets.{Tablet as TabletPart, Command, Empty, standing, kind_of, is_empty, is_done}
use Rattle.model.specs.Records.{Listed, SnapshotRecord, State, snapshot_with, first_unacked}
use Rattle.model.specs.Acts.{Ask, AskPlan, AskKeys, AskTable, AskWork, AskRemovable, AskPresent, Act, Look, Change, Write, Read, Cutoff, Compact, Send, Process, Ack, Advance, Remove, Prune, Restart, Stats, At, Refusal, UnknownSnapshot, Fenced, Moved, StaleSchema, StalePlan, InWindow, IsListed, CutoffAt, Compacted, Removed}
use Rattle.model.specs.Parts.{Master, Parts, If, Names, Fault}
use Rattle.model.specs.Entries.{slots_of, ActAsked}
use Rattle.model.specs.RowActs.{write, cutoff, compact, restart, stats, serves_all, has_moved, allowed_of, scheduled_at, count_frozen}
use Rattle.model.specs.Coordination.{send, sending, pending, process, processing, source_slot, ack, acknowledging}
use Rattle.model.specs.Moves.{advance, advancing, moving, Progress, progress_of, waits_for}
use Rattle.model.specs.Cleanup.{remove, removing, removing_unknown, removing_tablet, removing_snapshot, removable_tablet, removable_snapshot, is_hidden_as, hidden_at, floor_of_table, floor_of, lister_of_tablet, lister_of_snapshot, snapshot_plan, prune}
use Rattle.model.specs.Looks.{look_plan, look_present}
use Rattle.model.specs.History.{outcome}
use Rattle.model.specs.Replies.{AnswerRight, LookAnswer, IsMoved, MakesNone}
use Rattle.law_store.proofs.Keys.{either_way}
use Rattle.law_invariants.specs.Invariant.{Inv, Later}
use Rattle.law_answers.proofs.Looking.{VersionsThen}
use Rattle.law_answers.proofs.Placing.{table_answered, keys_answered}
use Rattle.law_answers.proofs.Reading.{read_answered}
use Rattle.law_answers.proofs.Naming.{RecordsApart}
use Rattle.law_answers.proofs.Refusing.{judged_answers}
use Rattle.law_answers.proofs.Commanding.{change_answered, slots_apart}

-- Looks

look_answered : (ask : Ask) (n : ℕ) (ps : Parts) (activity : List Interval) (changes : List Made) → ps.master.clock < n → Inv ps activity changes → VersionsThen ps.master.catalog.tables changes
    → LookAnswer ask (outcome (Look ask) n ps).reply n ps activity changes
unfolding look_plan look_present
look_answered (AskKeys namespace table batch at) n ps activity changes before inv versions = keys_answered ps n activity changes namespace table batch at before inv versions
look_answered (AskTable namespace table at) n ps activity changes before inv versions = table_answered ps n activity changes namespace table at before inv versions
look_answered _ n ps activity changes before inv versions = refl

-- Acts on tablets

moved_is : (slot : ℕ) (t : TabletPart) → IsMoved slot (has_moved slot t)
moved_is slot t = (standing t, refl)

write_answered : (place : At) (version : ℕ) (batch : _) (n : ℕ) (ps : Parts) (activity : List Interval) (changes : List Made) → AnswerRight (Write place version batch) (write place version batch n ps).reply n ps activity changes
unfolding write
write_answered place version batch n ps activity changes =
    let t = ps.tablet place.slot in
    let W : Refusal → Type 0 = λ why. IsMoved place.slot why ⊎ ((operation : Id) × (why ≡ Fenced operation)) ⊎ ((kept : ℕ) × ((why ≡ StaleSchema kept) × (kept ≢ version))) in
    judged_answers MakesNone W
    (If (not (serves_all t place.tablet batch)) (has_moved place.slot t) ∷ Names t.fence Fenced ∷ If (not (eqb t.version version)) (StaleSchema t.version) ∷ []) _
    ((λ _. inl (moved_is place.slot t)), ((λ by _. inr (inl (by, refl))), ((λ other. inr (inr (t.version, (refl, (λ is. grind (arith, nat_tests)))))), tt)))
    refl

cutoff_answered : (slot n : ℕ) (ps : Parts) (activity : List Interval) (changes : List Made) → AnswerRight (Cutoff slot) (cutoff slot n ps).reply n ps activity changes
unfolding cutoff
cutoff_answered slot n ps activity changes =
    let t = ps.tablet slot in
    judged_answers (λ reply. (to : ℕ) × (reply ≡ CutoffAt to)) (IsMoved slot) (If (is_empty t.presence) (has_moved slot t) ∷ []) _ ((λ _. moved_is slot t), tt)
    (max t.cutoff (allowed_of (scheduled_at ps.master slot) n), refl)

compact_answered : (slot n : ℕ) (ps : Parts) (activity : List Interval) (changes : List Made) → AnswerRight (Compact slot) (compact slot n ps).reply n ps activity changes
unfolding compact
compact_answered slot n ps activity changes =
    let t = ps.tablet slot in
    judged_answers (λ reply. (before : ℕ) × (after : ℕ) × (reply ≡ Compacted before after)) (IsMoved slot) (If (is_empty t.presence) (has_moved slot t) ∷ []) _ ((λ _. moved_is slot t), tt)
    (length t.versions, length (kept t.versions t.cutoff), refl)

restart_answered : (slot n : ℕ) (ps : Parts) (activity : List Interval) (changes : List Made) → AnswerRight (Restart slot) (restart slot n ps).reply n ps activity changes
unfolding restart
restart_answered slot n ps activity changes = either_way (eqb slot 0) (λ b. rw b refl) (λ b. rw b refl)

stats_answered : (slot n : ℕ) (ps : Parts) (activity : List Interval) (changes : List Made) → AnswerRight (Stats slot) (stats slot n ps).reply n ps activity changes
unfolding stats
stats_answered slot n ps activity changes =
    let t = ps.tablet slot in
    either_way (is_empty t.presence) (λ b. rw b (inr refl)) (λ b. rw b (inl (t.cutoff, length t.versions, count_frozen t.frozen, length t.inbox, refl)))

-- Coordination

send_answered : (found : Option Listed) (operation : Id) (slot n : ℕ) (ps : Parts) (activity : List Interval) (changes : List Made) → AnswerRight (Send operation slot) (sending found operation slot).reply n ps activity changes
send_answered None operation slot n ps activity changes = inr refl
send_answered (Some l) operation slot n ps activity changes = inl refl

ack_answered : (found : Option Listed) (operation : Id) (slot n : ℕ) (ps : Parts) (activity : List Interval) (changes : List Made) (t : TabletPart) → AnswerRight (Ack operation slot) (acknowledging found operation slot t).reply n ps activity changes
ack_answered None operation slot n ps activity changes t = inr (inl refl)
ack_answered (Some l) operation slot n ps activity changes t = either_way (is_done t.done operation (kind_of l.body)) (λ b. rw b (inl refl)) (λ b. rw b (inr (inr refl)))

process_answered : (inbox : List Command) (slot other n : ℕ) (ps : Parts) (activity : List Interval) (changes : List Made) (source : TabletPart) → AnswerRight (Process slot other) (processing inbox slot other source).reply n ps activity changes
process_answered [] slot other n ps activity changes source = inr (inl refl)
process_answered (c ∷ cs) slot other n ps activity changes source = either_way (eqb other (source_slot slot c.body))
    (λ b. rw b (inl (c.operation, kind_of c.body, refl)))
    (λ b. rw b (inr (inr (source_slot slot c.body, (refl, (λ is. grind (arith, nat_tests)))))))

moving_answered : (awaited : Option Id) (operation : Id) (next : State) (n : ℕ) (ps : Parts) (activity : List Interval) (changes : List Made) → AnswerRight (Advance operation) (moving awaited operation next).reply n ps activity changes
moving_answered None operation next n ps activity changes = inl (next, refl)
moving_answered (Some on) operation next n ps activity changes = inr (inr (on, refl))

advance_answered : (found : Option Progress) (operation : Id) (n : ℕ) (ps : Parts) (activity : List Interval) (changes : List Made) → AnswerRight (Advance operation) (advancing found operation).reply n ps activity changes
advance_answered None operation n ps activity changes = inr (inl refl)
advance_answered (Some p) operation n ps activity changes = moving_answered (waits_for (first_unacked p.listed) p.awaited) operation p.next n ps activity changes

-- Removals

abbrev WhyStays : List ℕ → Refusal → Type 0
WhyStays slots why =
    ((kept : List ℕ) × ((why ≡ StalePlan kept) × (kept ≢ slots)))
    ⊎ ((slot : ℕ) × IsMoved slot why)
    ⊎ (why ≡ UnknownSnapshot)
    ⊎ ((at : ℕ) × (floor : ℕ) × ((why ≡ InWindow at floor) × (floor ≤ at)))
    ⊎ ((lister : Id) × (why ≡ IsListed lister))

stale_is : (slots plan : List ℕ) → not (same_slots slots plan) ≡ true → WhyStays slots (StalePlan plan)
stale_is slots plan e = inl (plan, (refl, (λ is. slots_apart slots plan (grind arith) (sym is))))

unknown_answered : (target : Id) (slots : List ℕ) (why : Refusal) (n : ℕ) (ps : Parts) (activity : List Interval) (changes : List Made) → WhyStays slots why → AnswerRight (Remove target slots) (removing_unknown slots why).reply n ps activity changes
unknown_answered target slots why n ps activity changes stays = either_way (same_slots slots [])
    (λ b. rw b (inr (why, (refl, stays))))
    (λ b. rw b (inr (StalePlan [], (refl, stale_is slots [] (ap not b)))))

listed_stays : (slots : List ℕ) (lister : Option Id) (why : Refusal) → option_map IsListed lister ≡ Some why → WhyStays slots why
listed_stays slots None why e = absurd (let q = e in grind arith)
listed_stays slots (Some by) why e = inr (inr (inr (inr (by, (let k : why ≡ IsListed by = cc in k)))))

tablet_stays : (slots : List ℕ) (ended floor : ℕ) (lister : Option Id) (why : Refusal) → removable_tablet ended floor lister ≡ Some why → WhyStays slots why
tablet_stays slots ended floor lister why e = either_way (ltb floor ended)
    (λ b. let is : Some (InWindow ended floor) ≡ Some why = rw b at e in
    inr (inr (inr (inl (ended, floor, ((let k : why ≡ InWindow ended floor = cc in k), le_of_lt (ltb-true floor ended b)))))))
    (λ b. listed_stays slots lister why (rw b at e))

snapshot_stays : (slots : List ℕ) (at floor : ℕ) (namer : Option Id) (why : Refusal) → removable_snapshot at floor namer ≡ Some why → WhyStays slots why
snapshot_stays slots at floor namer why e = either_way (leb floor at)
    (λ b. let is : Some (InWindow at floor) ≡ Some why = rw b at e in
    inr (inr (inr (inl (at, floor, ((let k : why ≡ InWindow at floor = cc in k), leb-true floor at b))))))
    (λ b. listed_stays slots namer why (rw b at e))

remove_tablet_answered : (found : Option Interval) (target : Id) (slots : List ℕ) (n : ℕ) (ps : Parts) (activity : List Interval) (changes : List Made) → AnswerRight (Remove target slots) (removing_tablet found target slots n ps).reply n ps activity changes
remove_tablet_answered None target slots n ps activity changes = unknown_answered target slots (Moved 0 Empty) n ps activity changes (inr (inl (0, (Empty, refl))))
remove_tablet_answered (Some i) target slots n ps activity changes =
    let t = ps.tablet i.slot in
    judged_answers (λ reply. reply ≡ Removed) (WhyStays slots)
    (If (not (same_slots slots (i.slot ∷ []))) (StalePlan (i.slot ∷ [])) ∷ If (not (is_hidden_as target t)) (Moved i.slot (standing t))
    ∷ Fault (removable_tablet (hidden_at t.presence) (floor_of_table ps.master i.table n) (lister_of_tablet ps.master target)) ∷ []) _
    ((λ e. stale_is slots (i.slot ∷ []) e), ((λ _. inr (inl (i.slot, (standing t, refl)))), ((λ why e. tablet_stays slots _ _ _ why e), tt)))
    refl

remove_snapshot_answered : (found : Option SnapshotRecord) (target : Id) (slots : List ℕ) (n : ℕ) (ps : Parts) (activity : List Interval) (changes : List Made) → AnswerRight (Remove target slots) (removing_snapshot found target slots n ps).reply n ps activity changes
remove_snapshot_answered None target slots n ps activity changes = unknown_answered target slots UnknownSnapshot n ps activity changes (inr (inr (inl refl)))
remove_snapshot_answered (Some r) target slots n ps activity changes =
    let plan = snapshot_plan ps.master r in
    judged_answers (λ reply. reply ≡ Removed) (WhyStays slots)
    (If (not (same_slots slots plan)) (StalePlan plan) ∷ Fault (removable_snapshot r.at (floor_of ps.master r.namespace n) (lister_of_snapshot ps.master r)) ∷ []) _
    ((λ e. stale_is slots plan e), ((λ why e. snapshot_stays slots _ _ _ why e), tt))
    refl

remove_answered : (kind : Kind) (target : Id) (slots : List ℕ) (n : ℕ) (ps : Parts) (activity : List Interval) (changes : List Made) → AnswerRight (Remove target slots) (removing kind target slots n ps).reply n ps activity changes
remove_answered Tablet target slots n ps activity changes = remove_tablet_answered (last_of ps.master.activity target) target slots n ps activity changes
remove_answered Snapshot target slots n ps activity changes = remove_snapshot_answered (snapshot_with ps.master.snapshots target) target slots n ps activity changes
remove_answered _ target slots n ps activity changes = unknown_answered target slots UnknownSnapshot n ps activity changes (inr (inr (inl refl)))

-- what the replies go by, beside what holds: the versions of schemas, and that no two records are of one namespace
pub record IsKnown (m : Master) (changes : List Made) : Type 0 where
  pub versions : VersionsThen m.catalog.tables changes
  pub apart : RecordsApart m.catalog.namespaces

pub answer_right : (act : Act) (slots n : ℕ) (ps : Parts) (activity : List Interval) (changes : List Made) → Later (slots_of act) ps n → ActAsked slots act → Inv ps activity changes → IsKnown ps.master changes
    → AnswerRight act (outcome act n ps).reply n ps activity changes
unfolding send process ack advance remove prune
answer_right (Look ask) slots n ps activity changes later asked inv known = look_answered ask n ps activity changes (later 0 refl) inv known.versions
answer_right (Change command plan) slots n ps activity changes later asked inv known = change_answered command plan n ps activity changes (later 0 refl) inv known.apart
answer_right (Write place version batch) slots n ps activity changes later asked inv known = write_answered place version batch n ps activity changes
answer_right (Read places version key at columns) slots n ps activity changes later asked inv known = read_answered slots ps activity changes n places version key at columns later asked.1 inv
answer_right (Cutoff slot) slots n ps activity changes later asked inv known = cutoff_answered slot n ps activity changes
answer_right (Compact slot) slots n ps activity changes later asked inv known = compact_answered slot n ps activity changes
answer_right (Send operation slot) slots n ps activity changes later asked inv known = send_answered (pending ps.master operation slot) operation slot n ps activity changes
answer_right (Process slot other) slots n ps activity changes later asked inv known = process_answered (ps.tablet slot).inbox slot other n ps activity changes (ps.tablet other)
answer_right (Ack operation slot) slots n ps activity changes later asked inv known = ack_answered (pending ps.master operation slot) operation slot n ps activity changes (ps.tablet slot)
answer_right (Advance operation) slots n ps activity changes later asked inv known = advance_answered (progress_of operation.kind ps.master operation) operation n ps activity changes
answer_right (Remove target plan) slots n ps activity changes later asked inv known = remove_answered target.kind target plan n ps activity changes
answer_right Prune slots n ps activity changes later asked inv known = (_, refl)
answer_right (Restart slot) slots n ps activity changes later asked inv known = restart_answered slot n ps activity changes
answer_right (Stats slot) slots n ps activity changes later asked inv known = stats_answered slot n ps activity changes
