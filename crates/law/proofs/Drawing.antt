-- How many identifiers a legal history draws: so few for each entry of the master's log that numbers stay below their bound.
use Rattle.std.proofs.Common.{sym, subst, ap, ◌∙◌, refl, cond, ◌≡◌, ℕ, ◌≤◌, ◌<◌, ◌+◌, ◌*◌, Bool, true, false, List, [], ◌∷◌, if◌then◌else◌, arith, min, fold, eqb, eqb-true, le_trans, le_of_lt}
use Rattle.model.specs.Cluster.{Id, Kind, NamespaceKind as Namespace, TableKind as Table, TabletKind as Tablet, ScheduleKind as Schedule, Snapshot, RestorationKind as Restoration, CloneKind as Clone, has, Master, Parts, BeginsClone, If, judged, decided, State, IsSnapshot, same_slots, Interval, Refusal, StalePlan}
use Rattle.model.specs.Acts.{Act, Change, Advance, Command, CreateNamespace, CreateTable, Split, CreateSchedule, TakeSnapshot, Restore, CloneNamespace}
use Rattle.model.specs.Entries.{Entry, slots_of, log_of, least, ActAsked, CommandAsked}
use Rattle.model.specs.History.{outcome, told, master_effect, replay, held, most_entries, Legal}
use Rattle.model.specs.Drawn.{drawn_of, most_slots, DrawnWithin, DrawnBelow, drawn_by, drawn_entering, drawn_for, drawn_making, entered_by, ids_made}
use Rattle.law_store.proofs.Keys.{either_way}
use Rattle.std.specs.Prelude.{Result, Ok as Granted, Err as Denied, Option, not}
use Rattle.model.specs.Journal.{Change as Made}
use Rattle.model.specs.Looks.{plan_of}
use Rattle.model.specs.Changed.{next_clone, clone_time}
use Rattle.model.specs.Changes.{accepts, CloneSource, judge_clone, clone_namespace, change}
use Rattle.model.specs.History.{activity_of, journal_of}
use Rattle.law_invariants.specs.Invariant.{Inv, Later}
use Rattle.law_clones.proofs.Commanding.{may_clone}
use Rattle.law.proofs.Slots.{replay_slots}
use Rattle.law.proofs.Law.{legal_holds, stamps_later}
use Rattle.law.proofs.Giving.{few, none_few, clone_few, CloneDraws, accepted_draws}
use Rattle.law.proofs.InTurn.{entry_next}

-- a clone draws few, where it is known to
command_few : (command : Command) (n : ℕ) (m : Master) → CommandAsked command
    → ((source target : List ℕ) (at : Option ℕ) → command ≡ CloneNamespace source target at → (kind : Kind) → drawn_of kind (drawn_for command n m) ≤ most_slots) → (kind : Kind) → drawn_of kind (drawn_for command n m) ≤ most_slots
command_few (CreateNamespace name) n m asked clone = few _ (omega arith) (omega arith) (omega arith) (omega arith) (omega arith) (omega arith) (omega arith)
command_few (CreateTable namespace table tablets columns) n m asked clone =
    let most : tablets ≤ 64 = asked.2.1 in few _ (omega arith) (omega arith) (omega (arith, most)) (omega arith) (omega arith) (omega arith) (omega arith)
command_few (Split namespace table code) n m asked clone = few _ (omega arith) (omega arith) (omega arith) (omega arith) (omega arith) (omega arith) (omega arith)
command_few (CreateSchedule interval retention namespace) n m asked clone = few _ (omega arith) (omega arith) (omega arith) (omega arith) (omega arith) (omega arith) (omega arith)
command_few (TakeSnapshot schedule) n m asked clone = few _ (omega arith) (omega arith) (omega arith) (omega arith) (omega arith) (omega arith) (omega arith)
command_few (Restore schedule to) n m asked clone = few _ (omega arith) (omega arith) (omega arith) (omega arith) (omega arith) (omega arith) (omega arith)
command_few (CloneNamespace source target at) n m asked clone = clone source target at refl
command_few _ n m asked clone = none_few

making_few : (made : List Id) (command : Command) (n : ℕ) (m : Master) → CommandAsked command
    → ((source target : List ℕ) (at : Option ℕ) → command ≡ CloneNamespace source target at → (kind : Kind) → drawn_of kind (drawn_making made command n m) ≤ most_slots) → (kind : Kind) → drawn_of kind (drawn_making made command n m) ≤ most_slots
making_few [] command n m asked clone = none_few
making_few (id ∷ ids) command n m asked clone = command_few command n m asked clone

entering_few : (states : List State) (kind : Kind) → drawn_of kind (drawn_entering states) ≤ most_slots
entering_few (IsSnapshot ∷ states) = few _ (omega arith) (omega arith) (omega arith) (omega arith) (omega arith) (omega arith) (omega arith)
entering_few _ = none_few

judged_few : (j : Result CloneSource Refusal) (ps : Parts) (activity : List Interval) (changes : List Made) (source target : List ℕ) (at : Option ℕ) (n : ℕ) → ps.master.clock ≤ n → ps.master.slots ≤ most_slots → Inv ps activity changes
    → judge_clone source target (clone_time at n) n ps.master ≡ j → (kind : Kind) → drawn_of kind (CloneDraws source target at n ps.master (decided j (λ s. accepts (BeginsClone s.namespace source target (clone_time at n)) [] (next_clone ps.master ∷ [])))) ≤ most_slots
judged_few (Denied why) ps activity changes source target at n le most inv e kind = none_few kind
judged_few (Granted s) ps activity changes source target at n le most inv e kind =
    let k = (may_clone ps activity changes source target (clone_time at n) n s inv e).1 in
    subst (λ d. drawn_of kind d ≤ most_slots) (sym (accepted_draws ps activity changes source target at n s inv e)) (clone_few ps activity changes s.namespace s.least target (clone_time at n) n le most k inv kind)

planned_few : (b : Bool) (plan : List ℕ) (ps : Parts) (activity : List Interval) (changes : List Made) (source target : List ℕ) (at : Option ℕ) (n : ℕ) → ps.master.clock ≤ n → ps.master.slots ≤ most_slots → Inv ps activity changes
    → (kind : Kind) → drawn_of kind (CloneDraws source target at n ps.master (judged (If (not b) (StalePlan plan) ∷ []) (clone_namespace source target at n ps.master))) ≤ most_slots
unfolding clone_namespace
planned_few true plan ps activity changes source target at n le most inv = judged_few (judge_clone source target (clone_time at n) n ps.master) ps activity changes source target at n le most inv refl
planned_few false plan ps activity changes source target at n le most inv = none_few

clone_draws_few : (ps : Parts) (activity : List Interval) (changes : List Made) (source target : List ℕ) (at : Option ℕ) (plan : List ℕ) (n : ℕ) → ps.master.clock ≤ n → ps.master.slots ≤ most_slots → Inv ps activity changes
    → (kind : Kind) → drawn_of kind (CloneDraws source target at n ps.master (outcome (Change (CloneNamespace source target at) plan) n ps)) ≤ most_slots
unfolding change
clone_draws_few ps activity changes source target at plan n le most inv =
    planned_few (same_slots plan (plan_of (CloneNamespace source target at) ps.master)) (plan_of (CloneNamespace source target at) ps.master) ps activity changes source target at n le most inv

-- an entry draws at most so many of a kind
act_few : (act : Act) (slots n : ℕ) (ps : Parts) (activity : List Interval) (changes : List Made) → Later (slots_of act) ps n → ps.master.slots ≤ most_slots → ActAsked slots act → Inv ps activity changes
    → (kind : Kind) → drawn_of kind (drawn_by act (outcome act n ps).reply n ps.master) ≤ most_slots
act_few (Change command plan) slots n ps activity changes later most asked inv = making_few (ids_made (outcome (Change command plan) n ps).reply) command n ps.master asked.0
    (λ source target at is. subst (λ c. (kind : Kind) → drawn_of kind (drawn_making (ids_made (outcome (Change c plan) n ps).reply) c n ps.master) ≤ most_slots) (sym is)
    (clone_draws_few ps activity changes source target at plan n (le_of_lt (later 0 refl)) most inv))
act_few (Advance operation) slots n ps activity changes later most asked inv = entering_few (entered_by (outcome (Advance operation) n ps).reply)
act_few _ slots n ps activity changes later most asked inv = none_few

-- The master's log

zero_stays : (ss : List ℕ) → fold min 0 ss ≡ 0
zero_stays [] = refl
zero_stays (s ∷ ss) = let e : min 0 s ≡ 0 = omega arith in ap (λ k. fold min k ss) e ∙ zero_stays ss

zero_found : (ss : List ℕ) (a : ℕ) → has ss 0 ≡ true → fold min a ss ≡ 0
zero_found [] a e = absurd (let q = e in grind arith)
zero_found (s ∷ ss) a e = either_way (eqb s 0)
    (λ is. let z : min a s ≡ 0 = (let k : s ≡ 0 = eqb-true s 0 is in omega arith) in ap (λ k. fold min k ss) z ∙ zero_stays ss)
    (λ other. zero_found ss (min a s) (rw other at e))

-- what touches the master is in its log
pub least_zero : (ss : List ℕ) → has ss 0 ≡ true → least ss ≡ 0
least_zero [] e = absurd (let q = e in grind arith)
least_zero (s ∷ ss) e = either_way (eqb s 0)
    (λ is. let k : s ≡ 0 = eqb-true s 0 is in ap (λ j. fold min j ss) k ∙ zero_stays ss)
    (λ other. zero_found ss s (rw other at e))

pub drawn_within : (history : List Entry) (slots : ℕ) → Legal slots history → slots ≤ most_slots → DrawnWithin slots history
unfolding replay
drawn_within [] slots legal most Namespace = omega arith
drawn_within [] slots legal most Table = omega arith
drawn_within [] slots legal most Tablet = omega arith
drawn_within [] slots legal most Schedule = omega arith
drawn_within [] slots legal most Snapshot = omega arith
drawn_within [] slots legal most Restoration = omega arith
drawn_within [] slots legal most Clone = omega arith
drawn_within (e ∷ earlier) slots legal most kind =
    let ps = replay slots earlier in
    let before : drawn_of kind ps.master.drawn ≤ most_slots * held 0 earlier = drawn_within earlier slots legal.0 most kind in
    let before_ = legal_holds earlier slots legal.0 in
    let count : drawn_of kind (told e.event.act (outcome e.event.act e.stamp ps) e.stamp ps).master.drawn ≡ drawn_of kind ps.master.drawn + drawn_of kind (drawn_by e.event.act (outcome e.event.act e.stamp ps).reply e.stamp ps.master) = (entry_next e earlier slots legal).count kind in
    let grown : drawn_of kind (drawn_by e.event.act (outcome e.event.act e.stamp ps).reply e.stamp ps.master) ≤ most_slots = act_few e.event.act slots e.stamp ps (activity_of slots earlier) (journal_of slots earlier) (stamps_later e ps legal.1.stamp) (subst (λ k. k ≤ most_slots) (sym (replay_slots earlier slots)) most) legal.1.asked.act before_.inv kind in
    either_way (has (slots_of e.event.act) 0)
    (λ touched. let log : eqb (log_of e.event.act) 0 ≡ true = ap (λ k. eqb k 0) (least_zero (slots_of e.event.act) touched) in rw log (omega (arith, count, grown, before)))
    (λ alone. subst (λ b. drawn_of kind (cond b (master_effect (outcome e.event.act e.stamp ps).master e.stamp ps.master) ps.master).drawn ≤ most_slots * held 0 (e ∷ earlier)) (sym alone) (le_trans before (held_grows (eqb (log_of e.event.act) 0) (held 0 earlier))))
  where
    held_grows : (b : Bool) (h : ℕ) → most_slots * h ≤ most_slots * (if b then 1 + h else h)
    held_grows true h = omega arith
    held_grows false h = omega arith

pub held_within : (history : List Entry) (slots : ℕ) → Legal slots history → held 0 history ≤ most_entries
held_within [] slots legal = omega arith
held_within (e ∷ earlier) slots legal = either_way (eqb (log_of e.event.act) 0)
    (λ is. let room : held 0 earlier < most_entries = subst (λ k. held k earlier < most_entries) (eqb-true (log_of e.event.act) 0 is) legal.1.room in rw is (omega (arith, room)))
    (λ other. rw other (held_within earlier slots legal.0))

pub drawn_below : (history : List Entry) (slots : ℕ) → Legal slots history → slots ≤ most_slots → DrawnBelow (replay slots history).master
drawn_below history slots legal most kind =
    let within : drawn_of kind (replay slots history).master.drawn ≤ most_slots * held 0 history = drawn_within history slots legal most kind in
    let most : held 0 history ≤ most_entries = held_within history slots legal in omega arith
