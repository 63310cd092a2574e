-- Each command of a script leaves a legal history.
use Rattle.std.proofs.Common.{ℕ, ◌≡◌, ◌<◌, ◌+◌, ◌^◌, List, [], ◌∷◌, ◌++◌, true, refl, sym, ap, subst, ◌∙◌, arith, cond, ltb, ltb-true, Option, Some, None, zero, suc}
use Rattle.std.specs.Option.{option_map_or}
use Rattle.std.proofs.lemmas.Bool.{cond_both}
use Rattle.model.specs.Cluster.{end_of_time, Act, Look, Ask, Event, AllOf}
use Rattle.model.specs.Entries.{Asked, log_of, stamp_of, touches, Entry}
use Rattle.model.specs.History.{IsStep, Legal, entry_of, held, journal_of, activity_of, most_entries, replay}
use Rattle.model.specs.Settling.{event_of, after_act, coordinated}
use Rattle.model.specs.Work.{next_act}
use Rattle.model.specs.Scripts.{ScriptCommand, Numbered}
use Rattle.model_runs.specs.Courses.{Found, found_by, Course, SetReading, SetLag, Perform, LookFor, WorkOff, ShowEntries, course_of, ScriptAsked}
use Rattle.model_runs.specs.Running.{Run, may_follow, with_event, reading_for, performed, performed_all, worked_off, after_look, followed, taken, made_by, with_text, text_of, ran, run_from, run_of, begun}
use Rattle.law_invariants.proofs.Finding.{both_pass}
use Rattle.law.proofs.Answered.{entry_right}
use Rattle.law.proofs.Law.{legal_holds}
use Rattle.law.proofs.Slots.{replay_slots}
use Rattle.law.proofs.TabletKinds.{replay_kinds}
use Rattle.law.proofs.Working.{NextFits, next_fits}
use Rattle.law.proofs.Following.{IsFit, IsAnswer, Follows, CourseFits, course_fits}

-- a run so far: its history is legal
pub record IsLegalRun (slots : ℕ) (r : Run) : Type 0 where
  pub legal : Legal slots r.history
  pub reading : r.reading < 2 ^ 50

-- the entry of an event that may follow is a step
entry_is_step : (slots : ℕ) (event : Event) (earlier : List Entry) → Asked slots event → may_follow slots event earlier ≡ true → IsStep slots (entry_of slots event earlier) earlier
unfolding may_follow entry_of
entry_is_step slots event earlier asked may =
    let both = both_pass (ltb (stamp_of event (replay slots earlier)) end_of_time) (ltb (held (log_of event.act) earlier) most_entries) may in
    record { asked = asked; number = refl; stamp = refl; before_end = ltb-true _ _ both.0; room = ltb-true _ _ both.1; reply = refl }

-- the run with the entry of an event
abbrev pub with_entry : ℕ → Event → Run → Run
with_entry slots event r = record r { history = entry_of slots event r.history ∷ r.history }

-- a lag takes from the reading
less_reading : (touched : List ℕ) (r : Run) → r.reading < 2 ^ 50 → reading_for touched r < 2 ^ 50
less_reading (slot ∷ []) r less = omega (arith, less)
less_reading _ r less = less

entry_legal : (slots : ℕ) (event : Event) (r : Run) → IsLegalRun slots r → event.reading < 2 ^ 50 → IsFit slots event.act → may_follow slots event r.history ≡ true → IsLegalRun slots (with_entry slots event r)
unfolding entry_of
entry_legal slots event r h less fit may = record {
  legal = (h.legal, entry_is_step slots event r.history (record { reading = less; act = fit.asked }) may);
  reading = h.reading;
}

-- the event of an act of a command
abbrev pub event_for : Act → Run → Event
event_for act r = event_of (reading_for (touches act) r) act

performed_legal : (slots : ℕ) (act : Act) (r : Run) → IsLegalRun slots r → IsFit slots act → IsLegalRun slots (performed slots act r)
performed_legal slots act r h fit =
    let may = may_follow slots (event_for act r) r.history in
    cond_both r.stopped r (cond may (with_entry slots (event_for act r) r) (record r { stopped = true })) (IsLegalRun slots)
    (λ _. h)
    (λ _. cond_both may (with_entry slots (event_for act r) r) (record r { stopped = true }) (IsLegalRun slots)
    (λ e. entry_legal slots (event_for act r) r h (less_reading (touches act) r h.reading) fit e)
    (λ _. record { legal = h.legal; reading = h.reading }))

all_legal : (acts : List Act) (slots : ℕ) (r : Run) → IsLegalRun slots r → AllOf (IsFit slots) acts → IsLegalRun slots (performed_all slots acts r)
all_legal [] slots r h fit = h
all_legal (act ∷ acts) slots r h fit = all_legal acts slots (performed slots act r) (performed_legal slots act r h fit.0) fit.1

-- a run that has stopped stays as it is
pub stopped_stays : (acts : List Act) (slots : ℕ) (r : Run) → r.stopped ≡ true → performed_all slots acts r ≡ r
stopped_stays [] slots r e = refl
stopped_stays (act ∷ acts) slots r e =
    let once : performed slots act r ≡ r = ap (λ b. cond b r (cond (may_follow slots (event_for act r) r.history) (with_entry slots (event_for act r) r) (record r { stopped = true }))) e in
    ap (performed_all slots acts) once ∙ stopped_stays acts slots r e

stopped_legal : (slots : ℕ) (follow : Found → List Act) (r : Run) → IsLegalRun slots r → r.stopped ≡ true → IsLegalRun slots (followed slots follow r)
stopped_legal slots follow r h e = subst (IsLegalRun slots) (sym (stopped_stays (after_look follow r.history) slots r e)) h

-- what holds of the reply of a look that follows
pub look_answers : (slots : ℕ) (ask : Ask) (r : Run) → IsLegalRun slots (with_entry slots (event_for (Look ask) r) r) → IsAnswer slots ask (entry_of slots (event_for (Look ask) r) r.history).reply
unfolding entry_of
look_answers slots ask r h =
    let before = legal_holds r.history slots h.legal.0 in
    record {
      stamp = stamp_of (event_for (Look ask) r) (replay slots r.history);
      parts = replay slots r.history;
      activity = activity_of slots r.history;
      changes = journal_of slots r.history;
      later = omega arith;
      count = replay_slots r.history slots;
      inv = before.inv;
      kinds = replay_kinds r.history slots;
      is = refl;
      right = entry_right _ _ slots h.legal;
    }

-- a look, and the acts that follow it where each reply that it may have makes them fit
look_legal : (slots : ℕ) (ask : Ask) (follow : Found → List Act) (r : Run) → IsLegalRun slots r → IsFit slots (Look ask) → Follows slots ask follow → IsLegalRun slots (followed slots follow (performed slots (Look ask) r))
look_legal slots ask follow r h fit fits =
    let event = event_for (Look ask) r in
    let may = may_follow slots event r.history in
    let P : Run → Type 0 = λ k. IsLegalRun slots (followed slots follow k) in
    cond_both r.stopped r (cond may (with_entry slots event r) (record r { stopped = true })) P
    (λ e. stopped_legal slots follow r h e)
    (λ _. cond_both may (with_entry slots event r) (record r { stopped = true }) P
    (λ e. let now = entry_legal slots event r h (less_reading (touches (Look ask)) r h.reading) fit e in
    let look = entry_of slots event r.history in
    all_legal (follow (found_by look.reply)) slots (with_entry slots event r) now (fits look.reply (look_answers slots ask r now)))
    (λ _. stopped_legal slots follow (record r { stopped = true }) (record { legal = h.legal; reading = h.reading }) refl))

-- Work

work_stays : (acts : List Act) (slots : ℕ) (r : Run) → r.stopped ≡ true → worked_off slots acts r ≡ r
work_stays [] slots r e = refl
work_stays (act ∷ acts) slots r e =
    let event = event_of r.reading act in
    let once : with_event slots event r ≡ r = ap (λ b. cond b r (cond (may_follow slots event r.history) (with_entry slots event r) (record r { stopped = true }))) e in
    ap (worked_off slots acts) once ∙ work_stays acts slots r e

-- the run after so many of a coordinator's next acts
abbrev coordinates : ℕ → ℕ → Run → Run
coordinates slots count r = worked_off slots (coordinated count r.reading (replay slots r.history)) r

-- an act and those that come next after it
next_legal : (found : Option Act) (count slots : ℕ) (r : Run) → IsLegalRun slots r → NextFits slots found → ((next : Run) → IsLegalRun slots next → IsLegalRun slots (coordinates slots count next))
    → IsLegalRun slots (worked_off slots (option_map_or (λ act. act ∷ coordinated count r.reading (after_act r.reading act (replay slots r.history))) found []) r)
unfolding replay entry_of
next_legal None count slots r h fit rest = h
next_legal (Some act) count slots r h fit rest =
    let event = event_of r.reading act in
    let may = may_follow slots event r.history in
    let more = coordinated count r.reading (after_act r.reading act (replay slots r.history)) in
    let P : Run → Type 0 = λ k. IsLegalRun slots (worked_off slots more k) in
    let halts : (k : Run) → IsLegalRun slots k → k.stopped ≡ true → P k = λ k legal e. subst (IsLegalRun slots) (sym (work_stays more slots k e)) legal in
    cond_both r.stopped r (cond may (with_entry slots event r) (record r { stopped = true })) P
    (λ e. halts r h e)
    (λ _. cond_both may (with_entry slots event r) (record r { stopped = true }) P
    (λ e. rest (with_entry slots event r) (entry_legal slots event r h h.reading fit e))
    (λ _. halts (record r { stopped = true }) (record { legal = h.legal; reading = h.reading }) refl))

work_legal : (count slots : ℕ) (r : Run) → IsLegalRun slots r → IsLegalRun slots (coordinates slots count r)
work_legal zero slots r h = h
work_legal (suc count) slots r h =
    let holds = legal_holds r.history slots h.legal in
    next_legal (next_act (replay slots r.history)) count slots r h
    (next_fits slots (replay slots r.history) _ _ (replay_slots r.history slots) holds.inv)
    (λ next legal. work_legal count slots next legal)

taken_legal : (course : Course) (slots : ℕ) (r : Run) → IsLegalRun slots r → CourseFits slots r.reading course → IsLegalRun slots (taken slots course r)
taken_legal (SetReading micros) slots r h fits = record { legal = h.legal; reading = fits }
taken_legal (SetLag slot micros) slots r h fits = record { legal = h.legal; reading = h.reading }
taken_legal (Perform act) slots r h fits = performed_legal slots act r h fits
taken_legal (LookFor ask follow showing) slots r h fits = look_legal slots ask follow r h fits.0 fits.1
taken_legal (WorkOff work) slots r h fits =
    let ps = replay slots r.history in subst (λ acts. IsLegalRun slots (worked_off slots acts r)) (sym (fits.is ps)) (work_legal (fits.bound ps) slots r h)
taken_legal ShowEntries slots r h fits = h

made_legal : (c : ScriptCommand) (slots : ℕ) (r : Run) → IsLegalRun slots r → ScriptAsked slots c → IsLegalRun slots (made_by slots c r)
unfolding made_by
made_legal c slots r h asked = taken_legal (course_of r.reading c) slots r h (course_fits c slots r.reading (asked r.reading h.reading))

text_legal : (slots : ℕ) (text : List ℕ) (r : Run) → IsLegalRun slots r → IsLegalRun slots (with_text text r)
text_legal slots text r h =
    cond_both r.stopped r (record r { text = r.text ++ text; done = r.done + 1 }) (IsLegalRun slots) (λ _. h) (λ _. record { legal = h.legal; reading = h.reading })

ran_legal : (slots : ℕ) (c : Numbered) (r : Run) → IsLegalRun slots r → ScriptAsked slots c.command → IsLegalRun slots (ran slots c r)
ran_legal slots c r h asked =
    let after = made_by slots c.command r in
    let text = text_of c.line c.command r after.history in
    cond_both r.stopped r (with_text text after) (IsLegalRun slots) (λ _. h) (λ _. text_legal slots text after (made_legal c.command slots r h asked))

-- a run that goes on stays legal
pub run_legal : (commands : List Numbered) (slots : ℕ) (r : Run) → IsLegalRun slots r → AllOf (λ c. ScriptAsked slots c.command) commands
    → IsLegalRun slots (run_from slots commands r)
run_legal [] slots r h asked = h
run_legal (c ∷ commands) slots r h asked = run_legal commands slots (ran slots c r) (ran_legal slots c r h asked.0) asked.1

pub script_legal : (slots : ℕ) (commands : List Numbered) → AllOf (λ c. ScriptAsked slots c.command) commands → IsLegalRun slots (run_of slots commands)
unfolding run_of
script_legal slots commands asked = run_legal commands slots begun (record { legal = tt; reading = omega arith }) asked
