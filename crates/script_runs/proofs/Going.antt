-- What one event comes to: it is performed, or the run stops.
use Rattle.std.proofs.Common.{◌≡◌, ℕ, List, [], ◌∷◌, Bool, true, false, cond, ltb, leb, ◌&&◌, None, Some, ◌⊎◌, inl, inr, get_or, refl, sym, ap, subst, ◌∙◌, arith}
use Rattle.std.specs.Prelude.{Result, Ok, Err, IsErrAnd}
use Rattle.std.proofs.lemmas.Bool.{cond_both}
use Rattle.std.proofs.lemmas.Bool.Decides.{nat_tests}
use Rattle.model.specs.Times.{end_of_time}
use Rattle.model.specs.Acts.{Act, Event}
use Rattle.model.specs.Entries.{Entry, log_of, stamp_of, touches}
use Rattle.model.specs.History.{replay, held, most_entries, entry_of}
use Rattle.model.specs.Settling.{event_of}
use Rattle.model_runs.specs.Running.{Run, may_follow, with_event, reading_for, performed}
use Rattle.machine_laws.specs.Faults.{StepFault, ClockEnd, LogFull, fault_by, fault_after}
use Rattle.cluster_core.specs.declared.fault.StepRefused.{StepRefused}
use Rattle.cluster_core.specs.declared.fault.StepRefused.TheVariants as refused
use Rattle.cluster_core.specs.Causes.{RefusedBy}
use Rattle.script_runs.specs.declared.stop.Stop.{Stop}
use Rattle.script_runs.specs.declared.stop.Stop.TheVariants.{NoMemory, Full}
use Rattle.script_runs.specs.Stops.{stop_of}
use Rattle.script_runs.specs.Runs.{RunState, run_at, IsPart, GoesTo, StopsAt, PartOf, Stopped, Came}
use Rattle.script_runs.proofs.Readings.{same_reading}

-- Faults

none_cases : (late full : Bool) (slot : ℕ) → cond late (Some ClockEnd) (cond full (Some (LogFull slot)) None) ≡ None → (late ≡ false) × (full ≡ false)
none_cases true full slot e = absurd (let q : Some ClockEnd ≡ None = e in grind arith)
none_cases false true slot e = absurd (let q : Some (LogFull slot) ≡ None = e in grind arith)
none_cases false false slot e = (refl, refl)

some_cases : (late full : Bool) (slot : ℕ) (fault : StepFault) → cond late (Some ClockEnd) (cond full (Some (LogFull slot)) None) ≡ Some fault → (late ≡ true) ⊎ (full ≡ true)
some_cases true full slot fault e = inl refl
some_cases false true slot fault e = inr refl
some_cases false false slot fault e = absurd (let q : None ≡ Some fault = e in grind arith)

and_no : (b : Bool) → (b && false) ≡ false
and_no true = refl
and_no false = refl

none_follows : (stamp slot count : ℕ) → fault_by stamp slot count ≡ None → (ltb stamp end_of_time && ltb count most_entries) ≡ true
none_follows stamp slot count none =
    let by = none_cases (leb end_of_time stamp) (leb most_entries count) slot none in
    let early_not = by.0 in
    let full_not = by.1 in
    let early : ltb stamp end_of_time ≡ true = grind (arith, nat_tests) in
    let room : ltb count most_entries ≡ true = grind (arith, nat_tests) in
    rw (early, room) refl

some_stops : (stamp slot count : ℕ) (fault : StepFault) → fault_by stamp slot count ≡ Some fault → (ltb stamp end_of_time && ltb count most_entries) ≡ false
some_stops stamp slot count fault some = elim (some_cases (leb end_of_time stamp) (leb most_entries count) slot fault some) [
  | inl late ↦ (let e : ltb stamp end_of_time ≡ false = grind (arith, nat_tests) in rw e refl)
  | inr full ↦ (let e : ltb count most_entries ≡ false = grind (arith, nat_tests) in ap (λ b. ltb stamp end_of_time && b) e ∙ and_no (ltb stamp end_of_time))
]

-- an event without a fault may follow, and one with a fault may not

may_go : (slots : ℕ) (event : Event) (earlier : List Entry) → fault_after slots event earlier ≡ None → may_follow slots event earlier ≡ true
unfolding may_follow entry_of
may_go slots event earlier none = none_follows (stamp_of event (replay slots earlier)) (log_of event.act) (held (log_of event.act) earlier) none

may_stop : (slots : ℕ) (event : Event) (earlier : List Entry) (fault : StepFault) → fault_after slots event earlier ≡ Some fault → may_follow slots event earlier ≡ false
unfolding may_follow entry_of
may_stop slots event earlier fault some = some_stops (stamp_of event (replay slots earlier)) (log_of event.act) (held (log_of event.act) earlier) fault some

-- Events

same_run : (s new : RunState) (told : List ℕ) (done : ℕ) (h : List Entry) → new.reading ≡ s.reading → new.lags ≡ s.lags → new.history ≡ h → record (run_at s told done) { history = h } ≡ run_at new told done
same_run s new told done h reading lags history =
    let f : ℕ → List ℕ → List Entry → Run = λ k l g. record { reading = k; lag = λ slot. get_or l slot 0; history = g; text = told; done = done; stopped = false } in
    sym (ap (λ k. f k new.lags new.history) reading ∙ ap (λ l. f s.reading l new.history) lags ∙ ap (f s.reading s.lags) history)

event_goes : (event : Event) (s new : RunState) → fault_after s.slots event s.history ≡ None → new.reading ≡ s.reading → new.lags ≡ s.lags → new.history ≡ entry_of s.slots event s.history ∷ s.history → GoesTo (with_event s.slots event) s new
event_goes event s new none reading lags history told done =
    let r = run_at s told done in
    let entries = entry_of s.slots event s.history ∷ s.history in
    ap (λ b. cond b (record r { history = entries }) (record r { stopped = true })) (may_go s.slots event s.history none)
    ∙ same_run s new told done entries reading lags history

event_stops : (event : Event) (s : RunState) (fault : StepFault) → fault_after s.slots event s.history ≡ Some fault → StopsAt (with_event s.slots event) s s
event_stops event s fault some told done =
    let r = run_at s told done in
    ap (λ b. cond b (record r { history = entry_of s.slots event s.history ∷ s.history }) (record r { stopped = true })) (may_stop s.slots event s.history fault some)

-- nothing of it was performed
event_kept : (event : Event) (s : RunState) → PartOf (with_event s.slots event) s s
event_kept event s told done =
    let r = run_at s told done in
    let e = entry_of s.slots event s.history in
    cond_both (may_follow s.slots event s.history) (record r { history = e ∷ s.history }) (record r { stopped = true }) (λ k. IsPart s.history s.history k.history)
    (λ _. record { more = []; behind = refl; rest = e ∷ []; within = refl })
    (λ _. record { more = []; behind = refl; rest = []; within = refl })

-- A step of the cluster, in a state as code has it

same_state : (s new : RunState) → new.slots ≡ s.slots → new.reading ≡ s.reading → new.lags ≡ s.lags → new.history ≡ s.history → new ≡ s
same_state s new slots reading lags history =
    let f : ℕ → ℕ → List ℕ → List Entry → RunState = λ n k l h. record { slots = n; reading = k; lags = l; history = h } in
    ap (λ n. f n new.reading new.lags new.history) slots ∙ ap (λ k. f s.slots k new.lags new.history) reading ∙ ap (λ l. f s.slots s.reading l new.history) lags ∙ ap (f s.slots s.reading s.lags) history

pub step_goes : (event : Event) (v s new : RunState) → v ≡ s → fault_after v.slots event v.history ≡ None → new.reading ≡ v.reading → new.lags ≡ v.lags
    → new.history ≡ entry_of v.slots event v.history ∷ v.history → GoesTo (with_event s.slots event) s new
step_goes event v s new is none reading lags history =
    event_goes event s new
    (subst (λ (t : RunState). fault_after t.slots event t.history ≡ None) is none)
    (reading ∙ ap (λ (t : RunState). t.reading) is)
    (lags ∙ ap (λ (t : RunState). t.lags) is)
    (subst (λ (t : RunState). new.history ≡ entry_of t.slots event t.history ∷ t.history) is history)

stop_came : (why : StepRefused) (event : Event) (s : RunState) → RefusedBy (fault_after s.slots event s.history) why → Stopped (stop_of why) (with_event s.slots event) s s
stop_came refused.NoMemory event s cause = event_kept event s
stop_came refused.ClockEnd event s cause = (event_stops event s ClockEnd cause, event_kept event s)
stop_came (refused.EventsFull slot) event s cause = (event_stops event s (LogFull slot) cause, event_kept event s)

pub step_stops : (event : Event) (v s new : RunState) (why : StepRefused) → v ≡ s → RefusedBy (fault_after v.slots event v.history) why
    → new.slots ≡ v.slots → new.reading ≡ v.reading → new.lags ≡ v.lags → new.history ≡ v.history → Stopped (stop_of why) (with_event s.slots event) s new
step_stops event v s new why is cause slots reading lags history =
    let here = subst (λ (t : RunState). RefusedBy (fault_after t.slots event t.history) why) is cause in
    subst (λ t. Stopped (stop_of why) (with_event s.slots event) s t) (sym (same_state v new slots reading lags history ∙ is)) (stop_came why event s here)

-- Two changes that are the same in a state

pub goes_as : (change other : Run → Run) (old new : RunState) → ((told : List ℕ) (done : ℕ) → change (run_at old told done) ≡ other (run_at old told done)) → GoesTo other old new → GoesTo change old new
goes_as change other old new same goes told done = same told done ∙ goes told done

stops_as : (change other : Run → Run) (old new : RunState) → ((told : List ℕ) (done : ℕ) → change (run_at old told done) ≡ other (run_at old told done)) → StopsAt other old new → StopsAt change old new
stops_as change other old new same stops told done = same told done ∙ stops told done

part_as : (change other : Run → Run) (old new : RunState) → ((told : List ℕ) (done : ℕ) → change (run_at old told done) ≡ other (run_at old told done)) → PartOf other old new → PartOf change old new
part_as change other old new same part told done = subst (λ (r : Run). IsPart old.history new.history r.history) (sym (same told done)) (part told done)

pub came_as : {A : Type 0} (r : Result A Stop) (change other : Run → Run) (old new : RunState) → ((told : List ℕ) (done : ℕ) → change (run_at old told done) ≡ other (run_at old told done)) → Came r other old new → Came r change old new
came_as (Ok made) change other old new same came = goes_as change other old new same came
came_as (Err NoMemory) change other old new same came = part_as change other old new same came
came_as (Err Full) change other old new same came = (stops_as change other old new same came.0, part_as change other old new same came.1)

-- the act's event, whose reading is the same whatever was told
act_is : (act : Act) (s : RunState) (reading : ℕ) → reading ≡ reading_for (touches act) (run_at s [] 0) → (told : List ℕ) (done : ℕ) → performed s.slots act (run_at s told done) ≡ with_event s.slots (event_of reading act) (run_at s told done)
act_is act s reading by told done =
    ap (λ k. with_event s.slots (event_of k act) (run_at s told done)) (same_reading (touches act) s told done ∙ sym by)

pub act_came : {A : Type 0} (r : Result A Stop) (act : Act) (s new : RunState) (reading : ℕ) → reading ≡ reading_for (touches act) (run_at s [] 0) → Came r (with_event s.slots (event_of reading act)) s new → Came r (performed s.slots act) s new
act_came r act s new reading by came = came_as r (performed s.slots act) (with_event s.slots (event_of reading act)) s new (act_is act s reading by) came

-- an error that is handed on
pub handed_on : {A : Type 0} (r : Result A Stop) (why : Stop) (change : Run → Run) (old new : RunState) → IsErrAnd r (λ e. e ≡ why) → Stopped why change old new → Came r change old new
handed_on (Ok made) why change old new is stopped = absurd is
handed_on (Err e) why change old new is stopped = subst (λ k. Stopped k change old new) (sym is) stopped
