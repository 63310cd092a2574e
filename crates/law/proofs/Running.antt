-- A run goes on: the run of commands and then of more is the run of all, and what was made stays, behind what is made later.
use Rattle.std.proofs.Common.{ℕ, ◌≡◌, List, [], ◌∷◌, ◌++◌, true, cond, ◌+◌, refl, sym, ap, ◌∙◌}
use Rattle.std.proofs.lemmas.Bool.{cond_both}
use Rattle.std.proofs.lemmas.List.{append_assoc}
use Rattle.model.specs.Acts.{Act, Look, Event}
use Rattle.model.specs.Entries.{Entry, touches}
use Rattle.model.specs.History.{Legal, entry_of, replay}
use Rattle.model.specs.Replies.{Right}
use Rattle.model.specs.Settling.{event_of}
use Rattle.model.specs.Scripts.{ScriptCommand, Numbered}
use Rattle.model_runs.specs.Courses.{Course, Perform, LookFor, WorkOff, ShowEntries, course_of}
use Rattle.model_runs.specs.Running.{Run, may_follow, with_event, reading_for, performed, performed_all, worked_off, after_look, followed, taken, made_by, with_text, text_of, ran, run_from, run_of, begun}

-- commands and then more
pub run_append : (xs ys : List Numbered) (slots : ℕ) (r : Run) → run_from slots (xs ++ ys) r ≡ run_from slots ys (run_from slots xs r)
run_append [] ys slots r = refl
run_append (x ∷ xs) ys slots r = run_append xs ys slots (ran slots x r)

pub run_of_append : (xs ys : List Numbered) (slots : ℕ) → run_of slots (xs ++ ys) ≡ run_from slots ys (run_of slots xs)
unfolding run_of
run_of_append xs ys slots = run_append xs ys slots begun

-- a history has an earlier one as its tail
pub record IsTail (earlier history : List Entry) : Type 0 where
  pub later : List Entry
  pub is : history ≡ later ++ earlier

tail_itself : (h : List Entry) → IsTail h h
tail_itself h = record { later = []; is = refl }

tail_of_tail : (a b c : List Entry) → IsTail a b → IsTail b c → IsTail a c
tail_of_tail a b c ab bc = record { later = bc.later ++ ab.later; is = bc.is ∙ ap (λ h. bc.later ++ h) ab.is ∙ sym (append_assoc bc.later ab.later a) }

event_keeps : (slots : ℕ) (event : Event) (r : Run) → IsTail r.history (with_event slots event r).history
event_keeps slots event r =
    let e = entry_of slots event r.history in
    let may = may_follow slots event r.history in
    let P : Run → Type 0 = λ k. IsTail r.history k.history in
    cond_both r.stopped r (cond may (record r { history = e ∷ r.history }) (record r { stopped = true })) P
    (λ _. tail_itself r.history)
    (λ _. cond_both may (record r { history = e ∷ r.history }) (record r { stopped = true }) P (λ _. record { later = e ∷ []; is = refl }) (λ _. tail_itself r.history))

pub performed_keeps : (slots : ℕ) (act : Act) (r : Run) → IsTail r.history (performed slots act r).history
performed_keeps slots act r = event_keeps slots (event_of (reading_for (touches act) r) act) r

pub all_keep : (acts : List Act) (slots : ℕ) (r : Run) → IsTail r.history (performed_all slots acts r).history
all_keep [] slots r = tail_itself r.history
all_keep (act ∷ acts) slots r =
    let next = performed slots act r in tail_of_tail r.history next.history (performed_all slots acts next).history (performed_keeps slots act r) (all_keep acts slots next)

work_keeps : (acts : List Act) (slots : ℕ) (r : Run) → IsTail r.history (worked_off slots acts r).history
work_keeps [] slots r = tail_itself r.history
work_keeps (act ∷ acts) slots r =
    let event = event_of r.reading act in
    let next = with_event slots event r in
    tail_of_tail r.history next.history (worked_off slots acts next).history (event_keeps slots event r) (work_keeps acts slots next)

pub taken_keeps : (course : Course) (slots : ℕ) (r : Run) → IsTail r.history (taken slots course r).history
taken_keeps (Perform act) slots r = performed_keeps slots act r
taken_keeps (LookFor ask follow showing) slots r =
    let next = performed slots (Look ask) r in
    tail_of_tail r.history next.history (followed slots follow next).history (performed_keeps slots (Look ask) r) (all_keep (after_look follow next.history) slots next)
taken_keeps (WorkOff work) slots r = work_keeps (work (replay slots r.history)) slots r
taken_keeps ShowEntries slots r = tail_itself r.history
taken_keeps _ slots r = tail_itself r.history

made_keeps : (c : ScriptCommand) (slots : ℕ) (r : Run) → IsTail r.history (made_by slots c r).history
unfolding made_by
made_keeps c slots r = taken_keeps (course_of r.reading c) slots r

text_keeps : (text : List ℕ) (r : Run) → (with_text text r).history ≡ r.history
text_keeps text r = cond_both r.stopped r (record r { text = r.text ++ text; done = r.done + 1 }) (λ k. k.history ≡ r.history) (λ _. refl) (λ _. refl)

ran_keeps : (slots : ℕ) (c : Numbered) (r : Run) → IsTail r.history (ran slots c r).history
ran_keeps slots c r =
    let next = made_by slots c.command r in
    let made = made_keeps c.command slots r in
    let text = text_of c.line c.command r next.history in
    cond_both r.stopped r (with_text text next) (λ k. IsTail r.history k.history)
    (λ _. tail_itself r.history)
    (λ _. record { later = made.later; is = text_keeps text next ∙ made.is })

-- what a run goes on from stays
pub run_keeps : (commands : List Numbered) (slots : ℕ) (r : Run) → IsTail r.history (run_from slots commands r).history
run_keeps [] slots r = tail_itself r.history
run_keeps (c ∷ commands) slots r = tail_of_tail r.history (ran slots c r).history (run_from slots commands (ran slots c r)).history (ran_keeps slots c r) (run_keeps commands slots (ran slots c r))

-- what a script's first commands made is the tail of what all make
pub first_keeps : (xs ys : List Numbered) (slots : ℕ) → IsTail (run_of slots xs).history (run_of slots (xs ++ ys)).history
first_keeps xs ys slots =
    let rest = run_keeps ys slots (run_of slots xs) in record { later = rest.later; is = ap (λ r. r.history) (run_of_append xs ys slots) ∙ rest.is }

-- a tail of a legal history is legal, and a tail of a right one is right

pub legal_tail : (later earlier : List Entry) (slots : ℕ) → Legal slots (later ++ earlier) → Legal slots earlier
legal_tail [] earlier slots legal = legal
legal_tail (e ∷ later) earlier slots legal = legal_tail later earlier slots legal.0

pub right_tail : (later earlier : List Entry) (slots : ℕ) → Right slots (later ++ earlier) → Right slots earlier
right_tail [] earlier slots right = right
right_tail (e ∷ later) earlier slots right = right_tail later earlier slots right.0
