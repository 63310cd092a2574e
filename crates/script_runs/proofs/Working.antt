-- What a loop over a coordinator's acts keeps: the run comes to the same from where it is by the acts that come next.
use Rattle.std.proofs.Common.{◌≡◌, ℕ, zero, suc, ◌≤◌, ◌<◌, List, [], ◌∷◌, ◌++◌, true, cond, None, Some, refl, sym, ap, subst, ◌∙◌, arith}
use Rattle.std.specs.Option.{option_map_or}
use Rattle.model.specs.Acts.{Act}
use Rattle.model.specs.Parts.{Parts}
use Rattle.model.specs.Entries.{Entry, ActAsked}
use Rattle.model.specs.History.{Legal, entry_of, replay}
use Rattle.model.specs.Settling.{coordinated, event_of, after_act, left, settle}
use Rattle.model.specs.Work.{next_act}
use Rattle.model_runs.specs.Courses.{Course, WorkOff}
use Rattle.model_runs.specs.Running.{Run, may_follow, with_event, worked_off, taken}
use Rattle.law.proofs.Running.{taken_keeps}
use Rattle.law.proofs.Working.{next_fits}
use Rattle.law_drive.specs.Counting.{events_left}
use Rattle.law_drive.proofs.Coming.{left_of, fit_of, next_falls}
use Rattle.law_drive.proofs.Settled.{next_leaves}
use Rattle.law_drive.proofs.Totals.{within_left}
use Rattle.script_runs.specs.declared.stop.Stop.{Stop}
use Rattle.script_runs.specs.declared.stop.Stop.TheVariants.{NoMemory, Full}
use Rattle.script_runs.specs.Runs.{RunState, run_at, GoesTo, StopsAt, PartOf, Stopped}

-- the parts that a state has
abbrev pub parts_at : RunState → Parts
parts_at s = replay s.slots s.history

-- the next acts of a coordinator in a state, at most so many
abbrev pub acts_at : ℕ → RunState → List Act
acts_at count s = coordinated count s.reading (parts_at s)

-- the run after them
abbrev works : ℕ → RunState → Run → Run
works count s = worked_off s.slots (acts_at count s)

pub record Working (old now : RunState) (most left : ℕ) : Type 0 where
  pub slots : now.slots ≡ old.slots
  pub reading : now.reading ≡ old.reading
  pub reaches : (told : List ℕ) (done : ℕ) → works most old (run_at old told done) ≡ works left now (run_at now told done)
  pub made : List Entry
  pub grown : now.history ≡ made ++ old.history

pub first_working : (old : RunState) (most : ℕ) → Working old old most most
first_working old most = record { slots = refl; reading = refl; reaches = λ told done. refl; made = []; grown = refl }

-- an act that came next was performed
pub record Next (act : Act) (now next : RunState) : Type 0 where
  pub comes : next_act (parts_at now) ≡ Some act
  pub slots : next.slots ≡ now.slots
  pub reading : next.reading ≡ now.reading
  pub goes : GoesTo (with_event now.slots (event_of now.reading act)) now next
  pub history : next.history ≡ entry_of now.slots (event_of now.reading act) now.history ∷ now.history

-- the acts from one that comes next on
acts_from : (count : ℕ) (act : Act) (s : RunState) → next_act (parts_at s) ≡ Some act
    → acts_at (suc count) s ≡ act ∷ coordinated count s.reading (after_act s.reading act (parts_at s))
acts_from count act s comes =
    ap (λ found. option_map_or (λ a. a ∷ coordinated count s.reading (after_act s.reading a (parts_at s))) found []) comes

-- what it leaves
pub leaves : (act : Act) (now next : RunState) → Next act now next → parts_at next ≡ after_act now.reading act (parts_at now)
leaves act now next n =
    ap (λ k. replay k next.history) n.slots ∙ ap (replay now.slots) n.history ∙ next_leaves now.slots now.reading act now.history

-- the acts behind it
acts_behind : (count : ℕ) (act : Act) (now next : RunState) → Next act now next → acts_at count next ≡ coordinated count now.reading (after_act now.reading act (parts_at now))
acts_behind count act now next n =
    ap (λ k. coordinated count k (parts_at next)) n.reading ∙ ap (coordinated count now.reading) (leaves act now next n)

goes_behind : (count : ℕ) (act : Act) (now next : RunState) → Next act now next → (told : List ℕ) (done : ℕ) → works (suc count) now (run_at now told done) ≡ works count next (run_at next told done)
goes_behind count act now next n told done =
    let rest = coordinated count now.reading (after_act now.reading act (parts_at now)) in
    ap (λ acts. worked_off now.slots acts (run_at now told done)) (acts_from count act now n.comes)
    ∙ ap (worked_off now.slots rest) (n.goes told done)
    ∙ ap (λ k. worked_off k rest (run_at next told done)) (sym n.slots)
    ∙ ap (λ acts. worked_off next.slots acts (run_at next told done)) (sym (acts_behind count act now next n))

pub next_working : (old now next : RunState) (most left : ℕ) (act : Act) → Working old now most (suc left) → Next act now next → Working old next most left
next_working old now next most left act w n = record {
  slots = n.slots ∙ w.slots;
  reading = n.reading ∙ w.reading;
  reaches = λ told done. w.reaches told done ∙ goes_behind left act now next n told done;
  made = entry_of now.slots (event_of now.reading act) now.history ∷ w.made;
  grown = n.history ∙ ap (λ h. entry_of now.slots (event_of now.reading act) now.history ∷ h) w.grown;
}

-- The end

-- where nothing comes next no act is left
pub acts_none : (count : ℕ) (s : RunState) → next_act (parts_at s) ≡ None → acts_at count s ≡ []
acts_none zero s none = refl
acts_none (suc count) s none =
    ap (λ found. option_map_or (λ a. a ∷ coordinated count s.reading (after_act s.reading a (parts_at s))) found []) none

pub goes_working : (old now : RunState) (most left : ℕ) → Working old now most left → acts_at left now ≡ [] → GoesTo (taken old.slots (WorkOff (coordinated most old.reading))) old now
goes_working old now most left w none told done =
    w.reaches told done ∙ ap (λ acts. worked_off now.slots acts (run_at now told done)) none

-- a course that was taken whole was taken in part
pub taken_done : (course : Course) (s new : RunState) → GoesTo (taken s.slots course) s new → PartOf (taken s.slots course) s new
taken_done course s new goes told done =
    let kept = taken_keeps course s.slots (run_at s told done) in
    let is = ap (λ (r : Run). r.history) (goes told done) in record {
      more = kept.later;
      behind = sym is ∙ kept.is;
      rest = [];
      within = is;
    }

-- Where it stops

work_stays : (acts : List Act) (slots : ℕ) (r : Run) → r.stopped ≡ true → worked_off slots acts r ≡ r
work_stays [] slots r e = refl
work_stays (act ∷ acts) slots r e =
    let event = event_of r.reading act in
    let once : with_event slots event r ≡ r = ap (λ b. cond b r (cond (may_follow slots event r.history) (record r { history = entry_of slots event r.history ∷ r.history }) (record r { stopped = true }))) e in
    ap (worked_off slots acts) once ∙ work_stays acts slots r e

-- where the event that comes next can't be, the whole stops there
full_working : (old now : RunState) (most left : ℕ) (act : Act) → Working old now most (suc left) → next_act (parts_at now) ≡ Some act
    → StopsAt (with_event now.slots (event_of now.reading act)) now now → StopsAt (taken old.slots (WorkOff (coordinated most old.reading))) old now
full_working old now most left act w comes stops told done =
    let rest = coordinated left now.reading (after_act now.reading act (parts_at now)) in
    w.reaches told done
    ∙ ap (λ acts. worked_off now.slots acts (run_at now told done)) (acts_from left act now comes)
    ∙ ap (worked_off now.slots rest) (stops told done)
    ∙ work_stays rest now.slots (record (run_at now told done) { stopped = true }) refl

-- wherever it is, some of the events were performed
part_working : (old now : RunState) (most left : ℕ) → Working old now most left → PartOf (taken old.slots (WorkOff (coordinated most old.reading))) old now
part_working old now most left w told done =
    let rest = taken_keeps (WorkOff (coordinated left now.reading)) now.slots (run_at now told done) in record {
      more = w.made;
      behind = w.grown;
      rest = rest.later;
      within = ap (λ (r : Run). r.history) (w.reaches told done) ∙ rest.is;
    }

pub stopped_working : (why : Stop) (old now new : RunState) (most left : ℕ) (act : Act) → Working old now most (suc left) → next_act (parts_at now) ≡ Some act → new ≡ now
    → Stopped why (with_event now.slots (event_of now.reading act)) now new → Stopped why (taken old.slots (WorkOff (coordinated most old.reading))) old new
stopped_working NoMemory old now new most left act w comes is came = subst (PartOf (taken old.slots (WorkOff (coordinated most old.reading))) old) (sym is) (part_working old now most (suc left) w)
stopped_working Full old now new most left act w comes is came = (
  subst (StopsAt (taken old.slots (WorkOff (coordinated most old.reading))) old) (sym is) (full_working old now most left act w comes (subst (StopsAt (with_event now.slots (event_of now.reading act)) now) is came.0)),
  subst (PartOf (taken old.slots (WorkOff (coordinated most old.reading))) old) (sym is) (part_working old now most (suc left) w),
)

-- What comes next may be asked

pub next_asked : (s : RunState) (act : Act) → Legal s.slots s.history → next_act (parts_at s) ≡ Some act → ActAsked s.slots act
next_asked s act legal comes =
    let h = left_of s.slots s.history legal in fit_of (next_act (parts_at s)) s.slots act comes (next_fits s.slots (parts_at s) h.activity h.changes h.count h.inv)

-- Until nothing comes: the acts that are left are at least as many as the events that are

pub record Settling (old now : RunState) : Type 0 where
  pub count : ℕ
  pub working : Working old now (left (parts_at old).master) count
  pub bound : events_left (parts_at now) ≤ count

pub first_settling : (old : RunState) → Legal old.slots old.history → Settling old old
first_settling old legal =
    let h = left_of old.slots old.history legal in record {
      count = left (parts_at old).master;
      working = first_working old (left (parts_at old).master);
      bound = within_left (parts_at old) h.changes h.inv.operations;
    }

-- each event that comes next leaves fewer
pub fewer : (act : Act) (now next : RunState) → Legal now.slots now.history → Next act now next → events_left (parts_at next) < events_left (parts_at now)
fewer act now next legal n =
    let h = left_of now.slots now.history legal in
    subst (λ ps. events_left ps < events_left (parts_at now)) (sym (leaves act now next n)) (next_falls (parts_at now) h.activity h.changes now.reading act h.inv n.comes)

-- where one comes one is left
one_left : (act : Act) (now : RunState) → Legal now.slots now.history → next_act (parts_at now) ≡ Some act → 1 ≤ events_left (parts_at now)
one_left act now legal comes =
    let h = left_of now.slots now.history legal in
    let less = next_falls (parts_at now) h.activity h.changes now.reading act h.inv comes in omega (arith, less)

next_counted : (count : ℕ) (old now next : RunState) (act : Act) → Working old now (left (parts_at old).master) count → events_left (parts_at now) ≤ count → Next act now next
    → events_left (parts_at next) < events_left (parts_at now) → Settling old next
next_counted zero old now next act w bound n less = absurd (omega (arith, bound, less))
next_counted (suc count) old now next act w bound n less = record { count = count; working = next_working old now next (left (parts_at old).master) count act w n; bound = omega (arith, bound, less) }

pub next_settling : (old now next : RunState) (act : Act) → Legal now.slots now.history → Settling old now → Next act now next → Settling old next
next_settling old now next act legal s n = next_counted s.count old now next act s.working s.bound n (fewer act now next legal n)

pub goes_settling : (old now : RunState) → Settling old now → next_act (parts_at now) ≡ None → GoesTo (taken old.slots (WorkOff (settle old.reading))) old now
goes_settling old now s none = goes_working old now (left (parts_at old).master) s.count s.working (acts_none s.count now none)

stopped_counted : (count : ℕ) (why : Stop) (old now new : RunState) (act : Act) → Working old now (left (parts_at old).master) count → 1 ≤ count → next_act (parts_at now) ≡ Some act → new ≡ now
    → Stopped why (with_event now.slots (event_of now.reading act)) now new → Stopped why (taken old.slots (WorkOff (settle old.reading))) old new
stopped_counted zero why old now new act w some comes is came = absurd (omega (arith, some))
stopped_counted (suc count) NoMemory old now new act w some comes is came = stopped_working NoMemory old now new (left (parts_at old).master) count act w comes is came
stopped_counted (suc count) Full old now new act w some comes is came = stopped_working Full old now new (left (parts_at old).master) count act w comes is came

pub stopped_settling : (why : Stop) (old now new : RunState) (act : Act) → Legal now.slots now.history → Settling old now → next_act (parts_at now) ≡ Some act → new ≡ now
    → Stopped why (with_event now.slots (event_of now.reading act)) now new → Stopped why (taken old.slots (WorkOff (settle old.reading))) old new
stopped_settling why old now new act legal s comes is came =
    let one = one_left act now legal comes in
    stopped_counted s.count why old now new act s.working (let bound = s.bound in omega (arith, bound, one)) comes is came
