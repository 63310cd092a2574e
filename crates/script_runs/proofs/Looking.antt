-- A look and the acts that follow it.
use Rattle.std.specs.Prelude.{Option}
use Rattle.std.proofs.Common.{◌≡◌, ℕ, List, [], ◌∷◌, ◌++◌, true, refl, sym, ap, subst, ◌∙◌}
use Rattle.std.proofs.lemmas.List.{append_assoc}
use Rattle.model.specs.Acts.{Act, Look, Ask}
use Rattle.model.specs.Entries.{Entry}
use Rattle.model_runs.specs.Courses.{Found, found_by, Showing, LookFor}
use Rattle.model_runs.specs.Running.{Run, performed, performed_all, after_look, followed, taken}
use Rattle.law.proofs.Runs.{stopped_stays}
use Rattle.law.proofs.Running.{IsTail, performed_keeps, all_keep}
use Rattle.machine_laws.specs.Views.{AnswerView}
use Rattle.script_runs.specs.declared.stop.Stop.{Stop}
use Rattle.script_runs.specs.declared.stop.Stop.TheVariants.{NoMemory, Full}
use Rattle.script_runs.specs.Shown.{IsGrown, shown_by, last_of}
use Rattle.script_runs.specs.Runs.{RunState, run_at, entry_under, GoesTo, StopsAt, PartOf, Stopped}
use Rattle.model_runs.specs.Running.{columns_in, shown_text}
use Rattle.script_runs.proofs.Asking.{FollowsFew}
use Rattle.script_runs.proofs.Showing.{look_shows, entry_no_rows}

-- Parts of what a change makes

pub nothing_done : (change : Run → Run) (s : RunState) → ((told : List ℕ) (done : ℕ) → IsTail s.history (change (run_at s told done)).history) → PartOf change s s
nothing_done change s tail told done = let k = tail told done in record { more = []; behind = refl; rest = k.later; within = k.is }

pub whole_done : (change : Run → Run) (s new : RunState) (more : List Entry) → new.history ≡ more ++ s.history → GoesTo change s new → PartOf change s new
whole_done change s new more is goes told done = record { more = more; behind = is; rest = []; within = ap (λ (r : Run). r.history) (goes told done) }

-- The look's act, and then those that follow

abbrev pub acts_behind : Ask → (Found → List Act) → RunState → List Act
acts_behind ask follow s = follow (found_by (entry_under (Look ask) s).reply)

-- the whole from the look on
look_is : (s mid : RunState) (ask : Ask) (follow : Found → List Act) (showing : Showing) (told : List ℕ) (done : ℕ) → mid.slots ≡ s.slots
    → mid.history ≡ entry_under (Look ask) s ∷ s.history → GoesTo (performed s.slots (Look ask)) s mid
    → taken s.slots (LookFor ask follow showing) (run_at s told done) ≡ performed_all mid.slots (acts_behind ask follow s) (run_at mid told done)
look_is s mid ask follow showing told done slots history goes =
    ap (followed s.slots follow) (goes told done)
    ∙ ap (λ h. performed_all s.slots (after_look follow h) (run_at mid told done)) history
    ∙ ap (λ k. performed_all k (acts_behind ask follow s) (run_at mid told done)) (sym slots)

pub look_goes : (s mid new : RunState) (ask : Ask) (follow : Found → List Act) (showing : Showing) → mid.slots ≡ s.slots
    → mid.history ≡ entry_under (Look ask) s ∷ s.history → GoesTo (performed s.slots (Look ask)) s mid
    → GoesTo (performed_all mid.slots (acts_behind ask follow s)) mid new → GoesTo (taken s.slots (LookFor ask follow showing)) s new
look_goes s mid new ask follow showing slots history goes rest told done =
    look_is s mid ask follow showing told done slots history goes ∙ rest told done

pub acts_stop : (s mid new : RunState) (ask : Ask) (follow : Found → List Act) (showing : Showing) → mid.slots ≡ s.slots
    → mid.history ≡ entry_under (Look ask) s ∷ s.history → GoesTo (performed s.slots (Look ask)) s mid
    → StopsAt (performed_all mid.slots (acts_behind ask follow s)) mid new → StopsAt (taken s.slots (LookFor ask follow showing)) s new
acts_stop s mid new ask follow showing slots history goes rest told done =
    look_is s mid ask follow showing told done slots history goes ∙ rest told done

pub look_stops : (s : RunState) (ask : Ask) (follow : Found → List Act) (showing : Showing) → StopsAt (performed s.slots (Look ask)) s s → StopsAt (taken s.slots (LookFor ask follow showing)) s s
look_stops s ask follow showing stops told done =
    ap (followed s.slots follow) (stops told done)
    ∙ stopped_stays (after_look follow s.history) s.slots (record (run_at s told done) { stopped = true }) refl

-- some of its events

pub look_kept : (s : RunState) (ask : Ask) (follow : Found → List Act) (showing : Showing) → PartOf (taken s.slots (LookFor ask follow showing)) s s
look_kept s ask follow showing = nothing_done (taken s.slots (LookFor ask follow showing)) s (λ told done.
    let first = performed_keeps s.slots (Look ask) (run_at s told done) in
    let mid = performed s.slots (Look ask) (run_at s told done) in
    let rest = all_keep (after_look follow mid.history) s.slots mid in
    record {
      later = rest.later ++ first.later;
      is = rest.is ∙ ap (λ h. rest.later ++ h) first.is ∙ sym (append_assoc rest.later first.later s.history);
    })

pub acts_part : (s mid new : RunState) (ask : Ask) (follow : Found → List Act) (showing : Showing) → mid.slots ≡ s.slots
    → mid.history ≡ entry_under (Look ask) s ∷ s.history → GoesTo (performed s.slots (Look ask)) s mid
    → PartOf (performed_all mid.slots (acts_behind ask follow s)) mid new → PartOf (taken s.slots (LookFor ask follow showing)) s new
acts_part s mid new ask follow showing slots history goes p told done =
    let k = p told done in record {
      more = k.more ++ (entry_under (Look ask) s ∷ []);
      behind = k.behind ∙ ap (λ h. k.more ++ h) history ∙ sym (append_assoc k.more (entry_under (Look ask) s ∷ []) s.history);
      rest = k.rest;
      within = ap (λ (r : Run). r.history) (look_is s mid ask follow showing told done slots history goes) ∙ k.within;
    }

pub look_done : (s mid : RunState) (ask : Ask) (follow : Found → List Act) (showing : Showing) → mid.slots ≡ s.slots
    → mid.history ≡ entry_under (Look ask) s ∷ s.history → GoesTo (performed s.slots (Look ask)) s mid → PartOf (taken s.slots (LookFor ask follow showing)) s mid
look_done s mid ask follow showing slots history goes =
    acts_part s mid mid ask follow showing slots history goes
    (nothing_done (performed_all mid.slots (acts_behind ask follow s)) mid
    (λ told done. all_keep (acts_behind ask follow s) mid.slots (run_at mid told done)))

-- The steps of the code that looks

-- the look was performed, and these acts follow it
pub record Looked (s mid : RunState) (ask : Ask) (follow : Found → List Act) (acts : List Act) : Type 0 where
  pub slots : mid.slots ≡ s.slots
  pub history : mid.history ≡ entry_under (Look ask) s ∷ s.history
  pub goes : GoesTo (performed s.slots (Look ask)) s mid
  pub acts_are : acts ≡ acts_behind ask follow s

pub first_err : (why : Stop) (s new : RunState) (ask : Ask) (follow : Found → List Act) (showing : Showing) → new ≡ s
    → Stopped why (performed s.slots (Look ask)) s new → Stopped why (taken s.slots (LookFor ask follow showing)) s new
first_err NoMemory s new ask follow showing is came = subst (PartOf (taken s.slots (LookFor ask follow showing)) s) (sym is) (look_kept s ask follow showing)
first_err Full s new ask follow showing is came = (
  subst (StopsAt (taken s.slots (LookFor ask follow showing)) s) (sym is) (look_stops s ask follow showing (subst (StopsAt (performed s.slots (Look ask)) s) is came.0)),
  subst (PartOf (taken s.slots (LookFor ask follow showing)) s) (sym is) (look_kept s ask follow showing),
)

pub acts_err : (why : Stop) (s mid new : RunState) (ask : Ask) (follow : Found → List Act) (showing : Showing) (acts : List Act) → Looked s mid ask follow acts
    → Stopped why (performed_all mid.slots acts) mid new → Stopped why (taken s.slots (LookFor ask follow showing)) s new
acts_err NoMemory s mid new ask follow showing acts k came =
    acts_part s mid new ask follow showing k.slots k.history k.goes (subst (λ l. PartOf (performed_all mid.slots l) mid new) k.acts_are came)
acts_err Full s mid new ask follow showing acts k came = (
  acts_stop s mid new ask follow showing k.slots k.history k.goes (subst (λ l. StopsAt (performed_all mid.slots l) mid new) k.acts_are came.0),
  acts_part s mid new ask follow showing k.slots k.history k.goes (subst (λ l. PartOf (performed_all mid.slots l) mid new) k.acts_are came.1),
)

pub all_done : (s mid new : RunState) (ask : Ask) (follow : Found → List Act) (showing : Showing) (acts : List Act) → Looked s mid ask follow acts
    → GoesTo (performed_all mid.slots acts) mid new → GoesTo (taken s.slots (LookFor ask follow showing)) s new
all_done s mid new ask follow showing acts k goes =
    look_goes s mid new ask follow showing k.slots k.history k.goes (subst (λ l. GoesTo (performed_all mid.slots l) mid new) k.acts_are goes)

pub untold : (s mid new : RunState) (ask : Ask) (follow : Found → List Act) (showing : Showing) (acts : List Act) (newest : Option AnswerView) (count : ℕ) → Looked s mid ask follow acts
    → GoesTo (performed_all mid.slots acts) mid new → IsGrown newest count mid.history new.history → PartOf (taken s.slots (LookFor ask follow showing)) s new
untold s mid new ask follow showing acts newest count k goes grown =
    acts_part s mid new ask follow showing k.slots k.history k.goes
    (whole_done (performed_all mid.slots (acts_behind ask follow s)) mid new grown.made grown.is (subst (λ l. GoesTo (performed_all mid.slots l) mid new) k.acts_are goes))

-- what the line tells
pub told_is : (s mid new : RunState) (ask : Ask) (follow : Found → List Act) (showing : Showing) (acts : List Act) (newest : Option AnswerView) (count : ℕ) (a : AnswerView) → Looked s mid ask follow acts
    → IsGrown newest count mid.history new.history → a.stamp ≡ (entry_under (Look ask) s).stamp → a.reply ≡ (entry_under (Look ask) s).reply → FollowsFew showing count
    → shown_by showing (columns_in (found_by a.reply)) (last_of newest a) count ≡ shown_text showing s.history new.history
told_is s mid new ask follow showing acts newest count a k grown stamp reply few =
    look_shows showing newest count s.history new.history (entry_under (Look ask) s) a
    (subst (λ h. IsGrown newest count h new.history) k.history grown) stamp reply (entry_no_rows ask s) few
