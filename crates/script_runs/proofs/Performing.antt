-- What a loop over acts keeps: the run comes to the same from where it is by the acts that are left.
use Rattle.std.proofs.Common.{◌≡◌, ℕ, ◌+◌, List, [], ◌∷◌, ◌++◌, length, true, Option, None, Some, refl, sym, ap, subst, ◌∙◌, arith}
use Rattle.row_values.specs.Elements.{AllOf}
use Rattle.model.specs.Acts.{Act}
use Rattle.model.specs.Entries.{Entry, ActAsked}
use Rattle.model_runs.specs.Running.{Run, performed, performed_all}
use Rattle.machine_laws.specs.Views.{AnswerView}
use Rattle.law.proofs.Runs.{stopped_stays}
use Rattle.law.proofs.Running.{all_keep}
use Rattle.script_runs.specs.declared.stop.Stop.{Stop}
use Rattle.script_runs.specs.declared.stop.Stop.TheVariants.{NoMemory, Full}
use Rattle.script_runs.specs.Runs.{RunState, run_at, entry_under, GoesTo, StopsAt, PartOf, Stopped, IsEntry}
use Rattle.script_runs.specs.Shown.{IsNewest, IsGrown}

pub record Performing (old now : RunState) (all left : List Act) (newest : Option AnswerView) : Type 0 where
  pub slots : now.slots ≡ old.slots
  pub reaches : (told : List ℕ) (done : ℕ) → performed_all old.slots all (run_at old told done) ≡ performed_all old.slots left (run_at now told done)
  pub made : List Entry
  pub grown : now.history ≡ made ++ old.history
  pub count : length made + length left ≡ length all
  pub newest_is : IsNewest newest made
  pub asked : AllOf (ActAsked old.slots) left

pub first_performing : (old : RunState) (all : List Act) → AllOf (ActAsked old.slots) all → Performing old old all all None
first_performing old all asked = record {
  slots = refl;
  reaches = λ told done. refl;
  made = [];
  grown = refl;
  count = omega arith;
  newest_is = refl;
  asked = asked;
}

pub next_performing : (old now next : RunState) (all : List Act) (act : Act) (left : List Act) (newest : Option AnswerView) (a : AnswerView)
    → Performing old now all (act ∷ left) newest → next.slots ≡ now.slots → GoesTo (performed now.slots act) now next → IsEntry (entry_under act now) now next a → Performing old next all left (Some a)
next_performing old now next all act left newest a p slots goes entry = record {
  slots = slots ∙ p.slots;
  reaches = λ told done. p.reaches told done ∙ ap (performed_all old.slots left) (subst (λ k. performed k act (run_at now told done) ≡ run_at next told done) p.slots (goes told done));
  made = entry_under act now ∷ p.made;
  grown = entry.history ∙ ap (λ h. entry_under act now ∷ h) p.grown;
  count = (let e = p.count in omega arith);
  newest_is = (entry.stamp, entry.reply);
  asked = p.asked.1;
}

-- where an event can't be, the whole stops there
pub full_performing : (old now : RunState) (all : List Act) (act : Act) (left : List Act) (newest : Option AnswerView) → Performing old now all (act ∷ left) newest → StopsAt (performed now.slots act) now now → StopsAt (performed_all old.slots all) old now
full_performing old now all act left newest p stops told done =
    p.reaches told done
    ∙ ap (performed_all old.slots left) (subst (λ k. performed k act (run_at now told done) ≡ record (run_at now told done) { stopped = true }) p.slots (stops told done))
    ∙ stopped_stays left old.slots (record (run_at now told done) { stopped = true }) refl

-- wherever it is, some of the events were performed
pub part_performing : (old now : RunState) (all left : List Act) (newest : Option AnswerView) → Performing old now all left newest → PartOf (performed_all old.slots all) old now
part_performing old now all left newest p told done =
    let rest = all_keep left old.slots (run_at now told done) in record {
      more = p.made;
      behind = p.grown;
      rest = rest.later;
      within = ap (λ (r : Run). r.history) (p.reaches told done) ∙ rest.is;
    }

-- with no act left it is done

pub goes_performing : (old now : RunState) (all : List Act) (newest : Option AnswerView) → Performing old now all [] newest → GoesTo (performed_all old.slots all) old now
goes_performing old now all newest p told done = p.reaches told done

pub grown_performing : (old now : RunState) (all : List Act) (newest : Option AnswerView) → Performing old now all [] newest → IsGrown newest (length all) old.history now.history
grown_performing old now all newest p = record { made = p.made; is = p.grown; count_is = (let e = p.count in omega arith); newest_is = p.newest_is }

-- so it comes to where it stopped
pub stopped_performing : (why : Stop) (old now new : RunState) (all : List Act) (act : Act) (left : List Act) (newest : Option AnswerView) → Performing old now all (act ∷ left) newest → new ≡ now
    → Stopped why (performed now.slots act) now new → Stopped why (performed_all old.slots all) old new
stopped_performing NoMemory old now new all act left newest p is came = subst (PartOf (performed_all old.slots all) old) (sym is) (part_performing old now all (act ∷ left) newest p)
stopped_performing Full old now new all act left newest p is came = (
  subst (StopsAt (performed_all old.slots all) old) (sym is) (full_performing old now all act left newest p (subst (StopsAt (performed now.slots act) now) is came.0)),
  subst (PartOf (performed_all old.slots all) old) (sym is) (part_performing old now all (act ∷ left) newest p),
)
