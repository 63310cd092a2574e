-- By the lemma on each act.
use Rattle.law_retention.proofs.Taking.{act_takes_nothing}
use Rattle.law_retention.proofs.acts_take_nothing.Goals as goal

pub returns : goal.returns
returns c = record {
  needed = λ act slots n ps activity changes later_activity later_changes asked later inv facts after. act_takes_nothing act slots asked n ps activity changes later inv facts later_activity later_changes after;
}
