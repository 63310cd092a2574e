-- By the lemma on each act.
use Rattle.law_retention.proofs.Taking.{act_keeps_facts, start_facts}
use Rattle.law_retention.proofs.facts_are_kept.Goals as goal

pub returns : goal.returns
returns c = record {
  start = λ slots. start_facts slots;
  kept = λ act slots n ps activity changes later_activity later_changes asked later inv facts after. act_keeps_facts act slots asked n ps activity changes later inv facts later_activity later_changes after;
}
