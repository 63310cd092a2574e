use Rattle.std.proofs.Common.{sym, subst}
use Rattle.master_part.specs.declared.decision.Decision.{Decision}
use Rattle.master_part.specs.Decisions.{outcome_by}
use Rattle.cluster_core.specs.Held.{laid}
use Rattle.cluster_core.specs.Plans.{ComesTo}
use Rattle.cluster_core.proofs.changes.told_decision.Goals as goal

pub returns-in-Answers : goal.returns-in-Answers
returns-in-Answers g c = record {
  plan = subst (λ (d : Decision). ComesTo (outcome_by (laid c.args.held.now).tablet d) c.args.stamp c.args.held.now c.answered.result) (sym c.in-Answers.is) (c.answered.ensures.plan c.args.stamp c.args.held.now);
}
