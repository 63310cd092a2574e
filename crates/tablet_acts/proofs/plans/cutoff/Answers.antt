use Rattle.std.proofs.Common.{sym, ap, ◌∙◌}
use Rattle.std.proofs.lemmas.Result.{IfOk-weaker}
use Rattle.tablet_acts.specs.Tellings.{outcome_of}
use Rattle.tablet_acts.proofs.Beside.{cutoff_beside}
use Rattle.tablet_acts.proofs.plans.cutoff.Goals as goal

pub returns-in-Ok-clause-plan : goal.returns-in-Ok-clause-plan
returns-in-Ok-clause-plan g c =
    IfOk-weaker c.telling.result _ _
    (λ p exact n ps same allowed.
    ap outcome_of exact
    ∙ sym (c.in-Ok.ensures.plan ps.master n allowed)
    ∙ cutoff_beside c.args.slot n ps c.args.part.now.tablet same)
    c.telling.ensures.exact
