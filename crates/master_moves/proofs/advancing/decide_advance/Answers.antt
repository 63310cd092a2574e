use Rattle.std.proofs.lemmas.Result.{IfOk-weaker}
use Rattle.master_moves.proofs.advancing.decide_advance.Goals as goal

pub returns-in-Snapshot-clause-plan : goal.returns-in-Snapshot-clause-plan
returns-in-Snapshot-clause-plan c =
    IfOk-weaker c.decide_advance_snapshot.result _ _ (λ d plan ps is. plan c.args.stamp ps is) c.decide_advance_snapshot.ensures.plan
