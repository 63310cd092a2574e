use Rattle.step_table.specs.Helds.{slots_of}
use Rattle.cluster_core.proofs.Removing.{not_planned}
use Rattle.cluster_core.proofs.cleanup.standing_in.Goals as goal

pub returns-then-is_absent : goal.returns-then-is_absent
returns-then-is_absent g c = record {
  seen = λ slots same. not_planned (slots_of c.args.held.now) slots c.args.slot c.is_absent.result c.if-is_absent.true c.is_absent.ensures.exact same;
}
