use Rattle.cluster_events.specs.SeenActs.{act_of}
use Rattle.script_runs.proofs.Going.{act_came}
use Rattle.script_runs.proofs.run.ScriptRun.perform_act.Goals as goal

pub returns-clause-came : goal.returns-clause-came
returns-clause-came g c =
    act_came c.step.result (act_of c.args.act) c.args.self.now c.step.new.self c.reading_for-reading.result c.reading_for-reading.ensures.reading c.step.ensures.came
