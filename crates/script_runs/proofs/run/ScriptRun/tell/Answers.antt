use Rattle.std.proofs.Common.{[], ◌∷◌}
use Rattle.model_runs.specs.Running.{performed}
use Rattle.cluster_events.specs.SeenActs.{act_of}
use Rattle.script_runs.specs.declared.stop.Stop.TheVariants.{NoMemory}
use Rattle.script_runs.specs.Runs.{entry_under}
use Rattle.script_runs.proofs.Going.{handed_on}
use Rattle.script_runs.proofs.Looking.{whole_done}
use Rattle.script_runs.proofs.run.ScriptRun.tell.Goals as goal

pub returns-in_err-tell_line-clause-came : goal.returns-in_err-tell_line-clause-came
returns-in_err-tell_line-clause-came g c =
    handed_on c.from_residual-in_err-tell_line.result NoMemory _ _ _ c.from_residual-in_err-tell_line.ensures.1
    (whole_done (performed c.args.self.now.slots (act_of c.args.act)) c.args.self.now c.perform_act.new.self (entry_under (act_of c.args.act) c.args.self.now ∷ []) c.in_ok-answer.ensures.entry.history c.in_ok-answer.ensures.came)
