use Rattle.script_runs.specs.declared.stop.Stop.TheVariants.{NoMemory}
use Rattle.script_runs.proofs.Going.{handed_on}
use Rattle.script_runs.proofs.Telling.{told_alone}
use Rattle.script_runs.proofs.run.ScriptRun.show_entries.Goals as goal

pub returns-in_err-entries-clause-came : goal.returns-in_err-entries-clause-came
returns-in_err-entries-clause-came g c =
    handed_on c.from_residual.result NoMemory _ _ _ c.from_residual.ensures.1 (told_alone c.args.self.now)

pub returns-in_err-tell_entries-clause-came : goal.returns-in_err-tell_entries-clause-came
returns-in_err-tell_entries-clause-came g c =
    handed_on c.from_residual-in_err-tell_entries.result NoMemory _ _ _ c.from_residual-in_err-tell_entries.ensures.1 (told_alone c.args.self.now)
