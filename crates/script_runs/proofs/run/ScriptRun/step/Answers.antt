use Rattle.std.proofs.Common.{refl}
use Rattle.script_runs.specs.Runs.{RunState}
use Rattle.script_runs.specs.Stops.{stop_of}
use Rattle.script_runs.proofs.Going.{step_goes, step_stops, handed_on}
use Rattle.script_runs.proofs.run.ScriptRun.step.Goals as goal

pub returns-clause-came : goal.returns-clause-came
returns-clause-came g c =
    let new : RunState = record { slots = c.step.new.self.slots; reading = c.self.inside.reading; lags = c.self.inside.lags; history = c.step.new.self.history } in
    step_goes c.args.event _ c.args.self.now new c.self.view_is c.in_ok-answer.ensures.no_fault refl refl c.in_ok-answer.ensures.entry

pub returns-in_err-answer-clause-came : goal.returns-in_err-answer-clause-came
returns-in_err-answer-clause-came g c =
    handed_on c.from_residual.result (stop_of c.in_err-answer.field-0.0) _ _ _ c.from_residual.ensures.1
    (step_stops c.args.event _ c.args.self.now _ c.in_err-answer.field-0.0 c.self.view_is c.in_err-answer.ensures.cause c.step.ensures.slots refl refl c.in_err-answer.ensures.kept)
