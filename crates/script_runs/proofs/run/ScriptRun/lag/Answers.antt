use Rattle.std.proofs.Common.{ℕ, ◌≡◌, get_or, sym, subst}
use Rattle.script_runs.specs.Runs.{RunState}
use Rattle.script_runs.proofs.Readings.{absent_lag}
use Rattle.script_runs.proofs.run.ScriptRun.lag.Goals as goal

pub returns-in-None : goal.returns-in-None
returns-in-None g c = record {
  lag = subst (λ (s : RunState). ◌≡◌ {A = ℕ} 0 (get_or s.lags c.args.slot 0)) c.self.view_is (absent_lag _ c.args.slot (sym c.in-None.ensures.item));
}
