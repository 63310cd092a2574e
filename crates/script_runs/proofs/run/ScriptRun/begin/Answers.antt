use Rattle.std.proofs.Common.{refl}
use Rattle.script_runs.proofs.Beginning.{begun_is}
use Rattle.script_runs.proofs.run.ScriptRun.begin.Goals as goal

pub returns-clause-begun : goal.returns-clause-begun
returns-clause-begun g c =
    begun_is
    (record { slots = c.in_ok-cluster.cluster.slots; reading = 0; lags = c.in_ok-lags.lags; history = c.in_ok-cluster.cluster.history })
    _ refl c.in_ok-lags.ensures.exact c.in_ok-cluster.ensures.empty
