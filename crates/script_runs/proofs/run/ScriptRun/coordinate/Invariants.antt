use Rattle.script_runs.proofs.Working.{Working}
use Rattle.script_runs.proofs.run.ScriptRun.coordinate.Given as goal

abbrev pub invariant-acts : goal.invariant-acts
invariant-acts g l = record {
  working : Working l.fn.self l.self l.fn.most l.left;
}

abbrev pub decreases-acts : goal.decreases-acts
decreases-acts g l = l.left
