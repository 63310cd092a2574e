use Rattle.law_drive.specs.Counting.{events_left}
use Rattle.script_runs.proofs.Working.{Settling, parts_at}
use Rattle.script_runs.proofs.run.ScriptRun.settle.Given as goal

abbrev pub invariant-acts : goal.invariant-acts
invariant-acts g l = record {
  settling : Settling l.fn.self l.self;
}

abbrev pub decreases-acts : goal.decreases-acts
decreases-acts g l = events_left (parts_at l.self)
