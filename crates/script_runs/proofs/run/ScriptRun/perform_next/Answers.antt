use Rattle.std.proofs.Common.{subst}
use Rattle.model.specs.History.{Legal}
use Rattle.cluster_events.specs.SeenActs.{act_of}
use Rattle.script_runs.specs.Runs.{RunState}
use Rattle.script_runs.proofs.Working.{next_asked}
use Rattle.script_runs.proofs.run.ScriptRun.perform_next.Goals as goal

pub step-requires : goal.step-requires
step-requires g c =
    let legal = subst (λ (s : RunState). Legal s.slots s.history) c.self.view_is c.self.invariant.legal in
    record { asked = record { reading = c.self.invariant.reading; act = next_asked c.args.self.now (act_of c.args.act) legal c.requires.next } }
