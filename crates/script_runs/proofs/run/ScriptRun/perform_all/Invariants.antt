use Rattle.std.proofs.Common.{map}
use Rattle.std.specs.Vec.Iter.{into_iter_items}
use Rattle.cluster_events.specs.SeenActs.{act_of}
use Rattle.script_runs.proofs.Performing.{Performing}
use Rattle.script_runs.proofs.run.ScriptRun.perform_all.Given as goal

abbrev pub invariant-loop-act : goal.invariant-loop-act
invariant-loop-act g l =
    (goal.iterator-loop-act g).can_next l.act-iterator ×
    (goal.iterator-loop-act g).is_finite l.act-iterator ×
    Performing l.fn.self l.self (map act_of l.fn.acts.items) (map act_of (into_iter_items l.act-iterator)) l.newest
