use Rattle.std.specs.Vec.Iter.{into_iter_items}
use Rattle.cluster_core.specs.SeenTold.{tellings_of}
use Rattle.cluster_core.proofs.Loops.{Applying}
use Rattle.cluster_core.proofs.parts.apply_all.Given as goal

abbrev pub invariant-loop-act : goal.invariant-loop-act
invariant-loop-act g l =
    (goal.iterator-loop-act g).can_next l.act-iterator ×
    (goal.iterator-loop-act g).is_finite l.act-iterator ×
    Applying l.fn.held l.held (tellings_of l.fn.acts.items) (tellings_of (into_iter_items l.act-iterator)) l.fn.stamp l.i
