use Rattle.std.proofs.Common.{◌≤◌}
use Rattle.std.specs.Vec.Iter.{into_iter_items}
use Rattle.script_asked.specs.Numbered.{numbered_of}
use Rattle.yb_script.proofs.Doing.{IsAt}
use Rattle.yb_script.proofs.performing.run_commands.Given as goal

abbrev pub invariant-loop-line : goal.invariant-loop-line
invariant-loop-line g l =
    (goal.iterator-loop-line g).can_next l.line-iterator ×
    (goal.iterator-loop-line g).is_finite l.line-iterator ×
    IsAt l.fn.empty.slots (numbered_of l.fn.script.lines) (numbered_of (into_iter_items l.line-iterator)) l.done l.run (g.K.Sink.written l.fn.sink) (g.K.Sink.written l.sink) ×
    (g.K.Sink.faults l.fn.sink ≤ g.K.Sink.faults l.sink)
