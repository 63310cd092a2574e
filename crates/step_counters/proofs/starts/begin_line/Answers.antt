use Rattle.step_counters.proofs.Empties.{empty_numbered, empty_legal}
use Rattle.step_counters.proofs.starts.begin_line.Goals as goal

pub new-requires-clause-legal : goal.new-requires-clause-legal
new-requires-clause-legal c = empty_legal c.args.parts c.requires.empty c.requires.few

pub new-requires-clause-numbered : goal.new-requires-clause-numbered
new-requires-clause-numbered c = empty_numbered c.args.parts c.requires.empty
