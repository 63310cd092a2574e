use Rattle.std.proofs.Common.{length}
use Rattle.journal_model.proofs.names.+namespace_at.Given as goal

abbrev pub decreases-namespace_at : goal.decreases-namespace_at
decreases-namespace_at l = length l.changes.now
