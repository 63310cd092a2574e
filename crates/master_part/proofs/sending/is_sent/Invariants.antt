use Rattle.std.proofs.Common.{◌≡◌, drop}
use Rattle.model.specs.Records.{is_sent}
use Rattle.master_part.proofs.sending.is_sent.Given as goal

abbrev pub invariant-loop-mark : goal.invariant-loop-mark
invariant-loop-mark l = is_sent (drop l.mark-index l.sent) l.operation l.slot ≡ is_sent l.sent l.operation l.slot
