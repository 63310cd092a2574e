use Rattle.std.proofs.Common.{◌≡◌, ◌++◌, take, drop}
use Rattle.model.specs.Coordination.{acked_restoration}
use Rattle.restore_coord.proofs.list.Restorations.ack.Given as goal

abbrev pub invariant-loop-record : goal.invariant-loop-record
invariant-loop-record l =
    take l.record-index l.record-items ++ acked_restoration l.id l.slot (drop l.record-index l.record-items)
    ≡ acked_restoration l.id l.slot l.fn.self.restorations
