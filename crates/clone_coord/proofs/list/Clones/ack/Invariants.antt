use Rattle.std.proofs.Common.{◌≡◌, ◌++◌, take, drop}
use Rattle.model.specs.Coordination.{acked_clone}
use Rattle.clone_coord.proofs.list.Clones.ack.Given as goal

abbrev pub invariant-loop-record : goal.invariant-loop-record
invariant-loop-record l =
    take l.record-index l.record-items ++ acked_clone l.id l.slot (drop l.record-index l.record-items)
    ≡ acked_clone l.id l.slot l.fn.self.clones
