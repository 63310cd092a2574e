use Rattle.std.proofs.Common.{◌≡◌, drop}
use Rattle.model.specs.Coordination.{unfinished_restoration}
use Rattle.restore_coord.proofs.list.Restorations.unfinished.Given as goal

abbrev pub invariant-loop-record : goal.invariant-loop-record
invariant-loop-record l =
    unfinished_restoration (drop l.record-index l.self.restorations) l.id ≡ unfinished_restoration l.self.restorations l.id
