use Rattle.std.proofs.Common.{◌≡◌, drop}
use Rattle.model.specs.Operations.{restoration_of}
use Rattle.restore_coord.proofs.list.Restorations.of_namespace.Given as goal

abbrev pub invariant-loop-record : goal.invariant-loop-record
invariant-loop-record l =
    restoration_of (drop l.record-index l.self.restorations) l.namespace
    ≡ restoration_of l.self.restorations l.namespace
