use Rattle.std.proofs.Common.{◌≡◌, drop}
use Rattle.model.specs.Operations.{clone_to}
use Rattle.clone_coord.proofs.list.Clones.to_namespace.Given as goal

abbrev pub invariant-loop-record : goal.invariant-loop-record
invariant-loop-record l = clone_to (drop l.record-index l.self.clones) l.namespace ≡ clone_to l.self.clones l.namespace
