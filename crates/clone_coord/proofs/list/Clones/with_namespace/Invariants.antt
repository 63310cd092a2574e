use Rattle.std.proofs.Common.{◌≡◌, drop}
use Rattle.model.specs.Operations.{clone_with}
use Rattle.clone_coord.proofs.list.Clones.with_namespace.Given as goal

abbrev pub invariant-loop-record : goal.invariant-loop-record
invariant-loop-record l = clone_with (drop l.record-index l.self.clones) l.namespace ≡ clone_with l.self.clones l.namespace
