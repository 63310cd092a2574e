use Rattle.std.proofs.Common.{◌≡◌, drop}
use Rattle.model.specs.Changes.{clone_named}
use Rattle.clone_coord.proofs.list.Clones.named.Given as goal

abbrev pub invariant-loop-record : goal.invariant-loop-record
invariant-loop-record l = clone_named (drop l.record-index l.self.clones) l.name ≡ clone_named l.self.clones l.name
