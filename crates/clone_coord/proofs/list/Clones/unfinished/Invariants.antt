use Rattle.std.proofs.Common.{◌≡◌, drop}
use Rattle.model.specs.Coordination.{unfinished_clone}
use Rattle.clone_coord.proofs.list.Clones.unfinished.Given as goal

abbrev pub invariant-loop-record : goal.invariant-loop-record
invariant-loop-record l =
    unfinished_clone (drop l.record-index l.self.clones) l.id ≡ unfinished_clone l.self.clones l.id
