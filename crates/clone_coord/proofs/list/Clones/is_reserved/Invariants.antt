use Rattle.std.proofs.Common.{◌≡◌, drop}
use Rattle.model.specs.Looks.{is_reserved}
use Rattle.clone_coord.proofs.list.Clones.is_reserved.Given as goal

abbrev pub invariant-loop-record : goal.invariant-loop-record
invariant-loop-record l = is_reserved (drop l.record-index l.self.clones) l.slot ≡ is_reserved l.self.clones l.slot
