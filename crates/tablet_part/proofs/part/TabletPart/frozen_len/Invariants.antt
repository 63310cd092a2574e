use Rattle.std.proofs.Common.{◌≡◌, ◌+◌, drop}
use Rattle.model.specs.RowActs.{count_frozen}
use Rattle.tablet_part.proofs.part.TabletPart.frozen_len.Given as goal

abbrev pub invariant-loop-set : goal.invariant-loop-set
invariant-loop-set g l = l.count + count_frozen (drop l.set-index l.self.tablet.frozen) ≡ count_frozen l.self.tablet.frozen
