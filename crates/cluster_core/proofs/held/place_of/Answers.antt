use Rattle.std.proofs.Common.{◌∙◌}
use Rattle.step_table.specs.Helds.{slots_of}
use Rattle.cluster_core.proofs.Laying.{has_next}
use Rattle.cluster_core.proofs.held.place_of.Goals as goal

pub loop-i-preserved : goal.loop-i-preserved
loop-i-preserved g c = has_next c.loop-i.i (slots_of c.args.held.now) c.slot.result c.args.slot c.slot.ensures.slot c.if-slot.false ∙ c.loop-i.invariant
