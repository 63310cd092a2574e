use Rattle.std.proofs.Common.{Some, sym, ap, ◌∙◌}
use Rattle.step_table.specs.Helds.{slots_of}
use Rattle.cluster_core.proofs.Laying.{has_at, has_next}
use Rattle.cluster_core.proofs.held.is_held.Goals as goal

pub loop-i-preserved : goal.loop-i-preserved
loop-i-preserved g c = has_next c.loop-i.i (slots_of c.args.held.now) c.slot.result c.args.slot c.slot.ensures.slot c.if-slot.false ∙ c.loop-i.invariant

pub returns-then-slot : goal.returns-then-slot
returns-then-slot g c = record { exact = sym (has_at c.loop-i.i (slots_of c.args.held.now) c.args.slot (c.slot.ensures.slot ∙ ap (λ k. Some k) c.if-slot.true)) }
