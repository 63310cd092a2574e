use Rattle.std.proofs.Common.{sym, ap, ◌∙◌}
use Rattle.cluster_core.specs.Plans.{telling_for}
use Rattle.tablet_acts.specs.Tellings.{SlotTelling}
use Rattle.cluster_core.proofs.Telling.{act_set}
use Rattle.cluster_core.proofs.line_up.take_act.Goals as goal

pub returns-then-slot-clause-others : goal.returns-then-slot-clause-others
returns-then-slot-clause-others g c = λ k ne.
    act_set c.loop-i.tablets.items c.loop-i.i c.index.result.now c.replace.new.dest k c.args.slot c.index.ensures (ap (λ (x : SlotTelling). x.slot) (c.replace.ensures.after ∙ c.of-clock.ensures.exact)) (sym c.slot.ensures.slot ∙ c.if-slot.true) ne
    ∙ ap (λ ts. telling_for ts k) c.loop-i.invariant.same
