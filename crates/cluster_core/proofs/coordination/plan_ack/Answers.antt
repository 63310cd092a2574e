use Rattle.std.proofs.Common.{IfOk, refl, sym, subst}
use Rattle.step_table.specs.Helds.{slots_of}
use Rattle.model.specs.Acts.{Ack}
use Rattle.model.specs.Parts.{Outcome}
use Rattle.master_part.specs.Decisions.{MayDo}
use Rattle.cluster_core.specs.Held.{laid}
use Rattle.cluster_core.specs.Plans.{ComesTo}
use Rattle.cluster_core.proofs.OneTablet.{touched_rise, touched, has_second}
use Rattle.cluster_core.proofs.coordination.plan_ack.Goals as goal

pub master_in-master-requires : goal.master_in-master-requires
master_in-master-requires g c =
    let ks = slots_of c.args.held.now in
    record {
      there = touched (Ack c.args.operation.now c.args.slot) ks 0 c.requires.may.slots refl;
      rising = touched_rise (Ack c.args.operation.now c.args.slot) ks c.requires.may.slots;
      kinds = c.requires.may.kinds;
    }

pub has_mark-marked-requires : goal.has_mark-marked-requires
has_mark-marked-requires g c =
    let ks = slots_of c.args.held.now in
    record {
      there = touched (Ack c.args.operation.now c.args.slot) ks c.args.slot c.requires.may.slots (has_second 0 c.args.slot);
      tablet = c.requires.may.asked.0;
      rising = touched_rise (Ack c.args.operation.now c.args.slot) ks c.requires.may.slots;
      kinds = c.requires.may.kinds;
    }

pub told_decision-requires : goal.told_decision-requires
told_decision-requires g c =
    let may = c.requires.may in
    record {
      rising = touched_rise (Ack c.args.operation.now c.args.slot) (slots_of c.args.held.now) may.slots;
      kinds = may.kinds;
      later = may.later;
      begun = may.begun;
      may = subst (MayDo c.in_ok-decision.decision c.args.stamp) (sym c.master_in-master.ensures.master) (c.in_ok-decision.ensures.may c.args.stamp);
    }

pub returns : goal.returns
returns g c = record {
  plan = subst (λ (o : Outcome). IfOk c.told_decision.result (ComesTo o c.args.stamp c.args.held.now)) (c.in_ok-decision.ensures.plan c.args.stamp (laid c.args.held.now) c.master_in-master.ensures.master (sym c.has_mark-marked.ensures.exact)) c.told_decision.ensures.plan;
}
