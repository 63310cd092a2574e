use Rattle.std.proofs.Common.{◌<◌, IfOk, refl, sym, subst}
use Rattle.step_table.specs.Helds.{slots_of, parts_of}
use Rattle.model.specs.Acts.{Advance}
use Rattle.model.specs.Parts.{Master, Outcome}
use Rattle.master_part.specs.Acts.{IsLawful}
use Rattle.master_part.specs.Decisions.{MayDo}
use Rattle.cluster_core.specs.Held.{laid}
use Rattle.cluster_core.specs.Plans.{ComesTo}
use Rattle.cluster_core.proofs.Laying.{first_later}
use Rattle.cluster_core.proofs.OneTablet.{touched_rise, touched}
use Rattle.cluster_core.proofs.coordination.plan_advance.Goals as goal

pub master_in-requires : goal.master_in-requires
master_in-requires g c =
    let ks = slots_of c.args.held.now in
    record {
      there = touched (Advance c.args.operation.now) ks 0 c.requires.may.slots refl;
      rising = touched_rise (Advance c.args.operation.now) ks c.requires.may.slots;
      kinds = c.requires.may.kinds;
    }

pub decide_advance-requires : goal.decide_advance-requires
decide_advance-requires g c =
    let may = c.requires.may in
    record {
      lawful = subst IsLawful c.master_in.ensures.master may.lawful;
      later = subst (λ (m : Master). m.clock < c.args.stamp) c.master_in.ensures.master (first_later c.args.stamp (slots_of c.args.held.now) (parts_of c.args.held.now) may.begun may.later);
      before_end = may.before_end;
    }

pub told_decision-requires : goal.told_decision-requires
told_decision-requires g c =
    let may = c.requires.may in
    record {
      rising = touched_rise (Advance c.args.operation.now) (slots_of c.args.held.now) may.slots;
      kinds = may.kinds;
      later = may.later;
      begun = may.begun;
      may = subst (MayDo c.in_ok-decision.decision c.args.stamp) (sym c.master_in.ensures.master) c.in_ok-decision.ensures.may;
    }

pub returns : goal.returns
returns g c = record {
  plan = subst (λ (o : Outcome). IfOk c.told_decision.result (ComesTo o c.args.stamp c.args.held.now)) (c.in_ok-decision.ensures.plan (laid c.args.held.now) c.master_in.ensures.master) c.told_decision.ensures.plan;
}
