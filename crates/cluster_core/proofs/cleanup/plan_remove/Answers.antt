use Rattle.std.proofs.Common.{IfOk, refl, sym, subst}
use Rattle.step_table.specs.Helds.{slots_of}
use Rattle.model.specs.Acts.{Remove}
use Rattle.model.specs.Parts.{Outcome}
use Rattle.master_part.specs.Acts.{IsLawful}
use Rattle.master_part.specs.Decisions.{MayDo}
use Rattle.cluster_core.specs.Held.{laid}
use Rattle.cluster_core.specs.Plans.{ComesTo}
use Rattle.cluster_core.proofs.OneTablet.{touched_rise, touched}
use Rattle.cluster_core.proofs.cleanup.plan_remove.Goals as goal

pub master_in-master-requires : goal.master_in-master-requires
master_in-master-requires g c =
    let act = Remove c.args.target.now c.args.slots.now in
    let ks = slots_of c.args.held.now in
    record {
      there = touched act ks 0 c.requires.may.slots refl;
      rising = touched_rise act ks c.requires.may.slots;
      kinds = c.requires.may.kinds;
    }

pub seen_of-seen-requires : goal.seen_of-seen-requires
seen_of-seen-requires g c = record {
  rising = touched_rise (Remove c.args.target.now c.args.slots.now) (slots_of c.args.held.now) c.requires.may.slots;
  kinds = c.requires.may.kinds;
  lawful = subst IsLawful c.master_in-master.ensures.master c.requires.may.lawful;
}

pub told_decision-requires : goal.told_decision-requires
told_decision-requires g c =
    let may = c.requires.may in
    record {
      rising = touched_rise (Remove c.args.target.now c.args.slots.now) (slots_of c.args.held.now) may.slots;
      kinds = may.kinds;
      later = may.later;
      begun = may.begun;
      may = subst (MayDo c.in_ok-decision.decision c.args.stamp) (sym c.master_in-master.ensures.master) (c.in_ok-decision.ensures.may c.args.stamp);
    }

pub returns : goal.returns
returns g c = record {
  plan = subst (λ (o : Outcome). IfOk c.told_decision.result (ComesTo o c.args.stamp c.args.held.now)) (c.in_ok-decision.ensures.plan (laid c.args.held.now) c.master_in-master.ensures.master (c.seen_of-seen.ensures.seen c.args.slots.now c.requires.may.slots)) c.told_decision.ensures.plan;
}
