use Rattle.std.proofs.Common.{List, [], ◌∷◌, sym, subst}
use Rattle.step_table.specs.Helds.{slots_of}
use Rattle.model.specs.Acts.{Process}
use Rattle.model.specs.Tablets.{Tablet}
use Rattle.tablet_acts.specs.Tellings.{SlotTelling, SuitAt, FirstIsDue}
use Rattle.cluster_core.specs.Held.{laid}
use Rattle.cluster_core.proofs.OneTablet.{one_plan, touched_rise, touched, has_first, has_second}
use Rattle.cluster_core.proofs.processing.plan_process.Goals as goal

pub tablet_in-part-requires : goal.tablet_in-part-requires
tablet_in-part-requires g c =
    let act = Process c.args.slot c.args.other in
    let ks = slots_of c.args.held.now in
    record {
      there = touched act ks c.args.slot c.requires.may.slots (has_first c.args.slot (c.args.other ∷ []));
      tablet = c.requires.may.asked.0.0;
      rising = touched_rise act ks c.requires.may.slots;
      kinds = c.requires.may.kinds;
    }

pub tablet_in-source-requires : goal.tablet_in-source-requires
tablet_in-source-requires g c =
    let act = Process c.args.slot c.args.other in
    let ks = slots_of c.args.held.now in
    record {
      there = touched act ks c.args.other c.requires.may.slots (has_second c.args.slot c.args.other);
      tablet = c.requires.may.asked.1.0;
      rising = touched_rise act ks c.requires.may.slots;
      kinds = c.requires.may.kinds;
    }

pub returns : goal.returns
returns g c =
    let slot = c.args.slot in
    let n = c.args.stamp in
    let at = laid c.args.held.now in
    let t = c.tablet_in-part.result.now.tablet in
    let due = subst (λ (x : Tablet). FirstIsDue x.inbox n) c.tablet_in-part.ensures.tablet (c.requires.may.due slot) in
    record {
      plan = one_plan (Process slot c.args.other) slot n c.args.held.now t c.of_tablets.result _ c.tablet_in-part.ensures.tablet c.of_tablets.ensures.outcome
          (c.in_ok-plan.ensures.plan n at c.tablet_in-part.ensures.tablet c.tablet_in-source.ensures.tablet)
          (subst (λ (ts : List SlotTelling). SuitAt slot n t ts) (sym c.of_tablets.ensures.tablets) (c.in_ok-plan.ensures.suits n due))
          (c.of_tablets.ensures.may n);
    }
