use Rattle.std.proofs.Common.{List, sym, subst, ◌∙◌}
use Rattle.step_table.specs.Helds.{slots_of}
use Rattle.model.specs.Acts.{Stats}
use Rattle.tablet_acts.specs.Tellings.{SlotTelling, SuitAt}
use Rattle.cluster_core.specs.Held.{laid}
use Rattle.cluster_core.proofs.OneTablet.{stats_at, one_plan, touched_rise, touched_one}
use Rattle.cluster_core.proofs.on_tablet.plan_stats.Goals as goal

pub tablet_in-requires : goal.tablet_in-requires
tablet_in-requires g c = record {
  there = touched_one c.args.slot (slots_of c.args.held.now) c.requires.may.slots;
  tablet = c.requires.may.asked.0;
  rising = touched_rise (Stats c.args.slot) (slots_of c.args.held.now) c.requires.may.slots;
  kinds = c.requires.may.kinds;
}

pub returns : goal.returns
returns g c =
    let slot = c.args.slot in
    let t = c.tablet_in.result.now.tablet in
    record {
      plan = one_plan (Stats slot) slot c.args.stamp c.args.held.now t c.of_tablets.result _ c.tablet_in.ensures.tablet
          (c.of_tablets.ensures.outcome ∙ c.stats-plan.ensures.plan c.args.stamp)
          (stats_at slot c.args.stamp (laid c.args.held.now) t c.tablet_in.ensures.tablet)
          (subst (λ (ts : List SlotTelling). SuitAt slot c.args.stamp t ts) (sym c.of_tablets.ensures.tablets) (c.stats-plan.ensures.suits c.args.stamp))
          (c.of_tablets.ensures.may c.args.stamp);
    }
