use Rattle.std.proofs.Common.{◌<◌, List, refl, sym, ap, subst, ◌∙◌}
use Rattle.step_table.specs.Helds.{slots_of, parts_of}
use Rattle.model.specs.Acts.{Cutoff}
use Rattle.model.specs.Parts.{Master}
use Rattle.model.specs.RowActs.{allowed_of, scheduled_at}
use Rattle.master_part.specs.Acts.{IsLawful}
use Rattle.tablet_acts.specs.Tellings.{SlotTelling, SuitAt}
use Rattle.cluster_core.specs.Held.{laid}
use Rattle.cluster_core.proofs.Laying.{first_later}
use Rattle.cluster_core.proofs.OneTablet.{one_plan, touched_rise, touched, has_second}
use Rattle.cluster_core.proofs.cutoffs.plan_cutoff.Goals as goal

pub master_in-requires : goal.master_in-requires
master_in-requires g c =
    let ks = slots_of c.args.held.now in
    record {
      there = touched (Cutoff c.args.slot) ks 0 c.requires.may.slots refl;
      rising = touched_rise (Cutoff c.args.slot) ks c.requires.may.slots;
      kinds = c.requires.may.kinds;
    }

pub tablet_in-requires : goal.tablet_in-requires
tablet_in-requires g c =
    let ks = slots_of c.args.held.now in
    record {
      there = touched (Cutoff c.args.slot) ks c.args.slot c.requires.may.slots (has_second 0 c.args.slot);
      tablet = c.requires.may.asked.0;
      rising = touched_rise (Cutoff c.args.slot) ks c.requires.may.slots;
      kinds = c.requires.may.kinds;
    }

pub allowed_cutoff-to-requires : goal.allowed_cutoff-to-requires
allowed_cutoff-to-requires g c =
    let may = c.requires.may in
    record {
      lawful = subst IsLawful c.master_in.ensures.master may.lawful;
      later = subst (λ (m : Master). m.clock < c.args.stamp) c.master_in.ensures.master (first_later c.args.stamp (slots_of c.args.held.now) (parts_of c.args.held.now) may.begun may.later);
    }

pub returns : goal.returns
returns g c =
    let slot = c.args.slot in
    let n = c.args.stamp in
    let at = laid c.args.held.now in
    let t = c.tablet_in.result.now.tablet in
    let to = c.allowed_cutoff-to.result in
    let allowed = ap (λ (m : Master). allowed_of (scheduled_at m slot) n) c.master_in.ensures.master ∙ sym c.allowed_cutoff-to.ensures.exact in
    record {
      plan = one_plan (Cutoff slot) slot n c.args.held.now t c.of_tablets.result _ c.tablet_in.ensures.tablet c.of_tablets.ensures.outcome
          (c.in_ok-plan.ensures.plan n at c.tablet_in.ensures.tablet allowed)
          (subst (λ (ts : List SlotTelling). SuitAt slot n t ts) (sym c.of_tablets.ensures.tablets) (c.in_ok-plan.ensures.suits n c.allowed_cutoff-to.ensures.past))
          (c.of_tablets.ensures.may n);
    }
