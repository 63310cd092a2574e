use Rattle.std.proofs.Common.{◌≡◌, ◌≤◌, List, true, sym, ap, subst, ◌∙◌}
use Rattle.step_table.specs.Helds.{slots_of}
use Rattle.row_values.specs.Slots.{has}
use Rattle.model.specs.Acts.{Write}
use Rattle.tablet_acts.specs.Tellings.{SlotTelling, SuitAt}
use Rattle.cluster_core.specs.Held.{laid}
use Rattle.cluster_core.proofs.OneTablet.{write_at, one_plan, touched_rise, touched_one}
use Rattle.cluster_core.proofs.on_tablet.plan_write.Goals as goal

pub tablet_in-part-requires : goal.tablet_in-part-requires
tablet_in-part-requires g c =
    let place = c.args.place.now in
    let ks = slots_of c.args.held.now in
    let slot = sym c.slot_of.ensures.slot in
    record {
      there = subst (λ k. has ks k ≡ true) slot (touched_one place.slot ks c.requires.may.slots);
      tablet = subst (λ k. 1 ≤ k) slot c.requires.may.asked.0.0;
      rising = touched_rise (Write place c.args.version c.args.batch.now) ks c.requires.may.slots;
      kinds = c.requires.may.kinds;
    }

pub write-requires : goal.write-requires
write-requires g c = record { batch = c.requires.may.asked.1.1 }

pub returns : goal.returns
returns g c =
    let place = c.args.place.now in
    let at = laid c.args.held.now in
    let t = c.tablet_in-part.result.now.tablet in
    let here : at.tablet place.slot ≡ t = ap at.tablet (sym c.slot_of.ensures.slot) ∙ c.tablet_in-part.ensures.tablet in
    record {
      plan = one_plan (Write place c.args.version c.args.batch.now) place.slot c.args.stamp c.args.held.now t c.of_tablets.result _ here
          (c.of_tablets.ensures.outcome ∙ c.in_ok-plan.ensures.plan c.args.stamp)
          (write_at place c.args.version c.args.batch.now c.args.stamp at t here)
          (subst (λ (ts : List SlotTelling). SuitAt place.slot c.args.stamp t ts) (sym c.of_tablets.ensures.tablets) (c.in_ok-plan.ensures.suits c.args.stamp))
          (c.of_tablets.ensures.may c.args.stamp);
    }
