use Rattle.std.proofs.Common.{All, List, sym, ap, subst, ◌∙◌}
use Rattle.step_table.specs.Helds.{slots_of}
use Rattle.model.specs.Acts.{At, Read}
use Rattle.model.specs.RowActs as book
use Rattle.tablet_acts.specs.Tellings.{SlotTelling}
use Rattle.cluster_core.specs.Held.{laid}
use Rattle.cluster_core.specs.Reads.{IsHeld}
use Rattle.cluster_core.specs.Plans.{AllSuit}
use Rattle.cluster_core.proofs.Reading.{places_held}
use Rattle.cluster_core.proofs.OneTablet.{touched_rise}
use Rattle.cluster_core.proofs.reads.plan_read.Goals as goal

pub read-requires : goal.read-requires
read-requires g c =
    let ks = slots_of c.args.held.now in
    let places = c.args.places.now in
    let may = c.requires.may in
    record {
      rising = touched_rise (Read places c.args.version c.args.key.now c.args.at.now c.args.columns.now) ks may.slots;
      kinds = may.kinds;
      held = subst (All (IsHeld ks)) (sym c.as_slice.ensures.same)
          (places_held may.count ks places c.args.version c.args.key.now c.args.at.now c.args.columns.now may.slots may.asked);
      later = may.later;
      begun = may.begun;
    }

pub returns : goal.returns
returns g c =
    let at = laid c.args.held.now in
    record {
      plan = record {
        outcome = c.of_tablets.ensures.outcome ∙ c.in_ok-plan.ensures.outcome
            ∙ ap (λ (places : List At). book.read places c.args.version c.args.key.now c.args.at.now c.args.columns.now c.args.stamp at) c.as_slice.ensures.same;
        suits = subst (λ (ts : List SlotTelling). AllSuit ts c.args.stamp at.tablet) (sym (c.of_tablets.ensures.tablets ∙ c.in_ok-plan.ensures.none)) tt;
        may = c.of_tablets.ensures.may c.args.stamp at.master;
      };
    }
