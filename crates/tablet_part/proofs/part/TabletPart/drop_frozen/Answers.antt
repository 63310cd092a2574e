use Rattle.std.proofs.Common.{rules, ◌≡◌, ◌≤◌, ap, arith}
use Rattle.std.specs.Prelude.{not}
use Rattle.std.specs.List.{filter}
use Rattle.std.proofs.lemmas.Fn.{filter_same}
use Rattle.law_store.proofs.Writing.{below_weaker}
use Rattle.row_values.specs.Ids.{same}
use Rattle.model.specs.Tablets.{FrozenSet, unfrozen}
use Rattle.model.specs.RowActs.{count_frozen}
use Rattle.tablet_part.specs.Views.{TabletView}
use Rattle.tablet_part.proofs.Counting.{count_fewer}
use Rattle.tablet_part.proofs.part.TabletPart.drop_frozen.Goals as goal

pub invariant_of-self : goal.invariant_of-self
invariant_of-self g c =
    let kept : c.retain.new.self.items ≡ filter (λ (f : FrozenSet). not (same f.snapshot c.args.snapshot)) c.self.inside.frozen.items = filter_same _ _ _ (λ x b f' k. search rules) _ _ c.retain.ensures.filtered in
    let fewer = count_fewer c.self.inside.frozen.items (λ f. not (same f.snapshot c.args.snapshot)) in
    let few : count_frozen c.retain.new.self.items ≤ count_frozen c.self.inside.frozen.items = rw kept fewer in
    record {
      stamps = below_weaker _ _ _ (omega (arith, c.requires.later, ap (λ (v : TabletView). v.tablet.clock) c.self.view_is)) c.self.invariant.stamps;
      few = omega (arith, few, c.self.invariant.few);
      past = omega (arith, c.self.invariant.past, c.requires.later, ap (λ (v : TabletView). v.tablet.clock) c.self.view_is);
      room = λ is. let before = c.self.invariant.room is in (before.0, omega (arith, before.1, c.retain.ensures.bound, c.retain.ensures.capacity));
    }

pub returns : goal.returns
returns g c =
    let kept : c.retain.new.self.items ≡ filter (λ (f : FrozenSet). not (same f.snapshot c.args.snapshot)) c.self.inside.frozen.items = filter_same _ _ _ (λ x b f' k. search rules) _ _ c.retain.ensures.filtered in
    record { tablet = rw kept (ap (λ (v : TabletView). unfrozen c.args.snapshot c.args.stamp v.tablet) c.self.view_is) }
