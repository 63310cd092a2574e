use Rattle.std.proofs.Common.{◌≡◌, [], ap}
use Rattle.model.specs.Tablets.{restarted}
use Rattle.tablet_part.specs.Views.{TabletView}
use Rattle.tablet_part.proofs.part.TabletPart.restart.Goals as goal

pub returns : goal.returns
returns g c =
    let lost : c.lose_all.new.self.inbox ≡ [] = c.lose_all.ensures.inbox c.args.stamp c.args.self.now.tablet in
    record { tablet = rw (lost, c.lose_all.ensures.done) (ap (λ (v : TabletView). restarted c.args.stamp v.tablet) c.self.view_is) }
