use Rattle.std.proofs.Common.{ap, sym}
use Rattle.model.specs.Tablets.{offered}
use Rattle.tablet_part.specs.Views.{TabletView}
use Rattle.tablet_part.proofs.part.TabletPart.offer.Goals as goal

pub returns : goal.returns
returns g c =
    let t = c.args.self.now.tablet in
    let n = c.args.stamp in
    let behind = c.offer.ensures.offered n t (ap (λ (v : TabletView). v.tablet.inbox) (sym c.self.view_is)) (ap (λ (v : TabletView). v.tablet.done) (sym c.self.view_is)) in
    record { tablet = rw (behind, c.offer.ensures.done) (ap (λ (v : TabletView). record (v.tablet) { clock = n; inbox = (offered c.args.command n t).inbox }) c.self.view_is) }
