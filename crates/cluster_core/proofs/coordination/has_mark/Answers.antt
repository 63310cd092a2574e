use Rattle.std.proofs.Common.{List, sym, ap, ◌∙◌}
use Rattle.model.specs.Tablets.{Tablet, Mark, is_done}
use Rattle.model.specs.Coordination.{pending}
use Rattle.cluster_core.specs.Held.{laid}
use Rattle.cluster_core.proofs.Marking.{marked, unmarked}
use Rattle.cluster_core.proofs.coordination.has_mark.Goals as goal

pub returns-in-Some : goal.returns-in-Some
returns-in-Some g c =
    let mark = c.in-Some.mark in
    let t = (laid c.args.held.now).tablet c.args.slot in
    record {
      exact = c.is_done.ensures.exact
          ∙ ap (λ (done : List Mark). is_done done mark.operation mark.kind) (c.inbox.ensures.done ∙ ap (λ (x : Tablet). x.done) (sym c.tablet_in.ensures.tablet))
          ∙ marked t.done c.args.operation.now (pending c.args.master.now.master c.args.operation.now c.args.slot) mark (sym c.in-Some.is ∙ c.pending_mark.ensures.exact);
    }

pub returns-in-None : goal.returns-in-None
returns-in-None g c = record {
  exact = unmarked ((laid c.args.held.now).tablet c.args.slot).done c.args.operation.now (pending c.args.master.now.master c.args.operation.now c.args.slot) (sym c.in-None.is ∙ c.pending_mark.ensures.exact);
}
