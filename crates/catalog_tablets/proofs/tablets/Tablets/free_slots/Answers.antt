use Rattle.std.proofs.Common.{sym, ◌∙◌}
use Rattle.catalog_tablets.specs.Slots.{free_from, is_free}
use Rattle.catalog_tablets.proofs.Freeing.{one_passes, one_fails}
use Rattle.catalog_tablets.proofs.tablets.Tablets.free_slots.Goals.{then-is_free+in_ok-push, else-is_free}
use Rattle.catalog_tablets.proofs.tablets.Tablets.free_slots.Goals as goal

pub loop-before-preserved : goal.loop-before-preserved
loop-before-preserved c =
    let test = is_free c.args.self.now.activity c.args.reserved.now in
    let slots = c.args.slots in
    let all = free_from c.args.self.now.activity c.args.reserved.now slots 1 in
    let found = c.loop-before.found in
    let next = c.if-is_free.found in
    elim c.if-is_free.branch [
      | then-is_free+in_ok-push w ↦ one_passes test found next all slots c.loop-before.before c.loop-before-test.true
          (sym c.is_free.ensures.exact ∙ w.if-is_free.true) (w.found-is ∙ w.in_ok-push.ensures.pushed) c.loop-before.invariant
      | else-is_free w ↦ one_fails test found next all slots c.loop-before.before c.loop-before-test.true
          (sym c.is_free.ensures.exact ∙ w.if-is_free.false) w.found-is c.loop-before.invariant
    ]
