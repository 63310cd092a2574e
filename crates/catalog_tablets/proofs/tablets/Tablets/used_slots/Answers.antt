use Rattle.std.proofs.Common.{map, sym, ◌∙◌}
use Rattle.row_values.specs.Slots.{has}
use Rattle.catalog_tablets.specs.View.{slot_of}
use Rattle.catalog_tablets.specs.Slots.{used_from}
use Rattle.catalog_tablets.proofs.Freeing.{one_passes, one_fails}
use Rattle.catalog_tablets.proofs.tablets.Tablets.used_slots.Goals.{then-is_used+in_ok-push, else-is_used}
use Rattle.catalog_tablets.proofs.tablets.Tablets.used_slots.Goals as goal

pub loop-before-preserved : goal.loop-before-preserved
loop-before-preserved c =
    let test = has (map slot_of c.args.self.now.activity) in
    let slots = c.args.slots in
    let all = used_from c.args.self.now.activity slots 1 in
    let found = c.loop-before.found in
    let next = c.if-is_used.found in
    elim c.if-is_used.branch [
      | then-is_used+in_ok-push w ↦ one_passes test found next all slots c.loop-before.before c.loop-before-test.true
          (sym c.is_used.ensures.exact ∙ w.if-is_used.true) (w.found-is ∙ w.in_ok-push.ensures.pushed) c.loop-before.invariant
      | else-is_used w ↦ one_fails test found next all slots c.loop-before.before c.loop-before-test.true
          (sym c.is_used.ensures.exact ∙ w.if-is_used.false) w.found-is c.loop-before.invariant
    ]
