use Rattle.std.proofs.Common.{◌+◌, ◌++◌, List, drop, map, sym, ap, subst, ◌∙◌}
use Rattle.master_part.specs.Decisions.{told_by}
use Rattle.tablet_acts.specs.Tellings.{SlotTelling, told_of}
use Rattle.cluster_core.specs.Held.{laid}
use Rattle.cluster_core.specs.Plans.{AllSuit}
use Rattle.cluster_core.proofs.Changing.{change_at, told_next, suits_next}
use Rattle.cluster_core.proofs.changes.told_changes.Goals as goal

pub loop-change-preserved : goal.loop-change-preserved
loop-change-preserved g c =
    let changes = c.args.changes.now in
    let i = c.loop-change.change-index in
    let x = c.change-item.result in
    let f = told_by (laid c.args.held.now).tablet in
    let t = c.in_ok-told_change.field-0 in
    let next = change_at i changes x c.loop-change-test.true c.change-item.is in
    record {
      so_far = ap (λ (ts : List SlotTelling). map told_of ts ++ map f (drop (i + 1) changes)) c.in_ok-push.ensures.items
          ∙ told_next f changes c.loop-change.told.items i x t next c.in_ok-told_change.ensures.told c.loop-change.invariant.so_far;
      suits = λ at. subst (λ (ts : List SlotTelling). AllSuit ts c.args.stamp at) (sym c.in_ok-push.ensures.items)
          (suits_next c.loop-change.told.items t c.args.stamp at (c.loop-change.invariant.suits at) c.in_ok-told_change.ensures.suits);
    }
