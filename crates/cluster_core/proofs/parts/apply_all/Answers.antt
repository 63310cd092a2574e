use Rattle.std.proofs.Common.{◌<◌, ap, subst, arith}
use Rattle.std.specs.Vec.Iter.{into_iter_items}
use Rattle.cluster_core.specs.SeenTold.{part_telling, tellings_of}
use Rattle.cluster_core.proofs.Loops.{Applying, can_next, within_next, next_applying, same_size, parts_size}
use Rattle.cluster_core.proofs.parts.apply_all.Goals as goal

pub part_mut-requires : goal.part_mut-requires
part_mut-requires g c =
    let e = ap tellings_of c.in-Some.ensures.steps.0 in
    let s = subst (λ acts. Applying c.args.held.now c.loop-act.held (tellings_of c.args.acts.items) acts c.args.stamp c.loop-act.i) e c.loop-act.invariant.2 in
    let l = within_next c.args.held.now c.loop-act.held (tellings_of c.args.acts.items) (part_telling c.in-Some.act) (tellings_of (into_iter_items c.next.new.self)) c.args.stamp c.loop-act.i s in
    record { within = subst (λ n. c.loop-act.i < n) (parts_size c.loop-act.held) l }

pub overflow_add-i : goal.overflow_add-i
overflow_add-i g c =
    let e = ap tellings_of c.in-Some.ensures.steps.0 in
    let s = subst (λ acts. Applying c.args.held.now c.loop-act.held (tellings_of c.args.acts.items) acts c.args.stamp c.loop-act.i) e c.loop-act.invariant.2 in
    let l = within_next c.args.held.now c.loop-act.held (tellings_of c.args.acts.items) (part_telling c.in-Some.act) (tellings_of (into_iter_items c.next.new.self)) c.args.stamp c.loop-act.i s in
    let size = same_size c.args.held.now c.loop-act.held s.slots in
    let count = c.len-count.ensures.count in
    omega arith

pub apply-requires : goal.apply-requires
apply-requires g c =
    let e = ap tellings_of c.in-Some.ensures.steps.0 in
    let s = subst (λ acts. Applying c.args.held.now c.loop-act.held (tellings_of c.args.acts.items) acts c.args.stamp c.loop-act.i) e c.loop-act.invariant.2 in
    let can = can_next c.args.held.now c.loop-act.held (tellings_of c.args.acts.items) (part_telling c.in-Some.act) (tellings_of (into_iter_items c.next.new.self)) c.args.stamp c.loop-act.i c.part_mut.result.now s c.part_mut.ensures.part in
    record { fits = can.0.0; room = can.0.1; later = can.1 }

pub loop-act-preserved : goal.loop-act-preserved
loop-act-preserved g c =
    let e = ap tellings_of c.in-Some.ensures.steps.0 in
    let s = subst (λ acts. Applying c.args.held.now c.loop-act.held (tellings_of c.args.acts.items) acts c.args.stamp c.loop-act.i) e c.loop-act.invariant.2 in
    (tt, tt, next_applying c.args.held.now c.loop-act.held (tellings_of c.args.acts.items) (part_telling c.in-Some.act) (tellings_of (into_iter_items c.next.new.self)) c.args.stamp c.loop-act.i c.part_mut.result.now c.apply.new.self s c.part_mut.ensures.part c.apply.ensures.kept c.apply.ensures.log c.apply.ensures.log_room)
