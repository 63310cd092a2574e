use Rattle.std.proofs.Common.{◌≡◌, ◌<◌, ◌+◌, suc, drop, ap, subst, ◌∙◌, arith}
use Rattle.step_table.specs.Helds.{with_part}
use Rattle.step_table.proofs.Helds.{slots_with}
use Rattle.cluster_core.specs.SeenTold.{part_telling, tellings_of}
use Rattle.cluster_core.proofs.Loops.{Preparing, acts_next, next_fit, next_within, next_preparing, first_kept, same_size, parts_size}
use Rattle.cluster_core.proofs.parts.prepare_all.Goals as goal

pub part_mut-requires : goal.part_mut-requires
part_mut-requires g c =
    let e = acts_next c.loop-act.act-index c.args.acts.now c.act-item.result c.loop-act-test.true c.act-item.is in
    let s = subst (λ acts. Preparing c.args.held.now c.loop-act.held (tellings_of c.args.acts.now) acts c.args.stamp c.loop-act.i) e c.loop-act.invariant.doing in
    let l = next_within c.args.held.now c.loop-act.held (tellings_of c.args.acts.now) (part_telling c.act-item.result) (tellings_of (drop (suc c.loop-act.act-index) c.args.acts.now)) c.args.stamp c.loop-act.i s in
    record { within = subst (λ n. c.loop-act.i < n) (parts_size c.loop-act.held) l }

pub prepare-requires : goal.prepare-requires
prepare-requires g c =
    let e = acts_next c.loop-act.act-index c.args.acts.now c.act-item.result c.loop-act-test.true c.act-item.is in
    let s = subst (λ acts. Preparing c.args.held.now c.loop-act.held (tellings_of c.args.acts.now) acts c.args.stamp c.loop-act.i) e c.loop-act.invariant.doing in
    record { fits = (c.args.stamp, next_fit c.args.held.now c.loop-act.held (tellings_of c.args.acts.now) (part_telling c.act-item.result) (tellings_of (drop (suc c.loop-act.act-index) c.args.acts.now)) c.args.stamp c.loop-act.i c.part_mut.result.now s c.part_mut.ensures.part) }

pub returns-in_err-prepare-clause-slots : goal.returns-in_err-prepare-clause-slots
returns-in_err-prepare-clause-slots g c = slots_with c.loop-act.held c.loop-act.i c.prepare.new.self ∙ c.loop-act.invariant.doing.slots

pub returns-in_err-prepare-clause-same : goal.returns-in_err-prepare-clause-same
returns-in_err-prepare-clause-same g c =
    let e = acts_next c.loop-act.act-index c.args.acts.now c.act-item.result c.loop-act-test.true c.act-item.is in
    let s = subst (λ acts. Preparing c.args.held.now c.loop-act.held (tellings_of c.args.acts.now) acts c.args.stamp c.loop-act.i) e c.loop-act.invariant.doing in
    (first_kept c.args.held.now c.loop-act.held (tellings_of c.args.acts.now) (part_telling c.act-item.result) (tellings_of (drop (suc c.loop-act.act-index) c.args.acts.now)) c.args.stamp c.loop-act.i c.part_mut.result.now c.prepare.new.self s c.part_mut.ensures.part c.prepare.ensures.kept c.prepare.ensures.log c.prepare.ensures.log_room).0

pub returns-in_err-prepare-clause-first : goal.returns-in_err-prepare-clause-first
returns-in_err-prepare-clause-first g c =
    let e = acts_next c.loop-act.act-index c.args.acts.now c.act-item.result c.loop-act-test.true c.act-item.is in
    let s = subst (λ acts. Preparing c.args.held.now c.loop-act.held (tellings_of c.args.acts.now) acts c.args.stamp c.loop-act.i) e c.loop-act.invariant.doing in
    (first_kept c.args.held.now c.loop-act.held (tellings_of c.args.acts.now) (part_telling c.act-item.result) (tellings_of (drop (suc c.loop-act.act-index) c.args.acts.now)) c.args.stamp c.loop-act.i c.part_mut.result.now c.prepare.new.self s c.part_mut.ensures.part c.prepare.ensures.kept c.prepare.ensures.log c.prepare.ensures.log_room).1

pub overflow_add-i : goal.overflow_add-i
overflow_add-i g c =
    let e = acts_next c.loop-act.act-index c.args.acts.now c.act-item.result c.loop-act-test.true c.act-item.is in
    let s = subst (λ acts. Preparing c.args.held.now c.loop-act.held (tellings_of c.args.acts.now) acts c.args.stamp c.loop-act.i) e c.loop-act.invariant.doing in
    let l = next_within c.args.held.now c.loop-act.held (tellings_of c.args.acts.now) (part_telling c.act-item.result) (tellings_of (drop (suc c.loop-act.act-index) c.args.acts.now)) c.args.stamp c.loop-act.i s in
    let size = same_size c.args.held.now c.loop-act.held s.slots in
    let count = c.len-count.ensures.count in
    omega arith

pub loop-act-preserved : goal.loop-act-preserved
loop-act-preserved g c =
    let e = acts_next c.loop-act.act-index c.args.acts.now c.act-item.result c.loop-act-test.true c.act-item.is in
    let s = subst (λ acts. Preparing c.args.held.now c.loop-act.held (tellings_of c.args.acts.now) acts c.args.stamp c.loop-act.i) e c.loop-act.invariant.doing in
    let next = next_preparing c.args.held.now c.loop-act.held (tellings_of c.args.acts.now) (part_telling c.act-item.result) (tellings_of (drop (suc c.loop-act.act-index) c.args.acts.now)) c.args.stamp c.loop-act.i c.part_mut.result.now c.prepare.new.self s c.part_mut.ensures.part c.prepare.ensures.kept c.prepare.ensures.log c.prepare.ensures.log_room c.in_ok-prepare.ensures.room in
    let one : suc c.loop-act.act-index ≡ c.loop-act.act-index + 1 = omega arith in
    record {
      at = ap (λ n. n + 1) c.loop-act.invariant.at;
      doing = subst (λ k. Preparing c.args.held.now (with_part c.loop-act.held c.loop-act.i c.prepare.new.self) (tellings_of c.args.acts.now) (tellings_of (drop k c.args.acts.now)) c.args.stamp (c.loop-act.i + 1)) one next;
    }
