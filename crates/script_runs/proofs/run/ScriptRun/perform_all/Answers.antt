use Rattle.std.proofs.Common.{map, ap, subst}
use Rattle.std.specs.Vec.Iter.{into_iter_items}
use Rattle.cluster_events.specs.SeenActs.{act_of}
use Rattle.script_runs.proofs.Going.{handed_on}
use Rattle.script_runs.proofs.Performing.{Performing, next_performing, stopped_performing}
use Rattle.script_runs.proofs.run.ScriptRun.perform_all.Goals as goal

pub returns-in_err-perform_act-clause-came : goal.returns-in_err-perform_act-clause-came
returns-in_err-perform_act-clause-came g c =
    let all = map act_of c.args.acts.items in
    let p = subst (λ left. Performing c.args.self.now c.loop-act.self all left c.loop-act.newest) (ap (map act_of) c.in-Some.ensures.steps.0) c.loop-act.invariant.2 in
    handed_on c.from_residual.result c.in_err-perform_act.field-0.0 _ _ _ c.from_residual.ensures.1
    (stopped_performing c.in_err-perform_act.field-0.0 c.args.self.now c.loop-act.self c.perform_act.new.self all (act_of c.in-Some.act) (map act_of (into_iter_items c.next.new.self)) c.loop-act.newest p c.in_err-perform_act.ensures.kept c.in_err-perform_act.ensures.came)

pub loop-act-preserved : goal.loop-act-preserved
loop-act-preserved g c =
    let all = map act_of c.args.acts.items in
    let p = subst (λ left. Performing c.args.self.now c.loop-act.self all left c.loop-act.newest) (ap (map act_of) c.in-Some.ensures.steps.0) c.loop-act.invariant.2 in
    (tt, tt, next_performing c.args.self.now c.loop-act.self c.perform_act.new.self all (act_of c.in-Some.act) (map act_of (into_iter_items c.next.new.self)) c.loop-act.newest _ p c.perform_act.ensures.slots c.in_ok-perform_act.ensures.came c.in_ok-perform_act.ensures.entry)
