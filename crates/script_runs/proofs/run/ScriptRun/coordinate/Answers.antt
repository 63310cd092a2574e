use Rattle.std.proofs.Common.{◌≡◌, ◌-◌, suc, sym, subst, arith}
use Rattle.cluster_events.specs.SeenActs.{act_of}
use Rattle.script_runs.proofs.Going.{handed_on}
use Rattle.script_runs.proofs.Working.{Working, Next, acts_none, next_working, goes_working, stopped_working}
use Rattle.script_runs.proofs.run.ScriptRun.coordinate.Goals as goal

pub returns-in_default-clause-came : goal.returns-in_default-clause-came
returns-in_default-clause-came g c =
    goes_working c.args.self.now c.acts.self c.args.most c.acts.left c.acts.invariant.working (acts_none c.acts.left c.acts.self (sym c.in_default.ensures.exact))

pub returns-in_err-perform_next-clause-came : goal.returns-in_err-perform_next-clause-came
returns-in_err-perform_next-clause-came g c =
    let one : c.acts.left ≡ suc (c.acts.left - 1) = omega (arith, c.acts-test.true) in
    let w = subst (Working c.args.self.now c.acts.self c.args.most) one c.acts.invariant.working in
    handed_on c.from_residual.result c.in_err-perform_next.field-0.0 _ _ _ c.from_residual.ensures.1
    (stopped_working c.in_err-perform_next.field-0.0 c.args.self.now c.acts.self c.perform_next.new.self c.args.most (c.acts.left - 1) (act_of c.in-Some.act) w (sym c.in-Some.ensures.exact) c.in_err-perform_next.ensures.kept c.in_err-perform_next.ensures.came)

pub acts-preserved : goal.acts-preserved
acts-preserved g c =
    let one : c.acts.left ≡ suc (c.acts.left - 1) = omega (arith, c.acts-test.true) in
    let w = subst (Working c.args.self.now c.acts.self c.args.most) one c.acts.invariant.working in
    let n : Next (act_of c.in-Some.act) c.acts.self c.perform_next.new.self = record { comes = sym c.in-Some.ensures.exact; slots = c.perform_next.ensures.slots; reading = c.perform_next.ensures.reading; goes = c.in_ok-perform_next.ensures.came; history = c.in_ok-perform_next.ensures.entry } in
    record { working = next_working c.args.self.now c.acts.self c.perform_next.new.self c.args.most (c.acts.left - 1) (act_of c.in-Some.act) w n }
