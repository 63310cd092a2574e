use Rattle.std.proofs.Common.{sym}
use Rattle.cluster_events.specs.SeenActs.{act_of}
use Rattle.script_runs.proofs.Going.{handed_on}
use Rattle.script_runs.proofs.Working.{Next, first_settling, next_settling, fewer, goes_settling, stopped_settling}
use Rattle.script_runs.proofs.run.ScriptRun.settle.Goals as goal

pub acts-init : goal.acts-init
acts-init g c = record { settling = first_settling c.args.self.now c.is_legal.ensures.legal }

pub acts-smaller : goal.acts-smaller
acts-smaller g c =
    let n : Next (act_of c.in-Some.act) c.acts.self c.perform_next.new.self = record { comes = sym c.in-Some.ensures.exact; slots = c.perform_next.ensures.slots; reading = c.perform_next.ensures.reading; goes = c.in_ok-perform_next.ensures.came; history = c.in_ok-perform_next.ensures.entry } in
    fewer (act_of c.in-Some.act) c.acts.self c.perform_next.new.self c.in-Some.ensures.legal n

pub acts-preserved : goal.acts-preserved
acts-preserved g c =
    let n : Next (act_of c.in-Some.act) c.acts.self c.perform_next.new.self = record { comes = sym c.in-Some.ensures.exact; slots = c.perform_next.ensures.slots; reading = c.perform_next.ensures.reading; goes = c.in_ok-perform_next.ensures.came; history = c.in_ok-perform_next.ensures.entry } in
    record { settling = next_settling c.args.self.now c.acts.self c.perform_next.new.self (act_of c.in-Some.act) c.in-Some.ensures.legal c.acts.invariant.settling n }

pub returns-in_err-perform_next-clause-came : goal.returns-in_err-perform_next-clause-came
returns-in_err-perform_next-clause-came g c =
    handed_on c.from_residual.result c.in_err-perform_next.field-0.0 _ _ _ c.from_residual.ensures.1
    (stopped_settling c.in_err-perform_next.field-0.0 c.args.self.now c.acts.self c.perform_next.new.self (act_of c.in-Some.act) c.in-Some.ensures.legal c.acts.invariant.settling (sym c.in-Some.ensures.exact) c.in_err-perform_next.ensures.kept c.in_err-perform_next.ensures.came)

pub returns-clause-came : goal.returns-clause-came
returns-clause-came g c = goes_settling c.args.self.now c.acts.self c.acts.invariant.settling (sym c.in_default.ensures.exact)
