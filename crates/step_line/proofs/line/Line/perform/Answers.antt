use Rattle.std.proofs.Common.{◌∙◌, length, ap, arith}
use Rattle.step_line.specs.Places.{means}
use Rattle.step_line.specs.Lines.{LineView}
use Rattle.step_line.proofs.Stepping.{holds_next, logged_next, size_next, last_few}
use Rattle.step_line.proofs.line.Line.perform.Goals as goal

pub overflow_add-self : goal.overflow_add-self
overflow_add-self g c =
    let core = g.M.Machine.core in
    let few = last_few core g.met.M.Machine.lawful (means core.meaning c.self.inside.places.items) c.self.inside.last c.self.invariant.holds c.self.invariant.last in omega arith

pub invariant_of-self-2 : goal.invariant_of-self-2
invariant_of-self-2 g c =
    let core = g.M.Machine.core in
    let laws = g.met.M.Machine.lawful in
    let before = means core.meaning c.self.inside.places.items in
    let after = means core.meaning c.perform_in.new.places.items in
    record {
      whole = c.in_ok-reply.ensures.whole;
      last = logged_next core laws c.args.event c.in_ok-reply.reply before after c.self.inside.last c.self.invariant.holds c.in_ok-reply.ensures.ok c.self.invariant.last;
      holds = holds_next core laws c.args.event c.in_ok-reply.reply before after c.self.invariant.holds c.in_ok-reply.ensures.ok;
    }

pub returns-clause-holds : goal.returns-clause-holds
returns-clause-holds g c =
    let core = g.M.Machine.core in
    holds_next core g.met.M.Machine.lawful c.args.event c.in_ok-reply.reply (means core.meaning c.self.inside.places.items) (means core.meaning c.perform_in.new.places.items) c.self.invariant.holds c.in_ok-reply.ensures.ok

pub returns-clause-size : goal.returns-clause-size
returns-clause-size g c =
    let core = g.M.Machine.core in
    size_next core g.met.M.Machine.lawful c.args.event c.in_ok-reply.reply (means core.meaning c.self.inside.places.items) (means core.meaning c.perform_in.new.places.items) c.in_ok-reply.ensures.ok
    ∙ ap (λ (v : LineView _). length v.parts) c.self.view_is
