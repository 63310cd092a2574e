use Rattle.std.proofs.Common.{refl, sym, ap, ◌∙◌, subst, arith}
use Rattle.std.specs.Vec.Iter.{into_iter_items}
use Rattle.model_runs.specs.Courses.{ScriptAsked}
use Rattle.script_asked.specs.Numbered.{numbered_of}
use Rattle.yb_script.proofs.Doing.{IsAt, length_numbered, next_left, at_begin, at_next, at_size, cut_stop, full_stop, broken_stop}
use Rattle.yb_script.proofs.performing.run_commands.Goals as goal

pub answer-requires : goal.answer-requires
answer-requires g c =
    let at = subst (λ left. IsAt c.args.empty.slots (numbered_of c.args.script.lines) left c.loop-line.done c.loop-line.run (g.K.Sink.written c.args.sink.now) (g.K.Sink.written c.loop-line.sink))
    (next_left _ _ c.in-Some.line c.single.result c.in-Some.ensures.steps.0 c.single.ensures.same) c.loop-line.invariant.2 in
    record { asked = subst (λ slots. ScriptAsked slots c.single.result.command) (sym at.slots_is) at.asked.0 }

pub loop-line-preserved : goal.loop-line-preserved
loop-line-preserved g c =
    let at = subst (λ left. IsAt c.args.empty.slots (numbered_of c.args.script.lines) left c.loop-line.done c.loop-line.run (g.K.Sink.written c.args.sink.now) (g.K.Sink.written c.loop-line.sink))
    (next_left _ _ c.in-Some.line c.single.result c.in-Some.ensures.steps.0 c.single.ensures.same) c.loop-line.invariant.2 in (
      tt,
      tt,
      at_next _ _ _ _ _ _ _ _ _ _ at c.answer.ensures.slots c.in-Ok.ensures.ran c.in-Ok.ensures.text,
      omega (arith, c.loop-line.invariant.3, c.answer.ensures.faults),
    )

pub loop-line-init : goal.loop-line-init
loop-line-init g c =
    let lines = c.into_iter-line-iterator.ensures.into_iter_gives.0 ∙ c.into_vec-line-items.ensures.same in (
      tt,
      tt,
      subst (λ left. IsAt c.args.empty.slots (numbered_of c.args.script.lines) left 0 c.args.empty (g.K.Sink.written c.args.sink.now) (g.K.Sink.written c.args.sink.now)) (ap numbered_of (sym lines))
          (at_begin c.args.empty.slots (numbered_of c.args.script.lines) c.args.empty (g.K.Sink.written c.args.sink.now) refl c.requires.begun c.requires.asked),
      omega arith,
    )

pub overflow_add-done : goal.overflow_add-done
overflow_add-done g c =
    let at = subst (λ left. IsAt c.args.empty.slots (numbered_of c.args.script.lines) left c.loop-line.done c.loop-line.run (g.K.Sink.written c.args.sink.now) (g.K.Sink.written c.loop-line.sink))
    (next_left _ _ c.in-Some.line c.single.result c.in-Some.ensures.steps.0 c.single.ensures.same) c.loop-line.invariant.2 in
    omega (arith, at_size _ _ _ _ _ _ _ _ at, length_numbered c.args.script.lines, c.len-count.ensures.count, c.len-count.type_inv)

pub returns-in-Err-clause-cut : goal.returns-in-Err-clause-cut
returns-in-Err-clause-cut g c = λ five.
    let at = subst (λ left. IsAt c.args.empty.slots (numbered_of c.args.script.lines) left c.loop-line.done c.loop-line.run (g.K.Sink.written c.args.sink.now) (g.K.Sink.written c.loop-line.sink))
    (next_left _ _ c.in-Some.line c.single.result c.in-Some.ensures.steps.0 c.single.ensures.same) c.loop-line.invariant.2 in
    rw (c.end_of.ensures.history, c.end_of.ensures.done)
    (cut_stop c.in-Err.halt c.args.empty.slots (numbered_of c.args.script.lines) (numbered_of (into_iter_items c.next.new.self)) c.single.result c.loop-line.done c.loop-line.run c.answer.new.run
    (g.K.Sink.written c.args.sink.now) (g.K.Sink.written c.loop-line.sink) (g.K.Sink.written c.answer.new.sink) (sym c.status_of.ensures.exact ∙ sym c.end_of.ensures.status ∙ five) at c.in-Err.ensures.halted)

pub returns-in-Err-clause-full : goal.returns-in-Err-clause-full
returns-in-Err-clause-full g c = λ eight.
    let at = subst (λ left. IsAt c.args.empty.slots (numbered_of c.args.script.lines) left c.loop-line.done c.loop-line.run (g.K.Sink.written c.args.sink.now) (g.K.Sink.written c.loop-line.sink))
    (next_left _ _ c.in-Some.line c.single.result c.in-Some.ensures.steps.0 c.single.ensures.same) c.loop-line.invariant.2 in
    rw (c.end_of.ensures.history, c.end_of.ensures.done)
    (full_stop c.in-Err.halt c.args.empty.slots (numbered_of c.args.script.lines) (numbered_of (into_iter_items c.next.new.self)) c.single.result c.loop-line.done c.loop-line.run c.answer.new.run
    (g.K.Sink.written c.args.sink.now) (g.K.Sink.written c.loop-line.sink) (g.K.Sink.written c.answer.new.sink) (sym c.status_of.ensures.exact ∙ sym c.end_of.ensures.status ∙ eight) at c.in-Err.ensures.halted)

pub returns-in-Err-clause-broken : goal.returns-in-Err-clause-broken
returns-in-Err-clause-broken g c = λ six.
    let at = subst (λ left. IsAt c.args.empty.slots (numbered_of c.args.script.lines) left c.loop-line.done c.loop-line.run (g.K.Sink.written c.args.sink.now) (g.K.Sink.written c.loop-line.sink))
    (next_left _ _ c.in-Some.line c.single.result c.in-Some.ensures.steps.0 c.single.ensures.same) c.loop-line.invariant.2 in
    rw (c.end_of.ensures.history, c.end_of.ensures.done)
    (broken_stop c.in-Err.halt c.args.empty.slots (numbered_of c.args.script.lines) (numbered_of (into_iter_items c.next.new.self)) c.single.result c.loop-line.done c.loop-line.run c.answer.new.run
    (g.K.Sink.written c.args.sink.now) (g.K.Sink.written c.loop-line.sink) (g.K.Sink.written c.answer.new.sink) (sym c.status_of.ensures.exact ∙ sym c.end_of.ensures.status ∙ six) at c.in-Err.ensures.halted)
