use Rattle.step_table.proofs.Helds.{slots_with}
use Rattle.step_counters.proofs.Firsts.{noted_there}
use Rattle.std.proofs.Common.{◌≡◌, ◌+◌, length, ap}
use Rattle.step_counters.proofs.machine.CountersMachine.apply.Goals as goal

pub returns-clause-slots : goal.returns-clause-slots
returns-clause-slots c = slots_with c.args.held.now 0 c.note.new.self

pub returns-clause-parts : goal.returns-clause-parts
returns-clause-parts c =
    let reply : c.len-reply.result + 1 ≡ length c.part_mut-first.result.now.log + 1 = ap (λ n. n + 1) c.len-reply.ensures.count in
    let prepared : c.args._ready ≡ c.args.event = c.requires.event in
    rw prepared (noted_there c.args.held.now c.part_mut-first.result.now c.note.new.self c.args.event c.args.number (c.len-reply.result + 1) c.part_mut-first.ensures.part c.note.ensures.log reply)
