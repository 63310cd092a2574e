use Rattle.step_table.proofs.Helds.{slots_with}
use Rattle.std.proofs.Common.{◌≡◌, ◌<◌, ◌≤◌, length, sym, ap, subst, ◌∙◌, arith, inr}
use Rattle.step_counters.proofs.Firsts.{meanings_stay, room_there, length_there, full_when, fine_when}
use Rattle.step_counters.proofs.machine.CountersMachine.prepare.Goals as goal

pub returns-then-len-ge1000000-clause-refused : goal.returns-then-len-ge1000000-clause-refused
returns-then-len-ge1000000-clause-refused c =
    let at = length_there c.args.held.now c.part-first.result.now c.part-first.ensures.part in
    let count = c.len.ensures.count in
    let many = c.if-len-ge1000000.true in
    inr (full_when _ (omega arith))

pub returns-then-is_err-clause-slots : goal.returns-then-is_err-clause-slots
returns-then-is_err-clause-slots c = slots_with c.args.held.now 0 c.make_room.new.self

pub returns-then-is_err-clause-meaning : goal.returns-then-is_err-clause-meaning
returns-then-is_err-clause-meaning c = meanings_stay c.args.held.now c.part_mut.result.now c.make_room.new.self c.part_mut.ensures.part c.make_room.ensures.log

pub returns-clause-slots : goal.returns-clause-slots
returns-clause-slots c = slots_with c.args.held.now 0 c.make_room.new.self

pub returns-clause-meaning : goal.returns-clause-meaning
returns-clause-meaning c = meanings_stay c.args.held.now c.part_mut.result.now c.make_room.new.self c.part_mut.ensures.part c.make_room.ensures.log

pub returns-clause-accepted : goal.returns-clause-accepted
returns-clause-accepted c =
    let at = length_there c.args.held.now c.part-first.result.now c.part-first.ensures.part in
    let count = c.len.ensures.count in
    let few = c.if-len-ge1000000.false in
    fine_when _ (omega arith)

pub returns-clause-ready : goal.returns-clause-ready
returns-clause-ready c = room_there c.args.held.now c.part_mut.result.now c.make_room.new.self c.part_mut.ensures.part (search Rattle.std.proofs.Common.rules)
