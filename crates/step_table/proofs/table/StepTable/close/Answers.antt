use Rattle.std.proofs.Common.{map, sym, ap, subst, ◌∙◌, arith}
use Rattle.std.specs.Mem.Slots.{slots_items, slots_counts}
use Rattle.step_table.specs.Passes.{TableView}
use Rattle.step_table.proofs.Closes.{closes, closed, Closed}
use Rattle.step_table.proofs.table.StepTable.close.Goals as goal

pub unload-requires-clause-parts : goal.unload-requires-clause-parts
unload-requires-clause-parts g c =
    let core = g.M.Machine.core in
    let seat = c.pass.inside.seat in
    let given = map core.meaning c.self.inside.table.shared.key.value in
    let slots = slots_items c.close_with-closed.result.slots in
    let left = closes core given seat.id seat.me.0 _ slots (ap (λ p. p.shares) c.pass.view_is ∙ c.requires.all_shares) c.pass.invariant.3 c.close_with-closed.ensures.values.2 in
    let n = (slots_counts c.close_with-closed.result.slots).0 in
    λ k lt. let p = left.parts k (omega arith) in (p.0, p.1)

pub returns-clause-same_given : goal.returns-clause-same_given
returns-clause-same_given g c =
    let core = g.M.Machine.core in
    let seat = c.pass.inside.seat in
    let given = map core.meaning c.self.inside.table.shared.key.value in
    let slots = slots_items c.close_with-closed.result.slots in
    let left = closes core given seat.id seat.me.0 _ slots (ap (λ p. p.shares) c.pass.view_is ∙ c.requires.all_shares) c.pass.invariant.3 c.close_with-closed.ensures.values.2 in
    let home = closed core g.met.M.Machine.lawful given seat.table_id seat.me.0 slots c.unload.new.room.items left c.unload.ensures.parts in
    let here : Closed core c.args.self.given c.args.pass (map core.meaning c.from_vec.result) = subst (λ xs. Closed core c.args.self.given c.args.pass (map core.meaning xs)) (sym c.from_vec.ensures.same)
    (subst (λ (t : TableView _). Closed core t.given c.args.pass (map core.meaning c.unload.new.room.items)) c.self.view_is (subst (λ p. Closed core given p (map core.meaning c.unload.new.room.items)) c.pass.view_is home)) in
    here.same_given

pub returns-clause-every_entry_once : goal.returns-clause-every_entry_once
returns-clause-every_entry_once g c =
    let core = g.M.Machine.core in
    let seat = c.pass.inside.seat in
    let given = map core.meaning c.self.inside.table.shared.key.value in
    let slots = slots_items c.close_with-closed.result.slots in
    let left = closes core given seat.id seat.me.0 _ slots (ap (λ p. p.shares) c.pass.view_is ∙ c.requires.all_shares) c.pass.invariant.3 c.close_with-closed.ensures.values.2 in
    let home = closed core g.met.M.Machine.lawful given seat.table_id seat.me.0 slots c.unload.new.room.items left c.unload.ensures.parts in
    let here : Closed core c.args.self.given c.args.pass (map core.meaning c.from_vec.result) = subst (λ xs. Closed core c.args.self.given c.args.pass (map core.meaning xs)) (sym c.from_vec.ensures.same)
    (subst (λ (t : TableView _). Closed core t.given c.args.pass (map core.meaning c.unload.new.room.items)) c.self.view_is (subst (λ p. Closed core given p (map core.meaning c.unload.new.room.items)) c.pass.view_is home)) in
    here.every_entry_once

pub returns-clause-numbered : goal.returns-clause-numbered
returns-clause-numbered g c =
    let core = g.M.Machine.core in
    let seat = c.pass.inside.seat in
    let given = map core.meaning c.self.inside.table.shared.key.value in
    let slots = slots_items c.close_with-closed.result.slots in
    let left = closes core given seat.id seat.me.0 _ slots (ap (λ p. p.shares) c.pass.view_is ∙ c.requires.all_shares) c.pass.invariant.3 c.close_with-closed.ensures.values.2 in
    let home = closed core g.met.M.Machine.lawful given seat.table_id seat.me.0 slots c.unload.new.room.items left c.unload.ensures.parts in
    let here : Closed core c.args.self.given c.args.pass (map core.meaning c.from_vec.result) = subst (λ xs. Closed core c.args.self.given c.args.pass (map core.meaning xs)) (sym c.from_vec.ensures.same)
    (subst (λ (t : TableView _). Closed core t.given c.args.pass (map core.meaning c.unload.new.room.items)) c.self.view_is (subst (λ p. Closed core given p (map core.meaning c.unload.new.room.items)) c.pass.view_is home)) in
    here.numbered

pub returns-clause-right_history : goal.returns-clause-right_history
returns-clause-right_history g c =
    let core = g.M.Machine.core in
    let seat = c.pass.inside.seat in
    let given = map core.meaning c.self.inside.table.shared.key.value in
    let slots = slots_items c.close_with-closed.result.slots in
    let left = closes core given seat.id seat.me.0 _ slots (ap (λ p. p.shares) c.pass.view_is ∙ c.requires.all_shares) c.pass.invariant.3 c.close_with-closed.ensures.values.2 in
    let home = closed core g.met.M.Machine.lawful given seat.table_id seat.me.0 slots c.unload.new.room.items left c.unload.ensures.parts in
    let here : Closed core c.args.self.given c.args.pass (map core.meaning c.from_vec.result) = subst (λ xs. Closed core c.args.self.given c.args.pass (map core.meaning xs)) (sym c.from_vec.ensures.same)
    (subst (λ (t : TableView _). Closed core t.given c.args.pass (map core.meaning c.unload.new.room.items)) c.self.view_is (subst (λ p. Closed core given p (map core.meaning c.unload.new.room.items)) c.pass.view_is home)) in
    here.right

pub returns-clause-left_by_their_history : goal.returns-clause-left_by_their_history
returns-clause-left_by_their_history g c =
    let core = g.M.Machine.core in
    let seat = c.pass.inside.seat in
    let given = map core.meaning c.self.inside.table.shared.key.value in
    let slots = slots_items c.close_with-closed.result.slots in
    let left = closes core given seat.id seat.me.0 _ slots (ap (λ p. p.shares) c.pass.view_is ∙ c.requires.all_shares) c.pass.invariant.3 c.close_with-closed.ensures.values.2 in
    let home = closed core g.met.M.Machine.lawful given seat.table_id seat.me.0 slots c.unload.new.room.items left c.unload.ensures.parts in
    let here : Closed core c.args.self.given c.args.pass (map core.meaning c.from_vec.result) = subst (λ xs. Closed core c.args.self.given c.args.pass (map core.meaning xs)) (sym c.from_vec.ensures.same)
    (subst (λ (t : TableView _). Closed core t.given c.args.pass (map core.meaning c.unload.new.room.items)) c.self.view_is (subst (λ p. Closed core given p (map core.meaning c.unload.new.room.items)) c.pass.view_is home)) in
    here.left

pub returns-clause-legal : goal.returns-clause-legal
returns-clause-legal g c =
    let core = g.M.Machine.core in
    let seat = c.pass.inside.seat in
    let given = map core.meaning c.self.inside.table.shared.key.value in
    let slots = slots_items c.close_with-closed.result.slots in
    let left = closes core given seat.id seat.me.0 _ slots (ap (λ p. p.shares) c.pass.view_is ∙ c.requires.all_shares) c.pass.invariant.3 c.close_with-closed.ensures.values.2 in
    let home = closed core g.met.M.Machine.lawful given seat.table_id seat.me.0 slots c.unload.new.room.items left c.unload.ensures.parts in
    let here : Closed core c.args.self.given c.args.pass (map core.meaning c.from_vec.result) = subst (λ xs. Closed core c.args.self.given c.args.pass (map core.meaning xs)) (sym c.from_vec.ensures.same)
    (subst (λ (t : TableView _). Closed core t.given c.args.pass (map core.meaning c.unload.new.room.items)) c.self.view_is (subst (λ p. Closed core given p (map core.meaning c.unload.new.room.items)) c.pass.view_is home)) in
    here.legal

pub returns-clause-seen : goal.returns-clause-seen
returns-clause-seen g c =
    let core = g.M.Machine.core in
    let seat = c.pass.inside.seat in
    let given = map core.meaning c.self.inside.table.shared.key.value in
    let slots = slots_items c.close_with-closed.result.slots in
    let left = closes core given seat.id seat.me.0 _ slots (ap (λ p. p.shares) c.pass.view_is ∙ c.requires.all_shares) c.pass.invariant.3 c.close_with-closed.ensures.values.2 in
    let home = closed core g.met.M.Machine.lawful given seat.table_id seat.me.0 slots c.unload.new.room.items left c.unload.ensures.parts in
    let here : Closed core c.args.self.given c.args.pass (map core.meaning c.from_vec.result) = subst (λ xs. Closed core c.args.self.given c.args.pass (map core.meaning xs)) (sym c.from_vec.ensures.same)
    (subst (λ (t : TableView _). Closed core t.given c.args.pass (map core.meaning c.unload.new.room.items)) c.self.view_is (subst (λ p. Closed core given p (map core.meaning c.unload.new.room.items)) c.pass.view_is home)) in
    here.seen
