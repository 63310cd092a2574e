use Rattle.std.specs.Result.{OnOk}
use Rattle.std.proofs.Common.{Result, Ok, Err}
use Rattle.step_table.proofs.Helds.{slots_with}
use Rattle.cluster_core.proofs.Firsts.{first_same, first_fit, first_room}
use Rattle.cluster_core.proofs.prepare.make_room.Goals as goal

on_ok : {A E : Type 0} (F G : Type 0) (r : Result A E) → (F → G) → OnOk r F → OnOk r G
on_ok F G (Ok a) f h = f h
on_ok F G (Err e) f h = tt

pub returns-clause-slots : goal.returns-clause-slots
returns-clause-slots g c = slots_with c.args.held.now 0 c.make_room.new.self

pub returns-clause-same : goal.returns-clause-same
returns-clause-same g c = first_same c.args.held.now c.part_mut.result.now c.make_room.new.self c.part_mut.ensures.part c.make_room.ensures.kept c.make_room.ensures.log

pub returns-clause-fit : goal.returns-clause-fit
returns-clause-fit g c = λ acts n. first_fit c.args.held.now c.part_mut.result.now c.make_room.new.self acts n c.part_mut.ensures.part c.make_room.ensures.kept

pub returns-clause-room : goal.returns-clause-room
returns-clause-room g c = on_ok _ _ c.make_room.result (first_room c.args.held.now c.make_room.new.self c.requires.some) c.make_room.ensures.room
