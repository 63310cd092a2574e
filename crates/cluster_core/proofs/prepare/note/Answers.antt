use Rattle.step_table.proofs.Helds.{slots_with}
use Rattle.cluster_core.proofs.Firsts.{first_noted}
use Rattle.cluster_core.proofs.prepare.note.Goals as goal

pub returns-clause-slots : goal.returns-clause-slots
returns-clause-slots g c = slots_with c.args.held.now 0 c.note.new.self

pub returns-clause-parts : goal.returns-clause-parts
returns-clause-parts g c = first_noted c.args.held.now c.part_mut.result.now c.note.new.self c.args.entry c.part_mut.ensures.part c.note.ensures.kept c.note.ensures.log
