use Rattle.step_table.proofs.Told.{knows_follows, knows_numbers}
use Rattle.step_table.proofs.table.StepTable.join_pass.Goals as goal

pub returns-clause-right_history : goal.returns-clause-right_history
returns-clause-right_history g c = knows_follows g.M.Machine.core g.met.M.Machine.lawful c.glue.new.seat.me.0 c.glue.ensures.told.1.3.knows

pub returns-clause-entries_at_their_numbers : goal.returns-clause-entries_at_their_numbers
returns-clause-entries_at_their_numbers g c = knows_numbers g.M.Machine.core g.met.M.Machine.lawful c.glue.new.seat.me.0 c.glue.ensures.told.1.3.knows
