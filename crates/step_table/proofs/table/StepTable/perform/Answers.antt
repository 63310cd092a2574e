use Rattle.std.proofs.Common.{subst}
use Rattle.step_table.specs.Passes.{EntryAdded, told}
use Rattle.step_table.proofs.Told.{knows_follows, knows_numbers, added, ok_gives}
use Rattle.step_table.proofs.table.StepTable.perform.Goals as goal

pub returns-clause-entry_added : goal.returns-clause-entry_added
returns-clause-entry_added g c =
    let old = c.pass.inside.seat in
    let new = c.perform_as.new.seat in
    ok_gives _ _ c.perform_as.result (λ reply p. subst (λ v. EntryAdded c.args.event reply v (told g.M.Machine.core new.table_id new.me.0)) c.pass.view_is (added g.M.Machine.core c.args.event reply old.table_id new.table_id old.me.0 new.me.0 c.perform_as.ensures.same.given p)) c.perform_as.ensures.ok

pub returns-clause-right_history : goal.returns-clause-right_history
returns-clause-right_history g c = knows_follows g.M.Machine.core g.met.M.Machine.lawful c.perform_as.new.seat.me.0 c.perform_as.ensures.idle.1

pub returns-clause-entries_at_their_numbers : goal.returns-clause-entries_at_their_numbers
returns-clause-entries_at_their_numbers g c = knows_numbers g.M.Machine.core g.met.M.Machine.lawful c.perform_as.new.seat.me.0 c.perform_as.ensures.idle.1
