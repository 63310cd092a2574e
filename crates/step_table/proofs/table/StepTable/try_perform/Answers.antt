use Rattle.std.proofs.Common.{◌≡◌, subst}
use mathlib.Core.List.{IsPrefix}
use Rattle.step_table.specs.Passes.{EntryAdded, told}
use Rattle.step_table.specs.Tries.{FoundBy, OthersShare}
use Rattle.step_table.proofs.Told.{knows_follows, knows_numbers, added, seen_later, try_made, try_later, try_found, try_touched, try_others, try_refuses, ok_gives, err_gives, err_says}
use Rattle.step_table.proofs.table.StepTable.try_perform.Goals as goal

pub returns-clause-entry_added : goal.returns-clause-entry_added
returns-clause-entry_added g c =
    let old = c.pass.inside.seat in
    let new = c.try_perform_as.new.seat in
    ok_gives _ _ c.try_perform_as.result (λ reply p. subst (λ v. EntryAdded c.args.event reply v (told g.M.Machine.core new.table_id new.me.0)) c.pass.view_is
    (added g.M.Machine.core c.args.event reply old.table_id new.table_id old.me.0 new.me.0 c.try_perform_as.ensures.same.given p)) c.try_perform_as.ensures.ok

pub returns-clause-no_entry : goal.returns-clause-no_entry
returns-clause-no_entry g c =
    let new = c.try_perform_as.new.seat in
    err_says _ _ c.try_perform_as.result (λ t d. subst (λ v. new.me.0.mine ≡ v.made) c.pass.view_is (try_made g.M.Machine.core c.args.event c.pass.inside.seat.me.0 new.me.0 t d)) c.try_perform_as.ensures.err

pub returns-clause-seen_grows : goal.returns-clause-seen_grows
returns-clause-seen_grows g c =
    let core = g.M.Machine.core in
    let old = c.pass.inside.seat in
    let new = c.try_perform_as.new.seat in
    err_says _ _ c.try_perform_as.result (λ t d. subst (λ v. IsPrefix v.seen (told core new.table_id new.me.0).seen) c.pass.view_is
    (seen_later core old.me.0 new.me.0 c.try_perform_as.ensures.same.given (try_later core c.args.event old.me.0 new.me.0 t d))) c.try_perform_as.ensures.err

pub returns-clause-taken_is_found : goal.returns-clause-taken_is_found
returns-clause-taken_is_found g c =
    let core = g.M.Machine.core in
    let old = c.pass.inside.seat in
    let new = c.try_perform_as.new.seat in
    err_gives _ _ c.try_perform_as.result (λ t d. subst (λ v. FoundBy v (told core new.table_id new.me.0) t) c.pass.view_is
    (try_found core c.args.event old.table_id new.table_id old.me.0 new.me.0 t d)) c.try_perform_as.ensures.err

pub returns-clause-taken_is_touched : goal.returns-clause-taken_is_touched
returns-clause-taken_is_touched g c =
    err_gives _ _ c.try_perform_as.result (λ t d. try_touched g.M.Machine.core c.args.event c.pass.inside.seat.me.0 c.try_perform_as.new.seat.me.0 t d) c.try_perform_as.ensures.err

pub returns-clause-never_taken_with_all_shares : goal.returns-clause-never_taken_with_all_shares
returns-clause-never_taken_with_all_shares g c =
    let old = c.pass.inside.seat in
    err_gives _ _ c.try_perform_as.result (λ t d. subst (λ v. OthersShare v t) c.pass.view_is
    (try_others g.M.Machine.core c.args.event old.table_id old.me.0 c.try_perform_as.new.seat.me.0 t d)) c.try_perform_as.ensures.err

pub returns-clause-refused_on_what_was_seen : goal.returns-clause-refused_on_what_was_seen
returns-clause-refused_on_what_was_seen g c =
    let new = c.try_perform_as.new.seat in
    err_gives _ _ c.try_perform_as.result (λ t d. try_refuses g.M.Machine.core c.args.event new.table_id c.pass.inside.seat.me.0 new.me.0 t d) c.try_perform_as.ensures.err

pub returns-clause-right_history : goal.returns-clause-right_history
returns-clause-right_history g c = knows_follows g.M.Machine.core g.met.M.Machine.lawful c.try_perform_as.new.seat.me.0 c.try_perform_as.ensures.idle.1

pub returns-clause-entries_at_their_numbers : goal.returns-clause-entries_at_their_numbers
returns-clause-entries_at_their_numbers g c = knows_numbers g.M.Machine.core g.met.M.Machine.lawful c.try_perform_as.new.seat.me.0 c.try_perform_as.ensures.idle.1
