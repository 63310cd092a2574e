-- All of the book that a run computes with: a row names it on its `unfolding` line.
use Rattle.model.specs.Changes.{create_namespace, drop_namespace, create_table, add_column, drop_column, rename_table, drop_table, split, create_schedule, edit_schedule, delete_schedule, take_snapshot, restore, clone_namespace, list_tablets, change}
use Rattle.model.specs.Cleanup.{remove, prune}
use Rattle.model.specs.Coordination.{send, process, ack}
use Rattle.model.specs.History.{replay, entry_of, journal_of, activity_of, snapshots_taken, scheduled_since}
use Rattle.model.specs.Entering.{entered}
use Rattle.model.specs.Looks.{plan_of, look_plan, look_keys, look_table, look_present}
use Rattle.model.specs.Moves.{advance}
use Rattle.model.specs.Once.{restores_asked, clones_asked, changes_by, changes_asked, commands_done}
use Rattle.model.specs.RowActs.{write, read, cutoff, compact, restart, stats}
use Rattle.row_values.specs.Store.{kept_of}
use Rattle.model_runs.specs.Running.{may_follow, made_by, text_of, run_of}
use Rattle.std.specs.Fmt.{digits}

unfoldable pub the_book : Type 0
unfolding create_namespace drop_namespace create_table add_column drop_column rename_table drop_table split create_schedule edit_schedule delete_schedule take_snapshot restore clone_namespace list_tablets change remove prune send process ack replay entry_of journal_of activity_of snapshots_taken scheduled_since entered restores_asked clones_asked changes_by changes_asked commands_done plan_of look_plan look_keys look_table look_present advance write read cutoff compact restart stats kept_of may_follow made_by run_of text_of digits
the_book = Unit {0}
