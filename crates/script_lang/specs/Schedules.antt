-- The commands on snapshot schedules.
use Rattle.std.specs.Prelude.{List, [], ◌∷◌, codes}
use Rattle.yb_ident.specs.declared.kind.Kind.TheVariants.{Schedule}
use Rattle.script_places.specs.declared.place.Place.{Place}
use Rattle.script_places.specs.declared.place.Place.TheVariants.{Number, Identifier, Database}
use Rattle.script_places.specs.Places.{Form}
use Rattle.model.specs.Scripts.{ScriptCommand, CreateSchedule, EditSchedule, DeleteSchedule, TakeSnapshot, ListSchedules, ListSnapshots}
use Rattle.script_lang.specs.Limits.{most_number}

-- minutes
abbrev pub period : Place
period = Number 0 most_number

abbrev pub create_snapshot_schedule : Form ScriptCommand
create_snapshot_schedule = record {
  word = codes "create_snapshot_schedule";
  places = period ∷ period ∷ Database ∷ [];
  makes = CreateSchedule;
}

abbrev pub edit_snapshot_schedule : Form ScriptCommand
edit_snapshot_schedule = record {
  word = codes "edit_snapshot_schedule";
  places = Identifier Schedule ∷ period ∷ period ∷ [];
  makes = EditSchedule;
}

abbrev pub delete_snapshot_schedule : Form ScriptCommand
delete_snapshot_schedule = record {
  word = codes "delete_snapshot_schedule";
  places = Identifier Schedule ∷ [];
  makes = DeleteSchedule;
}

abbrev pub take_snapshot : Form ScriptCommand
take_snapshot = record { word = codes "take_snapshot"; places = Identifier Schedule ∷ []; makes = TakeSnapshot }

abbrev pub list_snapshot_schedules : Form ScriptCommand
list_snapshot_schedules = record { word = codes "list_snapshot_schedules"; places = []; makes = ListSchedules }

abbrev pub list_snapshots : Form ScriptCommand
list_snapshots = record { word = codes "list_snapshots"; places = []; makes = ListSnapshots }

abbrev pub forms : List (Form ScriptCommand)
forms =
    create_snapshot_schedule ∷ edit_snapshot_schedule ∷ delete_snapshot_schedule ∷ take_snapshot
    ∷ list_snapshot_schedules ∷ list_snapshots ∷ []
