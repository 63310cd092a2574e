-- The commands that take a namespace back to a time, and those that make another of a time.
use Rattle.std.specs.Prelude.{List, [], ◌∷◌, codes}
use Rattle.yb_ident.specs.declared.kind.Kind.TheVariants.{Schedule}
use Rattle.script_places.specs.declared.place.Place.TheVariants.{Name, Identifier, Time, MaybeTime}
use Rattle.script_places.specs.Places.{Form}
use Rattle.model.specs.Scripts.{ScriptCommand, Restore, CloneNamespace, ListRestorations, ListClones}

abbrev pub restore_snapshot_schedule : Form ScriptCommand
restore_snapshot_schedule = record {
  word = codes "restore_snapshot_schedule";
  places = Identifier Schedule ∷ Time ∷ [];
  makes = Restore;
}

abbrev pub clone_namespace : Form ScriptCommand
clone_namespace = record {
  word = codes "clone_namespace";
  places = Name ∷ Name ∷ MaybeTime ∷ [];
  makes = CloneNamespace;
}

abbrev pub list_snapshot_restorations : Form ScriptCommand
list_snapshot_restorations = record {
  word = codes "list_snapshot_restorations";
  places = [];
  makes = ListRestorations;
}

abbrev pub list_clones : Form ScriptCommand
list_clones = record { word = codes "list_clones"; places = []; makes = ListClones }

abbrev pub forms : List (Form ScriptCommand)
forms = restore_snapshot_schedule ∷ clone_namespace ∷ list_snapshot_restorations ∷ list_clones ∷ []
