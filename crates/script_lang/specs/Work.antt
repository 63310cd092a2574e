-- The commands that work off what is left to do, restart a part, and show what was done.
use Rattle.std.specs.Prelude.{List, [], ◌∷◌, codes}
use Rattle.script_places.specs.declared.place.Place.TheVariants.{Number, Slot}
use Rattle.script_places.specs.Places.{Form}
use Rattle.model.specs.Scripts.{ScriptCommand, CleanUp, Coordinate, Settle, RestartMaster, RestartTablet, ShowHistory}
use Rattle.script_lang.specs.Limits.{most_events}

abbrev pub cleanup : Form ScriptCommand
cleanup = record { word = codes "cleanup"; places = []; makes = CleanUp }

abbrev pub coordinate : Form ScriptCommand
coordinate = record { word = codes "coordinate"; places = Number 0 most_events ∷ []; makes = Coordinate }

abbrev pub settle : Form ScriptCommand
settle = record { word = codes "settle"; places = []; makes = Settle }

abbrev pub restart_master : Form ScriptCommand
restart_master = record { word = codes "restart_master"; places = []; makes = RestartMaster }

abbrev pub restart_tablet : Form ScriptCommand
restart_tablet = record { word = codes "restart_tablet"; places = Slot ∷ []; makes = RestartTablet }

abbrev pub history : Form ScriptCommand
history = record { word = codes "history"; places = []; makes = ShowHistory }

abbrev pub forms : List (Form ScriptCommand)
forms = cleanup ∷ coordinate ∷ settle ∷ restart_master ∷ restart_tablet ∷ history ∷ []
