-- The commands on tablets and their history.
use Rattle.std.specs.Prelude.{List, [], ◌∷◌, codes}
use Rattle.script_places.specs.declared.place.Place.TheVariants.{Name, Number, Slot}
use Rattle.script_places.specs.Places.{Form}
use Rattle.model.specs.Scripts.{ScriptCommand, Split, ListTablets, RaiseCutoffs, CompactTablets, ShowStats}
use Rattle.script_lang.specs.Limits.{most_code}

abbrev pub split : Form ScriptCommand
split = record { word = codes "split"; places = Name ∷ Name ∷ Number 0 most_code ∷ []; makes = Split }

abbrev pub list_tablets : Form ScriptCommand
list_tablets = record { word = codes "list_tablets"; places = Name ∷ []; makes = ListTablets }

abbrev pub cutoff : Form ScriptCommand
cutoff = record { word = codes "cutoff"; places = []; makes = RaiseCutoffs }

abbrev pub compact : Form ScriptCommand
compact = record { word = codes "compact"; places = []; makes = CompactTablets }

abbrev pub stats : Form ScriptCommand
stats = record { word = codes "stats"; places = Slot ∷ []; makes = ShowStats }

abbrev pub forms : List (Form ScriptCommand)
forms = split ∷ list_tablets ∷ cutoff ∷ compact ∷ stats ∷ []
