-- The commands that set how later lines are run.
use Rattle.std.specs.Prelude.{List, [], ◌∷◌, codes}
use Rattle.script_places.specs.declared.place.Place.TheVariants.{Number, Slot}
use Rattle.script_places.specs.Places.{Form}
use Rattle.model.specs.Scripts.{ScriptCommand, Tick, Lag}
use Rattle.script_lang.specs.Limits.{most_micros, most_number}

abbrev pub tick : Form ScriptCommand
tick = record { word = codes "tick"; places = Number 0 most_micros ∷ []; makes = Tick }

abbrev pub lag : Form ScriptCommand
lag = record { word = codes "lag"; places = Slot ∷ Number 0 most_number ∷ []; makes = Lag }

abbrev pub forms : List (Form ScriptCommand)
forms = tick ∷ lag ∷ []
