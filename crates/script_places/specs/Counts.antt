-- How many words a command has, and which of them are fixed.
use Rattle.std.specs.Prelude.{Bool, true, false, ◌&&◌, if◌then◌else◌, nat_le, List, [], ◌∷◌, length, codes, bytes_eq}
use Rattle.script_places.specs.declared.place.Place.{Place}
use Rattle.script_places.specs.declared.place.Place.TheVariants.{Tablets, Time, MaybeTime, Cells, Columns, Items}
use Rattle.script_places.specs.Words.{Word}
use Rattle.script_places.specs.Groups.{groups, items_fit}

-- whether the place takes all words that are left
abbrev pub takes_rest : Place → Bool
takes_rest Time = true
takes_rest MaybeTime = true
takes_rest Cells = true
takes_rest Columns = true
takes_rest Items = true
takes_rest place = false

-- whether it can take these
abbrev pub rest_fits : Place → List Word → Bool
rest_fits Time words = nat_le 1 (length words) && nat_le (length words) 2
rest_fits MaybeTime words = nat_le (length words) 2
rest_fits Items words = items_fit (groups words)
rest_fits place words = nat_le 1 (length words) && nat_le (length words) 16

abbrev pub word_fits : Place → Word → Bool
word_fits Tablets w = bytes_eq w (codes "tablets")
word_fits place w = true

-- whether the words are as many as the places ask for, and the fixed ones among them
unfoldable pub fits : List Place → List Word → Bool
fits [] [] = true
fits [] (w ∷ ws) = false
fits (place ∷ places) [] = takes_rest place && rest_fits place []
fits (place ∷ places) (w ∷ ws) =
    if takes_rest place then rest_fits place (w ∷ ws) else word_fits place w && fits places ws
