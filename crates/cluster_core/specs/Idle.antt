-- Whether no command is in an inbox.
use Rattle.std.specs.Prelude.{Bool, true, false, List, [], ◌∷◌}
use Rattle.model.specs.Tablets.{Command}

abbrev pub is_idle : List Command → Bool
is_idle [] = true
is_idle (c ∷ cs) = false
