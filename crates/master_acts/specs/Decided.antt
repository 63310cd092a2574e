-- Which looks the code answers.
use Rattle.model.specs.Acts.{Ask, AskPlan, AskKeys, AskTable, AskWork, AskRemovable, AskPresent}

abbrev pub IsLooked : Ask → Type 0
IsLooked (AskPlan command) = Unit {0}
IsLooked (AskKeys namespace table batch at) = Unit {0}
IsLooked (AskTable namespace table at) = Unit {0}
IsLooked AskWork = ⊥
IsLooked AskRemovable = ⊥
IsLooked AskPresent = Unit {0}
