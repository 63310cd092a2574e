-- The commands of a script's lines, each with the number of its line.
use Rattle.std.specs.Prelude.{List, [], ◌∷◌}
use Rattle.model.specs.Scripts.{Numbered}
use Rattle.script_lang.specs.declared.script.ScriptLine.{ScriptLine}
use Rattle.script_lang.specs.declared.script.ScriptLine.TheVariants.{Single}

abbrev pub numbered_of : List ScriptLine → List Numbered
numbered_of [] = []
numbered_of (Single c ∷ lines) = c ∷ numbered_of lines
