use Rattle.std.proofs.Common.{◌≡◌, [], drop}
use Rattle.script_places.specs.Values.{cells_from}
use Rattle.script_places.proofs.values.cells.Given as goal

abbrev pub invariant-loop-word : goal.invariant-loop-word
invariant-loop-word l = cells_from l.cells (drop l.word-index l.words) ≡ cells_from [] l.words
