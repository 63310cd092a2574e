use Rattle.std.proofs.Common.{◌≡◌, [], drop}
use Rattle.script_places.specs.Columns.{columns_from}
use Rattle.script_places.proofs.column.columns.Given as goal

abbrev pub invariant-loop-word : goal.invariant-loop-word
invariant-loop-word l = columns_from l.columns (drop l.word-index l.words) ≡ columns_from [] l.words
