use Rattle.std.proofs.Common.{◌≡◌, ◌++◌, take}
use Rattle.model_runs.specs.Texts.{cell_words}
use Rattle.admin_words.proofs.text.Text.cell_words.Given as goal

abbrev pub invariant-loop-cell : goal.invariant-loop-cell
invariant-loop-cell g l =
    l.self ≡ l.initial.self ++ cell_words (g.N.ColumnNames.name_of l.names) (take l.cell-index l.cells)
