use Rattle.std.proofs.Common.{◌≡◌, ◌++◌, take}
use Rattle.model_runs.specs.Texts.{row_parts}
use Rattle.admin_words.proofs.text.Text.row_parts.Given as goal

abbrev pub invariant-loop-row : goal.invariant-loop-row
invariant-loop-row g l =
    l.self ≡ l.initial.self ++ row_parts l.gap (g.N.ColumnNames.name_of l.names) (take l.row-index l.rows)
