use Rattle.std.proofs.Common.{◌≡◌, drop}
use Rattle.model_runs.specs.Texts.{name_in}
use Rattle.admin_words.proofs.columns.ByNameColumnNames.tell.Given as goal

abbrev pub invariant-loop-column : goal.invariant-loop-column
invariant-loop-column l =
    record { same : name_in (drop l.column-index l.column-items) l.id ≡ name_in l.column-items l.id; kept : l.text ≡ l.initial.text }
