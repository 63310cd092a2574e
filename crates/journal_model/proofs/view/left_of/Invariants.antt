use Rattle.std.proofs.Common.{◌≡◌, ◌==◌, ◌++◌, not, drop}
use Rattle.std.specs.List.{filter}
use Rattle.row_values.specs.Schema.{Column}
use Rattle.journal_model.proofs.view.left_of.Given as goal

abbrev pub invariant-loop-other : goal.invariant-loop-other
invariant-loop-other l =
    l.left ++ filter (λ (c : Column). not (c.id == l.column)) (drop l.other-index l.other-items)
    ≡ filter (λ (c : Column). not (c.id == l.column)) l.other-items
