use Rattle.std.proofs.Common.{◌≡◌, ◌++◌, take, flat_map}
use Rattle.model_runs.specs.HistoryTexts.{entry_line}
use Rattle.script_runs.proofs.shown.tell_entries.Given as goal

abbrev pub invariant-loop-at : goal.invariant-loop-at
invariant-loop-at l = l.text ≡ l.initial.text ++ flat_map entry_line (take l.at l.entries)
