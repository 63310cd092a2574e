use Rattle.std.proofs.Common.{◌≡◌, drop}
use Rattle.std.specs.Prelude.{◌==◌}
use Rattle.std.specs.List.{find}
use Rattle.cluster_core.proofs.history.entry_in.Given as goal

abbrev pub invariant-loop-entry : goal.invariant-loop-entry
invariant-loop-entry l = find (λ e. e.number == l.number) (drop l.entry-index l.log) ≡ find (λ e. e.number == l.number) l.log
