use Rattle.std.proofs.Common.{◌≡◌, ◌≤◌, drop, length, map}
use Rattle.std.specs.Option.{option_copied}
use Rattle.step_table.specs.Lists.{Every}
use Rattle.step_line.specs.Numbered.{placed}
use Rattle.cluster_core.proofs.entries.place_entries.Given as goal

abbrev pub invariant-loop-entry : goal.invariant-loop-entry
invariant-loop-entry l = record {
  placed : placed (drop l.entry-index l.log) (map option_copied l.places.items) ≡ placed l.log (map option_copied l.fn.places.items);
  within : Every (λ e. (1 ≤ e.number) × (e.number ≤ length l.places.items)) (drop l.entry-index l.log);
}
