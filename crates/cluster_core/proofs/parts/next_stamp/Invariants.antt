use Rattle.std.proofs.Common.{◌≡◌, ◌≤◌, ◌^◌, map, drop}
use Rattle.row_values.specs.Stamps as rule
use Rattle.step_table.specs.Helds.{parts_of}
use Rattle.cluster_core.specs.Tellings.{clock_in}
use Rattle.cluster_core.proofs.parts.next_stamp.Given as goal

abbrev pub invariant-loop-i : goal.invariant-loop-i
invariant-loop-i g l = record {
  so_far : rule.greatest l.greatest (drop l.i (map clock_in (parts_of l.held))) ≡ rule.greatest 0 (map clock_in (parts_of l.held));
  bound : l.greatest ≤ 2 ^ 62;
}
