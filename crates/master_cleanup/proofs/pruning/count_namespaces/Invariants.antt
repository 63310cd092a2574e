use Rattle.std.proofs.Common.{◌≡◌, ◌+◌, ◌≤◌, drop, length}
use Rattle.std.specs.Prelude.{filter}
use Rattle.catalog_core.specs.Pruned.{space_goes}
use Rattle.master_part.specs.Going.{cut_of}
use Rattle.master_cleanup.proofs.pruning.count_namespaces.Given as goal

abbrev pub invariant-loop-namespace : goal.invariant-loop-namespace
invariant-loop-namespace l = record {
  count : l.count + length (filter (space_goes (cut_of l.cuts)) (drop l.namespace-index l.namespaces)) ≡ length (filter (space_goes (cut_of l.cuts)) l.namespaces);
  within : l.count ≤ l.namespace-index;
}
