use Rattle.std.proofs.Common.{◌≡◌, drop}
use Rattle.master_cleanup.specs.Cuts.{with_namespaces}
use Rattle.master_cleanup.proofs.cuts.add_namespaces.Given as goal

abbrev pub invariant-loop-namespace : goal.invariant-loop-namespace
invariant-loop-namespace l =
    with_namespaces l.master.master l.stamp (drop l.namespace-index l.namespaces) l.made ≡ with_namespaces l.master.master l.stamp l.namespaces l.fn.made
