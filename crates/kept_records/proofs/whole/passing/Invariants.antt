use Rattle.std.proofs.Common.{◌≡◌, ◌++◌, drop}
use Rattle.std.specs.List.{filter}
use Rattle.kept_records.specs.Gathered.{present_of}
use Rattle.kept_records.proofs.whole.passing.Given as goal

abbrev pub invariant-loop-kept : goal.invariant-loop-kept
invariant-loop-kept g l =
    l.found.items ++ filter (λ r. g.T.Tests.passes l.test r) (present_of (drop l.kept-index l.records))
    ≡ filter (λ r. g.T.Tests.passes l.test r) (present_of l.records)
