use Rattle.std.proofs.Common.{◌≡◌, ◌++◌, not, take, drop}
use Rattle.kept_records.specs.Gathered.{changed_where, taken_out}
use Rattle.kept_records.proofs.whole.keep_all.Given as goal

abbrev pub invariant-loop-kept : goal.invariant-loop-kept
invariant-loop-kept g l =
    take l.kept-index l.kept-items ++ changed_where (λ k. not (g.T.Tests.passes l.test k.item)) taken_out (drop l.kept-index l.kept-items)
    ≡ changed_where (λ k. not (g.T.Tests.passes l.test k.item)) taken_out l.fn.records.items
