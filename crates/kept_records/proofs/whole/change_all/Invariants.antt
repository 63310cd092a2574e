use Rattle.std.proofs.Common.{◌≡◌, ◌++◌, take, drop}
use Rattle.kept_records.specs.Gathered.{changed_where, changes_record}
use Rattle.kept_records.proofs.whole.change_all.Given as goal

abbrev pub invariant-loop-kept : goal.invariant-loop-kept
invariant-loop-kept g l =
    take l.kept-index l.kept-items ++ changed_where (λ k. g.T.Tests.passes l.test k.item) (changes_record (g.W.Changes.changed l.walk)) (drop l.kept-index l.kept-items)
    ≡ changed_where (λ k. g.T.Tests.passes l.test k.item) (changes_record (g.W.Changes.changed l.walk)) l.fn.records.items
