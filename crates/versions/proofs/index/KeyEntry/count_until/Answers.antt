use Rattle.std.proofs.Common.{rules, ◌≡◌, Bool, true, false, List, leb, subst, sym}
use Rattle.std.specs.List.Sorted.{IsPartitionedBy, IsPartitionPoint}
use Rattle.std.proofs.lemmas.List.Sorted.{IsPartitionPoint-from_clause, IsPartitionedBy-leb}
use Rattle.versions.specs.declared.index.Past.{Past}
use Rattle.versions.proofs.Marks.{rise_unmapped}
use Rattle.versions.proofs.index.KeyEntry.count_until.Goals as goal

pub returns-clause-point : goal.returns-clause-point
returns-clause-point c =
    let x = c.args.x in
    let past = c.args.self.now.past in
    let all = c.as_slice.ensures.same in
    let p : Past → Bool = λ q. leb q.stamp x in
    let parted = IsPartitionedBy-leb (λ (q : Past). q.stamp) past x (rise_unmapped (λ (q : Past). q.stamp) past c.requires) in
    let P : List Past → Type 0 = λ ps. IsPartitionedBy p ps in
    let Q : List Past → Type 0 = λ ps. IsPartitionPoint (λ q. p q ≡ true) (λ q. p q ≡ false) ps c.partition_point.result in
    subst Q all (IsPartitionPoint-from_clause p _ _ c.partition_point.ensures.partitioned (subst P (sym all) parted) (λ a r q k. search rules))
