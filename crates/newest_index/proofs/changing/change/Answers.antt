use Rattle.std.proofs.Common.{◌≡◌, map, length, refl, arith}
use Rattle.std.proofs.lemmas.Grind.{common_steps}
use Rattle.newest_index.proofs.Gathering.{starts, goes_on, stays_within, changes_none, changes_one, changes_all}
use Rattle.newest_index.proofs.changing.change.Goals as goal

pub records-init : goal.records-init
records-init g c =
    let qs = c.args.records.now.items in
    let count = c.len-upto.ensures in
    let whole : c.len-upto.result ≡ length qs = grind (arith, common_steps, count) in (
      omega (arith, count),
      (λ key_of right. (
        starts key_of g.K.PartialEq.eq c.args.key.now qs c.len-upto.result c.newest-next.result whole
            (c.newest-next.ensures (map key_of qs) right),
        changes_none key_of (g.K.PartialEq.eq c.args.key.now) (g.W.Changes.changed c.args.walk.now) qs c.len-upto.result whole,
      )),
      refl,
    )

pub records-preserved : goal.records-preserved
records-preserved g c =
    let qs = c.args.records.now.items in
    let whole = c.records.invariant.0 in
    let inside = c.if-at-upto.false in (
      omega (arith, whole, inside),
      (λ key_of right.
          let inv = c.records.invariant.1 key_of right in (
            goes_on key_of g.K.PartialEq.eq g.met.K.Eq.laws c.args.key.now qs c.records.upto c.in-Some.at c.records.next
                c.earlier-next.result inv.0 c.in-Some.is (λ j is. c.earlier-next.ensures (map key_of qs) j right is),
            changes_one key_of g.K.PartialEq.eq c.args.key.now (g.W.Changes.changed c.args.walk.now) qs c.records.records.items c.records.upto c.in-Some.at
                c.records.next c.index_mut.result.now c.change.new.item inv.0 c.in-Some.is c.index_mut.ensures.value c.change.ensures.made inv.1,
          )),
      c.records.invariant.2,
    )

pub returns-then-at-upto-clause-all : goal.returns-then-at-upto-clause-all
returns-then-at-upto-clause-all g c = λ key_of right.
    absurd (stays_within key_of g.K.PartialEq.eq c.args.key.now c.args.records.now.items c.records.upto c.in-Some.at
    c.records.next (c.records.invariant.1 key_of right).0 c.in-Some.is c.if-at-upto.true)

pub returns-clause-all : goal.returns-clause-all
returns-clause-all g c = λ key_of right.
    let inv = c.records.invariant.1 key_of right in
    changes_all key_of (g.K.PartialEq.eq c.args.key.now) (g.W.Changes.changed c.args.walk.now) c.args.records.now.items c.records.records.items c.records.upto
    c.records.next inv.0 c.in_default.is inv.1
