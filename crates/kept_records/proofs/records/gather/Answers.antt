use Rattle.std.proofs.Common.{map, length, refl, ◌∙◌, arith}
use Rattle.kept_records.specs.Gathered.{kept_key, step_present}
use Rattle.newest_index.proofs.Gathering.{starts, goes_on, stays_within, gathers_none, gathers_one, gathers_all}
use Rattle.kept_records.proofs.Gathering.{gathered_present}
use Rattle.kept_records.proofs.records.gather.Goals as goal

pub records-init : goal.records-init
records-init g c =
    let qs = c.args.records.now in (
      omega arith,
      λ key_of right. (
        starts (kept_key key_of) g.K.PartialEq.eq c.args.key.now qs (length qs) c.newest-next.result refl
            (c.newest-next.ensures (map (kept_key key_of) qs) right),
        gathers_none (λ k. g.K.PartialEq.eq c.args.key.now (key_of k.item)) (step_present (g.W.Gathers.step c.args.walk.now)) c.args.start qs
            (length qs) refl,
      ),
    )

pub records-preserved : goal.records-preserved
records-preserved g c =
    let qs = c.args.records.now in
    let whole = c.records.invariant.0 in
    let inside = c.if-at-upto.false in (
      omega (arith, whole, inside),
      λ key_of right.
          let inv = c.records.invariant.1 key_of right in (
            goes_on (kept_key key_of) g.K.PartialEq.eq g.met.K.Eq.laws c.args.key.now qs c.records.upto c.in-Some.at c.records.next
                c.earlier-next.result inv.0 c.in-Some.is (λ j is. c.earlier-next.ensures (map (kept_key key_of) qs) j right is),
            gathers_one (kept_key key_of) g.K.PartialEq.eq c.args.key.now (step_present (g.W.Gathers.step c.args.walk.now)) c.args.start qs
                c.records.upto c.in-Some.at c.records.next c.index-records-at.result c.records.found c.step_of-found.result inv.0 c.in-Some.is
                c.index-records-at.is c.step_of-found.ensures inv.1,
          ),
    )

pub returns-then-at-upto : goal.returns-then-at-upto
returns-then-at-upto g c = record {
  all = λ key_of right.
      absurd (stays_within (kept_key key_of) g.K.PartialEq.eq c.args.key.now c.args.records.now c.records.upto c.in-Some.at c.records.next
      (c.records.invariant.1 key_of right).0 c.in-Some.is c.if-at-upto.true);
}

pub returns : goal.returns
returns g c = record {
  all = λ key_of right.
      let qs = c.args.records.now in
      let inv = c.records.invariant.1 key_of right in
      gathers_all (kept_key key_of) g.K.PartialEq.eq c.args.key.now (step_present (g.W.Gathers.step c.args.walk.now)) c.args.start qs
      c.records.upto c.records.next c.records.found inv.0 c.in_default.is inv.1
      ∙ gathered_present (λ r. g.K.PartialEq.eq c.args.key.now (key_of r)) (g.W.Gathers.step c.args.walk.now) c.args.start qs;
}
