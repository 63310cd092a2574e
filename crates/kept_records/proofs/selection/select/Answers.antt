use Rattle.std.proofs.Common.{Bool, [], map, reverse, length, refl, ap, ◌∙◌, arith}
use Rattle.kept_records.specs.Gathered.{kept_key, step_present, puts, present_of}
use Rattle.newest_index.proofs.Gathering.{starts, goes_on, stays_within, gathers_none, gathers_one, gathers_all}
use Rattle.kept_records.proofs.Gathering.{gathered_present}
use Rattle.kept_records.proofs.Looking.{gathered_passing, turned_round}
use Rattle.kept_records.proofs.selection.select.Goals as goal

pub records-init : goal.records-init
records-init g c =
    let qs = c.args.records.now in (
      omega arith,
      λ key_of right. (
        starts (kept_key key_of) g.K.PartialEq.eq c.args.key.now qs (length qs) c.newest-next.result refl
            (c.newest-next.ensures (map (kept_key key_of) qs) right),
        c.new-found.ensures.items
            ∙ gathers_none (λ k. g.K.PartialEq.eq c.args.key.now (key_of k.item)) (step_present (puts (g.T.Tests.passes c.args.test.now))) [] qs
            (length qs) refl,
      ),
    )

pub records-preserved : goal.records-preserved
records-preserved g c =
    let qs = c.args.records.now in
    let whole = c.records.invariant.0 in
    let inside = c.if-at-upto.false in (
      omega (arith, whole, inside),
      λ key_of right.
          let inv = c.records.invariant.1 key_of right in (
            goes_on (kept_key key_of) g.K.PartialEq.eq g.met.K.Eq.laws c.args.key.now qs c.records.upto c.in-Some.at c.records.next
                c.earlier-next.result inv.0 c.in-Some.is (λ j is. c.earlier-next.ensures (map (kept_key key_of) qs) j right is),
            gathers_one (kept_key key_of) g.K.PartialEq.eq c.args.key.now (step_present (puts (g.T.Tests.passes c.args.test.now))) [] qs
                c.records.upto c.in-Some.at c.records.next c.index-records-at.result c.records.found.items c.put.new.found.items inv.0 c.in-Some.is
                c.index-records-at.is c.in_ok-put.ensures.put inv.1,
          ),
    )

pub returns-then-at-upto : goal.returns-then-at-upto
returns-then-at-upto g c = record {
  all = λ key_of right.
      absurd (stays_within (kept_key key_of) g.K.PartialEq.eq c.args.key.now c.args.records.now c.records.upto c.in-Some.at c.records.next
      (c.records.invariant.1 key_of right).0 c.in-Some.is c.if-at-upto.true);
}

pub returns : goal.returns
returns g c = record {
  all = λ key_of right.
      let qs = c.args.records.now in
      let inv = c.records.invariant.1 key_of right in
      let test : g.row.R.Denot → Bool = λ r. g.K.PartialEq.eq c.args.key.now (key_of r) in
      let passes = g.T.Tests.passes c.args.test.now in
      turned_round c.records.found.items c.as_mut_slice.result.now c.reverse.new.self c.records.found.len c.as_mut_slice.ensures.value
      c.reverse.ensures.after c.as_mut_slice.ensures.len
      ∙ ap reverse (gathers_all (kept_key key_of) g.K.PartialEq.eq c.args.key.now (step_present (puts passes)) [] qs
      c.records.upto c.records.next c.records.found.items inv.0 c.in_default.is inv.1
      ∙ gathered_present test (puts passes) [] qs)
      ∙ gathered_passing test passes (present_of qs);
}
