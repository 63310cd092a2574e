use Rattle.std.proofs.Common.{◌≡◌, ◌≤◌, ◌+◌, ◌*◌, ◌/◌, arith, subst}
use Rattle.std.proofs.lemmas.Grind.{common_steps}
use Rattle.partition_codes.specs.Ranges.{Divide}
use Rattle.partition_codes.proofs.Covers.{share, divide_next, each_next}
use Rattle.partition_codes.proofs.codes.shares.Goals as goal

pub loop-i-preserved : goal.loop-i-preserved
loop-i-preserved c =
    let i = c.loop-i.i in
    let n = c.args.n in
    let rises : i * 65536 / n ≤ (i + 1) * 65536 / n = grind arith in
    rw (c.in_ok-push.ensures.pushed, c.share.ensures.exact) (record {
      count = grind (arith, common_steps, c.loop-i.invariant.count);
      each = each_next (share n) c.loop-i.shares i c.loop-i.invariant.count c.loop-i.invariant.each;
      cover = divide_next 0 (i * 65536 / n) ((i + 1) * 65536 / n) c.loop-i.shares (omega arith) rises c.loop-i.invariant.cover;
    })

pub returns-clause-cover : goal.returns-clause-cover
returns-clause-cover c =
    let end : c.loop-i.i ≡ c.args.n = omega (arith, c.loop-i-test.false, c.loop-i.auto.i-end) in
    let whole : c.loop-i.i * 65536 / c.args.n ≡ 65536 = rw end (grind arith) in
    subst (λ high. Divide (record { low = 0; high = high }) c.loop-i.shares) whole c.loop-i.invariant.cover
