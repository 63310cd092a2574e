use Rattle.std.proofs.Common.{ap, ◌∙◌, arith, not}
use Rattle.std.specs.List.{list_any}
use Rattle.row_values.specs.Ids.{same}
use Rattle.model.specs.Acts.{Removal}
use Rattle.master_cleanup.specs.Staying.{put_if}
use Rattle.master_cleanup.proofs.Staying.{one_more}
use Rattle.master_cleanup.proofs.plans.slots_staying.Goals as goal

pub listed-preserved : goal.listed-preserved
listed-preserved c = let l = c.index-listed-upto.result in record {
  slots =
      c.in_ok-put_staying.ensures.put
      ∙ ap (put_if _ l.slot) c.listed.invariant.slots
      ∙ one_more (λ tablet. not (list_any (λ (t : Removal). same t.target tablet) c.args.gone.now)) c.args.master.now.master c.args.listed.now c.listed.upto l
      c.index-listed-upto.is (omega (arith, c.listed-test.true)) c.listed.invariant.within;
  within = omega (arith, c.listed.invariant.within);
}
