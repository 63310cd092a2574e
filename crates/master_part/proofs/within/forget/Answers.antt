use Rattle.std.proofs.Common.{not, rules}
use Rattle.std.proofs.lemmas.Fn.{filter_same}
use Rattle.row_values.specs.Ids.{same}
use Rattle.model.specs.Activity.{Interval}
use Rattle.master_part.proofs.within.forget.Goals as goal

pub returns : goal.returns
returns c = record {
  items = filter_same _ (λ (i : Interval). not (same i.tablet c.args.tablet.now)) _ (λ x b f' k. search rules) _ _ c.retain.ensures.filtered;
}
