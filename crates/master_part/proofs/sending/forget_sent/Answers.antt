use Rattle.std.proofs.Common.{not, ◌&&◌, ◌==◌, rules}
use Rattle.std.proofs.lemmas.Fn.{filter_same}
use Rattle.row_values.specs.Ids.{same}
use Rattle.model.specs.Records.{Sent}
use Rattle.master_part.proofs.sending.forget_sent.Goals as goal

pub returns : goal.returns
returns c = record { items = filter_same _ (λ (s : Sent). not (same s.operation c.args.operation.now && (s.slot == c.args.slot))) _ (λ x b f' k. search rules) _ _ c.retain.ensures.filtered }
