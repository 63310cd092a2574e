use Rattle.std.proofs.Common.{not, rules}
use Rattle.std.proofs.lemmas.Fn.{filter_same}
use Rattle.row_values.specs.Ids.{same}
use Rattle.model.specs.Records.{SnapshotRecord}
use Rattle.snapshot_coord.proofs.list.forget.Goals as goal

pub returns : goal.returns
returns c = record { items = filter_same _ (λ (r : SnapshotRecord). not (same r.id c.args.id.now)) _ (λ x b f' k. search rules) _ _ c.retain.ensures.filtered }
