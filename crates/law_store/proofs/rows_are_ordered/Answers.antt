-- By the lemmas on rows in order.
use Rattle.law_store.proofs.Merging.{ordered, of_key_ordered}
use Rattle.law_store.proofs.rows_are_ordered.Goals as goal

pub returns : goal.returns
returns c = record { ordered = ordered; stable = of_key_ordered }
