-- By the snapshot that serves the command's time.
use Rattle.law_retention.proofs.Lasting.{rows_found}
use Rattle.law_retention.proofs.rows_are_never_gone.Goals as goal

pub returns : goal.returns
returns c = record { found = λ ps activity changes inv facts. rows_found ps activity changes inv facts }
