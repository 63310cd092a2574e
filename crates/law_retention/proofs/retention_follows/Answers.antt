-- By which store the rows of a time are had from.
use Rattle.law_retention.proofs.Retaining.{facts_retain}
use Rattle.law_retention.proofs.retention_follows.Goals as goal

pub returns : goal.returns
returns c = record { retained = λ ps activity changes taken since inv facts h. facts_retain ps activity changes taken since inv facts h }
