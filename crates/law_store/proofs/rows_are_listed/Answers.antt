-- By the lemmas on the rows at a time.
use Rattle.law_store.proofs.Listing.{of_key_rows_at, rising_rows_at}
use Rattle.law_store.proofs.rows_are_listed.Goals as goal

pub returns : goal.returns
returns c = record { each = of_key_rows_at; rising = rising_rows_at }
