-- By the lemmas on versions made of rows.
use Rattle.law_store.proofs.Listing.{restored_reads, restored_before, sorted_restored, stamped_of_rows}
use Rattle.law_store.proofs.Restoring.{restored_rows_at, kept_restored, are_rows_restored}
use Rattle.law_store.proofs.restored_rows_are_read.Goals as goal

pub returns : goal.returns
returns c = record {
  after = restored_reads;
  before = restored_before;
  rows = restored_rows_at;
  kept = kept_restored;
  sorted = sorted_restored;
  are_rows = are_rows_restored;
  stamped = stamped_of_rows;
}
