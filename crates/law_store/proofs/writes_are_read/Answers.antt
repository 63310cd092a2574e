-- By the lemmas on writes.
use Rattle.law_store.proofs.Writing.{read_put, sorted_written, below_written, read_written_before, read_written}
use Rattle.law_store.proofs.writes_are_read.Goals as goal

pub returns : goal.returns
returns c = record {
  one = read_put;
  before = λ versions stamp items. read_written_before items versions stamp;
  after = λ versions stamp items. read_written items versions stamp;
  sorted = λ versions stamp items. sorted_written items versions stamp;
  below = λ versions stamp n items. below_written items versions stamp n;
}
