-- By the lemmas on the keys of a store.
use Rattle.row_values.specs.Store.{rows_at}
use Rattle.law_store.proofs.Members.{keys_written, keys_kept, keys_frozen, keys_part, keys_rows_at, keys_of_rows}
use Rattle.law_store.proofs.keys_stay.Goals as goal

pub returns : goal.returns
returns c = record {
  written = λ versions stamp items. keys_written items versions stamp;
  kept = keys_kept;
  frozen = keys_frozen;
  part = keys_part;
  restored = λ versions to stamp test h. keys_of_rows (rows_at versions to) stamp test (keys_rows_at versions to test h);
}
