-- By the lemmas on chosen versions.
use Rattle.law_store.proofs.Choosing.{part_reads, part_absent, frozen_reads, sorted_part, sorted_frozen}
use Rattle.law_store.proofs.parts_keep_reads.Goals as goal

pub returns : goal.returns
returns c = record {
  inside = part_reads;
  outside = part_absent;
  frozen = frozen_reads;
  sorted_part = sorted_part;
  sorted_frozen = sorted_frozen;
}
