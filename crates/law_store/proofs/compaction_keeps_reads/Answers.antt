-- By the lemmas on compaction.
use Rattle.law_store.proofs.Compaction.{compaction, sorted_kept, below_kept, once_kept, kept_kept}
use Rattle.law_store.proofs.compaction_keeps_reads.Goals as goal

pub returns : goal.returns
returns c = record {
  reads = λ versions cutoff key x. compaction versions key cutoff x;
  once = once_kept;
  again = kept_kept;
  sorted = sorted_kept;
  below = below_kept;
}
