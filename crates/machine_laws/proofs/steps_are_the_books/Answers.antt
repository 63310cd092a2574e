-- By the lemmas on one step.
use Rattle.machine_laws.proofs.Started.{begun}
use Rattle.machine_laws.proofs.Replays.{entry_book, past_step, refusal_is, leaves_past}
use Rattle.machine_laws.proofs.steps_are_the_books.Goals as goal

pub returns : goal.returns
returns g c = let code = g.C.ClusterCode.coding in record {
  begun = λ slots parts start. begun slots parts start;
  entry = λ slots history parts e past step. entry_book code slots history parts e past step;
  step = λ slots history parts e past step. past_step code slots history parts e past step;
  refusal = λ slots history parts e past may. refusal_is code slots history parts e past may;
  leaves = λ slots history given es past right. leaves_past code slots history given es past right;
}
