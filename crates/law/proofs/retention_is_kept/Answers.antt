-- By the facts of each entry.
use Rattle.law.proofs.Law.{legal_holds}
use Rattle.law.proofs.Retaining.{legal_found, legal_needed, legal_retained}
use Rattle.law_retention.proofs.Marking.{prune_marks}
use Rattle.law.proofs.retention_is_kept.Goals as goal

pub returns : goal.returns
returns c = record {
  retained = λ slots history legal. legal_retained history slots legal;
  found = λ slots history legal. legal_found history slots legal;
  needed = λ slots e earlier legal. legal_needed e earlier slots legal;
  mark = λ slots history n ns legal. prune_marks _ n _ ns (legal_holds history slots legal).inv.master;
}
