-- By the invariants of what a legal history leaves.
use Rattle.law.proofs.Law.{legal_holds}
use Rattle.law_drive.proofs.Choosing.{always_next}
use Rattle.law_drive.proofs.Going.{goes_on}
use Rattle.law_drive.proofs.something_comes_next.Goals as goal

pub returns : goal.returns
returns c = record {
  always = λ slots history legal. always_next _ _ _ (legal_holds history slots legal).inv;
  goes_on = λ slots reading history act legal is. goes_on _ _ _ (legal_holds history slots legal).inv reading act is;
}
