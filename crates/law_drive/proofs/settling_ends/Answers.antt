-- By the invariants of what a legal history leaves.
use Rattle.model.specs.History.{replay}
use Rattle.law.proofs.Law.{legal_holds}
use Rattle.law_drive.proofs.Totals.{within_left}
use Rattle.law_drive.proofs.Coming.{left_of, next_falls, settles}
use Rattle.law_drive.proofs.settling_ends.Goals as goal

pub returns : goal.returns
returns c = record {
  bounded = λ slots history legal. within_left (replay slots history) _ (legal_holds history slots legal).inv.operations;
  falls = λ slots reading history act legal is. next_falls (replay slots history) _ _ reading act (legal_holds history slots legal).inv is;
  settles = λ slots reading history legal. settles slots reading (replay slots history) (left_of slots history legal);
}
