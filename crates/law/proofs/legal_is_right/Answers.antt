-- By the induction over the history.
use Rattle.law.proofs.Law.{legal_holds}
use Rattle.law.proofs.Standing.{all_stand}
use Rattle.law.proofs.PartInTurn.{versions_stand}
use Rattle.law.proofs.Owning.{owners_made}
use Rattle.law.proofs.Recording.{all_recorded}
use Rattle.law.proofs.Refusing.{refused_ticks}
use Rattle.law.proofs.Fixed.{fixed_stays, owners_stand}
use Rattle.law.proofs.Answered.{legal_right}
use Rattle.law.proofs.legal_is_right.Goals as goal

pub returns : goal.returns
returns c = record {
  right = λ slots history legal. legal_right history slots legal;
  holds = λ slots history legal. (legal_holds history slots legal).inv;
  stands = λ slots history legal. all_stand _ _ _ (legal_holds history slots legal).inv (owners_stand history slots legal);
  owned = λ slots history table ns legal e. owners_made history slots legal table ns e;
  versions = λ slots history legal. versions_stand history slots legal;
  facts = λ slots history legal. all_recorded _ _ _ (legal_holds history slots legal).inv;
  cover = λ slots history legal.
      let cover = (legal_holds history slots legal).inv.cover in
      record { cover = λ table code x below there. cover.whole table code x below there; ranges = λ i isin. cover.ranges i isin };
  fixed = λ slots history legal. fixed_stays history slots legal;
  refused = λ slots e earlier legal. refused_ticks e earlier slots legal;
}
