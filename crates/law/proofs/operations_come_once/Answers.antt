-- Each event carries on what is told of the records.
use Rattle.law.proofs.Chronicle.{enters_at, enters_once}
use Rattle.law.proofs.Clocks.{clocks_after}
use Rattle.law.proofs.Obeying.{none_again}
use Rattle.law.proofs.Once.{clones_once, journal_asked, restores_once}
use Rattle.law.proofs.operations_come_once.Goals as goal

pub returns : goal.returns
returns c = record {
  entered = λ slots history legal. enters_once history slots legal;
  stamps = λ slots history legal. enters_at history slots legal;
  clocks = λ slots history legal. clocks_after history slots legal;
  once = λ slots history legal. record {
    restores = λ asked isin. restores_once history slots legal asked isin;
    clones = λ asked isin. clones_once history slots legal asked isin;
    journal = journal_asked history slots legal;
    commands = none_again history slots legal;
  };
}
