-- Each entry draws few, the master's log has room for so many, and each change of a table takes the next numbers.
use Rattle.law.proofs.Bounded.{tables_within}
use Rattle.law.proofs.Drawing.{drawn_within, drawn_below}
use Rattle.law.proofs.InTurn.{drawn_in_turn}
use Rattle.law.proofs.Numbering.{schemas_drawn}
use Rattle.law.proofs.Taking.{all_as_taken}
use Rattle.law.proofs.numbers_are_drawn.Goals as goal

pub returns : goal.returns
returns c = record {
  drawn = λ slots history legal. drawn_in_turn history slots legal;
  within = λ slots history legal most. drawn_within history slots legal most;
  below = λ slots history legal most. drawn_below history slots legal most;
  versions = λ slots history t legal isin. tables_within history slots legal t isin;
  taken = λ slots history. all_as_taken history slots;
  schemas = λ slots history legal. schemas_drawn history slots legal;
}
