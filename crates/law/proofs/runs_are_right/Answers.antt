-- By the induction over the commands, and the main law.
use Rattle.law.proofs.Answered.{legal_right}
use Rattle.law.proofs.Running.{legal_tail, right_tail}
use Rattle.law.proofs.Runs.{script_legal}
use Rattle.law.proofs.runs_are_right.Goals as goal

pub returns : goal.returns
returns c = record {
  legal = λ slots commands asked_. (script_legal slots commands asked_).legal;
  right = λ slots commands asked_. let run = script_legal slots commands asked_ in legal_right _ slots run.legal;
  legal_before = λ slots later earlier legal. legal_tail later earlier slots legal;
  right_before = λ slots later earlier right. right_tail later earlier slots right;
}
