-- By what an accepted restore begins, and what no act of a settle changes.
use Rattle.law_drive.proofs.Window.{served}
use Rattle.law_drive.proofs.a_restore_comes_back.Goals as goal

pub returns : goal.returns
returns c = record { service = λ slots e history schedule to legal is may. served slots e history schedule to legal is may }
