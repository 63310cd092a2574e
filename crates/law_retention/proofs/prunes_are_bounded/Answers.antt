-- By how far each mark is raised.
use Rattle.law_retention.proofs.Marking.{prune_marks}
use Rattle.law_retention.proofs.prunes_are_bounded.Goals as goal

pub returns : goal.returns
returns c = record { mark = λ m n changes ns good. prune_marks m n changes ns good }
