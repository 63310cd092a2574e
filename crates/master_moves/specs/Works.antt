-- What is to be done for one record.
use Rattle.std.specs.Prelude.{Bool, List, Option, None, if◌then◌else◌}
use Rattle.model.specs.Records.{Sent, first_unacked}
use Rattle.model.specs.Acts.{WorkItem}
use Rattle.model.specs.Moves.{Progress}
use Rattle.model.specs.Work.{work_for}

abbrev pub work_for_progress : Progress → List Sent → Option WorkItem
work_for_progress p sent = work_for (first_unacked p.listed) p.awaited p.id sent

-- for an unfinished one
abbrev pub work_if : Bool → Progress → List Sent → Option WorkItem
work_if unfinished p sent = if unfinished then work_for_progress p sent else None
