-- The history that a line's logs hold.
use Rattle.std.specs.Prelude.{List, [], Option, Some, None}
use Rattle.step_table.specs.Histories.{history_of}
use Rattle.step_line.specs.Lines.{LineView}
use Rattle.model.specs.Entries.{Entry}
use Rattle.machine_laws.specs.Views.{PartView}
use Rattle.machine_laws.specs.Past.{book}
use Rattle.machine_laws.specs.Core.{core_of}
use Rattle.cluster_core.specs.declared.room.PartRoom.{PartRoom}
use Rattle.cluster_core.specs.Coding.{coding}

-- the newest entry first; none where there is no line
abbrev pub logged_in : Option (LineView (PartView PartRoom)) → List Entry
logged_in None = []
logged_in (Some line) = book (history_of (core_of coding) line.parts)
