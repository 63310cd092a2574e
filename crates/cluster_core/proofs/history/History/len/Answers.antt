use Rattle.std.proofs.Common.{◌∙◌, length, sym, ap}
use Rattle.step_table.specs.Histories.{history_of}
use Rattle.machine_laws.specs.Core.{core_of}
use Rattle.cluster_core.specs.Coding.{coding}
use Rattle.cluster_core.specs.Logs.{logged_in}
use Rattle.cluster_core.proofs.Booked.{book_length}
use Rattle.cluster_core.proofs.history.History.len.Goals as goal

pub returns-in-Some : goal.returns-in-Some
returns-in-Some g c = record {
  count =
      c.len.ensures.count
      ∙ sym (book_length (history_of (core_of coding) c.in-Some.line.parts))
      ∙ ap (λ line. length (logged_in line)) (sym c.in-Some.is)
      ∙ ap length c.self.view_is;
}
