use Rattle.std.proofs.Common.{◌∙◌, sym, ap}
use Rattle.std.specs.Prelude.{◌==◌}
use Rattle.std.specs.List.{find}
use Rattle.std.specs.Option.{option_map}
use Rattle.step_table.specs.Histories.{history_of}
use Rattle.model.specs.Entries.{Entry}
use Rattle.machine_laws.specs.Past.{book_entry}
use Rattle.machine_laws.specs.Core.{core_of}
use Rattle.cluster_core.specs.Coding.{coding}
use Rattle.cluster_core.specs.Logs.{logged_in}
use Rattle.cluster_core.proofs.Booked.{book_found}
use Rattle.cluster_core.proofs.history.History.get.Goals as goal

pub returns-in-Some : goal.returns-in-Some
returns-in-Some g c = record {
  entry =
      ap (option_map book_entry) c.entry_of.ensures.exact
      ∙ sym (book_found c.args.number (history_of (core_of coding) c.in-Some.line.parts) c.entry_of.ensures.numbered)
      ∙ ap (λ line. find (λ e. e.number == c.args.number) (logged_in line)) (sym c.in-Some.is)
      ∙ ap (find (λ (e : Entry). e.number == c.args.number)) c.self.view_is;
}
