use Rattle.std.proofs.Common.{sym, ap, ◌∙◌}
use Rattle.std.specs.Option.{option_copied, option_map}
use Rattle.machine_laws.specs.Past.{book_entry}
use Rattle.script_runs.proofs.Telling.{entry_told, none_told}
use Rattle.script_runs.proofs.shown.tell_entries.Goals as goal
use Rattle.script_runs.proofs.shown.tell_entries.Goals.{in-Some+in_ok-tell_logged, in_default}

pub loop-at-preserved : goal.loop-at-preserved
loop-at-preserved c =
    let found = sym c.get.ensures.entry in
    elim c.match-get.branch [
      | in-Some+in_ok-tell_logged w ↦ w.text-is
          ∙ entry_told c.args.entries.now c.loop-at.at c.args.text.now c.loop-at.text c.loop-at.invariant (book_entry w.in-Some.entry.now) w.tell_logged.new.text
          (found ∙ ap (λ o. option_map book_entry (option_copied o)) w.in-Some.is) w.in_ok-tell_logged.ensures.added
      | in_default w ↦ w.text-is
          ∙ none_told c.args.entries.now c.loop-at.at c.args.text.now c.loop-at.text c.loop-at.invariant (found ∙ ap (λ o. option_map book_entry (option_copied o)) w.in_default.is)
    ]
