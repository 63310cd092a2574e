-- Acts as the book's.
use Rattle.model.specs.Acts as book
use Rattle.commands.specs.Seen.{command_of, ask_of}
use Rattle.cluster_events.specs.declared.act.Act.{Act}
use Rattle.cluster_events.specs.declared.act.Act.TheVariants as act

abbrev pub act_of : Act → book.Act
act_of (act.Look ask) = book.Look (ask_of ask)
act_of (act.Change command slots) = book.Change (command_of command) slots
act_of (act.Write place version batch) = book.Write place version batch
act_of (act.Read places version key at columns) = book.Read places version key at columns
act_of (act.Cutoff slot) = book.Cutoff slot
act_of (act.Compact slot) = book.Compact slot
act_of (act.Send operation slot) = book.Send operation slot
act_of (act.Process slot other) = book.Process slot other
act_of (act.Ack operation slot) = book.Ack operation slot
act_of (act.Advance operation) = book.Advance operation
act_of (act.Remove target slots) = book.Remove target slots
act_of act.Prune = book.Prune
act_of (act.Restart slot) = book.Restart slot
act_of (act.Stats slot) = book.Stats slot
