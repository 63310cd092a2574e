-- Events that are performed one after the other, and where they stop.
use Rattle.std.specs.Prelude.{ℕ, ◌≡◌, List, [], ◌∷◌, Some, take, slice_get}
use Rattle.step_table.specs.Lists.{Every}
use Rattle.model.specs.Acts.{Event, Reply}
use Rattle.model.specs.Entries.{Entry, Asked}
use Rattle.model.specs.History.{entry_of}
use Rattle.machine_laws.specs.Faults.{fault_after}
use Rattle.cluster_core.specs.declared.run.StoppedAt.{StoppedAt}
use Rattle.cluster_core.specs.Causes.{RefusedBy}

-- the history after events
abbrev pub run_of : ℕ → List Event → List Entry → List Entry
run_of slots [] history = history
run_of slots (e ∷ es) history = run_of slots es (entry_of slots e history ∷ history)

-- the replies of their entries
abbrev pub replies_of : ℕ → List Event → List Entry → List Reply
replies_of slots [] history = []
replies_of slots (e ∷ es) history =
    (entry_of slots e history).reply ∷ replies_of slots es (entry_of slots e history ∷ history)

-- each event may be asked
abbrev pub AreAsked : ℕ → List Event → Type 0
AreAsked slots events = Every (Asked slots) events

-- the event behind those that were performed was refused
abbrev pub IsStopped : ℕ → List Event → List Entry → StoppedAt → Type 0
IsStopped slots events history s =
    (e : Event) → slice_get events s.done ≡ Some e
    → RefusedBy (fault_after slots e (run_of slots (take s.done events) history)) s.why
