-- States as the book has them, and back.
use Rattle.model.specs.Records as book
use Rattle.cluster_events.specs.declared.state.State.{State}
use Rattle.cluster_events.specs.declared.state.State.TheVariants as state

abbrev pub state_of : State → book.State
state_of state.Creating = book.IsCreating
state_of state.Complete = book.IsComplete
state_of state.Fencing = book.IsFencing
state_of state.Snapshot = book.IsSnapshot
state_of state.Switching = book.IsSwitching
state_of state.Restoring = book.IsRestoring
state_of state.Releasing = book.IsReleasing
state_of state.Restored = book.IsRestored
state_of state.Accepted = book.IsAccepted
state_of state.Copying = book.IsCopying

abbrev pub state_from : book.State → State
state_from book.IsCreating = state.Creating
state_from book.IsComplete = state.Complete
state_from book.IsFencing = state.Fencing
state_from book.IsSnapshot = state.Snapshot
state_from book.IsSwitching = state.Switching
state_from book.IsRestoring = state.Restoring
state_from book.IsReleasing = state.Releasing
state_from book.IsRestored = state.Restored
state_from book.IsAccepted = state.Accepted
state_from book.IsCopying = state.Copying
