-- How far a restoration is, as the book has it, and back.
use Rattle.model.specs.Records as book
use Rattle.restore_coord.specs.declared.state.RestorationState.{RestorationState}
use Rattle.restore_coord.specs.declared.state.RestorationState.TheVariants as state

abbrev pub state_of : RestorationState → book.RestorationState
state_of state.Fencing = book.Fencing
state_of (state.Snapshotting point own) = book.Snapshotting point own
state_of (state.Switching point serving) = book.Switching point serving
state_of (state.Restoring point serving) = book.Restoring point serving
state_of (state.Releasing point serving) = book.Releasing point serving
state_of (state.Restored point serving) = book.Restored point serving

abbrev pub state_from : book.RestorationState → RestorationState
state_from book.Fencing = state.Fencing
state_from (book.Snapshotting point own) = state.Snapshotting point own
state_from (book.Switching point serving) = state.Switching point serving
state_from (book.Restoring point serving) = state.Restoring point serving
state_from (book.Releasing point serving) = state.Releasing point serving
state_from (book.Restored point serving) = state.Restored point serving
