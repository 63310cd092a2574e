-- How far a clone is, as the book has it, and back.
use Rattle.model.specs.Records as book
use Rattle.clone_coord.specs.declared.state.CloneState.{CloneState}
use Rattle.clone_coord.specs.declared.state.CloneState.TheVariants as state

abbrev pub state_of : CloneState → book.CloneState
state_of state.Accepted = book.Accepted
state_of (state.Snapshotting own) = book.CloneSnapshot own
state_of (state.Copying serving copied_at) = book.Copying serving copied_at
state_of (state.Releasing serving copied_at) = book.CloneReleasing serving copied_at
state_of (state.Complete serving copied_at) = book.CloneComplete serving copied_at

abbrev pub state_from : book.CloneState → CloneState
state_from book.Accepted = state.Accepted
state_from (book.CloneSnapshot own) = state.Snapshotting own
state_from (book.Copying serving copied_at) = state.Copying serving copied_at
state_from (book.CloneReleasing serving copied_at) = state.Releasing serving copied_at
state_from (book.CloneComplete serving copied_at) = state.Complete serving copied_at
