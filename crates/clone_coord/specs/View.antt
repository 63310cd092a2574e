-- What contracts see of the records of clones.
use Rattle.std.specs.Prelude.{ℕ, List, map, if◌then◌else◌}
use Rattle.row_values.specs.Ids.{Id, same}
use Rattle.model.specs.Records.{Listed, CloneState, CloneRecord, acked_at}

-- the book's records, and for how many more there is room
pub record ClonesView : Type 0 where
  pub clones : List CloneRecord
  pub room : ℕ

-- a record, where the tablet of a slot of a clone did its part
abbrev pub acked_if : Id → ℕ → CloneRecord → CloneRecord
acked_if id slot r = record r { listed = if same r.id id then acked_at slot r.listed else r.listed }

-- a record that enters a state, with the tablets that it lists there
abbrev pub entered : CloneState → List Listed → CloneRecord → CloneRecord
entered state listed r = record r { listed = listed; state = state }

-- where a clone enters a state
abbrev pub entered_in : Id → CloneState → List Listed → List CloneRecord → List CloneRecord
entered_in id state listed rs = map {A = CloneRecord} (λ r. record r {
  listed = if same r.id id then listed else r.listed;
  state = if same r.id id then state else r.state;
}) rs
