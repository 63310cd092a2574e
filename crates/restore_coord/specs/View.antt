-- What contracts see of the records of restorations.
use Rattle.std.specs.Prelude.{ℕ, List, map, if◌then◌else◌}
use Rattle.row_values.specs.Ids.{Id, same}
use Rattle.model.specs.Records.{Listed, RestorationState, RestorationRecord, acked_at}

-- the book's records, and for how many more there is room
pub record RestorationsView : Type 0 where
  pub restorations : List RestorationRecord
  pub room : ℕ

-- a record, where the tablet of a slot of a restoration did its part
abbrev pub acked_if : Id → ℕ → RestorationRecord → RestorationRecord
acked_if id slot r = record r { listed = if same r.id id then acked_at slot r.listed else r.listed }

-- a record that enters a state, with the tablets that it lists there
abbrev pub entered : RestorationState → List Listed → RestorationRecord → RestorationRecord
entered state listed r = record r { listed = listed; state = state }

-- where a restoration enters a state
abbrev pub entered_in : Id → RestorationState → List Listed → List RestorationRecord → List RestorationRecord
entered_in id state listed rs = map {A = RestorationRecord} (λ r. record r {
  listed = if same r.id id then listed else r.listed;
  state = if same r.id id then state else r.state;
}) rs
