-- What tablets' parts are told, with what was made ready for it, and what the book calls it.
use Rattle.std.specs.Prelude.{ℕ, ◌≡◌, ◌≤◌, ◌+◌, Bool, true, List, [], ◌∷◌, Option, Some, None, slice_get, length, map}
use Rattle.row_values.specs.declared.value.Item.{Item}
use Rattle.row_values.specs.Ids.{Id}
use Rattle.row_values.specs.Batches.{FitsStore}
use Rattle.row_values.specs.declared.rows.KeyedRow.{KeyedRow}
use Rattle.row_values.specs.Store.{Below, kept, rows_at}
use Rattle.model.specs.Tablets as book
use Rattle.model.specs.Tablets.{Tablet, TabletAct, Told, Command, Body}
use Rattle.model.specs.Acts.{Reply}
use Rattle.model.specs.Parts.{Outcome, Ticks as MasterTicks}
use Rattle.tablet_part.specs.Views.{StoreView}
use Rattle.tablet_part.specs.Obeying.{store_for, IsDue, CanCount}

pub data Telling : Type 0 where
  Ticks : Telling
  Makes : (tablet table : Id) (low high version : ℕ) (store : StoreView) → Telling
  MakesChild : (tablet table : Id) (low high version : ℕ) (store : StoreView) → Telling
  Sets : (version : ℕ) → Telling
  Hides : (ended : ℕ) → Telling
  Writes : (batch : List Item) → Telling
  Raises : (to : ℕ) → Telling
  Compacts : (store : StoreView) → Telling
  Offers : (command : Command) → Telling
  Processes : (command : Command) (store : Option StoreView) → Telling
  Clears : (store : StoreView) → Telling
  DropsFrozen : (snapshot : Id) → Telling
  Restarts : Telling

-- the rows of which a store was made, from its cutoff on
abbrev pub rows_of_store : Option StoreView → List KeyedRow
rows_of_store None = []
rows_of_store (Some store) = rows_at store.versions store.cutoff

-- the rows that a body takes from its source, by the store that was made for it
abbrev pub rows_taken : Body → Option StoreView → List KeyedRow
rows_taken book.Fence store = []
rows_taken (book.Freeze snapshot at) store = []
rows_taken (book.RestoreFrom snapshot to point version) store = []
rows_taken (book.Hide ended) store = []
rows_taken (book.Copy source snapshot to stamp table low high version) store = rows_of_store store
rows_taken (book.Release cutoff) store = []

abbrev pub act_told : Telling → TabletAct
act_told Ticks = book.Clock
act_told (Makes tablet table low high version store) = book.Make tablet table low high version
act_told (MakesChild tablet table low high version store) =
    book.Child tablet table low high version store.versions store.cutoff
act_told (Sets version) = book.SetVersion version
act_told (Hides ended) = book.HideSince ended
act_told (Writes batch) = book.Write batch
act_told (Raises to) = book.RaiseCutoff to
act_told (Compacts store) = book.Compact
act_told (Offers command) = book.Offer command
act_told (Processes command store) = book.Process (rows_taken command.body store)
act_told (Clears store) = book.Clear
act_told (DropsFrozen snapshot) = book.DropFrozen snapshot
act_told Restarts = book.Restart

-- the command is the first of the tablet's inbox, its time has come, and the store is the one for it
pub record SuitsCommand (command : Command) (store : Option StoreView) (n : ℕ) (t : Tablet) : Type 0 where
  pub first : slice_get t.inbox 0 ≡ Some command
  pub due : IsDue command.body n
  pub count : CanCount command.body t
  pub made : store ≡ store_for command.body (rows_taken command.body store) t

-- what is told suits a tablet at a stamp: a store that was made ready is the right one
abbrev pub Suits : Telling → ℕ → Tablet → Type 0
Suits Ticks n t = Unit {0}
Suits (Makes tablet table low high version store) n t = (store.versions ≡ []) × (store.cutoff ≡ n)
Suits (MakesChild tablet table low high version store) n t =
    Below (n + 1) store.versions × (store.cutoff ≤ n)
Suits (Sets version) n t = Unit {0}
Suits (Hides ended) n t = Unit {0}
Suits (Writes batch) n t = FitsStore batch
Suits (Raises to) n t = to ≤ n
Suits (Compacts store) n t = (store.versions ≡ kept t.versions t.cutoff) × (store.cutoff ≡ t.cutoff)
Suits (Offers command) n t = Unit {0}
Suits (Processes command store) n t = SuitsCommand command store n t
Suits (Clears store) n t = (store.versions ≡ []) × (store.cutoff ≡ 0)
Suits (DropsFrozen snapshot) n t = Unit {0}
Suits Restarts n t = Unit {0}

-- a part with room for so many versions, and for one more command and frozen set or not, has the room for what it is told
abbrev pub HasRoom : Telling → ℕ → Bool → Type 0
HasRoom Ticks versions ready = Unit {0}
HasRoom (Makes tablet table low high version store) versions ready = Unit {0}
HasRoom (MakesChild tablet table low high version store) versions ready = Unit {0}
HasRoom (Sets version) versions ready = Unit {0}
HasRoom (Hides ended) versions ready = Unit {0}
HasRoom (Writes batch) versions ready = length batch ≤ versions
HasRoom (Raises to) versions ready = Unit {0}
HasRoom (Compacts store) versions ready = Unit {0}
HasRoom (Offers command) versions ready = ready ≡ true
HasRoom (Processes command store) versions ready = ready ≡ true
HasRoom (Clears store) versions ready = Unit {0}
HasRoom (DropsFrozen snapshot) versions ready = Unit {0}
HasRoom Restarts versions ready = Unit {0}

pub record SlotTelling : Type 0 where
  pub slot : ℕ
  pub telling : Telling

abbrev pub told_of : SlotTelling → Told
told_of t = record { slot = t.slot; act = act_told t.telling }

-- all of them are told to this slot, and suit its tablet
abbrev pub SuitAt : ℕ → ℕ → Tablet → List SlotTelling → Type 0
SuitAt slot n tablet [] = Unit {0}
SuitAt slot n tablet (t ∷ ts) = ((t.slot ≡ slot) × Suits t.telling n tablet) × SuitAt slot n tablet ts

pub record PlanView : Type 0 where
  pub tablets : List SlotTelling
  pub reply : Reply

-- the master is told nothing
abbrev pub outcome_of : PlanView → Outcome
outcome_of p = record { master = MasterTicks; tablets = map told_of p.tablets; reply = p.reply }

-- the time of the first command of an inbox has come by the stamp
abbrev pub FirstIsDue : List Command → ℕ → Type 0
FirstIsDue [] n = Unit {0}
FirstIsDue (command ∷ commands) n = IsDue command.body n
