-- A tablet's part, and a store of versions, as contracts see them.
use Rattle.std.specs.Prelude.{ℕ, Bool, List}
use Rattle.row_values.specs.Store.{Version}
use Rattle.model.specs.Tablets.{Tablet}

pub record TabletView : Type 0 where
  -- the book's
  pub tablet : Tablet
  -- for how many versions its store has room
  pub room : ℕ
  -- whether it has room for one more command and for one more frozen set
  pub ready : Bool

-- a store that was made ready
pub record StoreView : Type 0 where
  pub versions : List Version
  pub cutoff : ℕ
