-- What contracts see of an inbox.
use Rattle.std.specs.Prelude.{Bool, List}
use Rattle.model.specs.Tablets.{Command, Mark}

-- the commands that wait, in order, the marks of those that were done, and whether there is room for one more command
pub record InboxView : Type 0 where
  pub inbox : List Command
  pub done : List Mark
  pub ready : Bool
