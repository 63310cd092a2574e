-- The parts of a machine in one thread, as contracts see them.
use Rattle.std.specs.Prelude.{◌≡◌, ◌⊎◌, ◌++◌, [], ◌∷◌, List, Some}
use Rattle.step_table.specs.declared.known.Entry.{Entry}
use Rattle.step_table.specs.Machines.{Core, touched, next, IsStep}
use Rattle.step_table.specs.Histories.{history_of, IsNumbered}

pub record LineView (P : Type 0) : Type 0 where
  -- what the parts mean
  pub parts : List P

module _ {P E D R F : Type 0} (c : Core P E D R F) where
  -- the parts after an event with this reply: one entry more
  pub record Stepped (e : E) (r : R) (before after : List P) : Type 0 where
    pub entry : Entry E R
    pub event : entry.event ≡ e
    pub reply : entry.reply ≡ r
    pub step : IsStep c before entry
    pub parts : after ≡ next c before entry.event entry.number
    pub history : history_of c after ≡ history_of c before ++ entry ∷ []

  -- why no event was performed
  abbrev pub Declined : E → F → List P → Type 0
  Declined e f parts = (f ≡ c.no_memory) ⊎ (c.refusal (touched c parts e) e ≡ Some f)

  -- the parts are legal, and their entries are numbered from 1
  pub record Holds (parts : List P) : Type 0 where
    pub legal : c.Legal parts
    pub numbered : IsNumbered 1 (history_of c parts)
