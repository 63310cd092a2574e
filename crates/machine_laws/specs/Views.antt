-- Parts with their logs as contracts see them, and what a part is told.
use Rattle.std.specs.Prelude.{ℕ, List}
use Rattle.step_table.specs.declared.known.Entry.{Entry}
use Rattle.model.specs.Tablets.{Tablet, TabletAct, effect}
use Rattle.model.specs.Acts.{Event, Reply}
use Rattle.model.specs.Parts.{Master, MasterAct}
use Rattle.model.specs.History.{master_effect}

-- a reply with the stamp of its event: the answer of a log's entry
pub record AnswerView : Type 0 where
  pub stamp : ℕ
  pub reply : Reply

-- what a part keeps: the master's part, or a tablet's
pub data KeptView : Type 0 where
  OfMaster : (master : Master) → KeptView
  OfTablet : (tablet : Tablet) → KeptView

-- a part with its log, the first entry first. Its room is what code keeps of memory, and means nothing
pub record PartView (R : Type 0) : Type 0 where
  pub kept : KeptView
  pub log : List (Entry Event AnswerView)
  pub room : R

-- what a part is told
pub data PartAct : Type 0 where
  ForMaster : (act : MasterAct) → PartAct
  ForTablet : (act : TabletAct) → PartAct

abbrev pub clock_of : KeptView → ℕ
clock_of (OfMaster m) = m.clock
clock_of (OfTablet t) = t.clock

-- what a part keeps after what it is told at a stamp: the book's effect
abbrev pub kept_after : PartAct → ℕ → KeptView → KeptView
kept_after (ForMaster act) n (OfMaster m) = OfMaster (master_effect act n m)
kept_after (ForMaster act) n (OfTablet t) = OfTablet t
kept_after (ForTablet act) n (OfMaster m) = OfMaster m
kept_after (ForTablet act) n (OfTablet t) = OfTablet (effect act n t)
