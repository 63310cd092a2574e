-- Entries of a history, the parts and the log that an event touches, and its stamp.
use Rattle.std.specs.Prelude.{ℕ, ◌<◌, List, [], ◌∷◌, ◌==◌, ◌^◌, min, fold, map, if◌then◌else◌}
use Rattle.model.specs.Words.{rising}
use Rattle.model.specs.Cluster.{Act, Event, Reply, Parts}
use Rattle.row_values.specs.Stamps as rule
pub use Rattle.model.specs.Rules.{IsSlot, IsName, IsNamedOp, IsNamedBatch, NotNamed, NamesDiffer, IsTime, MayHoldKey, CommandAsked, AskAsked, IsRemovable, slots_of, ActAsked}

-- an event that was performed, with its place in the history, its stamp and its reply
pub record Entry : Type 0 where
  pub number : ℕ
  pub event : Event
  pub stamp : ℕ
  pub reply : Reply

-- the slots that an act touches, each once, in rising order
abbrev pub touches : Act → List ℕ
touches act = rising (slots_of act)

abbrev pub least : List ℕ → ℕ
least [] = 0
least (s ∷ ss) = fold min s ss

-- the slot whose log keeps the entry of an act: the least that it touches
abbrev pub log_of : Act → ℕ
log_of act = least (slots_of act)

-- the clock of a slot's part
abbrev pub clock_at : Parts → ℕ → ℕ
clock_at ps slot = if slot == 0 then ps.master.clock else (ps.tablet slot).clock

-- the stamp of an event on these parts
abbrev pub stamp_of : Event → Parts → ℕ
stamp_of event ps = rule.stamp_of 0 (map (clock_at ps) (slots_of event.act)) event.reading

-- what a step asks of an event, in a cluster with this count of slots
pub record Asked (slots : ℕ) (event : Event) : Type 0 where
  pub reading : event.reading < 2 ^ 50
  pub act : ActAsked slots event.act
