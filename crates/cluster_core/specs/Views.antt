-- A cluster as contracts see it.
use Rattle.std.specs.Prelude.{ℕ, List}
use Rattle.model.specs.Entries.{Entry}
use Rattle.machine_laws.specs.Views.{PartView}
use Rattle.cluster_core.specs.declared.room.PartRoom.{PartRoom}

pub record ClusterView : Type 0 where
  pub slots : ℕ
  -- the newest entry first
  pub history : List Entry
  -- the parts with their logs, the master's first
  pub parts : List (PartView PartRoom)
