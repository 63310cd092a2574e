-- The master's part as contracts see it.
use Rattle.std.specs.Prelude.{ℕ}
use Rattle.model.specs.Parts.{Master}

pub record MasterView : Type 0 where
  -- the book's
  pub master : Master
  -- for how many more records of each kind its catalog has room
  pub catalog_room : ℕ
  -- and for how many more intervals of tablets
  pub activity_room : ℕ
  -- and for how many more schedules, and namespaces that have some
  pub schedule_room : ℕ
  pub scheduled_room : ℕ
  -- and for how many more sent marks
  pub sent_room : ℕ
  -- and records of snapshots, of restorations and of clones
  pub snapshot_room : ℕ
  pub restoration_room : ℕ
  pub clone_room : ℕ
