-- The activity of all tablets that ever were, beside that which the master keeps: a removal forgets a tablet's
-- intervals.
use Rattle.std.specs.Prelude.{◌≡◌, ℕ, ◌≤◌, true, false, List, ◌&&◌, ◌⊎◌, not, if◌then◌else◌}
use Rattle.row_values.specs.Elements.{In}
use Rattle.row_values.specs.Slots.{has}
use Rattle.model.specs.Times.{ended_by}
use Rattle.model.specs.Activity.{Interval}
use Rattle.model.specs.Records.{TabletPair, CloneRecord, is_visible}
use Rattle.model.specs.Cleanup.{floor_of_table}
pub use Rattle.model.specs.Drawn.{IsPartOf}
use Rattle.model.specs.Acts.{Act}
use Rattle.model.specs.Entries.{slots_of}
use Rattle.model.specs.Parts.{Master, Parts, Outcome}
use Rattle.model.specs.History.{master_effect, is_removal}

-- what an outcome makes of it: what it makes of the master's, but that no removal forgets
abbrev pub activity_after : Act → Outcome → ℕ → Parts → List Interval → List Interval
activity_after act o n ps activity =
    if has (slots_of act) 0 && not (is_removal o.master)
    then (master_effect o.master n (record ps.master { activity = activity })).activity
    else activity

-- an interval of a tablet that was removed: it had ended by the floor of its namespace, and the master knows the tablet
-- no more
pub record IsForgotten (m : Master) (i : Interval) : Type 0 where
  pub below : ended_by (floor_of_table m i.table m.clock) i.to ≡ true
  pub over : ended_by m.clock i.to ≡ true
  pub unknown : (j : Interval) → In j m.activity → j.tablet ≡ i.tablet → ⊥

-- the master keeps each interval of a tablet that was not removed
pub record Remembered (m : Master) (activity : List Interval) : Type 0 where
  pub part : IsPartOf m.activity activity
  pub each : (i : Interval) → In i activity → In i m.activity ⊎ IsForgotten m i
  pub drawn : (i : Interval) → In i activity → i.tablet.number ≤ m.drawn.tablets
  pub drawn_table : (i : Interval) → In i activity → i.table.number ≤ m.drawn.tables
  -- none is a target that a clone is yet to make current
  pub reserved : (c : CloneRecord) (p : TabletPair) (i : Interval) → In c m.clones → is_visible c.state ≡ false
      → In p c.tablets → In i activity
      → (i.tablet ≡ p.target → ⊥) × (i.table ≡ p.table → ⊥)
