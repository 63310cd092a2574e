-- What a switch brings back.
use Rattle.std.specs.Prelude.{ℕ, ◌≤◌, ◌<◌, ◌+◌, ◌^◌, List, false, if◌then◌else◌}
use Rattle.row_values.specs.Ids.{Id}
use Rattle.model.specs.Activity.{Interval, active_at}
use Rattle.model.specs.Catalog.{TableRecord}
use Rattle.model.specs.Records.{Listed}
use Rattle.model.specs.Restored.{newest, version_of}
use Rattle.model.specs.Tablets.{RestoreFrom, Hide}

-- the table of a record may go on under one more version, and no column's id is given again
pub record GoesOn (rs : List TableRecord) (t : TableRecord) : Type 0 where
  pub version : (newest rs t).version + 1 < 2 ^ 32
  pub next : t.schema.next ≤ (newest rs t).next

-- what the tablet of an interval is to do: that of the time is to take its rows of then, another to be hidden
abbrev pub line_with : ℕ → ℕ → Id → List TableRecord → Interval → Listed
line_with to point serving tables i = record {
  tablet = i.tablet;
  slot = i.slot;
  body = if active_at to i then RestoreFrom serving to point (version_of tables i.table) else Hide point;
  acked = false;
}
