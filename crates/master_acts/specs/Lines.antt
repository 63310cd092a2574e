-- A line of each list that the master tells.
use Rattle.std.specs.Prelude.{ℕ, [], unwrap_or}
use Rattle.model.specs.Activity.{Interval}
use Rattle.model.specs.Catalog.{name_of}
use Rattle.model.specs.Records.{Schedule, SnapshotRecord, RestorationRecord, CloneRecord, snapshot_state, restoration_state, clone_state, point_of}
use Rattle.model.specs.Acts.{ScheduleLine, SnapshotLine, RestorationLine, CloneLine, TabletLine}
use Rattle.model.specs.Schedules.{low}
use Rattle.model.specs.Parts.{Master}

-- at a stamp
abbrev pub schedule_line : ℕ → Master → Schedule → ScheduleLine
schedule_line n m s = record {
  id = s.id;
  namespace = unwrap_or (name_of m.catalog.namespaces s.namespace) [];
  interval = s.interval;
  retention = s.retention;
  low = low s n;
}

abbrev pub snapshot_line : SnapshotRecord → SnapshotLine
snapshot_line r = record {
  id = r.id;
  schedule = r.schedule;
  state = snapshot_state r.complete;
  after = r.after;
  at = r.at;
}

abbrev pub restoration_line : RestorationRecord → RestorationLine
restoration_line r = record {
  id = r.id;
  schedule = r.schedule;
  state = restoration_state r.state;
  to = r.to;
  point = point_of r.state;
}

abbrev pub clone_line : CloneRecord → CloneLine
clone_line r = record {
  id = r.id;
  source = r.source_name;
  target = r.target;
  state = clone_state r.state;
  to = r.to;
}

abbrev pub tablet_line : Interval → TabletLine
tablet_line i =
    record { tablet = i.tablet; table = i.table; slot = i.slot; low = i.low; high = i.high; ended = i.to }
