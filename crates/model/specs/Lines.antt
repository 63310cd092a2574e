-- What the lists of schedules, records and tablets show, each by number.
use Rattle.std.specs.Prelude.{ℕ, List, [], map, reverse, nat_lt, unwrap_or}
use Rattle.model.specs.Cluster.{Id, in_order, name_of, Interval, Schedule, SnapshotRecord, RestorationRecord, CloneRecord, snapshot_state, restoration_state, clone_state, point_of, ScheduleLine, SnapshotLine, RestorationLine, CloneLine, TabletLine, Master}
use Rattle.model.specs.Schedules.{low}
use Rattle.model.specs.Lists.{once, intervals_in}

-- schedules, with the low ends of their windows at the stamp
abbrev pub schedule_lines : ℕ → Master → List ScheduleLine
schedule_lines n m = map {A = Schedule} (λ s. record {
  id = s.id;
  namespace = unwrap_or (name_of m.catalog.namespaces s.namespace) [];
  interval = s.interval;
  retention = s.retention;
  low = low s n;
}) m.schedules

abbrev pub snapshot_lines : Master → List SnapshotLine
snapshot_lines m = map {A = SnapshotRecord} (λ r. record {
  id = r.id;
  schedule = r.schedule;
  state = snapshot_state r.complete;
  after = r.after;
  at = r.at;
}) m.snapshots

abbrev pub restoration_lines : Master → List RestorationLine
restoration_lines m = map {A = RestorationRecord} (λ r. record {
  id = r.id;
  schedule = r.schedule;
  state = restoration_state r.state;
  to = r.to;
  point = point_of r.state;
}) m.restorations

abbrev pub clone_lines : Master → List CloneLine
clone_lines m = map {A = CloneRecord} (λ r. record {
  id = r.id;
  source = r.source_name;
  target = r.target;
  state = clone_state r.state;
  to = r.to;
}) m.clones

-- the present tablets of a namespace by number, each with the end of its last interval
abbrev pub tablet_lines : Master → Id → List TabletLine
tablet_lines m ns =
    map {A = Interval}
    (λ i. record { tablet = i.tablet; table = i.table; slot = i.slot; low = i.low; high = i.high; ended = i.to })
    (in_order (λ i j. nat_lt i.tablet.number j.tablet.number)
    (once (reverse (intervals_in m.catalog.owners m.activity ns))))
