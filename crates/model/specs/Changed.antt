-- What an accepted command makes of the master: names and schemas, tablets' activity, schedules and records. Each
-- function sets the clock to the stamp, besides what it says. Identifiers are the next ones of their kind.
use Rattle.std.specs.Prelude.{ℕ, ◌+◌, ◌-◌, not, List, [], ◌∷◌, ◌++◌, map, length, if◌then◌else◌, Option, Some, None, is_some, unwrap_or, filter}
use Rattle.model.specs.Cluster.{first_schema, Schema, NewColumn, CloneKind, RestorationKind, ScheduleKind, TabletKind, TableKind, NamespaceKind, same, Id, share_from, TableRecord, Owner, namespace_added, namespace_ended, table_added, table_ended, table_replaced, Interval, end_tablet, end_table_tablets, Fence, Schedule, ScheduledNamespace, scheduled_in, schedule_of, Fencing, Accepted, IdPair, TabletPair, CloneRecord, Master}
use Rattle.model.specs.Schedules.{edited}
use Rattle.model.specs.Lists.{active_tablets, listing, numbered_as, with_snapshot}
use Rattle.model.specs.Looks.{free_slots}
use Rattle.model.specs.Restored.{clone_map}

abbrev pub next_namespace : Master → Id
next_namespace m = numbered_as NamespaceKind (m.drawn.namespaces + 1)

abbrev pub next_table : Master → Id
next_table m = numbered_as TableKind (m.drawn.tables + 1)

abbrev pub next_schedule : Master → Id
next_schedule m = numbered_as ScheduleKind (m.drawn.schedules + 1)

abbrev pub next_restoration : Master → Id
next_restoration m = numbered_as RestorationKind (m.drawn.restorations + 1)

abbrev pub next_clone : Master → Id
next_clone m = numbered_as CloneKind (m.drawn.clones + 1)

-- an identifier of the next tablets, counted from 1, where so many were drawn
abbrev pub next_tablet : ℕ → ℕ → Id
next_tablet drawn count = numbered_as TabletKind (drawn + count)

-- active from a stamp on
abbrev pub begins : ℕ → Id → Id → ℕ → ℕ → ℕ → Interval
begins slot tablet table low high n =
    record { slot = slot; tablet = tablet; table = table; low = low; high = high; from = n; to = None }

-- the tablets of a new table from one place on: the codes are shared out among so many
abbrev pub shares : List ℕ → ℕ → ℕ → ℕ → ℕ → Id → List Interval
shares [] place count n drawn table = []
shares (slot ∷ slots) place count n drawn table =
    begins slot (next_tablet drawn (place + 1)) table (share_from count place) (share_from count (place + 1)) n
    ∷ shares slots (place + 1) count n drawn table

-- the two children of a split
abbrev pub children : Interval → ℕ → ℕ → ℕ → ℕ → ℕ → List Interval
children parent code low_slot high_slot n drawn =
    begins low_slot (next_tablet drawn 1) parent.table parent.low code n
    ∷ begins high_slot (next_tablet drawn 2) parent.table code parent.high n
    ∷ []

-- each table of a source with the next identifier
abbrev pub pair_tables : List TableRecord → ℕ → List IdPair
pair_tables [] drawn = []
pair_tables (t ∷ ts) drawn =
    record { source = t.id; target = numbered_as TableKind (drawn + 1) } ∷ pair_tables ts (drawn + 1)

-- the table that stands for a source's; one that has no pair stands for itself
abbrev pub target_in : List IdPair → Id → Id
target_in [] table = table
target_in (p ∷ ps) table = if same p.source table then p.target else target_in ps table

-- each tablet of a source with the next identifier and the next of the slots
abbrev pub pair_tablets : List Interval → List ℕ → ℕ → List IdPair → List TabletPair
pair_tablets [] slots drawn tables = []
pair_tablets (i ∷ is) [] drawn tables = []
pair_tablets (i ∷ is) (slot ∷ slots) drawn tables = record {
  source = i.tablet;
  source_slot = i.slot;
  target = numbered_as TabletKind (drawn + 1);
  slot = slot;
  table = target_in tables i.table;
  low = i.low;
  high = i.high;
} ∷ pair_tablets is slots (drawn + 1) tables

-- the source tablets of a clone to a time
abbrev pub sources : Master → Id → ℕ → List Interval
sources m ns to = (clone_map m.catalog m.activity ns to).places

-- a new clone: names, identifiers and the least free slots are reserved
abbrev pub new_clone : Id → List ℕ → List ℕ → ℕ → Master → CloneRecord
new_clone ns source target to m =
    let tables = pair_tables (clone_map m.catalog m.activity ns to).tables m.drawn.tables in
    record {
      id = next_clone m;
      source = ns;
      source_name = source;
      target = target;
      target_id = next_namespace m;
      tables = tables;
      tablets = pair_tablets (sources m ns to) (free_slots m) m.drawn.tablets tables;
      to = to;
      listed = [];
      state = Accepted;
    }

-- the clone's tables are those of its target
abbrev pub owners_of : CloneRecord → List Owner
owners_of r = map (λ p. record { table = p.target; namespace = r.target_id }) r.tables

-- the time to which a clone goes: without one, just before its own stamp
abbrev pub clone_time : Option ℕ → ℕ → ℕ
clone_time to n = unwrap_or to (n - 1)

abbrev pub namespace_made : List ℕ → ℕ → Master → Master
namespace_made name n m = record m {
  clock = n;
  catalog = namespace_added (record { id = next_namespace m; name = name; from = n; to = None }) m.catalog;
  drawn = record m.drawn { namespaces = m.drawn.namespaces + 1 };
}

abbrev pub namespace_dropped : Id → ℕ → Master → Master
namespace_dropped ns n m = record m { clock = n; catalog = namespace_ended ns n m.catalog }

-- a table has as many tablets as there are slots for them
abbrev pub table_made : Id → List ℕ → List NewColumn → List ℕ → ℕ → Master → Master
table_made ns name columns slots n m =
    let schema = first_schema columns in
    record m {
      clock = n;
      catalog = table_added
          (record { id = next_table m; namespace = ns; name = name; schema = schema; from = n; to = None }) m.catalog;
      activity = m.activity ++ shares slots 0 (length slots) n m.drawn.tablets (next_table m);
      drawn = record m.drawn { tables = m.drawn.tables + 1; tablets = m.drawn.tablets + length slots };
    }

-- the table goes on under another name and schema
abbrev pub table_changed : TableRecord → List ℕ → Schema → ℕ → Master → Master
table_changed t name schema n m = record m { clock = n; catalog = table_replaced t name schema n m.catalog }

-- the table ends, and so does the activity of its tablets
abbrev pub table_dropped : Id → ℕ → Master → Master
table_dropped table n m = record m {
  clock = n;
  catalog = table_ended table n m.catalog;
  activity = end_table_tablets table n m.activity;
}

-- the parent's activity ends, and that of its children begins
abbrev pub tablet_split : Interval → ℕ → ℕ → ℕ → ℕ → Master → Master
tablet_split parent code low_slot high_slot n m = record m {
  clock = n;
  activity = end_tablet parent.tablet n m.activity
      ++ children parent code low_slot high_slot n m.drawn.tablets;
  drawn = record m.drawn { tablets = m.drawn.tablets + 2 };
}

-- a namespace is scheduled from its first schedule on
abbrev pub begin_scheduled :
    Option ScheduledNamespace → Id → ℕ → List ScheduledNamespace → List ScheduledNamespace
begin_scheduled (Some k) ns n ks = ks
begin_scheduled None ns n ks = ks ++ record { namespace = ns; since = n; last = None; complete = None } ∷ []

-- until its last schedule is deleted
abbrev pub still_scheduled : List Schedule → List ScheduledNamespace → List ScheduledNamespace
still_scheduled ss ks = filter (λ k. is_some (schedule_of ss k.namespace)) ks

abbrev pub without_schedule : Id → List Schedule → List Schedule
without_schedule id ss = filter (λ s. not (same s.id id)) ss

abbrev pub schedule_made : Id → ℕ → ℕ → ℕ → Master → Master
schedule_made ns interval retention n m = record m {
  clock = n;
  schedules = m.schedules
      ++ record {
        id = next_schedule m;
        namespace = ns;
        interval = interval;
        retention = retention;
        made = n;
        kept_low = n;
        last = None;
      }
      ∷ [];
  scheduled = begin_scheduled (scheduled_in m.scheduled ns) ns n m.scheduled;
  drawn = record m.drawn { schedules = m.drawn.schedules + 1 };
}

-- the schedule of an identifier has other periods from a stamp on
abbrev pub with_periods : Id → ℕ → ℕ → ℕ → List Schedule → List Schedule
with_periods id interval retention n ss =
    map {A = Schedule} (λ s. if same s.id id then edited interval retention n s else s) ss

abbrev pub schedule_edited : Id → ℕ → ℕ → ℕ → Master → Master
schedule_edited schedule interval retention n m = record m {
  clock = n;
  schedules = with_periods schedule interval retention n m.schedules;
}

abbrev pub schedule_deleted : Id → ℕ → Master → Master
schedule_deleted schedule n m = let left = without_schedule schedule m.schedules in record m {
  clock = n;
  schedules = left;
  scheduled = still_scheduled left m.scheduled;
}

abbrev pub snapshot_taken : Schedule → ℕ → Master → Master
snapshot_taken s n m = record (with_snapshot s.namespace s.id n m) { clock = n }

-- a restoration begins by fencing the active tablets
abbrev pub restoration_begun : Schedule → ℕ → ℕ → Master → Master
restoration_begun s to n m = record m {
  clock = n;
  restorations = m.restorations
      ++ record {
        id = next_restoration m;
        schedule = s.id;
        namespace = s.namespace;
        to = to;
        listed = listing Fence (active_tablets m.catalog.owners m.activity s.namespace);
        state = Fencing;
      }
      ∷ [];
  drawn = record m.drawn { restorations = m.drawn.restorations + 1 };
}

abbrev pub clone_begun : Id → List ℕ → List ℕ → ℕ → ℕ → Master → Master
clone_begun ns source target to n m = let clone = new_clone ns source target to m in record m {
  clock = n;
  catalog = record m.catalog { owners = m.catalog.owners ++ owners_of clone };
  clones = m.clones ++ clone ∷ [];
  drawn = record m.drawn {
    namespaces = m.drawn.namespaces + 1;
    tables = m.drawn.tables + length clone.tables;
    tablets = m.drawn.tablets + length clone.tablets;
    clones = m.drawn.clones + 1;
  };
}
