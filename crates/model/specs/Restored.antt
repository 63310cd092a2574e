-- What a restoration brings back and a clone takes over of the catalog and of the tablets of a time. A column that the
-- table gets later never takes an id that was given before, not even one that the time doesn't show.
use Rattle.std.specs.Prelude.{ℕ, false, List, [], ◌∷◌, ◌++◌, Option, None, ◌&&◌, ◌+◌, map, if◌then◌else◌, unwrap_or, find}
use Rattle.model.specs.Cluster.{option_map_or, Id, same, Schema, holds_at, ended, Catalog, TableRecord, Owner, tables_at, latest, current_table, end_tables, owns, set_kept_from, Interval, active_at, RestoreFrom, Hide, Listed, IdPair, TabletPair, CloneRecord}
use Rattle.model.specs.Lists.{by_table_and_number, by_table_and_range, once, active_tablets, tablets_active_at}

-- the newest kept schema of the table of a record
abbrev pub newest : List TableRecord → TableRecord → Schema
newest rs r = unwrap_or (latest rs r.id) r.schema

-- a table as it was, current again from a point on, under a new version of its schema
abbrev pub back_at : List TableRecord → ℕ → TableRecord → TableRecord
back_at rs point r = record r {
  schema = record { version = (newest rs r).version + 1; next = (newest rs r).next; columns = r.schema.columns };
  from = point;
  to = None;
}

-- the tables of a namespace at a time, current again from a point on
abbrev pub tables_back : List TableRecord → Id → ℕ → ℕ → List TableRecord
tables_back rs ns to point = map (back_at rs point) (tables_at rs ns to)

-- the current tables of the namespace give way to these
abbrev pub replace : Id → List TableRecord → ℕ → List TableRecord → List TableRecord
replace ns tables point rs = end_tables ns point rs ++ tables

-- the namespace's tables are those of a time, from a point on
abbrev pub restored_tables : List TableRecord → Id → ℕ → ℕ → List TableRecord
restored_tables rs ns to point = replace ns (tables_back rs ns to point) point rs

-- the version of a table's current schema
abbrev pub version_of : List TableRecord → Id → ℕ
version_of rs table = option_map_or (λ r. r.schema.version) (current_table rs table) 0

-- the open intervals of a namespace's tablets end
abbrev pub end_namespace_tablets : List Owner → Id → ℕ → List Interval → List Interval
end_namespace_tablets owners ns point is =
    map {A = Interval} (λ i. record i { to = if owns owners ns i.table then ended point i.to else i.to }) is

abbrev pub begun_at : ℕ → Interval → Interval
begun_at point i = record i { from = point; to = None }

-- from a point on the namespace's active tablets are those that were active at a time
abbrev pub restored_activity : List Owner → List Interval → Id → ℕ → ℕ → List Interval
restored_activity owners activity ns to point =
    end_namespace_tablets owners ns point activity ++ map (begun_at point) (tablets_active_at owners activity ns to)

-- the tablets that a switch concerns: those that were active at the time, and the others that are now
abbrev pub concerned : List Owner → List Interval → Id → ℕ → List Interval
concerned owners activity ns to =
    by_table_and_number (once (tablets_active_at owners activity ns to ++ active_tablets owners activity ns))

-- the tablets of the time are to take their rows of then, the others to be hidden; `tables` are those after the switch
abbrev pub switch_list : List Owner → List Interval → Id → ℕ → ℕ → Id → List TableRecord → List Listed
switch_list owners activity ns to point serving tables = map {A = Interval} (λ i. record {
  tablet = i.tablet;
  slot = i.slot;
  body = if active_at to i then RestoreFrom serving to point (version_of tables i.table) else Hide point;
  acked = false;
}) (concerned owners activity ns to)

-- what a clone takes over of a namespace at a time: its tables by id, and their tablets by table and range
pub record CloneMap : Type 0 where
  pub tables : List TableRecord
  pub places : List Interval

abbrev pub clone_map : Catalog → List Interval → Id → ℕ → CloneMap
clone_map c activity ns to = record {
  tables = tables_at c.tables ns to;
  places = by_table_and_range (tablets_active_at c.owners activity ns to);
}

-- the record of a table at a time
abbrev pub record_at : List TableRecord → Id → ℕ → Option TableRecord
record_at rs table x = find (λ r. holds_at x r.from r.to && same r.id table) rs

-- a table as it was, under another id in another namespace
abbrev pub cloned : List TableRecord → Id → Id → ℕ → TableRecord → TableRecord
cloned rs target table at r = record {
  id = table;
  namespace = target;
  name = r.name;
  schema = record { version = 1; next = (newest rs r).next; columns = r.schema.columns };
  from = at;
  to = None;
}

-- the tables of the pairs' sources at a time, in the target
abbrev pub cloned_tables : List IdPair → List TableRecord → Id → ℕ → ℕ → List TableRecord
cloned_tables [] rs target to at = []
cloned_tables (p ∷ ps) rs target to at =
    option_map_or (λ r. cloned rs target p.target at r ∷ []) (record_at rs p.source to) []
    ++ cloned_tables ps rs target to at

-- the target of a clone becomes current
abbrev pub target_added : CloneRecord → ℕ → Catalog → Catalog
target_added r at c = record c {
  namespaces = c.namespaces ++ record { id = r.target_id; name = r.target; from = at; to = None } ∷ [];
  tables = c.tables ++ cloned_tables r.tables c.tables r.target_id r.to at;
  kept_from = set_kept_from c.kept_from r.target_id at;
}

-- the target tablets of a clone are active from a time on
abbrev pub cloned_activity : ℕ → List TabletPair → List Interval
cloned_activity at pairs = map (λ p. record {
  slot = p.slot;
  tablet = p.target;
  table = p.table;
  low = p.low;
  high = p.high;
  from = at;
  to = None;
}) pairs
