-- What retention doesn't need any more: hidden tablets and complete snapshots below the floor of their namespace, and
-- records of the catalog.
use Rattle.std.specs.Prelude.{ℕ, Bool, true, false, List, [], ◌∷◌, ◌++◌, Option, Some, None, ◌==◌, ◌&&◌, ◌||◌, ◌+◌, ◌-◌, not, max, min, nat_le, nat_lt, length, is_some, is_none, map, if◌then◌else◌, option_map, filter}
use Rattle.model.specs.Words.{option_or, option_map_or, list_any, Id, Kind, Namespace, Table, Tablet, Schedule, Snapshot, Restoration, Clone, same, same_slots, rising}
use Rattle.model.specs.Cluster.{ended_by, NamespaceRecord, TableRecord, KeptFrom, Catalog, owner_of, Interval, last_of, forget, Tablet as TabletPart, Presence, EmptyPart, ServingPart, HiddenPart, Empty, Clear, DropFrozen, standing, is_hidden, Listed, SnapshotRecord, RestorationRecord, CloneRecord, named_by_restoration, named_by_clone, is_restored, is_cloned, lists_tablet, snapshot_with, Refusal, UnknownSnapshot, Moved, StalePlan, InWindow, IsListed, Removal, Removed, Pruned, Master, Parts, Outcome, If, Fault, Removes, Prunes, judged, refused}
use Rattle.model.specs.Schedules.{floor, least_low, history_retention}
use Rattle.model.specs.Operations.{time_of_user}

-- the floor of a namespace at a stamp
abbrev pub floor_of : Master → Id → ℕ → ℕ
floor_of m ns n = floor (least_low m.schedules ns n) (time_of_user m ns) n

-- the floor of a table's namespace
abbrev pub floor_of_table : Master → Id → ℕ → ℕ
floor_of_table m table n = option_map_or (λ ns. floor_of m ns n) (owner_of m.catalog.owners table) n

-- the first unfinished record that lists a tablet: snapshots, then restorations, then clones, with their sources

abbrev pub listing_snapshot : List SnapshotRecord → Id → Option Id
listing_snapshot [] tablet = None
listing_snapshot (r ∷ rs) tablet =
    if not r.complete && lists_tablet tablet r.listed then Some r.id else listing_snapshot rs tablet

abbrev pub listing_restoration : List RestorationRecord → Id → Option Id
listing_restoration [] tablet = None
listing_restoration (r ∷ rs) tablet =
    if not (is_restored r.state) && lists_tablet tablet r.listed then Some r.id else listing_restoration rs tablet

abbrev pub takes_from : CloneRecord → Id → Bool
takes_from r tablet = list_any (λ p. same p.source tablet) r.tablets

abbrev pub listing_clone : List CloneRecord → Id → Option Id
listing_clone [] tablet = None
listing_clone (r ∷ rs) tablet =
    if not (is_cloned r.state) && (lists_tablet tablet r.listed || takes_from r tablet)
    then Some r.id
    else listing_clone rs tablet

abbrev pub lister_of_tablet : Master → Id → Option Id
lister_of_tablet m tablet =
    option_or
    (listing_snapshot m.snapshots tablet)
    (option_or (listing_restoration m.restorations tablet) (listing_clone m.clones tablet))

-- the first unfinished record that is a snapshot or names it

abbrev pub is_this : Id → Option Id → Bool
is_this snapshot None = false
is_this snapshot (Some named) = same named snapshot

abbrev pub naming_restoration : List RestorationRecord → Id → Option Id
naming_restoration [] snapshot = None
naming_restoration (r ∷ rs) snapshot =
    if not (is_restored r.state) && is_this snapshot (named_by_restoration r.state)
    then Some r.id
    else naming_restoration rs snapshot

abbrev pub naming_clone : List CloneRecord → Id → Option Id
naming_clone [] snapshot = None
naming_clone (r ∷ rs) snapshot =
    if not (is_cloned r.state) && is_this snapshot (named_by_clone r.state) then Some r.id else naming_clone rs snapshot

abbrev pub lister_of_snapshot : Master → SnapshotRecord → Option Id
lister_of_snapshot m r =
    option_or
    (if r.complete then None else Some r.id)
    (option_or (naming_restoration m.restorations r.id) (naming_clone m.clones r.id))

-- why a tablet that was hidden at a stamp stays: retention needs it, or else a record lists it
abbrev pub removable_tablet : ℕ → ℕ → Option Id → Option Refusal
removable_tablet ended floor lister =
    if nat_lt floor ended then Some (InWindow ended floor) else option_map IsListed lister

-- why a snapshot of a time stays: retention needs it, or else a record is unfinished that is it, or names it
abbrev pub removable_snapshot : ℕ → ℕ → Option Id → Option Refusal
removable_snapshot at floor namer = if nat_le floor at then Some (InWindow at floor) else option_map IsListed namer

-- a tablet is present as long as the master keeps an interval of it
abbrev pub is_present : Master → Id → Bool
is_present m tablet = is_some (last_of m.activity tablet)

-- the slots of a snapshot's listed tablets that are present and of which the test holds
abbrev pub slots_where : (Id → Bool) → Master → List Listed → List ℕ
slots_where test m ls = rising (map (λ l. l.slot) (filter (λ l. is_present m l.tablet && test l.tablet) ls))

-- the slots that the removal of a snapshot touches
abbrev pub snapshot_plan : Master → SnapshotRecord → List ℕ
snapshot_plan m r = slots_where (λ tablet. true) m r.listed

-- the stamp at which a tablet was hidden
abbrev pub hidden_at : Presence → ℕ
hidden_at (HiddenPart ended) = ended
hidden_at EmptyPart = 0
hidden_at ServingPart = 0

abbrev pub is_hidden_as : Id → TabletPart → Bool
is_hidden_as tablet t = is_hidden t.presence && same t.tablet tablet

-- what isn't known has the empty plan
abbrev pub removing_unknown : List ℕ → Refusal → Outcome
removing_unknown slots why = judged (If (not (same_slots slots [])) (StalePlan []) ∷ []) (refused why)

-- a tablet goes that was hidden at or before the floor; its part becomes empty
abbrev pub removing_tablet : Option Interval → Id → List ℕ → ℕ → Parts → Outcome
removing_tablet None target slots n ps = removing_unknown slots (Moved 0 Empty)
removing_tablet (Some i) target slots n ps =
    let m = ps.master in
    let t = ps.tablet i.slot in
    judged
    (If (not (same_slots slots (i.slot ∷ []))) (StalePlan (i.slot ∷ []))
    ∷ If (not (is_hidden_as target t)) (Moved i.slot (standing t))
    ∷ Fault (removable_tablet (hidden_at t.presence) (floor_of_table m i.table n) (lister_of_tablet m target))
    ∷ [])
    (record { master = Removes target; tablets = record { slot = i.slot; act = Clear } ∷ []; reply = Removed })

-- a snapshot goes whose time is below the floor; the tablets drop their frozen sets of it
abbrev pub removing_snapshot : Option SnapshotRecord → Id → List ℕ → ℕ → Parts → Outcome
removing_snapshot None target slots n ps = removing_unknown slots UnknownSnapshot
removing_snapshot (Some r) target slots n ps =
    let m = ps.master in
    let plan = snapshot_plan m r in
    judged
    (If (not (same_slots slots plan)) (StalePlan plan)
    ∷ Fault (removable_snapshot r.at (floor_of m r.namespace n) (lister_of_snapshot m r))
    ∷ [])
    (record {
      master = Removes target;
      tablets = map (λ slot. record { slot = slot; act = DropFrozen target }) plan;
      reply = Removed;
    })

abbrev pub removing : Kind → Id → List ℕ → ℕ → Parts → Outcome
removing Namespace target slots n ps = removing_unknown slots UnknownSnapshot
removing Table target slots n ps = removing_unknown slots UnknownSnapshot
removing Tablet target slots n ps = removing_tablet (last_of ps.master.activity target) target slots n ps
removing Schedule target slots n ps = removing_unknown slots UnknownSnapshot
removing Snapshot target slots n ps =
    removing_snapshot (snapshot_with ps.master.snapshots target) target slots n ps
removing Restoration target slots n ps = removing_unknown slots UnknownSnapshot
removing Clone target slots n ps = removing_unknown slots UnknownSnapshot

-- a tablet or a snapshot that retention doesn't need is removed
unfoldable pub remove : Id → List ℕ → ℕ → Parts → Outcome
remove target slots n ps = removing target.kind target slots n ps

-- the master forgets the tablet, or the snapshot's record
abbrev pub removed_of : Kind → Id → ℕ → Master → Master
removed_of Namespace target n m = record m { clock = n }
removed_of Table target n m = record m { clock = n }
removed_of Tablet target n m = record m { clock = n; activity = forget target m.activity }
removed_of Schedule target n m = record m { clock = n }
removed_of Snapshot target n m = record m {
  clock = n;
  snapshots = filter (λ r. not (same r.id target)) m.snapshots;
}
removed_of Restoration target n m = record m { clock = n }
removed_of Clone target n m = record m { clock = n }

abbrev pub removed : Id → ℕ → Master → Master
removed target n m = removed_of target.kind target n m

-- the last interval in a slot: that of the tablet that it holds
abbrev pub last_in : List Interval → ℕ → Option Interval → Option Interval
last_in [] slot found = found
last_in (i ∷ is) slot found = last_in is slot (if i.slot == slot then Some i else found)

-- whether a tablet that had ended may go; one that is active stays
abbrev pub ends_removable : Option ℕ → ℕ → Option Id → Bool
ends_removable None floor lister = false
ends_removable (Some ended) floor lister = is_none (removable_tablet ended floor lister)

-- whether the master knows the tablet as hidden, and retention doesn't need it
abbrev pub is_removable_tablet : Master → ℕ → Interval → Bool
is_removable_tablet m n i = ends_removable i.to (floor_of_table m i.table n) (lister_of_tablet m i.tablet)

abbrev pub removal_in : Master → ℕ → Option Interval → List Removal
removal_in m n None = []
removal_in m n (Some i) =
    if is_removable_tablet m n i then record { target = i.tablet; slots = i.slot ∷ [] } ∷ [] else []

abbrev pub removals_in : List ℕ → Master → ℕ → List Removal
removals_in [] m n = []
removals_in (slot ∷ slots) m n = removal_in m n (last_in m.activity slot None) ++ removals_in slots m n

-- the removable tablets by slot
abbrev pub removable_tablets : Master → ℕ → List Removal
removable_tablets m n = removals_in (rising (map (λ i. i.slot) m.activity)) m n

abbrev pub is_removable_snapshot : Master → ℕ → SnapshotRecord → Bool
is_removable_snapshot m n r = is_none (removable_snapshot r.at (floor_of m r.namespace n) (lister_of_snapshot m r))

-- the removable snapshots by number; the slots are those of the tablets that stay
abbrev pub removable_snapshots : Master → ℕ → List Removal → List Removal
removable_snapshots m n tablets = map {A = SnapshotRecord} (λ r. record {
  target = r.id;
  slots = slots_where (λ tablet. not (list_any (λ t. same t.target tablet) tablets)) m r.listed;
}) (filter (is_removable_snapshot m n) m.snapshots)

-- what is removable at a stamp: tablets by slot, then snapshots by number. Whoever removes the tablets first finds the
-- plans of the snapshots as they stand here
abbrev pub removable : Master → ℕ → List Removal
removable m n = removable_tablets m n ++ removable_snapshots m n (removable_tablets m n)

-- up to which stamp a prune takes the records of a namespace
abbrev pub prune_to : Master → Id → ℕ → ℕ
prune_to m ns n = min (floor_of m ns n) (n - history_retention)

abbrev pub is_old_namespace : Master → ℕ → NamespaceRecord → Bool
is_old_namespace m n r = ended_by (prune_to m r.id n) r.to

abbrev pub is_old_table : Master → ℕ → TableRecord → Bool
is_old_table m n r = ended_by (prune_to m r.namespace n) r.to

-- whether the catalog keeps a record of the namespace or of its tables
abbrev pub has_records : Catalog → Id → Bool
has_records c ns = list_any (λ r. same r.id ns) c.namespaces || list_any (λ r. same r.namespace ns) c.tables

-- the mark of a namespace rises as far as its records are taken; once it has none, the mark stays
abbrev pub raised_mark : Master → ℕ → KeptFrom → KeptFrom
raised_mark m n k = record k {
  from = if has_records m.catalog k.namespace then max k.from (prune_to m k.namespace n) else k.from;
}

-- the catalog's old records go
unfoldable pub prune : ℕ → Parts → Outcome
prune n ps =
    let m = ps.master in
    record {
      master = Prunes;
      tablets = [];
      reply = Pruned
          (length (filter (is_old_namespace m n) m.catalog.namespaces)
          + length (filter (is_old_table m n) m.catalog.tables));
    }

abbrev pub pruned : ℕ → Master → Master
pruned n m = record m {
  clock = n;
  catalog = record m.catalog {
    namespaces = filter (λ r. not (is_old_namespace m n r)) m.catalog.namespaces;
    tables = filter (λ r. not (is_old_table m n r)) m.catalog.tables;
    kept_from = map (raised_mark m n) m.catalog.kept_from;
  };
}
