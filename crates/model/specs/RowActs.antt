-- What acts on tablets do: writes and reads of rows, cutoffs, compactions, restarts and counts.
use Rattle.std.specs.Prelude.{ℕ, ◌+◌, max, Bool, true, false, not, ◌&&◌, ◌||◌, List, [], ◌∷◌, ◌++◌, map, length, if◌then◌else◌, ◌==◌, Option, Some, None, filter, option_map, option_and_then}
use Rattle.model.specs.Cluster.{list_all, option_or, code_of, cut_to, KeyedRow, Item, Id, Version, precedes, read_of, kept, present, rows_at, in_range, in_order, time_of, is_future, is_below, owner_of, Interval, Tablet, FrozenSet, standing, is_empty, serves, RaiseCutoff, ScheduledNamespace, scheduled_in, At, Refusal, Future, Fenced, Moved, StaleSchema, TooOld, Ok, Rows, CutoffAt, Compacted, Counts, NoTablet, Master, Parts, Ticks, Restarts, Outcome, If, Names, Fault, judged, answered}
use Rattle.model.specs.Tablets.{Write as WriteRows, Compact as CompactRows, Restart as RestartTablet}
use Rattle.model.specs.Schedules.{allowed_cutoff}

-- the slot's part doesn't have what is wanted of it
abbrev pub has_moved : ℕ → Tablet → Refusal
has_moved slot t = Moved slot (standing t)

abbrev pub covers : Tablet → List ℕ → Bool
covers t key = in_range t.low t.high (code_of key)

-- whether the part serves the tablet, and its range has all keys of the batch
abbrev pub serves_all : Tablet → Id → List Item → Bool
serves_all t tablet batch = serves t tablet && list_all (λ item. covers t item.key) batch

unfoldable pub write : At → ℕ → List Item → ℕ → Parts → Outcome
write place version batch n ps =
    let t = ps.tablet place.slot in
    judged
    (If (not (serves_all t place.tablet batch)) (has_moved place.slot t)
    ∷ Names t.fence Fenced
    ∷ If (not (t.version == version)) (StaleSchema t.version)
    ∷ [])
    (record { master = Ticks; tablets = record { slot = place.slot; act = WriteRows batch } ∷ []; reply = Ok [] })

-- the refusal of the first place whose part doesn't serve its tablet, or hasn't the key in its range
abbrev pub moved_from_key : List At → List ℕ → (ℕ → Tablet) → Option Refusal
moved_from_key [] key tablet = None
moved_from_key (p ∷ places) key tablet =
    let t = tablet p.slot in
    if serves t p.tablet && covers t key then moved_from_key places key tablet else Some (has_moved p.slot t)

abbrev pub none_left : List At → Bool
none_left [] = true
none_left (p ∷ places) = false

-- whether a place of a scan serves its tablet, begins at the code, and ends with the codes if it is the last
abbrev pub goes_on : ℕ → Bool → Id → Tablet → Bool
goes_on from last tablet t = serves t tablet && ((t.low == from) && (not last || (t.high == 65536)))

-- the refusal of the first place that doesn't go on where the place before ends, from a code on
abbrev pub moved_from_scan : List At → ℕ → (ℕ → Tablet) → Option Refusal
moved_from_scan [] from tablet = None
moved_from_scan (p ∷ places) from tablet =
    let t = tablet p.slot in
    if goes_on from (none_left places) p.tablet t
    then moved_from_scan places t.high tablet
    else Some (has_moved p.slot t)

abbrev pub first_moved : Option (List ℕ) → List At → (ℕ → Tablet) → Option Refusal
first_moved None places tablet = moved_from_scan places 0 tablet
first_moved (Some key) places tablet = moved_from_key places key tablet

-- the first fence of the places
abbrev pub first_fence : List At → (ℕ → Tablet) → Option Id
first_fence [] tablet = None
first_fence (p ∷ places) tablet = option_or (tablet p.slot).fence (first_fence places tablet)

-- the first schema version of the places that isn't this one
abbrev pub other_version : List At → ℕ → (ℕ → Tablet) → Option ℕ
other_version [] version tablet = None
other_version (p ∷ places) version tablet =
    if (tablet p.slot).version == version then other_version places version tablet else Some (tablet p.slot).version

-- the version of a schema counts where no time is asked
abbrev pub stale : Option ℕ → List At → ℕ → (ℕ → Tablet) → Option ℕ
stale None places version tablet = other_version places version tablet
stale (Some x) places version tablet = None

-- the first cutoff of the places that is after the asked time
abbrev pub first_cutoff : List At → Option ℕ → (ℕ → Tablet) → Option ℕ
first_cutoff [] at tablet = None
first_cutoff (p ∷ places) at tablet =
    let cutoff = (tablet p.slot).cutoff in
    if is_below at cutoff then Some cutoff else first_cutoff places at tablet

-- the present rows of the versions at x, all or that of a key
abbrev pub rows_asked : Option (List ℕ) → List Version → ℕ → List KeyedRow
rows_asked None versions x = rows_at versions x
rows_asked (Some key) versions x = present key (read_of versions key x)

-- the asked rows of a tablet that are in its range
abbrev pub rows_in : Tablet → Option (List ℕ) → ℕ → List KeyedRow
rows_in t key x = filter (λ r. covers t r.key) (rows_asked key t.versions x)

abbrev pub rows_of_places : List At → Option (List ℕ) → ℕ → (ℕ → Tablet) → List KeyedRow
rows_of_places [] key x tablet = []
rows_of_places (p ∷ places) key x tablet = rows_in (tablet p.slot) key x ++ rows_of_places places key x tablet

abbrev pub cut_rows : List ℕ → List KeyedRow → List KeyedRow
cut_rows columns rows = map {A = KeyedRow} (λ r. record r { row = cut_to r.row columns }) rows

-- a read of all rows or of a key's, at a time or at the stamp: by key, and those of one key in the order of the places
unfoldable pub read : List At → ℕ → Option (List ℕ) → Option ℕ → List ℕ → ℕ → Parts → Outcome
read places version key at columns n ps =
    let rows = rows_of_places places key (time_of at n) ps.tablet in
    judged
    (Fault (first_moved key places ps.tablet)
    ∷ Names (first_fence places ps.tablet) Fenced
    ∷ Fault (option_map StaleSchema (stale at places version ps.tablet))
    ∷ If (is_future at n) (Future n)
    ∷ Fault (option_map (TooOld (time_of at n)) (first_cutoff places at ps.tablet))
    ∷ [])
    (answered (Rows (cut_rows columns (in_order (λ r s. precedes r.key s.key) rows))))

-- the table of the tablet that the master knows in a slot
abbrev pub table_in : List Interval → ℕ → Option Id
table_in [] slot = None
table_in (i ∷ is) slot = if i.slot == slot then Some i.table else table_in is slot

-- the namespace of the tablet in a slot, where it is scheduled. The target of a clone isn't before it is current
abbrev pub scheduled_at : Master → ℕ → Option ScheduledNamespace
scheduled_at m slot =
    let ns = option_and_then (owner_of m.catalog.owners) (table_in m.activity slot) in
    option_and_then (scheduled_in m.scheduled) ns

-- how far a tablet's cutoff may be raised
abbrev pub allowed_of : Option ScheduledNamespace → ℕ → ℕ
allowed_of found n = allowed_cutoff (option_map (λ k. k.since) found) (option_and_then (λ k. k.complete) found) n

unfoldable pub cutoff : ℕ → ℕ → Parts → Outcome
cutoff slot n ps =
    let t = ps.tablet slot in
    let to = allowed_of (scheduled_at ps.master slot) n in
    judged
    (If (is_empty t.presence) (has_moved slot t) ∷ [])
    (record {
      master = Ticks;
      tablets = record { slot = slot; act = RaiseCutoff to } ∷ [];
      reply = CutoffAt (max t.cutoff to);
    })

unfoldable pub compact : ℕ → ℕ → Parts → Outcome
compact slot n ps =
    let t = ps.tablet slot in
    judged
    (If (is_empty t.presence) (has_moved slot t) ∷ [])
    (record {
      master = Ticks;
      tablets = record { slot = slot; act = CompactRows } ∷ [];
      reply = Compacted (length t.versions) (length (kept t.versions t.cutoff));
    })

-- a restart of the master, which is number 0, or of a tablet
unfoldable pub restart : ℕ → ℕ → Parts → Outcome
restart slot n ps =
    if slot == 0
    then record { master = Restarts; tablets = []; reply = Ok [] }
    else record { master = Ticks; tablets = record { slot = slot; act = RestartTablet } ∷ []; reply = Ok [] }

-- how many versions the frozen sets have together
abbrev pub count_frozen : List FrozenSet → ℕ
count_frozen [] = 0
count_frozen (f ∷ fs) = length f.versions + count_frozen fs

unfoldable pub stats : ℕ → ℕ → Parts → Outcome
stats slot n ps =
    let t = ps.tablet slot in
    answered
    (if is_empty t.presence
    then NoTablet
    else Counts t.cutoff (length t.versions) (count_frozen t.frozen) (length t.inbox))
