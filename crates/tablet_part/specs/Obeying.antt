-- What a tablet needs to obey a command.
use Rattle.std.specs.Prelude.{ℕ, ◌≤◌, ◌<◌, ◌+◌, ◌^◌, List, Option, Some, None, length}
use Rattle.row_values.specs.declared.rows.KeyedRow.{KeyedRow}
use Rattle.row_values.specs.Store.{frozen, of_rows}
use Rattle.model.specs.Tablets.{Tablet, Body, Fence, Freeze, RestoreFrom, Hide, Copy, Release, set_of, rows_of_set}
use Rattle.model.specs.RowActs.{count_frozen}
use Rattle.tablet_part.specs.Views.{StoreView}

-- the store that is made for a body: the set of a freeze, the versions to which a tablet goes back, and those of a copy,
-- of the rows of its source
abbrev pub store_for : Body → List KeyedRow → Tablet → Option StoreView
store_for Fence rows t = None
store_for (Freeze snapshot at) rows t = Some (record { versions = frozen at t.versions; cutoff = t.cutoff })
store_for (RestoreFrom snapshot to point version) rows t =
    Some (record { versions = of_rows (rows_of_set (set_of t.frozen snapshot) to) point; cutoff = point })
store_for (Hide ended) rows t = None
store_for (Copy source snapshot to stamp table low high version) rows t =
    Some (record { versions = of_rows rows stamp; cutoff = stamp })
store_for (Release cutoff) rows t = None

-- the time from which a body has the tablet's reads right has come by the stamp
abbrev pub IsDue : Body → ℕ → Type 0
IsDue Fence n = Unit {0}
IsDue (Freeze snapshot at) n = Unit {0}
IsDue (RestoreFrom snapshot to point version) n = point ≤ n
IsDue (Hide ended) n = Unit {0}
IsDue (Copy source snapshot to stamp table low high version) n = stamp ≤ n
IsDue (Release cutoff) n = cutoff ≤ n

-- with the set of a freeze, a tablet's frozen versions can still be counted
abbrev pub CanCount : Body → Tablet → Type 0
CanCount Fence t = Unit {0}
CanCount (Freeze snapshot at) t = count_frozen t.frozen + length (frozen at t.versions) < 2 ^ 64
CanCount (RestoreFrom snapshot to point version) t = Unit {0}
CanCount (Hide ended) t = Unit {0}
CanCount (Copy source snapshot to stamp table low high version) t = Unit {0}
CanCount (Release cutoff) t = Unit {0}
