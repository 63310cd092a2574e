use Rattle.std.proofs.Common.{◌≡◌, ◌≤◌, ◌-◌, map, take, vec_len, vec_capacity}
use Rattle.newest_index.specs.Newest.{Indexes, last_place}
use Rattle.newest_index.proofs.Gathering.{from_place}
use Rattle.newest_index.proofs.changing.change.Given as goal

abbrev pub invariant-records : goal.invariant-records
invariant-records g l = (l.upto ≤ vec_len l.records)
    × ((key_of : g.row.R.Denot → g.row.K.Denot)
    → Indexes g.K.PartialEq.eq l.index.places l.index.earlier.items (map key_of l.fn.records.items)
    → (l.next ≡ last_place (g.K.PartialEq.eq l.key) (take l.upto (map key_of l.fn.records.items)))
    × (l.records.items ≡ from_place key_of (g.K.PartialEq.eq l.key) (g.W.Changes.changed l.walk) l.upto l.fn.records.items))
    × (vec_capacity l.records - vec_len l.records ≡ vec_capacity l.fn.records - vec_len l.fn.records)

abbrev pub decreases-records : goal.decreases-records
decreases-records g l = l.upto
