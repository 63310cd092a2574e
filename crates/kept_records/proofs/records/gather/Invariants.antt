use Rattle.std.proofs.Common.{◌≡◌, ◌≤◌, map, length, take, drop}
use Rattle.newest_index.specs.Newest.{Indexes, last_place}
use Rattle.kept_records.specs.Gathered.{gathered, step_present, kept_key}
use Rattle.kept_records.proofs.records.gather.Given as goal

abbrev pub invariant-records : goal.invariant-records
invariant-records g l = (l.upto ≤ length l.records)
    × ((key_of : g.row.R.Denot → g.row.K.Denot)
    → Indexes g.K.PartialEq.eq l.index.places l.index.earlier.items (map (kept_key key_of) l.records)
    → (l.next ≡ last_place (g.K.PartialEq.eq l.key) (take l.upto (map (kept_key key_of) l.records)))
    × (l.found ≡ gathered (λ k. g.K.PartialEq.eq l.key (key_of k.item)) (step_present (g.W.Gathers.step l.walk)) l.fn.start (drop l.upto l.records)))

abbrev pub decreases-records : goal.decreases-records
decreases-records g l = l.upto
