use Rattle.std.proofs.Common.{◌≤◌, ◌+◌, ◌-◌, map, take, length, vec_len, vec_capacity}
use Rattle.indexmap.specs.IndexMap.{spare}
use Rattle.newest_index.specs.Newest.{Indexes}
use Rattle.newest_index.proofs.NewestIndex.index_anew.Given as goal

abbrev pub invariant-loop-record : goal.invariant-loop-record
invariant-loop-record g l = record {
  right : Indexes g.K.PartialEq.eq l.self.places l.self.earlier.items (map (λ r. g.W.Keyed.key l.keyed r) (take l.record-index l.records));
  places : length l.records ≤ spare l.self.places + l.record-index;
  earlier : length l.records ≤ vec_capacity l.self.earlier - vec_len l.self.earlier + l.record-index;
}
