use Rattle.std.proofs.Common.{◌≡◌, ◌++◌, take, drop}
use Rattle.model.specs.Catalog.{TableRecord, put_table}
use Rattle.catalog_core.proofs.standing.place_of.Given as goal

abbrev pub invariant-loop-other : goal.invariant-loop-other
invariant-loop-other l = record {
  put : (t : TableRecord) → t.id.number ≡ l.number → put_table t l.found ≡ take l.place l.found ++ put_table t (drop l.place l.found);
  place : l.place ≡ l.other-index;
}
