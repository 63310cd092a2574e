use Rattle.std.proofs.Common.{◌≡◌, ◌≤◌, map, length, take}
use Rattle.newest_index.specs.Newest.{last_place}
use Rattle.yb_ident.specs.contracts.ident.IdentPartialEq.TheImpl as ident
use Rattle.catalog_core.specs.Kept.{table_id, is_begun}
use Rattle.catalog_core.proofs.tables.place_begun.Given as goal

abbrev pub invariant-records : goal.invariant-records
invariant-records l = record {
  within : l.upto ≤ length l.records.items;
  next : l.next ≡ last_place ((ident.ghosts).eq l.id) (take l.upto (map table_id l.records.items));
  rest : last_place (is_begun l.id l.x) l.records.items ≡ last_place (is_begun l.id l.x) (take l.upto l.records.items);
}

abbrev pub decreases-records : goal.decreases-records
decreases-records l = l.upto
