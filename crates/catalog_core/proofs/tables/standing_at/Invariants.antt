use Rattle.std.proofs.Common.{◌≡◌, ◌≤◌, [], map, length, take, drop}
use Rattle.newest_index.specs.Newest.{last_place}
use Rattle.newest_index.specs.Gathered.{gathered}
use Rattle.yb_ident.specs.contracts.ident.IdentPartialEq.TheImpl as ident
use Rattle.model.specs.Catalog.{TableRecord}
use Rattle.catalog_core.specs.Kept.{table_space, put_standing}
use Rattle.catalog_core.proofs.tables.standing_at.Given as goal

abbrev pub invariant-records : goal.invariant-records
invariant-records l = record {
  within : l.upto ≤ length l.records.items;
  next : l.next ≡ last_place ((ident.ghosts).eq l.namespace) (take l.upto (map table_space l.records.items));
  found : l.found.items ≡ gathered (λ (r : TableRecord). (ident.ghosts).eq l.namespace (table_space r)) (put_standing l.namespace l.x) [] (drop l.upto l.records.items);
}

abbrev pub decreases-records : goal.decreases-records
decreases-records l = l.upto
