use Rattle.std.proofs.Common.{◌≡◌, map, take, nat_eq}
use Rattle.newest_index.specs.Newest.{last_place}
use Rattle.catalog_core.specs.Codes.{table_code, code_in}
use Rattle.catalog_core.specs.Kept.{is_sought}
use Rattle.catalog_core.proofs.tables.place_named.Given as goal

abbrev pub invariant-records : goal.invariant-records
invariant-records l = record {
  next : l.next ≡ last_place (nat_eq (code_in l.namespace l.name)) (take l.upto (map table_code l.records.items));
  rest : last_place (is_sought l.namespace l.name l.begun) l.records.items ≡ last_place (is_sought l.namespace l.name l.begun) (take l.upto l.records.items);
}

abbrev pub decreases-records : goal.decreases-records
decreases-records l = l.upto
