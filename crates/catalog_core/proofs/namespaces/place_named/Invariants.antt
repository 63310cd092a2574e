use Rattle.std.proofs.Common.{◌≡◌, map, take, nat_eq}
use Rattle.newest_index.specs.Newest.{last_place}
use Rattle.catalog_core.specs.Codes.{space_code, name_code}
use Rattle.catalog_core.proofs.Spaces.{has_this_name}
use Rattle.catalog_core.proofs.namespaces.place_named.Given as goal

abbrev pub invariant-records : goal.invariant-records
invariant-records l = record {
  next : l.next ≡ last_place (nat_eq (name_code 0 l.name)) (take l.upto (map space_code l.records.items));
  rest : last_place (has_this_name l.name) l.records.items ≡ last_place (has_this_name l.name) (take l.upto l.records.items);
}

abbrev pub decreases-records : goal.decreases-records
decreases-records l = l.upto
