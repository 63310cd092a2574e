use Rattle.std.proofs.Common.{◌≡◌, ◌≤◌, ◌++◌, drop, length, map}
use Rattle.master_part.specs.Cloning.{owner_by, Unowned}
use Rattle.master_part.proofs.cloning.add_owners.Given as goal

abbrev pub invariant-loop-pair : goal.invariant-loop-pair
invariant-loop-pair l = record {
  room : length (drop l.pair-index l.pairs) ≤ l.catalog.room;
  unowned : Unowned l.namespace l.catalog.catalog.owners (drop l.pair-index l.pairs);
  owners : l.catalog.catalog.owners ++ map (owner_by l.namespace) (drop l.pair-index l.pairs) ≡ l.fn.catalog.catalog.owners ++ map (owner_by l.namespace) l.pairs;
  rest : record l.catalog.catalog { owners = l.fn.catalog.catalog.owners } ≡ l.fn.catalog.catalog;
}
