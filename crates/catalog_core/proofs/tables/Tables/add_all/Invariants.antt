use Rattle.std.proofs.Common.{◌≡◌, ◌+◌, ◌++◌, length}
use Rattle.std.specs.Vec.Iter.{into_iter_items}
use Rattle.catalog_core.specs.Begins.{BeginsAll}
use Rattle.catalog_core.proofs.tables.Tables.add_all.Given as goal

abbrev pub invariant-loop-table : goal.invariant-loop-table
invariant-loop-table l = record {
  can_next : (goal.iterator-loop-table).can_next l.table-iterator;
  finite : (goal.iterator-loop-table).is_finite l.table-iterator;
  begin : BeginsAll l.self.items (into_iter_items l.table-iterator);
  items : l.self.items ++ into_iter_items l.table-iterator ≡ l.fn.self.items ++ l.fn.tables.items;
  room : l.self.room + length l.fn.tables.items ≡ l.fn.self.room + length (into_iter_items l.table-iterator);
}
