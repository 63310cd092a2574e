use Rattle.std.proofs.Common.{◌≡◌, ◌-◌, ◌++◌, length, drop}
use Rattle.model.specs.Changed.{shares}
use Rattle.catalog_tablets.proofs.tablets.Tablets.begin_shares.Given as goal

abbrev pub invariant-loop-slot : goal.invariant-loop-slot
invariant-loop-slot l = record {
  made : l.self.activity ++ shares (drop l.slot-index l.slots) l.place (length l.slots) l.at l.drawn l.table ≡ l.fn.self.activity ++ shares l.slots 0 (length l.slots) l.at l.drawn l.table;
  place : l.place ≡ l.slot-index;
  room : l.self.room ≡ l.fn.self.room - l.slot-index;
}
