use Rattle.std.proofs.Common.{◌≡◌, ◌-◌, ◌++◌, drop, map}
use Rattle.model.specs.Restored.{end_namespace_tablets, begun_at}
use Rattle.catalog_tablets.proofs.again.restore_tablets.Given as goal

abbrev pub invariant-loop-interval : goal.invariant-loop-interval
invariant-loop-interval l = record {
  begun : l.tablets.activity ++ map (begun_at l.point) (drop l.interval-index l.back)
      ≡ end_namespace_tablets l.catalog.catalog.owners l.fn.namespace l.point l.fn.tablets.activity ++ map (begun_at l.point) l.back;
  room : l.tablets.room ≡ l.fn.tablets.room - l.interval-index;
}
