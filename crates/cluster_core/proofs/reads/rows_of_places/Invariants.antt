use Rattle.std.proofs.Common.{◌≡◌, ◌≤◌, drop, length}
use Rattle.row_values.specs.Elements.{in_order}
use Rattle.model.specs.Times.{time_of}
use Rattle.model.specs.RowActs.{rows_of_places}
use Rattle.cluster_core.specs.Reads.{tablets_in, comes_before}
use Rattle.cluster_core.proofs.reads.rows_of_places.Given as goal

abbrev pub invariant-places : goal.invariant-places
invariant-places g l = record {
  rows : l.rows ≡ in_order comes_before (rows_of_places (drop l.upto l.places) l.key (time_of l.at l.stamp) (tablets_in l.held));
  within : l.upto ≤ length l.places;
}

abbrev pub decreases-places : goal.decreases-places
decreases-places g l = l.upto
