use Rattle.std.proofs.Common.{◌≡◌, drop}
use Rattle.model.specs.RowActs.{moved_from_scan}
use Rattle.cluster_core.specs.Reads.{tablets_in}
use Rattle.cluster_core.proofs.reads.moved_from_scan.Given as goal

abbrev pub invariant-loop-i : goal.invariant-loop-i
invariant-loop-i g l = moved_from_scan (drop l.i l.places) l.from (tablets_in l.held) ≡ moved_from_scan l.places 0 (tablets_in l.held)
