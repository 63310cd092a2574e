use Rattle.std.proofs.Common.{◌≡◌, ◌≤◌, ◌^◌, drop}
use Rattle.row_values.specs.Stamps.{greatest}
use Rattle.hybrid_time.proofs.clock.HybridClock.stamp.Given as goal

abbrev pub invariant-loop-other : goal.invariant-loop-other
invariant-loop-other l = (greatest l.greatest (drop l.other-index l.others) ≡ greatest l.self-inside.last l.others) × (l.greatest ≤ 2 ^ 62)
