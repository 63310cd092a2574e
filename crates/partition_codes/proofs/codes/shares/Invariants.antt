use Rattle.std.proofs.Common.{◌≡◌, ℕ, ◌<◌, ◌*◌, ◌/◌, length, slice_get, Some}
use Rattle.partition_codes.specs.Ranges.{Divide}
use Rattle.partition_codes.proofs.Covers.{share}
use Rattle.partition_codes.proofs.codes.shares.Given as goal

abbrev pub invariant-loop-i : goal.invariant-loop-i
invariant-loop-i l = record {
  count : length l.shares ≡ l.i;
  each : (k : ℕ) → k < l.i → slice_get l.shares k ≡ Some (share l.n k);
  cover : Divide (record { low = 0; high = l.i * 65536 / l.n }) l.shares;
}
