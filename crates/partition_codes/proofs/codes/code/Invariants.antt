use Rattle.std.proofs.Common.{◌≡◌, ◌<◌, drop, fold}
use Rattle.row_values.specs.Codes.{code_of, code_step}
use Rattle.partition_codes.proofs.codes.code.Given as goal

abbrev pub invariant-loop-byte : goal.invariant-loop-byte
invariant-loop-byte l = (fold code_step l.code (drop l.byte-index l.byte-items) ≡ code_of l.byte-items) × (l.code < 65536) × (l.byte-items ≡ l.key)
