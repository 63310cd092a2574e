use Rattle.std.proofs.Common.{◌≡◌, ◌<◌, ◌^◌, drop}
use Rattle.catalog_core.specs.Codes.{name_code}
use Rattle.catalog_core.proofs.codes.name_code.Given as goal

abbrev pub invariant-loop-byte : goal.invariant-loop-byte
invariant-loop-byte l = record {
  code : name_code l.code (drop l.byte-index l.byte-items) ≡ name_code l.start l.byte-items;
  small : l.code < 2 ^ 32;
}
