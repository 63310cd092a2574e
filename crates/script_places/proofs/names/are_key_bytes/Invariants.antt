use Rattle.std.proofs.Common.{◌≡◌, drop}
use Rattle.std.specs.List.{list_all}
use Rattle.script_places.specs.Names.{is_key_byte}
use Rattle.script_places.proofs.names.are_key_bytes.Given as goal

abbrev pub invariant-loop-b : goal.invariant-loop-b
invariant-loop-b l = list_all is_key_byte (drop l.b-index l.bytes) ≡ list_all is_key_byte l.bytes
