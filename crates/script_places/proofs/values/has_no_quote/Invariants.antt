use Rattle.std.proofs.Common.{◌≡◌, drop}
use Rattle.script_places.specs.Values.{has_no_quote}
use Rattle.script_places.proofs.values.has_no_quote.Given as goal

abbrev pub invariant-loop-b : goal.invariant-loop-b
invariant-loop-b l = has_no_quote (drop l.b-index l.bytes) ≡ has_no_quote l.bytes
