use Rattle.std.proofs.Common.{◌≡◌, drop, fold}
use Rattle.row_values.specs.Store.{read_step}
use Rattle.versions.proofs.index.read_on.Given as goal

abbrev pub invariant-loop-version : goal.invariant-loop-version
invariant-loop-version l = fold (read_step l.key l.x) l.row (drop l.version-index l.versions) ≡ fold (read_step l.key l.x) l.fn.before l.versions
