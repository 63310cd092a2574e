use Rattle.std.proofs.Common.{◌≡◌, drop}
use Rattle.model.specs.Restored.{version_of}
use Rattle.master_moves.proofs.switching.version_of.Given as goal

abbrev pub invariant-loop-found : goal.invariant-loop-found
invariant-loop-found l = version_of (drop l.found-index l.tables) l.table ≡ version_of l.tables l.table
