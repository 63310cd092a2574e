use Rattle.std.proofs.Common.{◌≡◌, drop}
use Rattle.model.specs.Journal.{source_of}
use Rattle.journal_model.proofs.view.source_of.Given as goal

abbrev pub invariant-loop-pair : goal.invariant-loop-pair
invariant-loop-pair l = source_of (drop l.pair-index l.pair-items) l.target ≡ source_of l.pair-items l.target
