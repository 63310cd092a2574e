use Rattle.std.proofs.Common.{◌≡◌, drop}
use Rattle.std.specs.List.{list_any}
use Rattle.row_values.specs.Ids.{same}
use Rattle.model.specs.Records.{TabletPair}
use Rattle.clone_coord.proofs.looks.has_source.Given as goal

abbrev pub invariant-loop-pair : goal.invariant-loop-pair
invariant-loop-pair l =
    list_any (λ (p : TabletPair). same p.source l.tablet) (drop l.pair-index l.pairs)
    ≡ list_any (λ (p : TabletPair). same p.source l.tablet) l.pairs
