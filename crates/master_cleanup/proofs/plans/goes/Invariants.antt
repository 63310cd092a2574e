use Rattle.std.proofs.Common.{◌≡◌, drop}
use Rattle.std.specs.List.{list_any}
use Rattle.row_values.specs.Ids.{same}
use Rattle.model.specs.Acts.{Removal}
use Rattle.master_cleanup.proofs.plans.goes.Given as goal

abbrev pub invariant-loop-removal : goal.invariant-loop-removal
invariant-loop-removal l =
    list_any (λ (t : Removal). same t.target l.tablet) (drop l.removal-index l.gone)
    ≡ list_any (λ (t : Removal). same t.target l.tablet) l.gone
