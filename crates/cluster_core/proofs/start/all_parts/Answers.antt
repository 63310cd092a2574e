use Rattle.std.proofs.Common.{◌∷◌, ◌++◌, [], map, ap, ◌∙◌}
use Rattle.std.proofs.lemmas.List.{map-append}
use Rattle.cluster_core.specs.Tellings.{meaning}
use Rattle.cluster_core.specs.Starts.{parts_up_to}
use Rattle.cluster_core.proofs.Started.{one_more}
use Rattle.cluster_core.proofs.start.all_parts.Goals as goal

pub loop-preserved : goal.loop-preserved
loop-preserved g c =
    ap (map meaning) c.in_ok-push-2.ensures.items
    ∙ map-append meaning c.loop.parts.items (c.in_ok-vacant.field-0 ∷ [])
    ∙ ap (λ ps. ps ++ meaning c.in_ok-vacant.field-0 ∷ []) c.loop.invariant
    ∙ ap (λ p. parts_up_to c.args.slots c.loop.counter ++ p ∷ []) c.in_ok-vacant.ensures.exact
    ∙ one_more c.args.slots c.loop.counter
