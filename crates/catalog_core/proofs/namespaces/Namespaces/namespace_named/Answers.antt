use Rattle.std.proofs.Common.{Some, sym, ap, ◌∙◌}
use Rattle.std.specs.Option.{option_map}
use Rattle.newest_index.specs.Newest.{open_at}
use Rattle.catalog_core.specs.Kept.{is_current_space, space_id}
use Rattle.catalog_core.proofs.Spaces.{space_here}
use Rattle.catalog_core.proofs.namespaces.Namespaces.namespace_named.Goals as goal

pub returns-in-Some : goal.returns-in-Some
returns-in-Some c =
    let rs = c.self.inside.records.items in
    let found = c.in-Some.ensures ∙ ap (open_at is_current_space rs) c.place_named-place.ensures.last in
    rw (← c.self.view_is) (ap (λ r. option_map space_id (Some r)) c.record.view_is ∙ ap (option_map space_id) found ∙ sym (space_here rs c.args.name.now c.self.invariant.names))

pub returns-in-None : goal.returns-in-None
returns-in-None c =
    let rs = c.self.inside.records.items in
    let found = c.in-None.ensures ∙ ap (open_at is_current_space rs) c.place_named-place.ensures.last in
    rw (← c.self.view_is) (ap (option_map space_id) found ∙ sym (space_here rs c.args.name.now c.self.invariant.names))
