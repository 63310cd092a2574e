use Rattle.std.proofs.Common.{map, Some, sym, ap, ◌∙◌}
use Rattle.std.specs.Option.{option_map}
use Rattle.newest_index.specs.Newest.{open_at}
use Rattle.catalog_core.specs.Kept.{is_current_space, space_id}
use Rattle.catalog_core.proofs.Spaces.{name_here, space_name}
use Rattle.catalog_core.proofs.namespaces.Namespaces.name_of.Goals as goal

pub returns-in-Some : goal.returns-in-Some
returns-in-Some c =
    let rs = c.self.inside.records.items in
    let place = c.newest-place.ensures (map space_id rs) c.self.invariant.by_id in
    let found = c.in-Some.ensures ∙ ap (open_at is_current_space rs) place in
    rw (← c.self.view_is)
    (ap (λ r. option_map space_name (Some r)) c.record.view_is
    ∙ ap (option_map space_name) found
    ∙ sym (name_here _ c.keys_agree.ensures.laws c.keys_agree.ensures.idents rs c.args.id.now c.self.invariant.ids))

pub returns-in-None : goal.returns-in-None
returns-in-None c =
    let rs = c.self.inside.records.items in
    let place = c.newest-place.ensures (map space_id rs) c.self.invariant.by_id in
    let found = c.in-None.ensures ∙ ap (open_at is_current_space rs) place in
    rw (← c.self.view_is)
    (ap (option_map space_name) found
    ∙ sym (name_here _ c.keys_agree.ensures.laws c.keys_agree.ensures.idents rs c.args.id.now c.self.invariant.ids))
