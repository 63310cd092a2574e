use Rattle.std.proofs.Common.{◌≡◌, ◌+◌, map, length, filter, sym, ap, ◌∙◌, arith}
use Rattle.model.specs.Catalog.{end_namespace}
use Rattle.newest_index.specs.Newest.{changed_at}
use Rattle.newest_index.proofs.Opens.{indexes-of}
use Rattle.newest_index.proofs.Turns.{in_turn-of}
use Rattle.catalog_core.specs.Codes.{space_code}
use Rattle.catalog_core.specs.Kept.{is_current_space, space_id, space_ended}
use Rattle.catalog_core.proofs.Names.{count_changed, shut}
use Rattle.catalog_core.proofs.Spaces.{end_here, ended_codes, ended_ids, ended_names, ended_by_id}
use Rattle.catalog_core.proofs.namespaces.Namespaces.end.Goals as goal

records_are : (c : goal.After-end_place) → c.end_place.new.records.items ≡ end_namespace c.args.id.now c.args.at c.self.inside.records.items
records_are c =
    let rs = c.self.inside.records.items in
    c.end_place.ensures.items
    ∙ ap (changed_at (space_ended c.args.at) rs) (c.newest-place.ensures (map space_id rs) c.self.invariant.by_id)
    ∙ sym (end_here _ c.keys_agree.ensures.laws c.keys_agree.ensures.idents rs c.args.id.now c.args.at c.self.invariant.ids)

counts : (c : goal.After-end_place) → length (filter is_current_space c.end_place.new.records.items) + c.end_place.result ≡ c.self.inside.current
counts c =
    let rs = c.self.inside.records.items in
    ap (λ xs. length (filter is_current_space xs) + c.end_place.result) c.end_place.ensures.items
    ∙ ap (λ n. length (filter is_current_space (changed_at (space_ended c.args.at) rs c.newest-place.result)) + n) c.end_place.ensures.ended
    ∙ count_changed is_current_space (space_ended c.args.at) rs c.newest-place.result (λ r. shut r.to c.args.at)
    ∙ sym c.self.invariant.counted

pub overflow_sub-self : goal.overflow_sub-self
overflow_sub-self c = let n = counts c in omega (arith, n)

pub invariant_of-self : goal.invariant_of-self
invariant_of-self c =
    let rs = c.self.inside.records.items in
    let id = c.args.id.now in
    let at = c.args.at in
    let i = c.self.invariant in
    let e = records_are c.before in
    let n = counts c.before in
    record {
      named = indexes-of (map space_code rs) (map space_code c.end_place.new.records.items) (ap (map space_code) e ∙ ended_codes rs id at) i.named;
      by_id = indexes-of (map space_id rs) (map space_id c.end_place.new.records.items) (ap (map space_id) e ∙ ended_ids rs id at) i.by_id;
      names = in_turn-of (end_namespace id at rs) c.end_place.new.records.items e (ended_names rs id at i.names);
      ids = in_turn-of (end_namespace id at rs) c.end_place.new.records.items e (ended_by_id rs id at i.ids);
      counted = omega (arith, n);
      records_room = rw c.end_place.ensures.room i.records_room;
      named_room = i.named_room;
      named_links = i.named_links;
      by_id_room = i.by_id_room;
      by_id_links = i.by_id_links;
    }

pub returns-clause-items : goal.returns-clause-items
returns-clause-items c = rw (← c.self.view_is) (records_are c.before)
