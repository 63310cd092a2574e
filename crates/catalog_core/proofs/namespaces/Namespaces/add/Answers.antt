use Rattle.std.proofs.Common.{◌≡◌, ◌+◌, ◌++◌, ◌∷◌, [], map, length, filter, sym, ap, ◌∙◌, arith, rules}
use Rattle.std.proofs.lemmas.List.{map-append}
use Rattle.model.specs.Times.{is_open}
use Rattle.model.specs.Catalog.{NamespaceRecord}
use Rattle.newest_index.proofs.Opens.{indexes-of}
use Rattle.newest_index.proofs.Turns.{in_turn-of}
use Rattle.catalog_core.specs.Codes.{space_code, name_code}
use Rattle.catalog_core.specs.Kept.{is_current_space, space_id, one_if}
use Rattle.catalog_core.proofs.Names.{count_next, count_within}
use Rattle.catalog_core.proofs.Spaces.{added_name, added_id}
use Rattle.catalog_core.proofs.namespaces.Namespaces.add.Goals as goal

pub invariant_of-self : goal.invariant_of-self
invariant_of-self c =
    let rs = c.self.inside.records.items in
    let r = c.args.namespace in
    let i = c.self.invariant in
    let e : c.push.new.self.items ≡ rs ++ r ∷ [] = rw c.unwrap.ensures at c.push.ensures.items in
    let free = rw (← c.self.view_is) at c.requires.free in
    let fresh = rw (← c.self.view_is) at c.requires.fresh in
    let code : c.name_code.result ≡ space_code r = c.name_code.ensures.code ∙ ap (λ (t : NamespaceRecord). name_code 0 t.name) c.namespace.view_is in
    let one = count_next is_current_space rs r ∙ ap (λ o. length (filter is_current_space rs) + one_if (is_open o)) c.requires.current in
    let count = ap (λ xs. length (filter is_current_space xs)) e ∙ one in
    record {
      named = indexes-of (map space_code rs ++ c.name_code.result ∷ []) (map space_code c.push.new.self.items)
          (ap (map space_code) e ∙ map-append space_code rs (r ∷ []) ∙ sym (ap (λ k. map space_code rs ++ k ∷ []) code)) (c.note.ensures.noted (map space_code rs) i.named);
      by_id = indexes-of (map space_id rs ++ c.namespace.inside.id ∷ []) (map space_id c.push.new.self.items)
          (ap (map space_id) e ∙ map-append space_id rs (r ∷ []) ∙ sym (ap (λ (t : NamespaceRecord). map space_id rs ++ t.id ∷ []) c.namespace.view_is)) (c.note-2.ensures.noted (map space_id rs) i.by_id);
      names = in_turn-of (rs ++ r ∷ []) c.push.new.self.items e (added_name rs r free i.names);
      ids = in_turn-of (rs ++ r ∷ []) c.push.new.self.items e (added_id rs r fresh i.ids);
      counted = omega (arith, count, i.counted);
      records_room = search rules;
      named_room = search rules;
      named_links = search rules;
      by_id_room = search rules;
      by_id_links = search rules;
    }

pub overflow_add-self : goal.overflow_add-self
overflow_add-self c =
    let records = c.self.inside.records in
    let within = count_within is_current_space records.items in
    omega (arith, c.self.invariant.counted, within, records.ok.0, records.ok.1, records.small)
