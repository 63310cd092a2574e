use Rattle.std.proofs.Common.{◌≡◌, ◌≤◌, ◌+◌, ◌&&◌, ◌++◌, ◌∷◌, [], map, length, sym, ap, ◌∙◌, arith, rules}
use Rattle.std.proofs.lemmas.List.{map-append}
use Rattle.row_values.specs.Ids.{same}
use Rattle.model.specs.Times.{is_open}
use Rattle.model.specs.Catalog.{TableRecord, current_tables}
use Rattle.newest_index.proofs.Opens.{indexes-of}
use Rattle.newest_index.proofs.Turns.{in_turn-of}
use Rattle.catalog_core.specs.Codes.{table_code, code_in}
use Rattle.catalog_core.specs.Kept.{table_id, table_space, one_if}
use Rattle.catalog_core.proofs.Names.{count_next, count_within}
use Rattle.catalog_core.proofs.Found.{added_name, added_id, of_namespace}
use Rattle.catalog_core.proofs.tables.Tables.add.Goals as goal

pub invariant_of-self : goal.invariant_of-self
invariant_of-self c =
    let rs = c.self.inside.records.items in
    let r = c.args.table in
    let i = c.self.invariant in
    let e : c.push.new.self.items ≡ rs ++ r ∷ [] = rw c.unwrap.ensures at c.push.ensures.items in
    let free = rw (← c.self.view_is) at c.requires.free in
    let fresh = rw (← c.self.view_is) at c.requires.fresh in
    let past = rw (← c.self.view_is) at c.requires.past in
    let code : c.code_in.result ≡ table_code r = c.code_in.ensures.code ∙ ap (λ (t : TableRecord). code_in t.namespace t.name) c.table.view_is in
    record {
      named = indexes-of (map table_code rs ++ c.code_in.result ∷ []) (map table_code c.push.new.self.items)
          (ap (map table_code) e ∙ map-append table_code rs (r ∷ []) ∙ sym (ap (λ k. map table_code rs ++ k ∷ []) code)) (c.note.ensures.noted (map table_code rs) i.named);
      by_id = indexes-of (map table_id rs ++ c.table.inside.id ∷ []) (map table_id c.push.new.self.items)
          (ap (map table_id) e ∙ map-append table_id rs (r ∷ []) ∙ sym (ap (λ (t : TableRecord). map table_id rs ++ t.id ∷ []) c.table.view_is)) (c.note-2.ensures.noted (map table_id rs) i.by_id);
      by_space = indexes-of (map table_space rs ++ c.table.inside.namespace ∷ []) (map table_space c.push.new.self.items)
          (ap (map table_space) e ∙ map-append table_space rs (r ∷ []) ∙ sym (ap (λ (t : TableRecord). map table_space rs ++ t.namespace ∷ []) c.table.view_is))
          (c.note-3.ensures.noted (map table_space rs) i.by_space);
      names = in_turn-of (rs ++ r ∷ []) c.push.new.self.items e (added_name rs r free past i.names);
      ids = in_turn-of (rs ++ r ∷ []) c.push.new.self.items e (added_id rs r fresh past i.ids);
      counted = λ ns.
          c.raise_count.ensures.counted ns
          ∙ ap (λ n. n + one_if (same c.table.inside.namespace ns)) (i.counted ns)
          ∙ ap (λ (t : TableRecord). length (current_tables rs ns) + one_if (same t.namespace ns)) c.table.view_is
          ∙ ap (λ o. length (current_tables rs ns) + one_if (is_open o && same r.namespace ns)) (sym c.requires.current)
          ∙ sym (count_next (of_namespace ns) rs r)
          ∙ sym (ap (λ xs. length (current_tables xs ns)) e);
      records_room = search rules;
      named_room = search rules;
      named_links = search rules;
      by_id_room = search rules;
      by_id_links = search rules;
      by_space_room = search rules;
      by_space_links = search rules;
      counts_room = search rules;
    }

pub raise_count-requires-clause-small : goal.raise_count-requires-clause-small
raise_count-requires-clause-small c =
    let records = c.self.inside.records in
    let ns = c.table.inside.namespace in
    let within : length (current_tables records.items ns) ≤ length records.items = count_within (of_namespace ns) records.items in
    omega (arith, c.self.invariant.counted ns, within, records.ok.0, records.ok.1, records.small)
