use Rattle.std.proofs.Common.{map, length, List, sym, ap, ◌∙◌, rules}
use Rattle.std.specs.List.{filter}
use Rattle.model.specs.Catalog.{TableRecord, current_tables}
use Rattle.newest_index.proofs.Opens.{indexes-of}
use Rattle.newest_index.proofs.Turns.{in_turn-of, in_turn-filter}
use Rattle.catalog_core.specs.Codes.{table_code}
use Rattle.catalog_core.specs.Kept.{table_id, table_space, same_table_name, same_table_id, table_over}
use Rattle.catalog_core.proofs.Stood.{current_stay}
use Rattle.catalog_core.proofs.tables.Tables.keep.Goals as goal

pub invariant_of-self : goal.invariant_of-self
invariant_of-self g c =
    let rs = c.self.inside.records.items in
    let i = c.self.invariant in
    let stays = g.T.Keeps.stays c.args.test.now in
    let e = c.retain.ensures.items in
    let kept = filter (λ (r : TableRecord). stays r) rs in
    record {
      named = indexes-of (map table_code c.as_slice.result.now) (map table_code c.retain.new.records.items) (sym (ap (map table_code) c.as_slice.ensures.value)) c.index_anew.ensures.anew;
      by_id = indexes-of (map table_id c.as_slice-2.result.now) (map table_id c.retain.new.records.items) (sym (ap (map table_id) c.as_slice-2.ensures.value)) c.index_anew-2.ensures.anew;
      by_space = indexes-of (map table_space c.as_slice-3.result.now) (map table_space c.retain.new.records.items) (sym (ap (map table_space) c.as_slice-3.ensures.value)) c.index_anew-3.ensures.anew;
      names = in_turn-of kept c.retain.new.records.items e (in_turn-filter same_table_name table_over (λ (r : TableRecord). stays r) rs i.names);
      ids = in_turn-of kept c.retain.new.records.items e (in_turn-filter same_table_id table_over (λ (r : TableRecord). stays r) rs i.ids);
      counted = λ ns.
          i.counted ns ∙ ap length (sym (current_stay (λ (r : TableRecord). stays r) c.requires.current ns rs))
          ∙ sym (ap (λ (ts : List TableRecord). length (current_tables ts ns)) e);
      records_room = search rules;
      named_room = search rules;
      named_links = search rules;
      by_id_room = search rules;
      by_id_links = search rules;
      by_space_room = search rules;
      by_space_links = search rules;
      counts_room = search rules;
    }
