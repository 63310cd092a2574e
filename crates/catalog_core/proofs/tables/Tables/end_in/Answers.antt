use Rattle.std.proofs.Common.{◌≡◌, map, length, if◌then◌else◌, refl, sym, ap, ◌∙◌, arith}
use Rattle.row_values.specs.Ids.{same}
use Rattle.model.specs.Catalog.{end_tables, current_tables}
use Rattle.newest_index.proofs.Opens.{indexes-of}
use Rattle.newest_index.proofs.Turns.{in_turn-of}
use Rattle.catalog_core.specs.Codes.{table_code}
use Rattle.catalog_core.specs.Kept.{table_id, table_space}
use Rattle.catalog_core.proofs.InSpaces.{closes_in, closed_codes, closed_ids, closed_spaces, closed_names, closed_by_id, count_closed}
use Rattle.catalog_core.proofs.tables.Tables.end_in.Goals as goal

records_are : (c : goal.After-clear_count) → c.change.new.records.items ≡ end_tables c.args.namespace.now c.args.at c.self.inside.records.items
records_are c =
    let k = c.keys_agree.ensures in
    c.change.ensures.all table_space c.self.invariant.by_space
    ∙ closes_in _ k.laws k.idents c.self.inside.records.items c.args.namespace.now c.args.at

pub invariant_of-self : goal.invariant_of-self
invariant_of-self c =
    let rs = c.self.inside.records.items in
    let ns = c.args.namespace.now in
    let at = c.args.at in
    let i = c.self.invariant in
    let new = c.change.new.records.items in
    let e = records_are c in
    record {
      named = indexes-of (map table_code rs) (map table_code new) (ap (map table_code) e ∙ closed_codes rs ns at) i.named;
      by_id = indexes-of (map table_id rs) (map table_id new) (ap (map table_id) e ∙ closed_ids rs ns at) i.by_id;
      by_space = indexes-of (map table_space rs) (map table_space new) (ap (map table_space) e ∙ closed_spaces rs ns at) i.by_space;
      names = in_turn-of (end_tables ns at rs) new e (closed_names rs ns at i.names);
      ids = in_turn-of (end_tables ns at rs) new e (closed_by_id rs ns at i.ids);
      counted = λ q.
          c.clear_count.ensures.counted q
          ∙ ap (λ n. if same ns q then 0 else n) (i.counted q)
          ∙ sym (ap (λ xs. length (current_tables xs q)) e ∙ count_closed c.keys_agree.ensures.equal rs ns q at (same ns q) refl);
      records_room = rw c.change.ensures.room i.records_room;
      named_room = i.named_room;
      named_links = i.named_links;
      by_id_room = i.by_id_room;
      by_id_links = i.by_id_links;
      by_space_room = i.by_space_room;
      by_space_links = i.by_space_links;
      counts_room = omega (arith, i.counts_room, c.clear_count.ensures.room);
    }

pub returns-clause-items : goal.returns-clause-items
returns-clause-items c = rw (← c.self.view_is) (records_are c)
