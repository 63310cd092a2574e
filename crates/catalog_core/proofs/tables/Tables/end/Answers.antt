use Rattle.std.proofs.Common.{◌≡◌, ◌-◌, map, length, sym, ap, ◌∙◌, arith}
use Rattle.model.specs.Catalog.{end_table, current_tables}
use Rattle.newest_index.specs.Newest.{changed_at}
use Rattle.newest_index.proofs.Opens.{indexes-of}
use Rattle.newest_index.proofs.Turns.{in_turn-of}
use Rattle.yb_ident.specs.contracts.ident.IdentPartialEq.TheImpl as ident
use Rattle.catalog_core.specs.Codes.{table_code}
use Rattle.catalog_core.specs.Kept.{table_id, table_space, table_closed, one_if, is_named, count_in}
use Rattle.catalog_core.proofs.Found.{end_here, ended_codes, ended_ids, ended_spaces, ended_names, ended_by_id, count_ended}
use Rattle.catalog_core.proofs.tables.Tables.end.Goals as goal

records_are : (c : goal.After-lower_count) → c.end_place-namespace.new.records.items ≡ end_table c.args.id.now c.args.at c.self.inside.records.items
records_are c =
    let k = c.keys_agree.ensures in
    let rs = c.self.inside.records.items in
    c.end_place-namespace.ensures.items
    ∙ ap (changed_at (table_closed c.args.at) rs) (c.newest-place.ensures (map table_id rs) c.self.invariant.by_id)
    ∙ sym (end_here _ k.laws k.idents k.equal rs c.args.id.now c.args.at c.self.invariant.ids)

pub invariant_of-self : goal.invariant_of-self
invariant_of-self c =
    let rs = c.self.inside.records.items in
    let id = c.args.id.now in
    let at = c.args.at in
    let i = c.self.invariant in
    let p = c.newest-place.result in
    let e = records_are c in
    record {
      named = indexes-of (map table_code rs) (map table_code c.end_place-namespace.new.records.items) (ap (map table_code) e ∙ ended_codes rs id at) i.named;
      by_id = indexes-of (map table_id rs) (map table_id c.end_place-namespace.new.records.items) (ap (map table_id) e ∙ ended_ids rs id at) i.by_id;
      by_space = indexes-of (map table_space rs) (map table_space c.end_place-namespace.new.records.items) (ap (map table_space) e ∙ ended_spaces rs id at) i.by_space;
      names = in_turn-of (end_table id at rs) c.end_place-namespace.new.records.items e (ended_names rs id at i.names);
      ids = in_turn-of (end_table id at rs) c.end_place-namespace.new.records.items e (ended_by_id rs id at i.ids);
      counted = λ ns.
          let was = count_ended rs p ns at in
          let new = ap (λ xs. length (current_tables xs ns)) c.end_place-namespace.ensures.items in
          let old = i.counted ns in
          let less = c.lower_count.ensures.counted ns ∙ ap (λ o. count_in (ident.ghosts).eq c.self.inside.counts ns - one_if (is_named o ns)) c.end_place-namespace.ensures.ended in
          omega (arith, was, new, old, less);
      records_room = rw c.end_place-namespace.ensures.room i.records_room;
      named_room = i.named_room;
      named_links = i.named_links;
      by_id_room = i.by_id_room;
      by_id_links = i.by_id_links;
      by_space_room = i.by_space_room;
      by_space_links = i.by_space_links;
      counts_room = omega (arith, i.counts_room, c.lower_count.ensures.room);
    }

pub returns-clause-items : goal.returns-clause-items
returns-clause-items c = rw (← c.self.view_is) (records_are c)
