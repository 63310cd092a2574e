use Rattle.std.proofs.Common.{map, length, List, sym, ap, ◌∙◌, rules}
use Rattle.std.specs.List.{filter}
use Rattle.model.specs.Catalog.{NamespaceRecord}
use Rattle.newest_index.proofs.Opens.{indexes-of}
use Rattle.newest_index.proofs.Turns.{in_turn-of, in_turn-filter}
use Rattle.catalog_core.specs.Codes.{space_code}
use Rattle.catalog_core.specs.Kept.{is_current_space, space_id, same_space_name, same_space_id, space_over}
use Rattle.catalog_core.proofs.Stood.{filtered_stay}
use Rattle.catalog_core.proofs.namespaces.Namespaces.keep.Goals as goal

pub invariant_of-self : goal.invariant_of-self
invariant_of-self g c =
    let rs = c.self.inside.records.items in
    let i = c.self.invariant in
    let stays = g.T.Keeps.stays c.args.test.now in
    let e = c.retain.ensures.items in
    let kept = filter (λ (r : NamespaceRecord). stays r) rs in
    record {
      named = indexes-of (map space_code c.as_slice.result.now) (map space_code c.retain.new.records.items) (sym (ap (map space_code) c.as_slice.ensures.value)) c.index_anew.ensures.anew;
      by_id = indexes-of (map space_id c.as_slice-2.result.now) (map space_id c.retain.new.records.items) (sym (ap (map space_id) c.as_slice-2.ensures.value)) c.index_anew-2.ensures.anew;
      names = in_turn-of kept c.retain.new.records.items e (in_turn-filter same_space_name space_over (λ (r : NamespaceRecord). stays r) rs i.names);
      ids = in_turn-of kept c.retain.new.records.items e (in_turn-filter same_space_id space_over (λ (r : NamespaceRecord). stays r) rs i.ids);
      counted = i.counted ∙ ap length (sym (filtered_stay is_current_space (λ (r : NamespaceRecord). stays r) c.requires.current rs))
          ∙ sym (ap (λ (rs : List NamespaceRecord). length (filter is_current_space rs)) e);
      records_room = search rules;
      named_room = search rules;
      named_links = search rules;
      by_id_room = search rules;
      by_id_links = search rules;
    }
