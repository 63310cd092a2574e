use Rattle.std.proofs.Common.{rules, List, ℕ, sym, subst, ap, ◌+◌, map, []}
use Rattle.newest_index.proofs.Opens.{indexes-of}
use Rattle.kept_records.specs.Gathered.{present_of, kept_key}
use Rattle.catalog_tablets.specs.View.{tablet_of, table_of, slot_of}
use Rattle.catalog_tablets.specs.Slots.{Counts, number_in}
use Rattle.catalog_tablets.proofs.Counted.{none_counted, counts_of}
use Rattle.catalog_tablets.proofs.tablets.Tablets.for_slots.Goals as goal

pub invariant_of-result : goal.invariant_of-result
invariant_of-result c =
    let none = c.new-2.ensures.items in
    record {
      by_tablet = indexes-of [] _ (ap (map (kept_key tablet_of)) none) c.new-3.ensures;
      by_table = indexes-of [] _ (ap (map (kept_key table_of)) none) c.new-4.ensures;
      by_slot = indexes-of [] _ (ap (map (kept_key slot_of)) none) c.new-5.ensures;
      counted = counts_of [] (present_of c.new-2.result.items) c.in_ok-in_slots.in_slots (ap present_of none)
          (subst (λ (counts : List ℕ). Counts counts (number_in [])) (sym c.in_ok-in_slots.ensures.unused) (none_counted (c.args.slots + 1)));
      list_room = search rules;
      tablet_room = search rules;
      tablet_links = search rules;
      table_room = search rules;
      table_links = search rules;
      slot_room = search rules;
      slot_links = search rules;
    }
