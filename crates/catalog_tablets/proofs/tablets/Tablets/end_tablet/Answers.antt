use Rattle.std.proofs.Common.{refl, ap, ◌∙◌}
use Rattle.kept_records.specs.Gathered.{present_of, changes_record}
use Rattle.kept_records.proofs.Gathering.{changed_present, stays}
use Rattle.catalog_tablets.specs.View.{tablet_of, table_of, slot_of, ends_at}
use Rattle.catalog_tablets.proofs.Active.{tablet_ended}
use Rattle.catalog_tablets.proofs.Counted.{counted_ended, counts_of}
use Rattle.catalog_tablets.proofs.tablets.Tablets.end_tablet.Goals as goal

pub invariant_of-self : goal.invariant_of-self
invariant_of-self c =
    let old = c.self.inside.intervals.items in
    let new = c.change.new.records.items in
    let i = c.self.invariant in
    let e = c.change.ensures.all tablet_of i.by_tablet in
    record {
      by_tablet = stays tablet_of _ (changes_record (ends_at c.args.at)) old new (λ k. refl) e i.by_tablet;
      by_table = stays table_of _ (changes_record (ends_at c.args.at)) old new (λ k. refl) e i.by_table;
      by_slot = stays slot_of _ (changes_record (ends_at c.args.at)) old new (λ k. refl) e i.by_slot;
      counted = counts_of _ (present_of new) c.self.inside.in_slots (ap present_of e ∙ changed_present _ (ends_at c.args.at) old)
          (counted_ended _ c.args.at (present_of old) c.self.inside.in_slots i.counted);
      list_room = rw c.change.ensures.room i.list_room;
      tablet_room = i.tablet_room;
      tablet_links = i.tablet_links;
      table_room = i.table_room;
      table_links = i.table_links;
      slot_room = i.slot_room;
      slot_links = i.slot_links;
    }

pub returns-clause-activity : goal.returns-clause-activity
returns-clause-activity c =
    let old = c.self.inside.intervals.items in
    rw (← c.self.view_is)
    (ap present_of (c.change.ensures.all tablet_of c.self.invariant.by_tablet)
    ∙ changed_present _ (ends_at c.args.at) old
    ∙ tablet_ended _ c.keys_agree.ensures.laws c.keys_agree.ensures.same c.args.tablet.now c.args.at (present_of old))
