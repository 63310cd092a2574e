use Rattle.std.proofs.Common.{◌≡◌, Bool, List, ℕ, map, not, refl, sym, ap, subst, ◌∙◌}
use Rattle.std.specs.List.{filter}
use Rattle.model.specs.Activity.{Interval}
use Rattle.newest_index.proofs.Opens.{indexes-of}
use Rattle.kept_records.specs.declared.records.Kept.{Kept}
use Rattle.kept_records.specs.Gathered.{gathered, present_of, kept_key, taken_out}
use Rattle.kept_records.proofs.Gathering.{taken_out_present, stays}
use Rattle.catalog_tablets.specs.View.{tablet_of, table_of, slot_of}
use Rattle.catalog_tablets.proofs.Active.{forgotten}
use Rattle.yb_ident.specs.contracts.ident.IdentPartialEq.TheImpl as ident
use Rattle.catalog_tablets.specs.Slots.{Counts, number_in, lowered}
use Rattle.catalog_tablets.proofs.Counted.{counted_left, counts_of}
use Rattle.catalog_tablets.proofs.tablets.Tablets.forget.Goals as goal

pub invariant_of-self : goal.invariant_of-self
invariant_of-self c =
    let old = c.self.inside.intervals.items in
    let new = c.take_out.new.records.items in
    let i = c.self.invariant in
    let e = c.take_out.ensures.all tablet_of i.by_tablet in
    let goes : Interval → Bool = λ j. (ident.ghosts).eq c.args.tablet.now j.tablet in
    let lowers : Interval → List ℕ → List ℕ = λ j later. lowered j.slot later in
    let counts : c.gather.result ≡ gathered goes lowers c.self.inside.in_slots (present_of old) =
    c.gather.ensures.all tablet_of (indexes-of _ _ (ap (map (kept_key tablet_of)) c.as_slice.ensures.value) i.by_tablet)
    ∙ ap (λ (ks : List (Kept Interval)). gathered goes lowers c.replace-counts.result (present_of ks)) c.as_slice.ensures.value
    ∙ ap (λ (ns : List ℕ). gathered goes lowers ns (present_of old)) c.replace-counts.ensures.value in
    record {
      by_tablet = stays tablet_of _ taken_out old new (λ k. refl) e i.by_tablet;
      by_table = stays table_of _ taken_out old new (λ k. refl) e i.by_table;
      by_slot = stays slot_of _ taken_out old new (λ k. refl) e i.by_slot;
      counted = counts_of _ (present_of new) c.gather.result (ap present_of e ∙ taken_out_present _ old)
          (subst (λ (counts : List ℕ). Counts counts (number_in (filter (λ (j : Interval). not (goes j)) (present_of old))))
          (sym counts) (counted_left goes (present_of old) c.self.inside.in_slots i.counted));
      list_room = rw c.take_out.ensures.room i.list_room;
      tablet_room = i.tablet_room;
      tablet_links = i.tablet_links;
      table_room = i.table_room;
      table_links = i.table_links;
      slot_room = i.slot_room;
      slot_links = i.slot_links;
    }

pub returns-clause-activity : goal.returns-clause-activity
returns-clause-activity c =
    let old = c.self.inside.intervals.items in
    rw (← c.self.view_is)
    (ap present_of (c.take_out.ensures.all tablet_of c.self.invariant.by_tablet)
    ∙ taken_out_present _ old
    ∙ forgotten _ c.keys_agree.ensures.laws c.keys_agree.ensures.same c.args.tablet.now (present_of old))
