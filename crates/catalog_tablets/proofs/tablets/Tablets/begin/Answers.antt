use Rattle.std.proofs.Common.{◌≡◌, ◌≤◌, ◌^◌, ◌++◌, ◌∷◌, [], map, true, List, ℕ, sym, ap, subst, ◌∙◌, arith}
use Rattle.std.proofs.lemmas.List.{map-append}
use Rattle.model.specs.Activity.{Interval}
use Rattle.newest_index.proofs.Opens.{indexes-of}
use Rattle.kept_records.specs.declared.records.Kept.{Kept}
use Rattle.kept_records.specs.Gathered.{present_of, kept_key}
use Rattle.kept_records.proofs.Gathering.{present_next}
use Rattle.catalog_tablets.specs.View.{tablet_of, table_of, slot_of}
use Rattle.catalog_tablets.specs.Slots.{Counts, number_in, raised}
use Rattle.catalog_tablets.proofs.Counted.{counted_next, counts_of, small_count, present_within}
use Rattle.catalog_tablets.proofs.tablets.Tablets.begin.Goals as goal

pub invariant_of-self : goal.invariant_of-self
invariant_of-self c =
    let ks = c.self.inside.intervals.items in
    let k : Kept Interval = record { item = c.args.interval; present = true } in
    let i = c.self.invariant in
    let e : c.push.new.self.items ≡ ks ++ k ∷ [] = rw c.unwrap.ensures at c.push.ensures.items in
    let some : 1 ≤ c.self.inside.room = rw (← c.self.view_is) at c.requires.room in
    let kept = c.push.ensures.capacity in
    let one = c.push.ensures.upper_bound in
    let l = i.list_room in
    let t = i.tablet_room in
    let tl = i.tablet_links in
    let b = i.table_room in
    let bl = i.table_links in
    let s = i.slot_room in
    let sl = i.slot_links in
    let t_left = c.note.ensures.places_left in
    let tl_left = c.note.ensures.earlier_left in
    let b_left = c.note-2.ensures.places_left in
    let bl_left = c.note-2.ensures.earlier_left in
    let s_left = c.note-3.ensures.places_left in
    let sl_left = c.note-3.ensures.earlier_left in
    record {
      by_tablet = indexes-of (map (kept_key tablet_of) ks ++ c.interval.inside.tablet ∷ []) (map (kept_key tablet_of) c.push.new.self.items)
          (ap (map (kept_key tablet_of)) e ∙ map-append (kept_key tablet_of) ks (k ∷ [])
          ∙ sym (ap (λ (j : Interval). map (kept_key tablet_of) ks ++ j.tablet ∷ []) c.interval.view_is))
          (c.note.ensures.noted (map (kept_key tablet_of) ks) i.by_tablet);
      by_table = indexes-of (map (kept_key table_of) ks ++ c.interval.inside.table ∷ []) (map (kept_key table_of) c.push.new.self.items)
          (ap (map (kept_key table_of)) e ∙ map-append (kept_key table_of) ks (k ∷ [])
          ∙ sym (ap (λ (j : Interval). map (kept_key table_of) ks ++ j.table ∷ []) c.interval.view_is))
          (c.note-2.ensures.noted (map (kept_key table_of) ks) i.by_table);
      by_slot = indexes-of (map (kept_key slot_of) ks ++ c.interval.inside.slot ∷ []) (map (kept_key slot_of) c.push.new.self.items)
          (ap (map (kept_key slot_of)) e ∙ map-append (kept_key slot_of) ks (k ∷ [])
          ∙ sym (ap (λ (j : Interval). map (kept_key slot_of) ks ++ j.slot ∷ []) c.interval.view_is))
          (c.note-3.ensures.noted (map (kept_key slot_of) ks) i.by_slot);
      counted = counts_of (present_of ks ++ c.args.interval ∷ []) (present_of c.push.new.self.items) c.raise.new.self (ap present_of e ∙ present_next ks c.args.interval)
          (subst (λ (counts : List ℕ). Counts counts (number_in (present_of ks ++ c.args.interval ∷ [])))
          (sym (c.raise.ensures.counts ∙ ap (λ (j : Interval). raised j.slot c.self.inside.in_slots) c.interval.view_is))
          (counted_next c.self.inside.in_slots (present_of ks) c.args.interval i.counted));
      list_room = omega (arith, some, l, kept, one);
      tablet_room = omega (arith, some, t, t_left);
      tablet_links = omega (arith, some, tl, tl_left);
      table_room = omega (arith, some, b, b_left);
      table_links = omega (arith, some, bl, bl_left);
      slot_room = omega (arith, some, s, s_left);
      slot_links = omega (arith, some, sl, sl_left);
    }

pub returns-clause-activity : goal.returns-clause-activity
returns-clause-activity c =
    let ks = c.self.inside.intervals.items in
    let k : Kept Interval = record { item = c.args.interval; present = true } in
    let e : c.push.new.self.items ≡ ks ++ k ∷ [] = rw c.unwrap.ensures at c.push.ensures.items in
    rw (← c.self.view_is) (ap present_of e ∙ present_next ks c.args.interval)

pub raise-requires : goal.raise-requires
raise-requires c =
    let ks = c.self.inside.intervals in
    let within = present_within ks.items in
    record {
      small = small_count c.self.inside.in_slots (present_of ks.items) c.interval.inside.slot (2 ^ 63) (omega arith)
          (omega (arith, within, ks.ok.0, ks.ok.1, ks.small)) c.self.invariant.counted;
    }
