-- A table is dropped: its tablets are hidden, and their activity ends.
use Rattle.model.specs.Schedules.{complete_to}
use Rattle.model.specs.Cluster.{ScheduledNamespace, Listed, RestorationRecord, Id, same, In, has, same_slots, rising, before_end, ended, ended_by, is_open, Interval, active_at, end_table_tablets, Tablet, Presence, HiddenPart, HideSince, effect, is_empty, is_serving, DropTable, Change, Master, Parts, DropsTable}
use Rattle.model.specs.Right.{is_fixed}
use Rattle.std.proofs.Common.{ℕ, ◌≡◌, ◌≤◌, ◌<◌, List, [], ◌∷◌, map, Option, Some, None, Bool, true, false, cond, ◌⊎◌, inl, inr, refl, sym, ap, subst, ◌∙◌, arith, eqb, leb, le_trans, le_refl, le_of_lt, ltb-true, ◌+◌}
use Rattle.std.specs.Prelude.{Ok}
use Rattle.std.specs.Option.{is_some}
use Rattle.std.proofs.lemmas.Bool.{cond_both, true≢false}
use Rattle.std.proofs.lemmas.Bool.Decides.{nat_tests}
use Rattle.model.specs.Catalog.{TableRecord, owner_of, end_table}
use Rattle.model.specs.Journal.{Change as Made, TableDropped, table_at, row_at}
use Rattle.model.specs.Stands.{awaited_in}
use Rattle.model.specs.Looks.{active_in, found_table, slots_of_table, slots_for, plan_of}
use Rattle.model.specs.Changes.{accepts, tell, unheld_checks, judge_drop_table, drop_table}
use Rattle.model.specs.Changed.{table_dropped}
use Rattle.model.specs.History.{with}
use Rattle.law_store.proofs.Keys.{either_way}
use Rattle.law_invariants.specs.Remembered.{IsForgotten, Remembered}
use Rattle.law_invariants.proofs.Remembering.{forgotten_on}
use Rattle.law_invariants.specs.Operations.{OperationsGood}
use Rattle.law_invariants.proofs.Operating.{NotHeld, not_held, GoesOn, IsNew, Onward, operations_on}
use Rattle.law_invariants.proofs.Ordering.{SourcesStay, orders_on, obeyed_on, hidden_works}
use Rattle.law_invariants.proofs.Working.{SameFixed, comes_on, before_any, TablesDrawn, tables_drawn, all_listed}
use Rattle.law_invariants.specs.Invariant.{EndsBy, OverBy, IsPast, TurnsAt, is_awaited, IsGood, SlotGood, SlotWorks, MasterGood, Inv, Later}
use Rattle.law_invariants.proofs.Finding.{none_or_some, second_fails, same_equal, same_self, in_mapped, map_in, not_passing, both_pass, passes_both}
use Rattle.law_invariants.proofs.Ticking.{by_judgement, refused_keeps, KeepsAll, tablet_before, over_later, tablet_ticked, ends_later}
use Rattle.law_invariants.proofs.Judging.{checked_is}
use Rattle.law_invariants.proofs.Holding.{end_weaker}
use Rattle.law_invariants.proofs.Journaling.{dropped_before, dropped_others, dropped_rows_before, dropped_rows_others}
use Rattle.law_invariants.proofs.Covering.{dropped_covers, ended_ends, ended_over, closed, not_open, over_then, stamp_is}
use Rattle.law_invariants.proofs.Cataloguing.{CatalogStands, catalog_of, catalog_table_dropped, table_is}
use Rattle.law_invariants.proofs.Hearing.{clocks_rise, rows_on}
use Rattle.law_invariants.proofs.Undoing.{one_more, journal_on}
use Rattle.law_invariants.proofs.Told.{slots_told, master_early, tablet_early, told_same, slots_equal}
use Rattle.law_invariants.proofs.Quiet.{ended_tables, same_names, marks_stay}
use Rattle.law_invariants.proofs.Plans.{active_planned, planned_active}
use Rattle.law_invariants.proofs.Awaiting.{AwaitNone, none_await, calm_here}
use Rattle.law_invariants.proofs.Parting.{part_mapped}

-- where an interval ends that may be one of the table's
abbrev pub end_of : Id → ℕ → Interval → Option ℕ
end_of id n i = cond (same i.table id) (ended n i.to) i.to

abbrev pub cut_off : Id → ℕ → Interval → Interval
cut_off id n i = record i { to = end_of id n i }

-- a table's tablets hold none of its rows from the drop on
until : (to : Option ℕ) (from time n x : ℕ) → time < n → EndsBy time from to → before_end x (ended n to) ≡ true → x < n
until None from time n x before h is = ltb-true x n is
until (Some e) from time n x before h is = let l : x < e = ltb-true x e is in let le : e ≤ time = h.1 in omega arith

end_past : (id : Id) (time n : ℕ) (i : Interval) → time < n → IsPast time i.from i.to → IsPast n i.from (end_of id n i)
end_past id time n i before h = record {
  begun = le_trans h.begun (le_of_lt before);
  ended = cond_both (same i.table id) (ended n i.to) i.to (EndsBy n i.from) (λ e. ended_ends i.to i.from time n h.begun (le_of_lt before) h.ended) (λ e. ends_later i.to i.from time n (le_of_lt before) h.ended);
}

earlier : (id : Id) (n x : ℕ) (i : Interval) → before_end x (end_of id n i) ≡ true → before_end x i.to ≡ true
earlier id n x i = cond_both (same i.table id) (ended n i.to) i.to (λ to. before_end x to ≡ true → before_end x i.to ≡ true) (λ e. end_weaker x n i.to) (λ e h. h)

-- either the interval's table is another, or x is before the drop
on_table : {P : Type 0} (id : Id) (time n x : ℕ) (i : Interval) → time < n → IsPast time i.from i.to → before_end x (end_of id n i) ≡ true → (x < n → P) → (same id i.table ≡ false → P) → P
on_table {P} id time n x i before past is soon other = either_way {P = P} (same i.table id)
    (λ e. soon (let q : before_end x (cond (same i.table id) (ended n i.to) i.to) ≡ true = is in let k : before_end x (ended n i.to) ≡ true = rw e at q in until i.to i.from time n x before past.ended k))
    (λ e. other (not_passing (same id i.table) (λ s. true≢false (sym (ap (λ t. same t id) (sym (same_equal id i.table s)) ∙ same_self id) ∙ e))))

-- an interval that is not an open one of the table stays
stays_ended : (id : Id) (n : ℕ) (i : Interval) → (i.to ≡ None → same i.table id ≡ true → ⊥) → end_of id n i ≡ i.to
stays_ended id n i h = either_way (same i.table id)
    (λ e. ap (λ b. cond b (ended n i.to) i.to) e ∙ closed i.to n (λ opened. h opened e))
    (λ e. ap (λ b. cond b (ended n i.to) i.to) e)

-- the active time of a cut interval is active time
cut_active : (id : Id) (n x : ℕ) (i : Interval) → active_at x (cut_off id n i) ≡ true → (active_at x i ≡ true) × (before_end x (end_of id n i) ≡ true)
cut_active id n x i h =
    let both = both_pass (leb i.from x) (before_end x (end_of id n i)) h in
    (passes_both (leb i.from x) (before_end x i.to) both.0 (earlier id n x i both.1), both.1)

-- a cut interval that is open is of another table
open_beside : (id : Id) (n : ℕ) (i : Interval) → end_of id n i ≡ None → same id i.table ≡ false
open_beside id n i e = not_passing (same id i.table) (λ s.
    let back : same i.table id ≡ true = ap (λ t. same t id) (sym (same_equal id i.table s)) ∙ same_self id in
    let q : cond (same i.table id) (ended n i.to) i.to ≡ None = e in
    let k : ended n i.to ≡ None = rw back at q in never i.to k)
  where
    never : (to : Option ℕ) → ended n to ≡ None → ⊥
    never None k = cc
    never (Some e) k = cc

-- and it was open
opened_before : (id : Id) (n : ℕ) (i : Interval) → end_of id n i ≡ None → i.to ≡ None
opened_before id n i e = never i.to (same i.table id) e
  where
    never : (to : Option ℕ) (b : Bool) → cond b (ended n to) to ≡ None → to ≡ None
    never None b e = refl
    never (Some x) true e = e
    never (Some x) false e = e

-- no interval's rows are yet to come before the drop that aren't after it, where the table's tablets await none
came : (id : Id) (n : ℕ) (i : Interval) (point : Option ℕ) → (same i.table id ≡ true → point ≡ None) → is_awaited point (end_of id n i) ≡ false → is_awaited point i.to ≡ false
came id n i point calm h = either_way (same i.table id)
    (λ e. second_fails (is_open i.to) (is_some point) (ap is_some (calm e)))
    (λ e. ap (λ b. is_awaited point (cond b (ended n i.to) i.to)) (sym e) ∙ h)

-- where a tablet awaits rows, each interval goes on to turn at their point
turns : (id : Id) (n : ℕ) (i : Interval) (awaits : Option ℕ) (point : ℕ) → (same i.table id ≡ true → awaits ≡ None) → awaits ≡ Some point → TurnsAt point i.from i.to → TurnsAt point i.from (end_of id n i)
turns id n i awaits point calm some h = cond_both (same i.table id) (ended n i.to) i.to (TurnsAt point i.from) (λ e. (let q : None ≡ Some point = sym (calm e) ∙ some in cc)) (λ e. h)

-- a tablet has its cut intervals where it had them
home_cut : (m : Master) (id : Id) (n slot : ℕ) (tablet : Id) → ((i : Interval) → In i m.activity → i.tablet ≡ tablet → i.slot ≡ slot)
    → (i : Interval) → In i (map (cut_off id n) m.activity) → i.tablet ≡ tablet → i.slot ≡ slot
home_cut m id n slot tablet h = in_mapped (cut_off id n) (λ i. i.tablet ≡ tablet → i.slot ≡ slot) m.activity h

dropped_fixed : (n : ℕ) (id : Id) (changes : List Made) → SameFixed changes (with n (TableDropped id) changes)
dropped_fixed n id changes = record { fixed = λ ns to. refl; switched = λ ns point is. is; before = λ ns point is. before_any changes ns point _ changes is }

good_cut : (m : Master) (n : ℕ) (changes : List Made) (id : Id) (t : Tablet) (c : ℕ) (p : Presence) (i : Interval) → m.clock < n → is_empty p ≡ false → (same i.table id ≡ true → awaited_in m.restorations t.tablet t.done ≡ None)
    → OverBy c i.from (end_of id n i) → (end_of id n i ≡ None → awaited_in m.restorations t.tablet t.done ≡ None → is_serving p ≡ true)
    → ((at : ℕ) → p ≡ HiddenPart at → is_awaited (awaited_in m.restorations t.tablet t.done) (end_of id n i) ≡ false → ended_by at (end_of id n i) ≡ true)
    → IsGood m changes t i → IsGood (table_dropped id n m) (with n (TableDropped id) changes) (record t { clock = c; presence = p }) (cut_off id n i)
good_cut m n changes id t c p i before present calm over serves hidden g =
    let new = with n (TableDropped id) changes in record {
      past = end_past id m.clock n i before g.past;
      over = over;
      drawn = g.drawn;
      drawn_table = g.drawn_table;
      slot_from = g.slot_from;
      slot_to = g.slot_to;
      present = present;
      tablet_is = g.tablet_is;
      table_is = g.table_is;
      low_is = g.low_is;
      high_is = g.high_is;
      viewed = λ x active. (let a = cut_active id n x i active in
          on_table {P = is_some (table_at new x i.table) ≡ true} id m.clock n x i before g.past a.1
          (λ l. ap is_some (dropped_before n id changes x i.table l) ∙ g.viewed x a.0)
          (λ e. ap is_some (dropped_others n id changes x i.table e) ∙ g.viewed x a.0));
      waits = λ point waits. turns id n i (awaited_in m.restorations t.tablet t.done) point calm waits (g.waits point waits);
      comes = λ r point kept awaits opened. (
          let other = open_beside id n i opened in
          let still : i.to ≡ None = opened_before id n i opened in
          let w = comes_on changes new r.namespace i point r.to (dropped_fixed n id changes) (λ key x ranged. dropped_rows_others n id changes x i.table key other) (g.comes r point kept awaits still) in
          record { switched = w.switched; rows = w.rows; before = w.before });
      serves = serves;
      hidden = hidden;
      stands = λ counted key x within cut soon there. g.stands (came id n i (awaited_in m.restorations t.tablet t.done) calm counted) key x within cut (earlier id n x i soon)
          (on_table {P = is_some (table_at changes x i.table) ≡ true} id m.clock n x i before g.past soon
          (λ l. ap is_some (sym (dropped_before n id changes x i.table l)) ∙ there)
          (λ e. ap is_some (sym (dropped_others n id changes x i.table e)) ∙ there))
          ∙ on_table {P = row_at changes x i.table key ≡ row_at new x i.table key} id m.clock n x i before g.past soon
          (λ l. sym (dropped_rows_before n id changes x i.table key l))
          (λ e. sym (dropped_rows_others n id changes x i.table key e));
      sets = λ f held key x within cut by active. (let a = cut_active id n x i active in
          g.sets f held key x within cut by a.0
          ∙ on_table {P = row_at changes x i.table key ≡ row_at new x i.table key} id m.clock n x i before g.past a.1
          (λ l. sym (dropped_rows_before n id changes x i.table key l))
          (λ e. sym (dropped_rows_others n id changes x i.table key e)));
    }

-- a slot whose tablet is hidden
slot_hidden : (m : Master) (n : ℕ) (changes : List Made) (id : Id) (slot : ℕ) (t : Tablet) → m.clock < n → t.clock < n → is_empty t.presence ≡ false → AwaitNone m id
    → ((i : Interval) → In i m.activity → i.slot ≡ slot → same i.table id ≡ true) → SlotGood m changes slot t
    → SlotGood (table_dropped id n m) (with n (TableDropped id) changes) slot (effect (HideSince n) n t)
slot_hidden m n changes id slot t before early present calm of_table h =
    let g = tablet_ticked m n changes slot t (le_of_lt early) h in record {
      good = record { sorted = g.good.sorted; below = g.good.below; cutoff = g.good.cutoff; keys = g.good.keys; set_past = g.good.set_past; set_sorted = g.good.set_sorted; set_keys = g.good.set_keys };
      home = λ hidden. home_cut m id n slot t.tablet (h.home present);
      numbered = h.numbered;
      each = in_mapped (cut_off id n) (λ i. i.slot ≡ slot → IsGood (table_dropped id n m) (with n (TableDropped id) changes) (effect (HideSince n) n t) i) m.activity
          (λ i isin is. let q = h.each i isin is in
          good_cut m n changes id t n (HiddenPart n) i before refl (calm_here m id t i q.tablet_is isin calm)
          (cond_both (same i.table id) (ended n i.to) i.to (OverBy n i.from)
          (λ e. ended_over i.to i.from t.clock n (let b : i.from ≤ m.clock = q.past.begun in omega arith) (le_of_lt early) q.over)
          (λ e. over_later i.to i.from t.clock n (le_of_lt early) q.over))
          (λ opened. absurd (let e = of_table i isin is in let k : ended n i.to ≡ None = ap (λ b. cond b (ended n i.to) i.to) (sym e) ∙ opened in not_open n i.to k))
          (λ at hides came. (
          let at_is : n ≡ at = stamp_is n at hides in
          let e = of_table i isin is in
          ap (λ b. ended_by at (cond b (ended n i.to) i.to)) e ∙ subst (λ k. ended_by k (ended n i.to) ≡ true) at_is (over_then n i.to i.from t.clock (le_of_lt early) q.over))) q);
      opens = λ serving unfenced. absurd (let q : false ≡ true = serving in true≢false (sym q));
      shown = λ serving unfenced x cut. absurd (let q : false ≡ true = serving in true≢false (sym q));
      later = λ ns to is serving unfenced owned. absurd (let q : false ≡ true = serving in true≢false (sym q));
    }

-- a slot without an open interval of the table
slot_beside : (m : Master) (n : ℕ) (changes : List Made) (id : Id) (slot : ℕ) (t : Tablet) → m.clock < n
    → ((i : Interval) → In i m.activity → i.slot ≡ slot → end_of id n i ≡ i.to) → AwaitNone m id → SlotGood m changes slot t
    → SlotGood (table_dropped id n m) (with n (TableDropped id) changes) slot t
slot_beside m n changes id slot t before apart calm h = record {
  good = h.good;
  home = λ present. home_cut m id n slot t.tablet (h.home present);
  numbered = h.numbered;
  each = in_mapped (cut_off id n) (λ i. i.slot ≡ slot → IsGood (table_dropped id n m) (with n (TableDropped id) changes) t i) m.activity
      (λ i isin is. let q = h.each i isin is in good_cut m n changes id t t.clock t.presence i before q.present (calm_here m id t i q.tablet_is isin calm) (subst (OverBy t.clock i.from) (sym (apart i isin is)) q.over)
      (λ opened settled. q.serves (sym (apart i isin is) ∙ opened) settled)
      (λ at hides came. ap (ended_by at) (apart i isin is) ∙ q.hidden at hides (ap (is_awaited (awaited_in m.restorations t.tablet t.done)) (sym (apart i isin is)) ∙ came)) q);
  opens = λ serving unfenced. (let o = h.opens serving unfenced in record {
    interval = cut_off id n o.interval;
    listed = map_in (cut_off id n) m.activity o.interval o.listed;
    slot_is = o.slot_is;
    opened = apart o.interval o.listed o.slot_is ∙ o.opened;
    begun = o.begun;
    settled = o.settled;
  });
  shown = λ serving unfenced x cut. (let o = h.opens serving unfenced in
      let other : same id t.table ≡ false = ap (same id) (h.each o.interval o.listed o.slot_is).table_is ∙ open_beside id n o.interval (apart o.interval o.listed o.slot_is ∙ o.opened) in
      ap is_some (dropped_others n id changes x t.table other) ∙ h.shown serving unfenced x cut);
  later = h.later;
}

master_dropped : (m : Master) (n : ℕ) (changes : List Made) (id : Id) → m.clock < n → CatalogStands (table_dropped id n m) (with n (TableDropped id) changes) → MasterGood m changes
    → MasterGood (table_dropped id n m) (with n (TableDropped id) changes)
master_dropped m n changes id before stands h =
    let past : (ns : Id) (to : ℕ) → is_fixed (with n (TableDropped id) changes) ns to ≡ true → to ≤ n = λ ns to is. le_trans (h.past ns to is) (le_of_lt before) in
    let complete : (k : ScheduledNamespace) → In k m.scheduled → complete_to k + 1 ≤ n = λ s isin. le_trans (h.complete s isin) (le_of_lt before) in
    let listed_of : (r : RestorationRecord) (l : Listed) → In r m.restorations → In l r.listed → (i : Interval) → In i (end_table_tablets id n m.activity) → i.tablet ≡ l.tablet → owner_of m.catalog.owners i.table ≡ Some r.namespace = λ r l isin lists. in_mapped (cut_off id n) (λ i. i.tablet ≡ l.tablet → owner_of m.catalog.owners i.table ≡ Some r.namespace) m.activity (h.listed_of r l isin lists) in
    assumption (past, complete, listed_of)

-- what is remembered of all tablets
forgotten_cut : (m : Master) (n : ℕ) (id : Id) (i : Interval) → m.clock < n → IsForgotten m i → IsForgotten (table_dropped id n m) (cut_off id n i)
forgotten_cut m n id i before gone =
    let stays : end_of id n i ≡ i.to = stays_ended id n i (λ opened of_table. true≢false (sym gone.over ∙ ap (ended_by m.clock) opened)) in
    subst (λ to. IsForgotten (table_dropped id n m) (record i { to = to })) (sym stays)
    (forgotten_on m (table_dropped id n m) i (record { clock = le_of_lt before; schedules = refl; restorations = refl; clones = refl }) refl
    (in_mapped (cut_off id n) (λ j. j.tablet ≡ i.tablet → ⊥) m.activity gone.unknown) gone)

remembered_dropped : (m : Master) (n : ℕ) (id : Id) (activity : List Interval) → m.clock < n → Remembered m activity → Remembered (table_dropped id n m) (end_table_tablets id n activity)
remembered_dropped m n id activity before h = record {
  part = part_mapped (cut_off id n) activity m.activity h.part;
  each = in_mapped (cut_off id n) (λ i. In i (map (cut_off id n) m.activity) ⊎ IsForgotten (table_dropped id n m) i) activity (λ i isin. elim (h.each i isin) [
    | inl here ↦ inl (map_in (cut_off id n) m.activity i here)
    | inr gone ↦ inr (forgotten_cut m n id i before gone)
  ]);
  drawn = in_mapped (cut_off id n) (λ i. i.tablet.number ≤ m.drawn.tablets) activity h.drawn;
  drawn_table = in_mapped (cut_off id n) (λ i. i.table.number ≤ m.drawn.tables) activity h.drawn_table;
  reserved = λ c p i known unseen paired. in_mapped (cut_off id n) (λ i. (i.tablet ≡ p.target → ⊥) × (i.table ≡ p.table → ⊥)) activity (λ i isin. h.reserved c p i known unseen paired isin) i;
}

-- operations go on: the table's namespace is not held

goes_cut : (m : Master) (n : ℕ) (id ns : Id) (i : Interval) → owner_of m.catalog.owners id ≡ Some ns → NotHeld m ns → GoesOn m n i (cut_off id n i)
goes_cut m n id ns i owner free = either_way (same i.table id)
    (λ e. none_or_some i.to
    (λ opened. inr (record {
      opened = opened;
      is = (let to : cond (same i.table id) (ended n i.to) i.to ≡ Some n = ap (λ b. cond b (ended n i.to) i.to) e ∙ ap (ended n) opened in ap (λ q. record i { to = q }) to);
      free = λ other of. (let q : Some ns ≡ Some other = sym owner ∙ ap (owner_of m.catalog.owners) (sym (same_equal i.table id e)) ∙ of in let is : ns ≡ other = cc in subst (NotHeld m) is free);
    }))
    (λ x some. inl (ap (λ q. record i { to = q }) (stays_ended id n i (λ opened of_table. let q : None ≡ Some x = sym opened ∙ some in cc)))))
    (λ e. inl (ap (λ q. record i { to = q }) (stays_ended id n i (λ opened of_table. true≢false (sym of_table ∙ e)))))

onward_dropped : (m : Master) (n : ℕ) (id ns : Id) (t : TableRecord) (changes : List Made) → m.clock < n → TablesDrawn m → owner_of m.catalog.owners id ≡ Some ns → NotHeld m ns
    → MasterGood m changes → In t m.catalog.tables → t.namespace ≡ ns → t.id ≡ id
    → Onward m n (record m.catalog { tables = end_table id n m.catalog.tables }) (end_table_tablets id n m.activity) m.drawn changes (with n (TableDropped id) changes)
onward_dropped m n id ns t changes before drawn owner free h listed namespace_is id_is = record {
  clock = le_of_lt before;
  drawn = λ kind. le_refl _;
  owned = λ table owner_ is. is;
  owners = λ table l. refl;
  tables = drawn;
  kept = λ i isin. (cut_off id n i, (map_in (cut_off id n) m.activity i isin, goes_cut m n id ns i owner free));
  came = in_mapped (cut_off id n) (λ j. ((i : Interval) × (In i m.activity × GoesOn m n i j)) ⊎ IsNew m (record m.catalog { tables = end_table id n m.catalog.tables }) j) m.activity
      (λ i isin. inl (i, (isin, goes_cut m n id ns i owner free)));
  fixed = λ other to. refl;
  tables_held = λ other r isin of held. ended_tables m n t ns other changes listed namespace_is free h held r (subst (λ k. In r (end_table k n m.catalog.tables)) (sym id_is) isin) of;
  names = same_names m;
  switched = λ other point is. is;
  before = λ other point is. before_any changes other point (with n (TableDropped id) changes) changes is;
}

-- the rows that clones copy are from before the drop
dropped_sources : (m : Master) (n : ℕ) (id : Id) (changes : List Made) → m.clock < n → OperationsGood m changes → SourcesStay m changes (with n (TableDropped id) changes)
dropped_sources m n id changes before ops = λ c serving at d key isin is paired. dropped_rows_before n id changes c.to d.source key (let l = (ops.clones c isin).past in omega arith)

-- the tablets that end hear the stamp
heard : (m : Master) (n : ℕ) (id : Id) (ps : Parts) (slots : List ℕ) → Later (0 ∷ slots) ps n → rising (map (λ j. j.slot) (active_in m id)) ≡ slots → (i : Interval) → In i m.activity → 1 ≤ i.slot
    → In i (end_table_tablets id n m.activity) ⊎ ((ps.tablet i.slot).clock ≤ n)
heard m n id ps slots later all i isin from = either_way (same i.table id)
    (λ e. none_or_some i.to
    (λ opened. inr (
    let planned : has slots i.slot ≡ true = ap (λ ss. has ss i.slot) (sym all) ∙ active_planned m id i isin opened e in
    let apart : eqb i.slot 0 ≡ false = grind (arith, nat_tests) in
    le_of_lt (tablet_early slots ps n i.slot later planned apart)))
    (λ x some. inl (subst (λ j. In j (end_table_tablets id n m.activity)) (ap (λ q. record i { to = q }) (stays_ended id n i (λ opened of_table. let q : None ≡ Some x = sym opened ∙ some in cc))) (map_in (cut_off id n) m.activity i isin))))
    (λ e. inl (subst (λ j. In j (end_table_tablets id n m.activity)) (ap (λ q. record i { to = q }) (stays_ended id n i (λ opened of_table. true≢false (sym of_table ∙ e)))) (map_in (cut_off id n) m.activity i isin)))

-- the plan of a found table has the slots of its active tablets
planned_slots : (m : Master) (namespace table : List ℕ) (t : TableRecord) → found_table m namespace table ≡ Ok t → plan_of (DropTable namespace table) m ≡ slots_of_table m t.id
unfolding plan_of
planned_slots m namespace table t e = ap (λ j. slots_for j (λ t. slots_of_table m t.id)) e

pub drop_table_keeps : (ps : Parts) (activity : List Interval) (changes : List Made) (n : ℕ) (namespace table slots : List ℕ) → Later (0 ∷ slots) ps n → same_slots slots (plan_of (DropTable namespace table) ps.master) ≡ true → Inv ps activity changes
    → KeepsAll (Change (DropTable namespace table) slots) n ps activity changes (drop_table namespace table slots n ps.master)
unfolding drop_table
drop_table_keeps ps activity changes n namespace table slots later plan inv =
    let m = ps.master in
    let command = DropTable namespace table in
    let before : m.clock < n = master_early slots ps n later in
    let told_all = tell slots (HideSince n) in
    by_judgement (Change command slots) n ps activity changes (judge_drop_table namespace table m) _
    (λ why. refused_keeps (Change command slots) why n ps activity changes later inv refl)
    (λ t found.
    let id = t.id in
    let ns = t.namespace in
    let act = DropsTable id in
    let new = with n (TableDropped id) changes in
    let judged = checked_is (found_table m namespace table) (λ t. unheld_checks t.namespace m) t found in
    let current = table_is m namespace table t judged.0 in
    let owner : owner_of m.catalog.owners id ≡ Some ns = inv.master.tables.owned t current.listed in
    let calm : AwaitNone m id = none_await m changes ns id inv.master owner judged.1.0 in
    let free = not_held m ns judged.1.0 in
    let catalog = record m.catalog { tables = end_table id n m.catalog.tables } in
    let gone = end_table_tablets id n m.activity in
    let o = onward_dropped m n id ns t changes before (tables_drawn m activity inv.remembered) owner free inv.master current.listed refl refl in
    let stays = dropped_sources m n id changes before inv.operations in
    let works_on : (i : ℕ) (t : Tablet) → SlotWorks m changes i t → SlotWorks (table_dropped id n m) new i t = λ i t h. record {
      orders = orders_on m n catalog gone m.drawn m.sent changes new i t o h.orders;
      obeyed = obeyed_on m n catalog gone m.drawn m.sent changes new i t o stays inv.operations h.obeyed;
    } in
    let all : slots ≡ slots_of_table m id = slots_equal slots (plan_of command m) plan ∙ planned_slots m namespace table t judged.0 in
    record {
      remembered = remembered_dropped m n id activity before inv.remembered;
      cover = dropped_covers activity changes id n inv.cover;
      master = master_dropped m n changes id before (catalog_table_dropped m n id changes (le_of_lt before) (catalog_of m changes inv.master)) inv.master;
      operations = operations_on m n catalog gone m.drawn m.sent changes new o (λ k. marks_stay m n catalog gone m.drawn changes k (le_of_lt before) inv.operations) inv.operations.owners (λ mark isin. isin) (all_listed m changes inv.master) inv.operations;
      rows_past = rows_on m n catalog gone m.drawn m.sent changes new ps.tablet _ (le_of_lt before) (clocks_rise (Change command slots) (accepts act told_all []) n ps (λ slot e. tablet_before (0 ∷ slots) ps n slot later e))
          (λ i isin. heard m n id ps slots later (sym all) i isin ((inv.slots i.slot).each i isin refl).slot_from) (λ c table key op isin is. elim isin as (λ _. In c changes) [ inl e ↦ absurd (let q = ap (λ k. k.act) e ∙ is in grind arith) | inr old ↦ old ]) inv.rows_past;
      journal = journal_on m n catalog gone m.drawn m.sent changes new (one_more changes (record { stamp = n; act = TableDropped id }) (λ table_ key op e. let q = e in grind arith) (λ other point. refl)) o.fixed (le_refl _) (le_refl _) o.owners inv.journal;
      works = slots_told (SlotWorks (table_dropped id n m) new) command slots act told_all [] n ps
          (λ i is from. (
          let j = planned_active m id i (sym (ap (λ ss. has ss i) all) ∙ is) in
          let g = (inv.slots i).each j.0 j.1.0 j.1.1.0 in
          let one : (v : Interval) → In v m.activity → v.slot ≡ i → owner_of m.catalog.owners v.table ≡ Some ns =
          λ v isin at. ap (owner_of m.catalog.owners) (sym ((inv.slots i).each v isin at).table_is ∙ g.table_is ∙ j.1.1.1) ∙ owner in
          subst (λ a. SlotWorks (table_dropped id n m) new i (effect a n (ps.tablet i))) (sym (told_same slots (HideSince n) i is))
          (works_on i (effect (HideSince n) n (ps.tablet i))
          (hidden_works m changes i (ps.tablet i) n ns j.0 (le_of_lt (tablet_early slots ps n i later is from)) g.present inv.operations (all_listed m changes inv.master) free j.1.0 j.1.1.0 one (inv.works i)))))
          (λ i others. works_on i (ps.tablet i) (inv.works i));
      slots = slots_told (SlotGood (table_dropped id n m) new) command slots act told_all [] n ps
          (λ i is from. (
          let j = planned_active m id i (sym (ap (λ ss. has ss i) all) ∙ is) in
          let present : is_empty (ps.tablet i).presence ≡ false = ((inv.slots i).each j.0 j.1.0 j.1.1.0).present in
          subst (λ a. SlotGood (table_dropped id n m) new i (effect a n (ps.tablet i))) (sym (told_same slots (HideSince n) i is))
          (slot_hidden m n changes id i (ps.tablet i) before (tablet_early slots ps n i later is from) present calm
          (λ v isin at. ap (λ table. same table id) (sym ((inv.slots i).each v isin at).table_is ∙ ((inv.slots i).each j.0 j.1.0 j.1.1.0).table_is ∙ j.1.1.1) ∙ same_self id) (inv.slots i))))
          (λ i others. slot_beside m n changes id i (ps.tablet i) before (λ j isin is. stays_ended id n j (λ opened of_table.
          let planned : has slots j.slot ≡ true = ap (λ ss. has ss j.slot) all ∙ active_planned m id j isin opened of_table in
          let from : 1 ≤ j.slot = ((inv.slots i).each j isin is).slot_from in
          let apart : eqb i 0 ≡ false = grind (arith, nat_tests) in
          true≢false (sym planned ∙ ap (has slots) is ∙ others apart))) calm (inv.slots i));
    })
