-- A table is made: its tablets are made in free slots, and their activity begins.
use Rattle.std.proofs.Common.{ℕ, ◌≡◌, ◌≤◌, ◌<◌, ◌+◌, ◌*◌, ◌/◌, List, [], ◌∷◌, ◌++◌, length, take, Some, None, true, false, cond, ◌&&◌, inl, inr, refl, sym, ap, subst, ◌∙◌, arith, eqb, leb, le_trans, le_refl, le_of_lt, leb-true, ltb-false}
use Rattle.std.specs.Prelude.{Ok}
use Rattle.std.specs.Option.{is_some}
use Rattle.std.proofs.lemmas.Bool.{true≢false}
use Rattle.std.proofs.lemmas.Bool.Decides.{nat_tests}
use Rattle.model.specs.Cluster.{Kind, TableKind as Table, TabletKind, Id, same, In, has, same_slots, NewColumn, first_schema, numbered, Interval, Catalog, NamespaceRecord, owner_of, namespace_named, is_open, Tablet, Make, act_for, effect, CreateTable, Change, Master, Parts, Drawn, MakesTable}
use Rattle.model.specs.Drawn.{drawn_of}
use Rattle.std.specs.Str.{bytes_eq}
use Rattle.law_store.proofs.Keys.{either_way}
use Rattle.model.specs.Journal.{Change as Made, ChangeAct, TableMade, table_at}
use Rattle.model.specs.Stands.{awaited_in}
use Rattle.model.specs.Entries.{CommandAsked}
use Rattle.model.specs.Looks.{found_namespace, slots_for, plan_of, free_slots, least_slots}
use Rattle.model.specs.Changes.{accepts, tell_made, create_table_checks, judge_create_table, create_table}
use Rattle.model.specs.Changed.{table_made, begins, shares, next_table, next_tablet}
use Rattle.model.specs.History.{with}
use Rattle.law_invariants.specs.Remembered.{Remembered}
use Rattle.law_invariants.proofs.Remembering.{forgotten_on}
use Rattle.law_invariants.proofs.Operating.{NotHeld, not_held, Onward, operations_on}
use Rattle.law_invariants.proofs.Ordering.{orders_on, obeyed_on, placed_works}
use Rattle.law_invariants.proofs.Working.{before_any, TablesDrawn, tables_drawn, all_listed}
use Rattle.law_invariants.specs.Invariant.{IsGood, SlotGood, SlotWorks, MasterGood, Inv, Later}
use Rattle.law_invariants.proofs.Finding.{same_equal, not_same, apart_by_number, in_append, in_first, in_second, both_pass}
use Rattle.law_invariants.proofs.Ticking.{by_judgement, refused_keeps, KeepsAll, tablet_before}
use Rattle.law_invariants.proofs.Records.{owners_first, owner_last, owner_beside}
use Rattle.law_invariants.proofs.Journaling.{made_here, made_others, made_rows, made_keeps, no_rows}
use Rattle.law_invariants.proofs.Covering.{made_covers}
use Rattle.law_invariants.proofs.Cataloguing.{CatalogStands, catalog_of, catalog_table_made, namespace_is}
use Rattle.law_invariants.proofs.Judging.{checked_is}
use Rattle.law_invariants.proofs.Hearing.{clocks_rise, rows_on}
use Rattle.law_invariants.proofs.Undoing.{one_more, journal_on}
use Rattle.law_invariants.proofs.Told.{slots_told, master_early, slots_equal}
use Rattle.law_invariants.specs.Operations.{OperationsGood}
use Rattle.law_invariants.proofs.Quiet.{same_names, marks_stay, Carries, good_carried}
use Rattle.law_invariants.proofs.Plans.{has_in, in_has}
use Rattle.law_invariants.proofs.Free.{RiseFrom, rise_in, AreFree, least_free}
use Rattle.law_invariants.proofs.Parting.{part_same, part_append}
use Rattle.law_invariants.proofs.Awaiting.{awaited_none, new_unlisted, new_awaits}

-- No rows are awaited

-- The new (length slots)

abbrev shared : List ℕ → ℕ → ℕ → ℕ → Master → List Interval
shared slots place count n m = shares slots place count n m.drawn.tablets (next_table m)

-- one of the new table's intervals
pub record IsShare (m : Master) (n count : ℕ) (slots : List ℕ) (w : Interval) : Type 0 where
  pub slot : ℕ
  pub place : ℕ
  pub low : ℕ
  pub high : ℕ
  pub is : w ≡ begins slot (next_tablet m.drawn.tablets (place + 1)) (next_table m) low high n
  pub isin : In slot slots
  pub drawn : place < count

pub share_is : (slots : List ℕ) (place count n : ℕ) (m : Master) (w : Interval) → length slots + place ≡ count → In w (shared slots place count n m) → IsShare m n count slots w
share_is [] place count n m w long isin = absurd isin
share_is (slot ∷ slots) place count n m w long (inl e) = record {
  slot = slot;
  place = place;
  low = place * 65536 / count;
  high = (place + 1) * 65536 / count;
  is = sym e;
  isin = inl refl;
  drawn = omega (arith, long);
}
share_is (slot ∷ slots) place count n m w long (inr isin) = let r = share_is slots (place + 1) count n m w (omega (arith, long)) isin in record {
  slot = r.slot;
  place = r.place;
  low = r.low;
  high = r.high;
  is = r.is;
  isin = inr r.isin;
  drawn = r.drawn;
}

share_slot : (slots : List ℕ) (place count n : ℕ) (m : Master) (w : Interval) → In w (shared slots place count n m) → In w.slot slots
share_slot [] place count n m w isin = absurd isin
share_slot (slot ∷ slots) place count n m w (inl e) = inl (ap (λ v. v.slot) e)
share_slot (slot ∷ slots) place count n m w (inr isin) = inr (share_slot slots (place + 1) count n m w isin)

-- the new (length slots)' numbers rise, and so one tablet is in one slot
pub share_number : (slots : List ℕ) (place count n : ℕ) (m : Master) (w : Interval) → In w (shared slots place count n m) → m.drawn.tablets + place < w.tablet.number
share_number [] place count n m w isin = absurd isin
share_number (slot ∷ slots) place count n m w (inl e) = (let q : m.drawn.tablets + (place + 1) ≡ w.tablet.number = ap (λ v. v.tablet.number) e in omega arith)
share_number (slot ∷ slots) place count n m w (inr isin) = (let q : m.drawn.tablets + (place + 1) < w.tablet.number = share_number slots (place + 1) count n m w isin in omega arith)

share_home : (slots : List ℕ) (place count n : ℕ) (m : Master) (v w : Interval) → In v (shared slots place count n m) → In w (shared slots place count n m) → v.tablet.number ≡ w.tablet.number
    → v.slot ≡ w.slot
share_home [] place count n m v w inv inw same_ = absurd inv
share_home (slot ∷ slots) place count n m v w (inl e) (inl f) same_ = ap (λ i. i.slot) (sym e ∙ f)
share_home (slot ∷ slots) place count n m v w (inl e) (inr inw) same_ = absurd
    (let q : m.drawn.tablets + (place + 1) ≡ v.tablet.number = ap (λ i. i.tablet.number) e in
    let r : m.drawn.tablets + (place + 1) < w.tablet.number = share_number slots (place + 1) count n m w inw in omega arith)
share_home (slot ∷ slots) place count n m v w (inr inv) (inl f) same_ = absurd
    (let q : m.drawn.tablets + (place + 1) ≡ w.tablet.number = ap (λ i. i.tablet.number) f in
    let r : m.drawn.tablets + (place + 1) < v.tablet.number = share_number slots (place + 1) count n m v inv in omega arith)
share_home (slot ∷ slots) place count n m v w (inr inv) (inr inw) same_ = share_home slots (place + 1) count n m v w inv inw same_

share_table : (slots : List ℕ) (place count n : ℕ) (m : Master) (w : Interval) → In w (shared slots place count n m) → w.table.number ≤ m.drawn.tables + 1
share_table [] place count n m w isin = absurd isin
share_table (slot ∷ slots) place count n m w (inl e) = (let q : m.drawn.tables + 1 ≡ w.table.number = ap (λ v. v.table.number) e in omega arith)
share_table (slot ∷ slots) place count n m w (inr isin) = share_table slots (place + 1) count n m w isin

-- the slot of each new interval is told to make its tablet
share_told : (slots : List ℕ) (place count n low : ℕ) (m : Master) (w : Interval) → RiseFrom low slots → In w (shared slots place count n m)
    → act_for (tell_made (shared slots place count n m)) w.slot ≡ Make w.tablet w.table w.low w.high 1
share_told [] place count n low m w rise isin = absurd isin
share_told (slot ∷ slots) place count n low m w rise (inl e) =
    subst (λ v. act_for (tell_made (shared (slot ∷ slots) place count n m)) v.slot ≡ Make v.tablet v.table v.low v.high 1) e (let k : eqb slot slot ≡ true = grind (arith, nat_tests) in rw k refl)
share_told (slot ∷ slots) place count n low m w rise (inr isin) =
    let behind : slot + 1 ≤ w.slot = rise_in slots (slot + 1) w.slot rise.1 (share_slot slots (place + 1) count n m w isin) in
    let apart : eqb slot w.slot ≡ false = grind (arith, nat_tests) in
    rw apart (share_told slots (place + 1) count n (slot + 1) m w rise.1 isin)

made_told : (slots : List ℕ) (count n : ℕ) (m : Master) (w : Interval) (slot : ℕ) → RiseFrom 1 slots → In w (shared slots 0 count n m) → w.slot ≡ slot
    → act_for (tell_made (shared slots 0 count n m)) slot ≡ Make w.tablet w.table w.low w.high 1
made_told slots count n m w slot rise isin at = ap (act_for (tell_made (shared slots 0 count n m))) (sym at) ∙ share_told slots 0 count n 1 m w rise isin

-- each slot of the plan has one
share_at : (slots : List ℕ) (place count n : ℕ) (m : Master) (slot : ℕ) → In slot slots → (w : Interval) × (In w (shared slots place count n m) × (w.slot ≡ slot))
share_at [] place count n m slot isin = absurd isin
share_at (s ∷ slots) place count n m slot (inl e) = (begins s (next_tablet m.drawn.tablets (place + 1)) (next_table m) (place * 65536 / count) ((place + 1) * 65536 / count) n, (inl refl, e))
share_at (s ∷ slots) place count n m slot (inr isin) = let r = share_at slots (place + 1) count n m slot isin in (r.0, (inr r.1.0, r.1.1))

-- What the command leaves

abbrev pub table_made_act : Master → Id → List ℕ → List NewColumn → ChangeAct
table_made_act m ns name columns = TableMade (next_table m) ns name (numbered 1 columns)

abbrev pub with_made : Master → ℕ → Id → List ℕ → List NewColumn → List Made → List Made
with_made m n ns name columns changes = with n (table_made_act m ns name columns) changes

-- the new table was never in the view
never_made : (m : Master) (changes : List Made) (x : ℕ) → MasterGood m changes → table_at changes x (next_table m) ≡ None
never_made m changes x h = h.tables.unmade (next_table m) x (h.tables.owners_drawn (next_table m) (omega arith))

good_begins : (m : Master) (n : ℕ) (changes : List Made) (ns : Id) (name : List ℕ) (columns : List NewColumn) (slots : List ℕ) (t : Tablet) (slot place low high : ℕ)
    → MasterGood m changes → place < (length slots) → 1 ≤ slot → slot ≤ m.slots
    → IsGood (table_made ns name columns slots n m) (with_made m n ns name columns changes) (effect (Make (next_tablet m.drawn.tablets (place + 1)) (next_table m) low high 1) n t)
    (begins slot (next_tablet m.drawn.tablets (place + 1)) (next_table m) low high n)
good_begins m n changes ns name columns slots t slot place low high h drawn from to =
    let id = next_table m in record {
      past = record { begun = le_refl n; ended = tt };
      over = tt;
      drawn = omega (arith, drawn);
      drawn_table = le_refl _;
      slot_from = from;
      slot_to = to;
      present = refl;
      tablet_is = refl;
      table_is = refl;
      low_is = refl;
      high_is = refl;
      viewed = λ x active. ap is_some (made_here n id ns name (numbered 1 columns) changes x (leb-true n x (both_pass (leb n x) true active).0));
      waits = λ point waits. (let q : None ≡ Some point = sym (new_awaits m changes place h) ∙ waits in cc);
      comes = λ r point kept awaits. (
          let none = awaited_none r.state r (next_tablet m.drawn.tablets (place + 1)) [] (λ l lists. new_unlisted m changes place r l kept lists h) in
          let q : None ≡ Some point = sym none ∙ awaits in absurd (grind arith));
      serves = λ opened settled. refl;
      hidden = λ at hides. absurd (let q = hides in grind arith);
      stands = λ counted key x within cut soon there. sym (made_rows n id ns name (numbered 1 columns) changes x id key ∙ no_rows changes x id key (never_made m changes x h));
      sets = λ f held. absurd held;
    }

good_share : (m : Master) (n : ℕ) (changes : List Made) (ns : Id) (name : List ℕ) (columns : List NewColumn) (slots : List ℕ) (t : Tablet) (w : Interval)
    → MasterGood m changes → AreFree m (length slots) slots → In w (shared slots 0 (length slots) n m)
    → IsGood (table_made ns name columns slots n m) (with_made m n ns name columns changes) (effect (Make w.tablet w.table w.low w.high 1) n t) w
good_share m n changes ns name columns slots t w h free isin =
    let s = share_is slots 0 (length slots) n m w (let e = free.long in omega arith) isin in
    subst (λ v. IsGood (table_made ns name columns slots n m) (with_made m n ns name columns changes) (effect (Make v.tablet v.table v.low v.high 1) n t) v) (sym s.is)
    (good_begins m n changes ns name columns slots t s.slot s.place s.low s.high h s.drawn (rise_in slots 1 s.slot free.rise s.isin) (free.to s.slot s.isin))

-- a slot that gets a tablet of the new table
slot_placed : (m : Master) (n : ℕ) (changes : List Made) (ns : Id) (name : List ℕ) (columns : List NewColumn) (slots : List ℕ) (t : Tablet) (i : ℕ) (w : Interval)
    → m.clock < n → MasterGood m changes → ((j : Interval) → In j m.activity → j.tablet.number ≤ m.drawn.tablets) → AreFree m (length slots) slots → In i slots → In w (shared slots 0 (length slots) n m) → w.slot ≡ i
    → SlotGood (table_made ns name columns slots n m) (with_made m n ns name columns changes) i (effect (Make w.tablet w.table w.low w.high 1) n t)
slot_placed m n changes ns name columns slots t i w before h drawn free isin listed is =
    let k = table_made ns name columns slots n m in
    let new = with_made m n ns name columns changes in
    let s = share_is slots 0 (length slots) n m w (let e = free.long in omega arith) listed in
    let number : w.tablet.number ≡ m.drawn.tablets + (s.place + 1) = ap (λ v. v.tablet.number) s.is in
    let told_w : (v : Interval) → In v (shared slots 0 (length slots) n m) → v.slot ≡ i → act_for (tell_made (shared slots 0 (length slots) n m)) i ≡ Make v.tablet v.table v.low v.high 1 =
    λ v lists at. ap (act_for (tell_made (shared slots 0 (length slots) n m))) (sym at) ∙ share_told slots 0 (length slots) n 1 m v free.rise lists in
    record {
      good = record { sorted = tt; below = tt; cutoff = le_refl n; keys = tt; set_past = λ f held. absurd held; set_sorted = λ f held. absurd held; set_keys = λ f held. absurd held };
      home = λ present j lists same_. elim (in_append m.activity (shared slots 0 (length slots) n m) j lists) [
        | inl old ↦ absurd (let q : j.tablet.number ≤ m.drawn.tablets = drawn j old in let e : j.tablet.number ≡ w.tablet.number = ap (λ k. k.number) same_ in omega arith)
        | inr made ↦ share_home slots 0 (length slots) n m j w made listed (ap (λ k. k.number) same_) ∙ is
      ];
      numbered = (let l : s.place < (length slots) = s.drawn in let q : w.tablet.number ≤ m.drawn.tablets + (length slots) = omega arith in q);
      each = λ j lists at. elim (in_append m.activity (shared slots 0 (length slots) n m) j lists) [
        | inl old ↦ absurd (free.vacant i isin j old at)
        | inr made ↦ subst (λ a. IsGood k new (effect a n t) j) (sym (told_w j made at) ∙ told_w w listed is) (good_share m n changes ns name columns slots t j h free made)
      ];
      opens = λ serving unfenced. record {
        interval = w;
        listed = in_second m.activity (shared slots 0 (length slots) n m) w listed;
        slot_is = is;
        opened = ap (λ v. v.to) s.is;
        begun = (let e : w.from ≡ n = ap (λ v. v.from) s.is in omega arith);
        settled = ap (λ v. awaited_in m.restorations v.tablet []) s.is ∙ new_awaits m changes s.place h;
      };
      shown = λ serving unfenced x cut. ap (λ id. is_some (table_at new x id)) (ap (λ v. v.table) s.is) ∙ ap is_some (made_here n (next_table m) ns name (numbered 1 columns) changes x cut);
      later = λ owner to fixed serving unfenced owned. le_trans (h.past owner to fixed) (le_of_lt before);
    }

-- a table that was drawn is not the new one
old_table : (m : Master) (id : Id) → id.number ≤ m.drawn.tables → same (next_table m) id ≡ false
old_table m id old = not_same (next_table m) id (λ e. apart_by_number id (next_table m) (omega arith) (sym e))

carries_made : (m : Master) (n : ℕ) (changes : List Made) (ns : Id) (name : List ℕ) (columns : List NewColumn) (slots : List ℕ) (i : Interval) → m.clock < n → i.table.number ≤ m.drawn.tables
    → Carries m (table_made ns name columns slots n m) changes (with_made m n ns name columns changes) i
carries_made m n changes ns name columns slots i before old = record {
  clock = le_of_lt before;
  slots = refl;
  restorations = refl;
  drawn = omega arith;
  drawn_tables = omega arith;
  viewed = λ x active is. made_keeps n (next_table m) ns name (numbered 1 columns) changes x i.table is;
  shown = λ x is. ap is_some (sym (made_others n (next_table m) ns name (numbered 1 columns) changes x i.table (old_table m i.table old))) ∙ is;
  rows = λ x key soon. made_rows n (next_table m) ns name (numbered 1 columns) changes x i.table key;
  same_ = record { fixed = λ other to. refl; switched = λ other point is. is; before = λ other point is. before_any changes other point _ changes is };
}

-- a slot that gets none
slot_aside : (m : Master) (n : ℕ) (changes : List Made) (ns : Id) (name : List ℕ) (columns : List NewColumn) (slots : List ℕ) (t : Tablet) (i : ℕ)
    → m.clock < n → AreFree m (length slots) slots → (eqb i 0 ≡ false → has slots i ≡ false) → SlotGood m changes i t
    → SlotGood (table_made ns name columns slots n m) (with_made m n ns name columns changes) i t
slot_aside m n changes ns name columns slots t i before free aside g =
    let k = table_made ns name columns slots n m in
    let new = with_made m n ns name columns changes in
    record {
      good = g.good;
      home = λ present j lists same_. elim (in_append m.activity (shared slots 0 (length slots) n m) j lists) [
        | inl old ↦ g.home present j old same_
        | inr made ↦ absurd (
            let q : m.drawn.tablets + 0 < j.tablet.number = share_number slots 0 (length slots) n m j made in
            let e : j.tablet.number ≡ t.tablet.number = ap (λ k. k.number) same_ in
            let l : t.tablet.number ≤ m.drawn.tablets = g.numbered in omega arith)
      ];
      numbered = le_trans g.numbered (omega arith);
      each = λ j lists at. elim (in_append m.activity (shared slots 0 (length slots) n m) j lists) [
        | inl old ↦ (let q = g.each j old at in good_carried m k changes new t j (carries_made m n changes ns name columns slots j before q.drawn_table) q)
        | inr made ↦ absurd (
            let isin : In j.slot slots = share_slot slots 0 (length slots) n m j made in
            let from : 1 ≤ j.slot = rise_in slots 1 j.slot free.rise isin in
            let apart : eqb i 0 ≡ false = grind (arith, nat_tests) in
            true≢false (sym (has_in slots j.slot isin) ∙ ap (has slots) at ∙ aside apart))
      ];
      opens = λ serving unfenced. (let o = g.opens serving unfenced in record {
        interval = o.interval;
        listed = in_first m.activity (shared slots 0 (length slots) n m) o.interval o.listed;
        slot_is = o.slot_is;
        opened = o.opened;
        begun = o.begun;
        settled = o.settled;
      });
      shown = λ serving unfenced x cut. made_keeps n (next_table m) ns name (numbered 1 columns) changes x t.table (g.shown serving unfenced x cut);
      later = λ owner to fixed serving unfenced owned. (
          let o = g.opens serving unfenced in
          let q = g.each o.interval o.listed o.slot_is in
          let drawn : o.interval.table.number ≤ m.drawn.tables = q.drawn_table in
          let number : t.table.number ≡ o.interval.table.number = ap (λ table. table.number) q.table_is in
          let apart : same (next_table m) t.table ≡ false = old_table m t.table (omega arith) in
          g.later owner to fixed serving unfenced (sym (owner_beside m.catalog.owners (record { table = next_table m; namespace = ns }) t.table apart) ∙ owned));
    }

master_made : (m : Master) (n : ℕ) (changes : List Made) (ns : Id) (name : List ℕ) (columns : List NewColumn) (slots : List ℕ)
    → m.clock < n → AreFree m (length slots) slots → ((i : Interval) → In i m.activity → i.table.number ≤ m.drawn.tables)
    → CatalogStands (table_made ns name columns slots n m) (with_made m n ns name columns changes) → MasterGood m changes
    → MasterGood (table_made ns name columns slots n m) (with_made m n ns name columns changes)
master_made m n changes ns name columns slots before free drawn stands h = record {
  namespaces = stands.namespaces;
  tables = stands.tables;
  marks = stands.marks;
  past = λ owner to is. le_trans (h.past owner to is) (le_of_lt before);
  complete = λ s isin. le_trans (h.complete s isin) (le_of_lt before);
  listed = λ r l isin lists. le_trans (h.listed r l isin lists) (omega arith);
  listed_of = λ r l isin lists i active is. elim (in_append m.activity (shared slots 0 (length slots) n m) i active) [
    | inl old ↦ owner_beside m.catalog.owners (record { table = next_table m; namespace = ns }) i.table (old_table m i.table (drawn i old)) ∙ h.listed_of r l isin lists i old is
    | inr made ↦ absurd (
        let q : m.drawn.tablets + 0 < i.tablet.number = share_number slots 0 (length slots) n m i made in
        let e : i.tablet.number ≡ l.tablet.number = ap (λ k. k.number) is in
        let b : l.tablet.number ≤ m.drawn.tablets = h.listed r l isin lists in omega arith)
  ];
}

-- what is remembered of all (length slots)

remembered_made : (m : Master) (n : ℕ) (changes : List Made) (ns : Id) (name : List ℕ) (columns : List NewColumn) (slots : List ℕ) (activity : List Interval) → m.clock < n → length slots ≡ (length slots)
    → OperationsGood m changes → Remembered m activity
    → Remembered (table_made ns name columns slots n m) (activity ++ shared slots 0 (length slots) n m)
remembered_made m n changes ns name columns slots activity before long ops h =
    let k = table_made ns name columns slots n m in
    let made = shared slots 0 (length slots) n m in
    record {
      part = part_append activity m.activity made made h.part (part_same made);
      each = λ i isin. elim (in_append activity made i isin) [
        | inl old ↦ (elim (h.each i old) [
          | inl here ↦ inl (in_first m.activity made i here)
          | inr gone ↦ inr (forgotten_on m k i (record { clock = le_of_lt before; schedules = refl; restorations = refl; clones = refl })
              (owner_beside m.catalog.owners (record { table = next_table m; namespace = ns }) i.table (old_table m i.table (h.drawn_table i old)))
              (λ j known same_. elim (in_append m.activity made j known) [
                | inl kept ↦ gone.unknown j kept same_
                | inr new ↦ absurd (
                    let q : m.drawn.tablets + 0 < j.tablet.number = share_number slots 0 (length slots) n m j new in
                    let e : j.tablet.number ≡ i.tablet.number = ap (λ id. id.number) same_ in
                    let l : i.tablet.number ≤ m.drawn.tablets = h.drawn i old in omega arith)
              ]) gone)
        ])
        | inr new ↦ inl (in_second m.activity made i new)
      ];
      drawn = λ i isin. elim (in_append activity made i isin) [
        | inl old ↦ le_trans (h.drawn i old) (omega arith)
        | inr new ↦ (
            let s = share_is slots 0 (length slots) n m i (omega (arith, long)) new in
            let number : i.tablet.number ≡ m.drawn.tablets + (s.place + 1) = ap (λ v. v.tablet.number) s.is in
            let l : s.place < (length slots) = s.drawn in
            let q : i.tablet.number ≤ m.drawn.tablets + (length slots) = omega arith in q)
      ];
      drawn_table = λ i isin. elim (in_append activity made i isin) [
        | inl old ↦ le_trans (h.drawn_table i old) (omega arith)
        | inr new ↦ (let s = share_is slots 0 (length slots) n m i (omega (arith, long)) new in let e : i.table.number ≡ m.drawn.tables + 1 = ap (λ v. v.table.number) s.is in omega arith)
      ];
      reserved = λ c p i known unseen paired isin. elim (in_append activity made i isin) [
        | inl old ↦ h.reserved c p i known unseen paired old
        | inr new ↦ (
            let g = (ops.clones c known).pairs p paired in
            let s = share_is slots 0 (length slots) n m i (omega (arith, long)) new in (
              λ e. absurd (let l1 : m.drawn.tablets + 0 < i.tablet.number = share_number slots 0 (length slots) n m i new in let l2 = g.drawn in let q : i.tablet.number ≡ p.target.number = ap (λ k. k.number) e in omega arith),
              λ e. absurd (let l1 : i.table.number ≡ m.drawn.tables + 1 = ap (λ v. v.table.number) s.is in let l2 = g.drawn_table in let q : i.table.number ≡ p.table.number = ap (λ k. k.number) e in omega arith),
            ))
      ];
    }

-- operations go on: the namespace is not held, and the slots were free

more_drawn : (d : Drawn) (tablets : ℕ) (kind : Kind) → drawn_of kind d ≤ drawn_of kind (record d { tables = d.tables + 1; tablets = d.tablets + tablets })
more_drawn d tablets Table = omega arith
more_drawn d tablets TabletKind = omega arith
more_drawn d tablets _ = le_refl _

abbrev made_catalog : Id → List ℕ → List NewColumn → ℕ → Master → Catalog
made_catalog ns name columns n m = record m.catalog {
  tables = m.catalog.tables ++ record { id = next_table m; namespace = ns; name = name; schema = first_schema columns; from = n; to = None } ∷ [];
  owners = m.catalog.owners ++ record { table = next_table m; namespace = ns } ∷ [];
}

abbrev made_drawn : ℕ → Master → Drawn
made_drawn tablets m = record m.drawn { tables = m.drawn.tables + 1; tablets = m.drawn.tablets + tablets }

-- the owners are namespaces that were drawn
owners_made : (m : Master) (ns : Id) → ns.number ≤ m.drawn.namespaces → ((table owner : Id) → owner_of m.catalog.owners table ≡ Some owner → owner.number ≤ m.drawn.namespaces) → owner_of m.catalog.owners (next_table m) ≡ None
    → (table owner : Id) → owner_of (m.catalog.owners ++ record { table = next_table m; namespace = ns } ∷ []) table ≡ Some owner → owner.number ≤ m.drawn.namespaces
owners_made m ns drawn h none table owner is = either_way (same (next_table m) table)
    (λ e.
    let mine = owner_last m.catalog.owners (record { table = next_table m; namespace = ns }) none in
    let q : Some ns ≡ Some owner = sym mine ∙ ap (owner_of (m.catalog.owners ++ record { table = next_table m; namespace = ns } ∷ [])) (same_equal (next_table m) table e) ∙ is in
    let k : ns ≡ owner = cc in subst (λ id. id.number ≤ m.drawn.namespaces) k drawn)
    (λ e. h table owner (sym (owner_beside m.catalog.owners (record { table = next_table m; namespace = ns }) table e) ∙ is))

current_there : (rs : List NamespaceRecord) (name : List ℕ) (ns : Id) → namespace_named rs name ≡ Some ns → (r : NamespaceRecord) × (In r rs × (r.id ≡ ns))
current_there [] name ns e = absurd (let q = e in grind arith)
current_there (r ∷ rs) name ns e = either_way (is_open r.to && bytes_eq r.name name)
    (λ b. let q : Some r.id ≡ Some ns = rw b at e in (r, (inl refl, (let k : r.id ≡ ns = cc in k))))
    (λ b. let k = current_there rs name ns (rw b at e) in (k.0, (inr k.1.0, k.1.1)))

current_drawn : (m : Master) (changes : List Made) (namespace : List ℕ) (ns : Id) → namespace_named m.catalog.namespaces namespace ≡ Some ns → MasterGood m changes → ns.number ≤ m.drawn.namespaces
current_drawn m changes namespace ns there h =
    let r = current_there m.catalog.namespaces namespace ns there in
    subst (λ id. id.number ≤ m.drawn.namespaces) r.1.1 (h.namespaces.drawn_before r.0 r.1.0)

onward_made : (m : Master) (n : ℕ) (changes : List Made) (ns : Id) (name : List ℕ) (columns : List NewColumn) (slots : List ℕ) → m.clock < n → MasterGood m changes → TablesDrawn m → NotHeld m ns
    → AreFree m (length slots) slots → Onward m n (made_catalog ns name columns n m) (m.activity ++ shared slots 0 (length slots) n m) (made_drawn (length slots) m) changes (with_made m n ns name columns changes)
onward_made m n changes ns name columns slots before h drawn unheld free = record {
  clock = le_of_lt before;
  drawn = more_drawn m.drawn (length slots);
  owned = λ table owner is. owners_first m.catalog.owners (record { table = next_table m; namespace = ns } ∷ []) table owner is;
  owners = λ table l. owner_beside m.catalog.owners (record { table = next_table m; namespace = ns }) table (old_table m table l);
  tables = drawn;
  kept = λ i isin. (i, (in_first m.activity (shared slots 0 (length slots) n m) i isin, inl refl));
  came = λ j isin. elim (in_append m.activity (shared slots 0 (length slots) n m) j isin) [
    | inl old ↦ inl (j, (old, inl refl))
    | inr made ↦ inr (
        let s = share_is slots 0 (length slots) n m j (let e = free.long in omega arith) made in
        let at : In j.slot slots = share_slot slots 0 (length slots) n m j made in
        record {
          drawn = (let q : m.drawn.tablets + 0 < j.tablet.number = share_number slots 0 (length slots) n m j made in omega arith);
          later = (let e : j.from ≡ n = ap (λ v. v.from) s.is in omega arith);
          free = λ other of. (
              let mine : owner_of (m.catalog.owners ++ record { table = next_table m; namespace = ns } ∷ []) (next_table m) ≡ Some ns
              = owner_last m.catalog.owners (record { table = next_table m; namespace = ns }) (h.tables.owners_drawn (next_table m) (omega arith)) in
              let q : Some ns ≡ Some other = sym mine ∙ ap (λ v. owner_of (m.catalog.owners ++ record { table = next_table m; namespace = ns } ∷ []) v.table) (sym s.is) ∙ of in
              let is : ns ≡ other = cc in subst (NotHeld m) is unheld);
          unreserved = free.unreserved j.slot at;
          vacant = λ i listed is. free.vacant j.slot at i listed is;
        })
  ];
  fixed = λ other to. refl;
  tables_held = λ other r isin of held. elim (in_append m.catalog.tables (record { id = next_table m; namespace = ns; name = name; schema = first_schema columns; from = n; to = None } ∷ []) r isin) [
    | inl old ↦ old
    | inr new ↦ (elim new as (λ _. In r m.catalog.tables) [ inl e ↦ absurd (held (subst (NotHeld m) (ap (λ k. k.namespace) e ∙ of) unheld)) | inr none ↦ absurd none ])
  ];
  names = same_names m;
  switched = λ other point is. is;
  before = λ other point is. before_any changes other point (with_made m n ns name columns changes) changes is;
}

-- the plan of a known namespace, where enough slots are free
pub planned_free : (m : Master) (namespace table : List ℕ) (tablets : ℕ) (columns : List NewColumn) (ns : Id) → found_namespace m namespace ≡ Ok ns → tablets ≤ length (free_slots m)
    → plan_of (CreateTable namespace table tablets columns) m ≡ take tablets (free_slots m)
unfolding plan_of
planned_free m namespace table tablets columns ns found enough =
    let fits : leb tablets (length (free_slots m)) ≡ true = grind (arith, nat_tests) in
    ap (λ j. slots_for j (λ ns. least_slots tablets (free_slots m))) found ∙ ap (λ b. cond b (take tablets (free_slots m)) []) fits

pub create_table_keeps : (ps : Parts) (activity : List Interval) (changes : List Made) (n : ℕ) (namespace table : List ℕ) (tablets : ℕ) (columns : List NewColumn) (slots : List ℕ) → Later (0 ∷ slots) ps n
    → CommandAsked (CreateTable namespace table tablets columns) → same_slots slots (plan_of (CreateTable namespace table tablets columns) ps.master) ≡ true → Inv ps activity changes
    → KeepsAll (Change (CreateTable namespace table tablets columns) slots) n ps activity changes (create_table namespace table tablets columns slots n ps.master)
unfolding create_table
create_table_keeps ps activity changes n namespace table tablets columns slots later asked plan inv =
    let m = ps.master in
    let command = CreateTable namespace table tablets columns in
    let h = inv.master in
    let before : m.clock < n = master_early slots ps n later in
    let count = length slots in
    let told_made = tell_made (shared slots 0 count n m) in
    by_judgement (Change command slots) n ps activity changes (judge_create_table namespace table tablets m) _
    (λ why. refused_keeps (Change command slots) why n ps activity changes later inv refl)
    (λ ns found.
    let act = MakesTable ns table columns slots in
    let new = with_made m n ns table columns changes in
    let k = table_made ns table columns slots n m in
    let judged = checked_is (found_namespace m namespace) (λ ns. create_table_checks ns table tablets m) ns found in
    let named = namespace_is m namespace ns judged.0 in
    let enough : tablets ≤ length (free_slots m) = ltb-false (length (free_slots m)) tablets judged.1.1.1.1.0 in
    let least : slots ≡ take tablets (free_slots m) = slots_equal slots (plan_of command m) plan ∙ planned_free m namespace table tablets columns ns judged.0 enough in
    let some : AreFree m tablets slots = subst (AreFree m tablets) (sym least) (least_free m tablets enough) in
    let free : AreFree m count slots = subst (λ k. AreFree m k slots) (sym some.long) some in
    let stands : CatalogStands k new = catalog_table_made m n namespace ns table columns slots changes (le_of_lt before) named judged.1.1.0 asked.5 (catalog_of m changes h) in
    let unheld = not_held m ns judged.1.0 in
    let o = onward_made m n changes ns table columns slots before h (tables_drawn m activity inv.remembered) unheld free in
    let catalog = made_catalog ns table columns n m in
    let more = m.activity ++ shared slots 0 count n m in
    let drawn = made_drawn count m in
    record {
      operations = operations_on m n catalog more drawn m.sent changes new o (λ id. marks_stay m n catalog more drawn changes id (le_of_lt before) inv.operations)
          (owners_made m ns (current_drawn m changes namespace ns named h) inv.operations.owners (h.tables.owners_drawn (next_table m) (omega arith))) (λ mark isin. isin) (all_listed m changes h) inv.operations;
      rows_past = rows_on m n catalog more drawn m.sent changes new ps.tablet _ (le_of_lt before) (clocks_rise (Change command slots) (accepts act told_made (next_table m ∷ [])) n ps (λ slot e. tablet_before (0 ∷ slots) ps n slot later e))
          (λ i isin. inl (in_first m.activity (shared slots 0 count n m) i isin)) (λ c table_ key op isin is. elim isin as (λ _. In c changes) [ inl e ↦ absurd (let q = ap (λ k. k.act) e ∙ is in grind arith) | inr old ↦ old ]) inv.rows_past;
      journal = journal_on m n catalog more drawn m.sent changes new (one_more changes (record { stamp = n; act = table_made_act m ns table columns }) (λ table_ key op e. let q = e in grind arith) (λ other point. refl)) o.fixed (le_refl _) (omega arith) o.owners inv.journal;
      works = slots_told (SlotWorks k new) command slots act told_made (next_table m ∷ []) n ps
          (λ i is from. (
          let isin : In i slots = in_has slots i is in
          let s = share_at slots 0 count n m i isin in
          let w = s.0 in
          let e : act_for told_made i ≡ Make w.tablet w.table w.low w.high 1 = made_told slots count n m w i free.rise s.1.0 s.1.1 in
          subst (λ a. SlotWorks k new i (effect a n (ps.tablet i))) (sym e)
          (placed_works m n catalog more drawn m.sent changes new i (effect (Make w.tablet w.table w.low w.high 1) n (ps.tablet i)) w o inv.operations
          (record { vacant = λ j listed at. free.vacant i isin j listed at; unreserved = free.unreserved i isin })
          (in_second m.activity (shared slots 0 count n m) w s.1.0) s.1.1 refl
          (let q : m.drawn.tablets + 0 < w.tablet.number = share_number slots 0 count n m w s.1.0 in omega arith)
          (share_table slots 0 count n m w s.1.0))))
          (λ i others. record {
            orders = orders_on m n catalog more drawn m.sent changes new i (ps.tablet i) o (inv.works i).orders;
            obeyed = obeyed_on m n catalog more drawn m.sent changes new i (ps.tablet i) o (λ c serving at d key isin is paired. made_rows n (next_table m) ns table (numbered 1 columns) changes c.to d.source key) inv.operations (inv.works i).obeyed;
          });
      remembered = remembered_made m n changes ns table columns slots activity before free.long inv.operations inv.remembered;
      cover = made_covers activity changes slots count n m.drawn.tablets (next_table m) ns table (numbered 1 columns) (let e = some.long in let l : 1 ≤ tablets = asked.2.0 in omega arith) (let e = some.long in let l : tablets ≤ 64 = asked.2.1 in omega arith) free.long
          (λ i isin. not_same i.table (next_table m) (apart_by_number i.table (next_table m) (let l : i.table.number ≤ m.drawn.tables = inv.remembered.drawn_table i isin in omega arith)))
          (λ x. ap is_some (never_made m changes x h)) inv.cover;
      master = master_made m n changes ns table columns slots before free (λ i isin. ((inv.slots i.slot).each i isin refl).drawn_table) stands h;
      slots = slots_told (SlotGood k new) command slots act told_made (next_table m ∷ []) n ps
          (λ i is from. (
          let isin : In i slots = in_has slots i is in
          let s = share_at slots 0 count n m i isin in
          let e : act_for told_made i ≡ Make s.0.tablet s.0.table s.0.low s.0.high 1 = made_told slots count n m s.0 i free.rise s.1.0 s.1.1 in
          subst (λ a. SlotGood k new i (effect a n (ps.tablet i))) (sym e)
          (slot_placed m n changes ns table columns slots (ps.tablet i) i s.0 before h (λ j listed. ((inv.slots j.slot).each j listed refl).drawn) free isin s.1.0 s.1.1)))
          (λ i aside. slot_aside m n changes ns table columns slots (ps.tablet i) i before free aside (inv.slots i));
    })
