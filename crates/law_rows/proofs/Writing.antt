-- A write keeps what holds: its tablet reads as the view goes on, and no other tablet has its keys at its stamp.
use Rattle.model.specs.Right.{is_fixed}
use Rattle.std.proofs.Common.{ℕ, ◌≡◌, ◌≤◌, ◌<◌, ◌+◌, max, List, [], ◌∷◌, inl, inr, Option, Some, None, Bool, true, false, cond, not, refl, sym, ap, subst, ◌∙◌, arith, eqb, leb, ltb, ltb-false, ltb-true, le_trans, le_of_lt, lt_of_lt_of_le, fold, is_some}
use Rattle.std.proofs.lemmas.Bool.{true≢false}
use Rattle.std.proofs.lemmas.Bool.Decides.{nat_tests}
use Rattle.std.specs.List.{list_all}
use Rattle.model.specs.Cluster.{code_of, Item, Id, same, In, before_end, in_range, owner_of, name_of, kept_from, Interval, active_at, Listed, RestorationRecord, RestorationState, Fencing, Restoring, Releasing, Restored, point_of, Master, Parts, If, Names, RowOp}
use Rattle.row_values.specs.Store.{written}
use Rattle.model.specs.Journal.{Change, RowChanged, TableView, is_in, table_at, row_at, namespace_at}
use Rattle.model.specs.Stands.{awaited_in, awaited_of}
use Rattle.model.specs.Tablets.{Tablet, act_for, effect, is_serving, serves, wrote, Write as WriteRows, FrozenSet}
use Rattle.model.specs.Acts.{At, Write, Ok, Fenced, StaleSchema}
use Rattle.model.specs.Entries.{slots_of}
use Rattle.model.specs.History.{rows_made, told}
use Rattle.model.specs.RowActs.{write, serves_all, covers, has_moved}
use Rattle.law_store.specs.Sorted.{item_step, EachItemKey}
use Rattle.law_store.proofs.Members.{keys_written}
use Rattle.law_store.proofs.Keys.{either_way}
use Rattle.law_store.proofs.Writing.{read_written, read_written_before, sorted_written, below_written}
use Rattle.law_invariants.specs.Invariant.{Inv, Later, SlotGood, SlotWorks, Covered, MasterGood, ComesFrom, StandsIn, is_awaited, SetStands, IsGoodIn, view_at}
use Rattle.law_invariants.specs.Operations.{IsOpenOf, RestorationStateGood, is_switched, OperationsGood, JournalGood}
use Rattle.law_invariants.proofs.Undoing.{before_none, owned_is}
use Rattle.law_invariants.specs.Orders.{RestorationSlot, FencingSlot, CopyingSlot, CloneSlot, RowsPast, directory}
use Rattle.law_invariants.proofs.Hearing.{effect_clock}
use Rattle.law_invariants.proofs.Ordering.{SourcesStay, orders_mild, obeyed_mild}
use Rattle.law_invariants.proofs.Working.{SameFixed, comes_on, tables_drawn, all_listed, operations_journal, works_journal}
use Rattle.law_invariants.proofs.Finding.{not_passing, both_pass, same_self, same_equal}
use Rattle.law_invariants.proofs.Ticking.{refused_keeps, by_checks, KeepsAll, below_later, over_later}
use Rattle.law_invariants.proofs.Frame.{one_told, rows_told, tells}
use Rattle.law_invariants.proofs.Overlap.{ends_before, code_below}
use Rattle.law_rows.proofs.Keeping.{one_touched}
use Rattle.law_invariants.proofs.Told.{clock_before, has_it}
use Rattle.law_rows.proofs.Rows.{row_change, rows_in, unswitched_stay, tables_stay, namespaces_stay, fixed_stay, switched_stay, before_stay, not_written, rows_written}
use Rattle.law_invariants.proofs.Remembering.{kept_all}
use Rattle.law_invariants.proofs.Awaiting.{settled_none}

-- the master's facts under changes of rows
master_written : (m : Master) (n : ℕ) (table : Id) (batch : List Item) (changes : List Change) → MasterGood m changes → MasterGood m (rows_made n table batch changes)
master_written m n table batch changes h =
    let after = rows_made n table batch changes in
    let viewed : (id : Id) (x : ℕ) → m.clock ≤ x → namespace_at (rows_made n table batch changes) x id ≡ name_of m.catalog.namespaces id = λ id x le. namespaces_stay batch n table changes x id ∙ h.namespaces.viewed id x le in
    let viewed_now : (id ns : Id) (x : ℕ) → owner_of m.catalog.owners id ≡ Some ns → kept_from m.catalog.kept_from ns ≤ x → table_at (rows_made n table batch changes) x id ≡ view_at m.catalog.tables x id = λ id ns x owner le. tables_stay batch n table changes x id ∙ h.tables.viewed id ns x owner le in
    let unmade : (id : Id) (x : ℕ) → owner_of m.catalog.owners id ≡ None → table_at (rows_made n table batch changes) x id ≡ None = λ id x owner. tables_stay batch n table changes x id ∙ h.tables.unmade id x owner in
    let inside : (id : Id) (x : ℕ) (v : TableView) → table_at (rows_made n table batch changes) x id ≡ Some v → owner_of m.catalog.owners id ≡ Some v.namespace = λ id x v found. h.tables.inside id x v (sym (tables_stay batch n table changes x id) ∙ found) in
    let past : (ns : Id) (to : ℕ) → is_fixed (rows_made n table batch changes) ns to ≡ true → to ≤ m.clock = λ ns to is. h.past ns to (sym (fixed_stay batch n table changes ns to) ∙ is) in
    assumption (viewed, viewed_now, unmade, inside, past)

cover_written : (activity : List Interval) (n : ℕ) (table : Id) (batch : List Item) (changes : List Change) → Covered activity changes → Covered activity (rows_made n table batch changes)
cover_written activity n table batch changes h = record { once = h.once; whole = λ t code x below is. h.whole t code x below (ap is_some (sym (tables_stay batch n table changes x t)) ∙ is); ranges = h.ranges }

-- a namespace that has the table in the view at some time is the one that owns it
owner_is : (ns : Id) (v : Option TableView) (owner : Option Id) → ((w : TableView) → v ≡ Some w → owner ≡ Some w.namespace) → is_in ns v ≡ true → owner ≡ Some ns
owner_is ns None owner h is = absurd (let q = is in grind arith)
owner_is ns (Some w) owner h is = h w refl ∙ ap (λ k. Some k) (same_equal w.namespace ns is)

rows_fixed : (n : ℕ) (table : Id) (batch : List Item) (changes : List Change) → SameFixed changes (rows_made n table batch changes)
rows_fixed n table batch changes = record {
  fixed = λ ns to. fixed_stay batch n table changes ns to;
  switched = λ ns point is. switched_stay batch n table changes ns point is;
  before = λ ns point is. before_stay batch n table changes ns point (rows_made n table batch changes) is;
}

-- a slot whose reads stay under the changes of rows
slot_stays : (m : Master) (n : ℕ) (table : Id) (batch : List Item) (changes : List Change) (slot : ℕ) (t : Tablet)
    → ((i : Interval) (key : List ℕ) (x : ℕ) → In i m.activity → i.slot ≡ slot → in_range i.low i.high (code_of key) ≡ true → before_end x i.to ≡ true
    → row_at (rows_made n table batch changes) x i.table key ≡ row_at changes x i.table key)
    → SlotGood m changes slot t → SlotGood m (rows_made n table batch changes) slot t
slot_stays m n table batch changes slot t stays h =
    let each : (i : Interval) → In i m.activity → i.slot ≡ slot → IsGoodIn m.clock m.slots (directory m) (rows_made n table batch changes) t i = λ i isin is. let g = h.each i isin is in
    let viewed : (x : ℕ) → active_at x i ≡ true → is_some (table_at (rows_made n table batch changes) x i.table) ≡ true = λ x active. ap is_some (tables_stay batch n table changes x i.table) ∙ g.viewed x active in
    let comes : (r : RestorationRecord) (point : ℕ) → In r m.restorations → awaited_of r.state r t.tablet t.done ≡ Some point → i.to ≡ None → ComesFrom (rows_made n table batch changes) r.namespace i point r.to = λ r point kept awaits opened. comes_on changes (rows_made n table batch changes) r.namespace i point r.to (rows_fixed n table batch changes) (λ key x ranged. stays i key x isin is ranged (ap (before_end x) opened))
    (g.comes r point kept awaits opened) in
    let stands : is_awaited (awaited_in m.restorations t.tablet t.done) i.to ≡ false → StandsIn t (rows_made n table batch changes) i = λ counted key x ranged cut before there.
    g.stands counted key x ranged cut before (ap is_some (sym (tables_stay batch n table changes x i.table)) ∙ there) ∙ sym (stays i key x isin is ranged before) in
    let sets : (f : FrozenSet) → In f t.frozen → SetStands f (rows_made n table batch changes) i = λ f held key x ranged cut by active. g.sets f held key x ranged cut by active ∙ sym (stays i key x isin is ranged (both_pass (leb i.from x) (before_end x i.to) active).1) in
    assumption (viewed, comes, stands, sets) in
    let shown : is_serving t.presence ≡ true → t.fence ≡ None → (x : ℕ) → t.cutoff ≤ x → is_some (table_at (rows_made n table batch changes) x t.table) ≡ true = λ serving unfenced x cut. ap is_some (tables_stay batch n table changes x t.table) ∙ h.shown serving unfenced x cut in
    let later : (ns : Id) (to : ℕ) → is_fixed (rows_made n table batch changes) ns to ≡ true → is_serving t.presence ≡ true → t.fence ≡ None → owner_of m.catalog.owners t.table ≡ Some ns → to ≤ t.clock = λ ns to is. h.later ns to (sym (fixed_stay batch n table changes ns to) ∙ is) in
    assumption (each, shown, later)

eqb_at : (a b : ℕ) → a ≡ b → eqb a b ≡ true
eqb_at a b e = grind (arith, nat_tests)

-- a batch that a tablet takes has its keys in the range
item_keys : (items : List Item) (t : Tablet) → list_all (λ item. covers t item.key) items ≡ true → EachItemKey (λ key. in_range t.low t.high (code_of key)) items
item_keys [] t all = tt
item_keys (item ∷ items) t all = let each = both_pass (covers t item.key) (list_all (λ i. covers t i.key) items) all in (each.0, item_keys items t each.1)

-- the written slot
slot_written : (m : Master) (n : ℕ) (batch : List Item) (changes : List Change) (slot : ℕ) (t : Tablet) → t.clock < n → is_serving t.presence ≡ true → t.fence ≡ None
    → list_all (λ item. covers t item.key) batch ≡ true → SlotGood m changes slot t → SlotGood m (rows_made n t.table batch changes) slot (wrote batch n t)
slot_written m n batch changes slot t less serving unfenced all h =
    let below = below_later t.versions (t.clock + 1) (n + 1) (omega arith) h.good.below in
    record {
      good = record {
        sorted = sorted_written batch t.versions n h.good.sorted below;
        below = below_written batch t.versions n (n + 1) (omega arith) below;
        cutoff = le_trans h.good.cutoff (le_of_lt less);
        keys = keys_written batch t.versions n (λ key. in_range t.low t.high (code_of key)) (item_keys batch t all) h.good.keys;
        set_sorted = h.good.set_sorted;
        set_keys = h.good.set_keys;
        set_past = λ f held. lt_of_lt_of_le (h.good.set_past f held) (le_of_lt less);
      };
      home = h.home;
      numbered = h.numbered;
      each = λ i isin is. let g = h.each i isin is in record {
        past = g.past;
        over = over_later i.to i.from t.clock n (le_of_lt less) g.over;
        drawn = g.drawn;
        drawn_table = g.drawn_table;
        slot_from = g.slot_from;
        slot_to = g.slot_to;
        present = g.present;
        tablet_is = g.tablet_is;
        table_is = g.table_is;
        low_is = g.low_is;
        high_is = g.high_is;
        viewed = λ x active. ap is_some (tables_stay batch n t.table changes x i.table) ∙ g.viewed x active;
        waits = g.waits;
        comes = λ r point kept awaits. (let none = settled_none m.restorations t.tablet t.done (h.opens serving unfenced).settled r kept in let q : None ≡ Some point = sym none ∙ awaits in absurd (grind arith));
        serves = g.serves;
        hidden = g.hidden;
        stands = λ counted key x ranged cut before there. (
            let was = g.stands counted key x ranged cut before (ap is_some (sym (tables_stay batch n t.table changes x i.table)) ∙ there) in
            either_way (ltb x n)
            (λ sooner. read_written_before batch t.versions n key x h.good.sorted below (ltb-true x n sooner) ∙ was
            ∙ sym (not_written batch n t.table i.table t changes key x all (λ a b. ltb-true x n sooner)))
            (λ after. let le : n ≤ x = ltb-false x n after in
            read_written batch t.versions n key x h.good.sorted below le
            ∙ ap (λ row. fold (item_step key) row batch) (was ∙ ap (λ k. row_at changes x k key) (sym g.table_is))
            ∙ sym (rows_written batch n t.table changes key x le (h.shown serving unfenced x cut))
            ∙ ap (λ k. row_at (rows_made n t.table batch changes) x k key) g.table_is));
        -- a frozen set's time is before the stamp
        sets = λ f held key x ranged cut by active. g.sets f held key x ranged cut by active
            ∙ sym (not_written batch n t.table i.table t changes key x all (λ a b. let past : f.at < t.clock = h.good.set_past f held in let up : x ≤ f.at = by in omega arith));
      };
      opens = λ s u. let p = h.opens s u in record { interval = p.interval; listed = p.listed; slot_is = p.slot_is; opened = p.opened; begun = le_trans p.begun (le_of_lt less); settled = p.settled };
      shown = λ s u x cut. ap is_some (tables_stay batch n t.table changes x t.table) ∙ h.shown s u x cut;
      later = λ ns to is s u owned. le_trans (h.later ns to (sym (fixed_stay batch n t.table changes ns to) ∙ is) s u owned) (le_of_lt less);
    }

-- a tablet that takes writes stamps them after the times to which its namespace is cloned
sources_stay : (m : Master) (n : ℕ) (batch : List Item) (changes : List Change) (slot : ℕ) (t : Tablet) → t.clock < n → is_serving t.presence ≡ true → t.fence ≡ None
    → list_all (λ item. covers t item.key) batch ≡ true → OperationsGood m changes → SlotWorks m changes slot t → SourcesStay m changes (rows_made n t.table batch changes)
sources_stay m n batch changes slot t less serving unfenced all operations works = λ c served at d key isin is paired. not_written batch n t.table d.source t changes key c.to all (λ tables_same range.
    let g = operations.clones c isin in
    let slot_is : CopyingSlot m changes c at slot t = subst (λ state. CloneSlot state m changes c slot t) is (works.obeyed.clones c isin) in
    let owner : owner_of m.catalog.owners t.table ≡ Some c.source = ap (owner_of m.catalog.owners) (same_equal t.table d.source tables_same) ∙ g.owned d paired in
    let past : c.to ≤ t.clock = slot_is.later serving unfenced owner in
    omega arith)

-- a tablet of a namespace that is between its restoration's snapshot and its switch is fenced
fenced_then : (state : RestorationState) (m : Master) (changes : List Change) (r : RestorationRecord) (slot : ℕ) (t : Tablet) (point : ℕ) (i : Interval) → point_of state ≡ Some point → is_switched changes r.namespace point ≡ false
    → RestorationStateGood state m changes r → RestorationSlot state m changes r slot t → IsOpenOf m r.namespace i → i.slot ≡ slot → t.fence ≡ Some r.id
fenced_then Fencing m changes r slot t point i at none good h opened is = absurd (let q = at in grind arith)
fenced_then (Restoring p served) m changes r slot t point i at none good h opened is = absurd (let e : p ≡ point = cc in true≢false (sym good.switched ∙ ap (is_switched changes r.namespace) e ∙ none))
fenced_then (Releasing p served) m changes r slot t point i at none good h opened is = absurd (let e : p ≡ point = cc in true≢false (sym good.switched ∙ ap (is_switched changes r.namespace) e ∙ none))
fenced_then (Restored p served) m changes r slot t point i at none good h opened is = absurd (let e : p ≡ point = cc in true≢false (sym good.switched ∙ ap (is_switched changes r.namespace) e ∙ none))
fenced_then _ m changes r slot t point i at none good h opened is = h.fenced i opened is

row_is : (n : ℕ) (of table : Id) (item : Item) (c : Change) (key : List ℕ) (op : RowOp) → c ≡ row_change n of item → c.act ≡ RowChanged table key op → of ≡ table
row_is n of table item c key op e is = let q : RowChanged of item.key item.op ≡ RowChanged table key op = sym (ap (λ k. k.act) e) ∙ is in cc

journal_written : (m : Master) (n : ℕ) (batch : List Item) (changes : List Change) (slot : ℕ) (t : Tablet) → is_serving t.presence ≡ true → t.fence ≡ None → OperationsGood m changes → SlotGood m changes slot t → SlotWorks m changes slot t
    → JournalGood m changes → JournalGood m (rows_made n t.table batch changes)
journal_written m n batch changes slot t serving unfenced ops good works h = let new = rows_made n t.table batch changes in record {
  fixed_drawn = λ ns to is. h.fixed_drawn ns to (sym (fixed_stay batch n t.table changes ns to) ∙ is);
  drawn = λ c table key op isin is. elim (rows_in batch n t.table changes c isin) [
    | inl old ↦ h.drawn c table key op old is
    | inr made ↦ subst (λ k. k.number ≤ m.drawn.tables) (row_is n t.table table made.0 c key op made.1 is) works.obeyed.drawn_table
  ];
  undone = λ r point isin at c table key op there is owned. either_way (is_switched changes r.namespace point)
      (λ s. h.undone r point isin at c table key op (subst (In c) (before_stay batch n t.table changes r.namespace point new s) there) is owned)
      (λ s.
      let all : In c new = subst (In c) (before_none new r.namespace point new (unswitched_stay batch n t.table changes r.namespace point ∙ s)) there in
      elim (rows_in batch n t.table changes c all) [
        | inl old ↦ h.undone r point isin at c table key op (subst (In c) (sym (before_none changes r.namespace point changes s)) old) is owned
        | inr made ↦ absurd (
            let o = good.opens serving unfenced in
            let g = good.each o.interval o.listed o.slot_is in
            let owner : owner_of m.catalog.owners o.interval.table ≡ Some r.namespace =
            ap (owner_of m.catalog.owners) (sym g.table_is ∙ row_is n t.table table made.0 c key op made.1 is) ∙ owned_is (owner_of m.catalog.owners table) r.namespace owned in
            let fenced = fenced_then r.state m changes r slot t point o.interval at s (ops.restorations r isin).in_state (works.obeyed.restorations r isin) (record { kept = o.listed; opened = o.opened; owned = owner }) o.slot_is in
            let q : None ≡ Some r.id = sym unfenced ∙ fenced in grind arith)
      ]);
  restored = λ ns point is. h.restored ns point (sym (unswitched_stay batch n t.table changes ns point) ∙ is);
  one_point = h.one_point;
}

pub none_is : {A : Type 0} (o : Option A) → is_some o ≡ false → o ≡ None
none_is None e = refl
none_is (Some x) e = absurd (let q = e in grind arith)

passed : (b : Bool) → not b ≡ false → b ≡ true
passed true e = refl
passed false e = absurd (let q = e in grind arith)

unacked_there : (r : RestorationRecord) (slot : ℕ) (t : Tablet) (l : Listed) → FencingSlot r slot t → In l r.listed → l.slot ≡ slot → t.fence ≡ None → l.acked ≡ false
unacked_there r slot t l h isin is free = not_passing l.acked (λ acked. let q : None ≡ Some r.id = sym free ∙ h.fenced (h.acked l isin is acked) in grind arith)

-- the written tablet's clock is at the batch's changes
rows_heard : (ps : Parts) (activity : List Interval) (changes : List Change) (n : ℕ) (place : At) (version : ℕ) (batch : List Item) → Later (slots_of (Write place version batch)) ps n → 1 ≤ place.slot → Inv ps activity changes
    → is_serving (ps.tablet place.slot).presence ≡ true → (ps.tablet place.slot).fence ≡ None
    → RowsPast ps.master (told (Write place version batch) (tells place.slot (WriteRows batch) (Ok [])) n ps).tablet (rows_made n (ps.tablet place.slot).table batch changes)
rows_heard ps activity changes n place version batch later from inv serving unfenced =
    let act = Write place version batch in
    let slot = place.slot in
    let t = ps.tablet slot in
    let o = (inv.slots slot).opens serving unfenced in
    let g = (inv.slots slot).each o.interval o.listed o.slot_is in
    let after = (told act (tells slot (WriteRows batch) (Ok [])) n ps).tablet in
    λ c table key op isin is. elim (rows_in batch n t.table changes c isin) [
      | inl old ↦ rows_told act (Ok []) slot (WriteRows batch) n ps changes later inv.rows_past c table key op old is
      | inr made ↦ inr (record {
        interval = o.interval;
        kept = o.listed;
        opened = o.opened;
        table_is = sym g.table_is ∙ row_is n t.table table made.0 c key op made.1 is;
        behind = (
            let stamp_is : c.stamp ≡ n = ap (λ k. k.stamp) made.1 in
            let clock_is : (after slot).clock ≡ n = ap (λ b. (cond b (effect (act_for (record { slot = slot; act = WriteRows batch } ∷ []) slot) n t) t).clock) (one_touched slot from) ∙ effect_clock _ n t in
            let there : (after o.interval.slot).clock ≡ n = ap (λ k. (after k).clock) o.slot_is ∙ clock_is in omega arith);
        unacked = λ r l known fencing lists at. unacked_there r slot t l (subst (λ state. RestorationSlot state ps.master changes r slot t) fencing ((inv.works slot).obeyed.restorations r known)) lists (at ∙ o.slot_is) unfenced;
      })
    ]

-- the parts after a write that isn't refused
written_inv : (ps : Parts) (activity : List Interval) (changes : List Change) (n : ℕ) (place : At) (version : ℕ) (batch : List Item) → Later (slots_of (Write place version batch)) ps n → 1 ≤ place.slot → Inv ps activity changes
    → serves_all (ps.tablet place.slot) place.tablet batch ≡ true → (ps.tablet place.slot).fence ≡ None
    → KeepsAll (Write place version batch) n ps activity changes (tells place.slot (WriteRows batch) (Ok []))
written_inv ps activity changes n place version batch later from inv takes_ unfenced =
    let slot = place.slot in
    let t = ps.tablet slot in
    let h = inv.slots slot in
    let here = both_pass (serves t place.tablet) (list_all (λ item. covers t item.key) batch) takes_ in
    let serving : is_serving t.presence ≡ true = (both_pass (is_serving t.presence) (same t.tablet place.tablet) here.0).0 in
    let all = here.1 in
    let less : t.clock < n = clock_before (slot ∷ []) ps n slot later from (has_it slot []) in
    let o = h.opens serving unfenced in
    let z = h.each o.interval o.listed o.slot_is in
    let new = rows_made n t.table batch changes in
    let drawn = tables_drawn ps.master activity inv.remembered in
    let same_ : SameFixed changes new = rows_fixed n t.table batch changes in
    let stays = sources_stay ps.master n batch changes slot t less serving unfenced all inv.operations (inv.works slot) in
    let w = works_journal ps.master changes new slot t drawn same_ stays inv.operations (inv.works slot) in
    one_told (Write place version batch) (Ok []) slot (WriteRows batch) n ps activity (rows_made n t.table batch changes) later (one_touched slot from)
    (master_written ps.master n t.table batch changes inv.master)
    (λ j apart. slot_stays ps.master n t.table batch changes j (ps.tablet j)
    (λ i key x isin is ranged before. not_written batch n t.table i.table t changes key x all
    (λ tables_same range.
    let g = (inv.slots j).each i isin is in
    let soon : x < o.interval.from = ends_before activity i o.interval t.table (code_of key) x (ps.tablet j).clock
    (inv.cover.once t.table (code_of key) (max i.from o.interval.from) (code_below key)) (kept_all inv.remembered i isin) (kept_all inv.remembered o.interval o.listed)
    (λ e. true≢false (sym (eqb_at slot j (sym o.slot_is ∙ sym e ∙ is)) ∙ apart))
    (subst (λ k. same k t.table ≡ true) (same_equal t.table i.table tables_same) (same_self t.table))
    (subst (λ k. same k t.table ≡ true) z.table_is (same_self t.table))
    ranged (rw (← z.low_is, ← z.high_is) range) g.over o.opened before in
    lt_of_lt_of_le soon (le_trans o.begun (le_of_lt less))))
    (inv.slots j))
    (slot_written ps.master n batch changes slot t less serving unfenced all h)
    (operations_journal ps.master changes new drawn same_ (all_listed ps.master changes inv.master) inv.operations)
    (journal_written ps.master n batch changes slot t serving unfenced inv.operations h (inv.works slot) inv.journal)
    (rows_heard ps activity changes n place version batch later from inv serving unfenced)
    (λ j apart. works_journal ps.master changes new j (ps.tablet j) drawn same_ stays inv.operations (inv.works j))
    (record {
      orders = orders_mild ps.master slot t n t.version (written t.versions n batch) t.cutoff (le_of_lt less) w.orders;
      obeyed = obeyed_mild ps.master new slot t n t.version (written t.versions n batch) t.cutoff t.inbox (le_of_lt less) (inr unfenced) (λ r l point served isin is lists at e. e) w.obeyed;
    })
    inv.remembered
    (cover_written activity n t.table batch changes inv.cover)

pub write_keeps : (ps : Parts) (activity : List Interval) (changes : List Change) (n : ℕ) (place : At) (version : ℕ) (batch : List Item) → Later (slots_of (Write place version batch)) ps n → 1 ≤ place.slot → Inv ps activity changes
    → KeepsAll (Write place version batch) n ps activity changes (write place version batch n ps)
unfolding write
write_keeps ps activity changes n place version batch later from inv =
    let t = ps.tablet place.slot in
    by_checks (Write place version batch) n ps activity changes
    (If (not (serves_all t place.tablet batch)) (has_moved place.slot t) ∷ Names t.fence Fenced ∷ If (not (eqb t.version version)) (StaleSchema t.version) ∷ [])
    (tells place.slot (WriteRows batch) (Ok []))
    (λ why. refused_keeps (Write place version batch) why n ps activity changes later inv refl)
    (λ passes. written_inv ps activity changes n place version batch later from inv (passed _ passes.0) (none_is t.fence passes.1.0))
