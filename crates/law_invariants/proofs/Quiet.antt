-- A command that makes and drops no table keeps what holds.
use Rattle.std.specs.Prelude.{None}
use Rattle.std.proofs.Common.{ℕ, ◌≡◌, ◌≤◌, List, ◌∷◌, Some, cond, true, ◌⊎◌, inl, refl, sym, ap, subst, ◌∙◌, arith, leb, le_of_lt, le_trans, le_refl}
use Rattle.std.specs.Option.{is_some}
use Rattle.model.specs.Cluster.{Kind, NamespaceKind, TableKind, Id, same, In, Interval, active_at, before_end, ended, Master, MasterAct, Parts, Drawn}
use Rattle.model.specs.Catalog.{Catalog, NamespaceRecord, TableRecord, owner_of, kept_from, end_table}
use Rattle.model.specs.Drawn.{drawn_of}
use Rattle.model.specs.Journal.{Change as Made, table_at, row_at}
use Rattle.model.specs.Tablets.{Tablet, TabletAct, Told, act_for, effect, Clock, SetVersion, is_serving}
use Rattle.model.specs.Stands.{awaited_in, before_restore}
use Rattle.model.specs.Acts.{Command, Change}
use Rattle.model.specs.Changes.{accepts}
use Rattle.model.specs.History.{master_effect, told}
use Rattle.law_invariants.specs.Remembered.{activity_after, Remembered}
use Rattle.law_invariants.proofs.Remembering.{remembered_on, floor_rises}
use Rattle.law_invariants.specs.Invariant.{Covered, IsGood, SlotGood, SlotWorks, MasterGood, Inv, Later, is_awaited, IsGoodIn, TakesWritesIn}
use Rattle.law_invariants.proofs.Finding.{both_pass, same_equal, in_mapped}
use Rattle.law_store.proofs.Keys.{either_way}
use Rattle.law_invariants.proofs.Ticking.{past_later, tablet_ticked, tablet_before}
use Rattle.law_invariants.proofs.Journaling.{IsQuiet}
use Rattle.law_invariants.proofs.Covering.{quiet_covers}
use Rattle.law_invariants.proofs.Cataloguing.{CatalogStands}
use Rattle.law_invariants.specs.Operations.{is_switched, OperationsGood, JournalGood}
use Rattle.law_invariants.specs.Orders.{RowsPast, directory}
use Rattle.law_invariants.proofs.Hearing.{clocks_rise, rows_on}
use Rattle.law_invariants.proofs.Undoing.{RowsFrom, journal_on}
use Rattle.law_invariants.proofs.Operating.{NotHeld, WasNamed, NewName, Onward, going, operations_on}
use Rattle.model.specs.Cleanup.{floor_of}
use Rattle.law_invariants.proofs.Ordering.{rows_same, orders_on, obeyed_on, orders_mild, obeyed_mild}
use Rattle.law_invariants.proofs.Working.{SameFixed, comes_on, tables_drawn, all_listed, work_later}
use Rattle.law_invariants.proofs.Told.{slots_told, tablet_early}

-- the master goes on with its tablets, under a journal with the same tables and rows
pub record Follows (m k : Master) (changes new : List Made) : Type 0 where
  pub clock : m.clock ≤ k.clock
  pub slots : k.slots ≡ m.slots
  pub activity : k.activity ≡ m.activity
  pub restorations : k.restorations ≡ m.restorations
  pub clones : k.clones ≡ m.clones
  pub schedules : k.schedules ≡ m.schedules
  pub scheduled : k.scheduled ≡ m.scheduled
  pub owners : k.catalog.owners ≡ m.catalog.owners
  pub drawn : k.drawn.tablets ≡ m.drawn.tablets
  pub drawn_tables : k.drawn.tables ≡ m.drawn.tables
  pub quiet : IsQuiet changes new
  pub same_ : SameFixed changes new

-- what an interval and its tablet stand for goes over to the master and the journal after a change
pub record Carries (m k : Master) (changes new : List Made) (i : Interval) : Type 0 where
  pub clock : m.clock ≤ k.clock
  pub slots : k.slots ≡ m.slots
  pub restorations : k.restorations ≡ m.restorations
  pub drawn : m.drawn.tablets ≤ k.drawn.tablets
  pub drawn_tables : m.drawn.tables ≤ k.drawn.tables
  pub viewed : (x : ℕ) → active_at x i ≡ true → is_some (table_at changes x i.table) ≡ true → is_some (table_at new x i.table) ≡ true
  pub shown : (x : ℕ) → is_some (table_at new x i.table) ≡ true → is_some (table_at changes x i.table) ≡ true
  pub rows : (x : ℕ) (key : List ℕ) → before_end x i.to ≡ true → row_at new x i.table key ≡ row_at changes x i.table key
  pub same_ : SameFixed changes new

pub good_carried : (m k : Master) (changes new : List Made) (t : Tablet) (i : Interval) → Carries m k changes new i → IsGood m changes t i → IsGood k new t i
good_carried m k changes new t i f g = record {
  past = past_later i.from m.clock k.clock i.to f.clock g.past;
  over = g.over;
  drawn = le_trans g.drawn f.drawn;
  drawn_table = le_trans g.drawn_table f.drawn_tables;
  slot_from = g.slot_from;
  slot_to = (let l = g.slot_to in let e = f.slots in omega arith);
  present = g.present;
  tablet_is = g.tablet_is;
  table_is = g.table_is;
  low_is = g.low_is;
  high_is = g.high_is;
  viewed = λ x active. f.viewed x active (g.viewed x active);
  waits = λ point waits. g.waits point (ap (λ rs. awaited_in rs t.tablet t.done) (sym f.restorations) ∙ waits);
  comes = λ r point kept awaits opened. comes_on changes new r.namespace i point r.to f.same_ (λ key x ranged. f.rows x key (ap (before_end x) opened)) (g.comes r point (subst (In r) f.restorations kept) awaits opened);
  serves = λ opened settled. g.serves opened (ap (λ rs. awaited_in rs t.tablet t.done) (sym f.restorations) ∙ settled);
  hidden = λ at is came. g.hidden at is (ap (λ rs. is_awaited (awaited_in rs t.tablet t.done) i.to) (sym f.restorations) ∙ came);
  stands = λ counted key x within cut before there. g.stands (ap (λ rs. is_awaited (awaited_in rs t.tablet t.done) i.to) (sym f.restorations) ∙ counted) key x within cut before (f.shown x there) ∙ sym (f.rows x key before);
  sets = λ s held key x within cut by active. g.sets s held key x within cut by active ∙ sym (f.rows x key (both_pass (leb i.from x) (before_end x i.to) active).1);
}

carries : (m k : Master) (changes new : List Made) (i : Interval) → Follows m k changes new → Carries m k changes new i
carries m k changes new i f =
    let drawn : m.drawn.tablets ≤ k.drawn.tablets = let e = f.drawn in omega arith in
    let drawn_tables : m.drawn.tables ≤ k.drawn.tables = let e = f.drawn_tables in omega arith in
    let viewed : (x : ℕ) → active_at x i ≡ true → is_some (table_at changes x i.table) ≡ true → is_some (table_at new x i.table) ≡ true = λ x active is. f.quiet.tables x i.table ∙ is in
    let shown : (x : ℕ) → is_some (table_at new x i.table) ≡ true → is_some (table_at changes x i.table) ≡ true = λ x is. sym (f.quiet.tables x i.table) ∙ is in
    let rows : (x : ℕ) (key : List ℕ) → before_end x i.to ≡ true → row_at new x i.table key ≡ row_at changes x i.table key = λ x key before. f.quiet.rows x i.table key in
    assumption (drawn, drawn_tables, viewed, shown, rows)

pub slot_follows : (m k : Master) (changes new : List Made) (slot : ℕ) (t : Tablet) → Follows m k changes new → SlotGood m changes slot t → SlotGood k new slot t
slot_follows m k changes new slot t f h = record {
  good = h.good;
  home = λ present i isin is. h.home present i (subst (In i) f.activity isin) is;
  numbered = (let l = h.numbered in let e = f.drawn in omega arith);
  each = λ i isin is. good_carried m k changes new t i (carries m k changes new i f) (h.each i (subst (In i) f.activity isin) is);
  opens = λ serving unfenced. (let o = h.opens serving unfenced in record {
    interval = o.interval;
    listed = subst (In o.interval) (sym f.activity) o.listed;
    slot_is = o.slot_is;
    opened = o.opened;
    begun = o.begun;
    settled = ap (λ rs. awaited_in rs t.tablet t.done) f.restorations ∙ o.settled;
  });
  shown = λ serving unfenced x cut. f.quiet.tables x t.table ∙ h.shown serving unfenced x cut;
  later = λ ns to is serving unfenced owned. h.later ns to (sym (f.quiet.fixed ns to) ∙ is) serving unfenced (ap (λ os. owner_of os t.table) (sym f.owners) ∙ owned);
}

pub master_follows : (m k : Master) (changes new : List Made) → Follows m k changes new → CatalogStands k new → MasterGood m changes → MasterGood k new
master_follows m k changes new f stands h = record {
  namespaces = stands.namespaces;
  tables = stands.tables;
  marks = stands.marks;
  past = λ ns to is. le_trans (h.past ns to (sym (f.quiet.fixed ns to) ∙ is)) f.clock;
  complete = λ s isin. le_trans (h.complete s (subst (In s) f.scheduled isin)) f.clock;
  listed = λ r l isin lists. (let q = h.listed r l (subst (In r) f.restorations isin) lists in let e = f.drawn in omega arith);
  listed_of = λ r l isin lists i active is. ap (λ os. owner_of os i.table) f.owners ∙ h.listed_of r l (subst (In r) f.restorations isin) lists i (subst (In i) f.activity active) is;
}

-- a tablet is told a version of its schema, or nothing
abbrev pub IsMild : TabletAct → Type 0
IsMild Clock = Unit {0}
IsMild (SetVersion version) = Unit {0}
IsMild _ = ⊥

mild_keeps : (a : TabletAct) (m : Master) (n : ℕ) (changes : List Made) (slot : ℕ) (t : Tablet) → IsMild a → t.clock ≤ n → SlotGood m changes slot t → SlotGood m changes slot (effect a n t)
mild_keeps Clock m n changes slot t mild le h = tablet_ticked m n changes slot t le h
mild_keeps (SetVersion version) m n changes slot t mild le h =
    let g = tablet_ticked m n changes slot t le h in
    let each : (i : Interval) → In i m.activity → i.slot ≡ slot → IsGoodIn m.clock m.slots (directory m) changes (effect (SetVersion version) n t) i = λ i isin is. (let q = g.each i isin is in assumption q) in
    let opens : is_serving t.presence ≡ true → t.fence ≡ None → TakesWritesIn m.activity m.restorations slot (effect (SetVersion version) n t) = λ serving unfenced. (let o = g.opens serving unfenced in record {
      interval = o.interval;
      listed = o.listed;
      slot_is = o.slot_is;
      opened = o.opened;
      begun = o.begun;
      settled = o.settled;
    }) in
    assumption (each, opens)
mild_keeps _ m n changes slot t mild le h = absurd mild

mild_works : (a : TabletAct) (m : Master) (n : ℕ) (changes : List Made) (slot : ℕ) (t : Tablet) → IsMild a → t.clock ≤ n → SlotWorks m changes slot t → SlotWorks m changes slot (effect a n t)
mild_works Clock m n changes slot t mild le h = work_later m n changes slot t le h
mild_works (SetVersion version) m n changes slot t mild le h = record {
  orders = orders_mild m slot t n version t.versions t.cutoff le h.orders;
  obeyed = obeyed_mild m changes slot t n version t.versions t.cutoff t.inbox le (rows_same t) (λ r l point serving isin is lists at e. e) h.obeyed;
}
mild_works _ m n changes slot t mild le h = absurd mild

-- operations go on, and so does each slot
pub record WorksOn (m k : Master) (changes new : List Made) : Type 0 where
  pub operations : OperationsGood k new
  pub journal : JournalGood k new
  pub works : (slot : ℕ) (t : Tablet) → SlotWorks m changes slot t → SlotWorks k new slot t
  pub rows : (before after : ℕ → Tablet) → ((slot : ℕ) → (before slot).clock ≤ (after slot).clock) → RowsPast m before changes → RowsPast k after new

-- what operations read of the catalog
pub record KeepsCatalog (m : Master) (n : ℕ) (c : Catalog) (d : Drawn) : Type 0 where
  pub tables_held : (ns : Id) (r : TableRecord) → In r c.tables → r.namespace ≡ ns → (NotHeld m ns → ⊥) → In r m.catalog.tables
  pub names : (r : NamespaceRecord) → In r c.namespaces → WasNamed m r ⊎ NewName m r
  pub kept : (ns : Id) → kept_from c.kept_from ns ≤ floor_of (going m n c m.activity d m.sent) ns n

pub same_names : (m : Master) (r : NamespaceRecord) → In r m.catalog.namespaces → WasNamed m r ⊎ NewName m r
same_names m r isin = inl (record { was = r; kept = isin; id_is = refl; name_is = refl; opened = λ e. e })

-- where a table of a namespace that isn't held ends, the records of the tables of a held one stay
pub ended_tables : (m : Master) (n : ℕ) (t : TableRecord) (ns other : Id) (changes : List Made) → In t m.catalog.tables → t.namespace ≡ ns → NotHeld m ns → MasterGood m changes → (NotHeld m other → ⊥)
    → (r : TableRecord) → In r (end_table t.id n m.catalog.tables) → r.namespace ≡ other → In r m.catalog.tables
ended_tables m n t ns other changes isin of unheld h held =
    in_mapped {A = TableRecord} {B = TableRecord} (λ r. record r { to = cond (same r.id t.id) (ended n r.to) r.to }) (λ r. r.namespace ≡ other → In r m.catalog.tables) m.catalog.tables
    (λ r there e. either_way (same r.id t.id)
    (λ b. absurd (
    let q : Some r.namespace ≡ Some t.namespace = sym (h.tables.owned r there) ∙ ap (owner_of m.catalog.owners) (same_equal r.id t.id b) ∙ h.tables.owned t isin in
    let is : r.namespace ≡ t.namespace = cc in
    held (subst (NotHeld m) (sym of ∙ sym is ∙ e) unheld)))
    (λ b. subst (λ q. In (record r { to = cond q (ended n r.to) r.to }) m.catalog.tables) (sym b) there))

-- the marks stay below the floors, which rise
pub marks_stay : (m : Master) (n : ℕ) (c : Catalog) (a : List Interval) (d : Drawn) (changes : List Made) (ns : Id) → m.clock ≤ n → OperationsGood m changes → kept_from m.catalog.kept_from ns ≤ floor_of (going m n c a d m.sent) ns n
marks_stay m n c a d changes ns le ops = le_trans (ops.kept ns) (floor_rises m (going m n c a d m.sent) ns (record { clock = le; schedules = refl; restorations = refl; clones = refl }))

-- where the master keeps its activity and the owners of its tables, under a journal with the same tables, rows, restores and clones
pub quiet_works : (ps : Parts) (activity : List Interval) (changes new : List Made) (n : ℕ) (c : Catalog) (d : Drawn) → Inv ps activity changes → ps.master.clock ≤ n → ((kind : Kind) → drawn_of kind ps.master.drawn ≤ drawn_of kind d)
    → c.owners ≡ ps.master.catalog.owners → IsQuiet changes new → ((ns : Id) (point : ℕ) → is_switched changes ns point ≡ true → is_switched new ns point ≡ true)
    → ((ns : Id) (point : ℕ) → is_switched changes ns point ≡ true → before_restore new ns point new ≡ before_restore changes ns point changes)
    → RowsFrom changes new → KeepsCatalog ps.master n c d → WorksOn ps.master (going ps.master n c ps.master.activity d ps.master.sent) changes new
quiet_works ps activity changes new n c d inv le drawn owners quiet switched before from catalog =
    let m = ps.master in
    let o : Onward m n c m.activity d changes new = record {
      clock = le;
      drawn = drawn;
      owned = λ table ns is. ap (λ os. owner_of os table) owners ∙ is;
      owners = λ table l. ap (λ os. owner_of os table) owners;
      tables = tables_drawn m activity inv.remembered;
      kept = λ i isin. (i, (isin, inl refl));
      came = λ j isin. inl (j, (isin, inl refl));
      fixed = λ ns to. quiet.fixed ns to;
      switched = switched;
      tables_held = catalog.tables_held;
      names = catalog.names;
      before = before;
    } in
    record {
      operations = operations_on m n c m.activity d m.sent changes new o catalog.kept (λ table ns is. le_trans (inv.operations.owners table ns (ap (λ os. owner_of os table) (sym owners) ∙ is)) (drawn NamespaceKind)) (λ mark isin. isin) (all_listed m changes inv.master) inv.operations;
      journal = journal_on m n c m.activity d m.sent changes new from o.fixed (drawn NamespaceKind) (drawn TableKind) o.owners inv.journal;
      rows = λ before_ after rise h. rows_on m n c m.activity d m.sent changes new before_ after le rise (λ i isin. inl isin) from.all h;
      works = λ slot t h. record {
        orders = orders_on m n c m.activity d m.sent changes new slot t o h.orders;
        obeyed = obeyed_on m n c m.activity d m.sent changes new slot t o (λ k serving at b key isin is paired. quiet.rows k.to b.source key) inv.operations h.obeyed;
      };
    }

pub same_drawn : (d : Drawn) (kind : Kind) → drawn_of kind d ≤ drawn_of kind d
same_drawn d kind = le_refl _

pub quiet_keeps : (command : Command) (slots : List ℕ) (act : MasterAct) (tablets : List Told) (made : List Id) (n : ℕ) (ps : Parts) (activity : List Interval) (changes new : List Made) → Later (0 ∷ slots) ps n
    → Inv ps activity changes → activity_after (Change command slots) (accepts act tablets made) n ps activity ≡ activity
    → Follows ps.master (master_effect act n ps.master) changes new → WorksOn ps.master (master_effect act n ps.master) changes new → CatalogStands (master_effect act n ps.master) new → ((i : ℕ) → IsMild (act_for tablets i))
    → Inv (told (Change command slots) (accepts act tablets made) n ps) (activity_after (Change command slots) (accepts act tablets made) n ps activity) new
quiet_keeps command slots act tablets made n ps activity changes new later inv stays f w stands mild =
    let k = master_effect act n ps.master in record {
      master = master_follows ps.master k changes new f stands inv.master;
      remembered = subst (Remembered k) (sym stays) (remembered_on ps.master k activity (record { clock = f.clock; schedules = f.schedules; restorations = f.restorations; clones = f.clones })
          f.owners f.activity (let e = f.drawn in omega arith) (let e = f.drawn_tables in omega arith) inv.remembered);
      cover = subst (λ is. Covered is new) (sym stays) (quiet_covers activity changes new f.quiet inv.cover);
      operations = w.operations;
      journal = w.journal;
      rows_past = w.rows ps.tablet _ (clocks_rise (Change command slots) (accepts act tablets made) n ps (λ slot e. tablet_before (0 ∷ slots) ps n slot later e)) inv.rows_past;
      works = slots_told (SlotWorks k new) command slots act tablets made n ps
          (λ i is from. mild_works (act_for tablets i) k n new i (ps.tablet i) (mild i) (le_of_lt (tablet_early slots ps n i later is from)) (w.works i (ps.tablet i) (inv.works i)))
          (λ i others. w.works i (ps.tablet i) (inv.works i));
      slots = slots_told (SlotGood k new) command slots act tablets made n ps
          (λ i is from. mild_keeps (act_for tablets i) k n new i (ps.tablet i) (mild i) (le_of_lt (tablet_early slots ps n i later is from)) (slot_follows ps.master k changes new i (ps.tablet i) f (inv.slots i)))
          (λ i others. slot_follows ps.master k changes new i (ps.tablet i) f (inv.slots i));
    }
