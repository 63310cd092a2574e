-- A clone's target becomes current: its tablets hold exactly the rows of their sources at the time, and are active from the stamp on.
use Rattle.std.proofs.Common.{ℕ, ◌≡◌, ◌≤◌, ◌<◌, List, ◌++◌, Option, Some, None, true, false, inl, inr, refl, sym, ap, subst, ◌∙◌, arith, leb, leb-true, leb-false, le_trans, le_refl, le_of_lt, lt_of_lt_of_le}
use Rattle.std.specs.Option.{is_some}
use Rattle.std.proofs.lemmas.Bool.{true≢false}
use Rattle.model.specs.Cluster.{Id, same, In, code_of, in_range, read_of, is_open, owner_of, kept_from, Interval, Tablet, Mark, Release, ReleaseKind, is_serving, is_done, Listed, RestorationRecord, TabletPair, CloneRecord, Copying, CloneReleasing, is_cloned, is_visible, unsent, Parts}
use Rattle.model.specs.Restored.{cloned_activity}
use Rattle.model.specs.Journal.{Change, NamespaceCloned, TableView, source_of, moved_to, table_at, row_at}
use Rattle.model.specs.Stands.{AreRowsAt, awaited_in, awaited_of, copied_at}
use Rattle.model.specs.Cleanup.{floor_of}
use Rattle.model.specs.Schedules.{floor}
use Rattle.model.specs.Operations.{time_of_user}
use Rattle.model.specs.Moves.{released}
use Rattle.law_store.proofs.Keys.{either_way}
use Rattle.law_store.proofs.Listing.{restored_reads}
use Rattle.law_invariants.specs.Remembered.{Remembered}
use Rattle.law_invariants.specs.Operations.{grounds, IsListed, IsActive, IsSource, IsReserved, VisibleGood, CloneGood, OperationsGood, JournalGood, RestorationStateGood}
use Rattle.law_invariants.specs.Orders.{ClonePlace, IsFence, OrdersGood, ReleasingSlot, CopyingSlot, CloneSlot, IsCopy, ObeyedGood, RowsPast, stage_of_clone, cloning_stage}
use Rattle.law_invariants.specs.Invariant.{Inv, IsGood, SlotGood, SlotWorks, MasterGood, ComesFrom}
use Rattle.law_invariants.proofs.Finding.{both_pass, same_equal, same_self, not_same, in_append, in_second, in_mapped, map_in, in_added}
use Rattle.law_invariants.proofs.Operating.{visible_later}
use Rattle.law_invariants.proofs.Remembering.{forgotten_on, no_lows}
use Rattle.law_invariants.proofs.Records.{kept_by, kept_beside}
use Rattle.law_invariants.proofs.Ticking.{past_later}
use Rattle.law_invariants.proofs.Undoing.{RowsFrom, one_more}
use Rattle.law_invariants.proofs.Working.{before_any}
use Rattle.law_invariants.proofs.Awaiting.{none_awaited, awaited_none}
use Rattle.law_invariants.proofs.Names.{new_namespace}
use Rattle.law_invariants.proofs.Slots.{done_is, serving_present}
use Rattle.law_clones.proofs.Beside.{FloorsRise, scheduled_beside, snapshot_beside, forgotten_beside, master_beside, slot_beside}
use Rattle.law_clones.proofs.Entering.{Step, Steps, now, entered, stepped, by_entering, other_in, entered_apart, entered_floors, orders_entering, sent_entering}
use Rattle.law_clones.proofs.Advancing.{MayMove, MovedKeeps}
use Rattle.law_clones.proofs.Viewing.{clone, table_early, rows_early, table_aside, rows_aside, table_target, rows_target}
use Rattle.law_clones.proofs.Counting.{taken, cloned_covers}
use Rattle.law_clones.proofs.Cataloguing.{tables_cloned, marks_cloned, names_cloned}
use Rattle.law_clones.proofs.Growing.{grounds_grown, space_grown, Becomes, grown, fixed_is, good, copying, dark, unlisted, unmade, takes, takes_catalog, by_interval, stays, begins, aside, open_was, open_on, other_use, floors, schedule_grown, scheduled_grown, snapshot_grown, restoration_grown}
use Rattle.law_invariants.proofs.Parting.{part_same, part_append}
use Rattle.law_invariants.proofs.Going.{clone_goes, place_goes, restoration_slot_goes, clone_slot_goes}
use Rattle.law_invariants.proofs.Recording.{same_on}

-- the record that becomes current, with the tablets that it is to release
abbrev pub step : CloneRecord → Id → ℕ → ℕ → Step
step r serving at n = record { clone = r; state = CloneReleasing serving at; listed = released n r.listed }

-- the rows at a stamp are read from it on
rows_from : (t : Tablet) (low high stamp to : ℕ) (changes : List Change) (table : Id) (key : List ℕ) (x : ℕ) → AreRowsAt t.versions low high stamp changes to table → in_range low high (code_of key) ≡ true → stamp ≤ x
    → read_of t.versions key x ≡ row_at changes to table key
rows_from t low high stamp to changes table key x h ranged l =
    ap (λ vs. read_of vs key x) h.upserts ∙ restored_reads t.versions stamp stamp key x l ∙ h.rows key ranged

moved_some : (ns : Id) (o : Option TableView) → is_some (moved_to ns o) ≡ is_some o
moved_some ns None = refl
moved_some ns (Some t) = refl

-- a tablet that is released
abbrev pub line : ℕ → Listed → Listed
line n l = record { tablet = l.tablet; slot = l.slot; body = Release n; acked = false }

module _ (ps : Parts) (activity : List Interval) (changes : List Change) (n : ℕ) (r : CloneRecord) (serving : Id) (at : ℕ) (b : Becomes ps activity changes n r serving at) (acked_all : (l : Listed) → In l r.listed → l.acked ≡ true) where
  up : ps.master.clock ≤ n
  up = le_of_lt b.before

  -- The targets

  reserved : (p : TabletPair) → In p r.tablets → IsReserved ps.master p
  reserved p paired = (good ps activity changes n r serving at b).reserved (dark ps activity changes n r serving at b) p paired

  -- another clone that is not yet current has other targets
  same_made : (c : CloneRecord) (p q : TabletPair) → In c ps.master.clones → is_visible c.state ≡ false → In q c.tablets → In p r.tablets → q.target ≡ p.target → c ≡ r
  same_made c p q isin unseen in_q in_p e = b.inv.operations.apart.one_made c r q p isin b.kept unseen (dark ps activity changes n r serving at b) in_q in_p e

  -- and another target namespace
  same_target : (c : CloneRecord) → In c ps.master.clones → is_cloned c.state ≡ false → c.target_id ≡ r.target_id → c ≡ r
  same_target c isin open_ e = b.inv.operations.apart.one_clone c r r.target_id isin b.kept open_ (ap is_cloned b.is) (inr e) (inr refl)

  slot_yet : (slot : ℕ) → CopyingSlot ps.master changes r at slot (ps.tablet slot)
  slot_yet slot = subst (λ s. CloneSlot s ps.master changes r slot (ps.tablet slot)) b.is ((b.inv.works slot).obeyed.clones r b.kept)

  -- each target has copied
  copied : (p : TabletPair) → In p r.tablets → IsCopy changes r at p (ps.tablet p.slot)
  copied p paired =
      let l = (copying ps activity changes n r serving at b).all p paired in
      (slot_yet p.slot).copied p paired refl ((slot_yet p.slot).acked l.0 l.1.0 l.1.1.1 (acked_all l.0 l.1.0))

  -- none was released yet
  unreleased : (slot : ℕ) → is_done (ps.tablet slot).done r.id ReleaseKind ≡ false
  unreleased slot = either_way (is_done (ps.tablet slot).done r.id ReleaseKind)
      (λ did. absurd (
      let mark = done_is (ps.tablet slot).done r.id ReleaseKind did in
      let l : 2 ≤ stage_of_clone r.state = subst (λ k. cloning_stage k ≤ stage_of_clone r.state) mark.1.1.1 (((b.inv.works slot).orders.marks mark.0 mark.1.0).by_clone r b.kept (sym mark.1.1.0)) in
      let e : stage_of_clone r.state ≡ 1 = ap stage_of_clone b.is in omega arith))
      (λ e. e)

  no_other : (x : CloneRecord) → same x.id r.id ≡ false → x ≡ r → ⊥
  no_other x other e = true≢false (sym (ap (λ k. same k.id r.id) e ∙ same_self r.id) ∙ other)

  -- Tablets

  outside : (i : Interval) → In i ps.master.activity → source_of r.tables i.table ≡ None
  outside i isin = aside ps activity changes n r serving at b i isin

  rows_stay : (i : Interval) (x : ℕ) (key : List ℕ) → In i ps.master.activity → row_at (clone n r changes) x i.table key ≡ row_at changes x i.table key
  rows_stay i x key isin = rows_aside n r changes x i.table key (outside i isin)

  tables_stay : (i : Interval) (x : ℕ) → In i ps.master.activity → is_some (table_at (clone n r changes) x i.table) ≡ is_some (table_at changes x i.table)
  tables_stay i x isin = ap is_some (table_aside n r changes x i.table (outside i isin))

  comes_stay : (ns : Id) (i : Interval) (point to : ℕ) → In i ps.master.activity → ComesFrom changes ns i point to → ComesFrom (clone n r changes) ns i point to
  comes_stay ns i point to isin h = record {
    switched = h.switched;
    rows = λ key x ranged after. rows_stay i x key isin ∙ h.rows key x ranged after ∙ sym (rows_stay i to key isin);
    before = λ key ranged. ap (λ js. row_at js to i.table key) (before_any changes ns point (clone n r changes) changes h.switched) ∙ h.before key ranged ∙ sym (rows_stay i to key isin);
  }

  old_good : (slot : ℕ) (i : Interval) → In i ps.master.activity → IsGood ps.master changes (ps.tablet slot) i → IsGood (grown ps.master r n) (clone n r changes) (ps.tablet slot) i
  old_good slot i isin h = record {
    past = past_later i.from ps.master.clock n i.to up h.past;
    over = h.over;
    drawn = h.drawn;
    drawn_table = h.drawn_table;
    slot_from = h.slot_from;
    slot_to = h.slot_to;
    present = h.present;
    tablet_is = h.tablet_is;
    table_is = h.table_is;
    low_is = h.low_is;
    high_is = h.high_is;
    viewed = λ x active. tables_stay i x isin ∙ h.viewed x active;
    waits = h.waits;
    comes = λ q point kept awaits opened. comes_stay q.namespace i point q.to isin (h.comes q point kept awaits opened);
    serves = h.serves;
    hidden = h.hidden;
    stands = λ counted key x within cut before there. h.stands counted key x within cut before (sym (tables_stay i x isin) ∙ there) ∙ sym (rows_stay i x key isin);
    sets = λ f held key x within cut by active. h.sets f held key x within cut by active ∙ sym (rows_stay i x key isin);
  }

  -- the view has a target's table from the stamp on, and not before

  source : (p : TabletPair) → In p r.tablets → IsSource ps.master r p
  source p paired = (good ps activity changes n r serving at b).sources (ap is_cloned b.is) p paired

  seen_since : (p : TabletPair) (x : ℕ) → In p r.tablets → n ≤ x → is_some (table_at (clone n r changes) x p.table) ≡ true
  seen_since p x paired l =
      let k = source p paired in
      let there = ((b.inv.slots k.interval.slot).each k.interval k.kept refl).viewed r.to k.active in
      ap (λ t. is_some (table_at (clone n r changes) x t)) (sym k.target_is)
      ∙ ap is_some (table_target n r changes x k.pair (good ps activity changes n r serving at b).tables_apart k.paired l)
      ∙ moved_some r.target_id (table_at changes r.to k.pair.source) ∙ ap (λ t. is_some (table_at changes r.to t)) k.source_is ∙ there

  unseen_before : (p : TabletPair) (x : ℕ) → In p r.tablets → x < n → table_at (clone n r changes) x p.table ≡ None
  unseen_before p x paired l =
      let k = source p paired in
      table_early n r changes x p.table l ∙ ap (table_at changes x) (sym k.target_is) ∙ unmade ps activity changes n r serving at b k.pair x k.paired

  not_listed : (p : TabletPair) (q : RestorationRecord) (l : Listed) → In p r.tablets → In q ps.master.restorations → In l q.listed → same l.tablet p.target ≡ false
  not_listed p q l paired isin lists = not_same l.tablet p.target ((reserved p paired).no_restoration q l isin lists)

  awaits_none : (p : TabletPair) → In p r.tablets → awaited_in ps.master.restorations (ps.tablet p.slot).tablet (ps.tablet p.slot).done ≡ None
  awaits_none p paired =
      ap (λ id. awaited_in ps.master.restorations id (ps.tablet p.slot).done) (copied p paired).tablet_is
      ∙ none_awaited ps.master.restorations p.target (ps.tablet p.slot).done (λ q l isin lists. not_listed p q l paired isin lists)

  new_good : (p : TabletPair) → In p r.tablets → IsGood (grown ps.master r n) (clone n r changes) (ps.tablet p.slot) (taken n p)
  new_good p paired =
      let t = ps.tablet p.slot in
      let c = copied p paired in
      let k = source p paired in
      let h = (good ps activity changes n r serving at b).pairs p paired in
      record {
        past = record { begun = le_refl n; ended = tt };
        over = tt;
        drawn = h.drawn;
        drawn_table = h.drawn_table;
        slot_from = h.slot_from;
        slot_to = h.slot_to;
        present = serving_present t.presence c.serves;
        tablet_is = c.tablet_is;
        table_is = c.table_is;
        low_is = c.low_is;
        high_is = c.high_is;
        viewed = λ x active. seen_since p x paired (leb-true n x (both_pass (leb n x) true active).0);
        waits = λ point waits. absurd (let q : None ≡ Some point = sym (awaits_none p paired) ∙ waits in grind arith);
        comes = λ q point isin awaits opened. absurd (
            let none = awaited_none q.state q p.target t.done (λ l lists. not_listed p q l paired isin lists) in
            let z : None ≡ Some point = sym none ∙ ap (λ id. awaited_of q.state q id t.done) (sym c.tablet_is) ∙ awaits in grind arith);
        serves = λ opened settled. c.serves;
        hidden = λ time is counted. absurd (true≢false (sym c.serves ∙ ap is_serving is));
        stands = λ counted key x within cut open_ there. either_way (leb n x)
            (λ l. rows_from t p.low p.high at r.to changes k.pair.source key x (c.rows k.pair k.paired k.target_is) within (le_trans c.cutoff cut)
            ∙ sym (rows_target n r changes x k.pair key (good ps activity changes n r serving at b).tables_apart k.paired (leb-true n x l)) ∙ ap (λ id. row_at (clone n r changes) x id key) k.target_is)
            (λ l. absurd (true≢false (sym there ∙ ap is_some (unseen_before p x paired (leb-false n x l)))));
        sets = λ f held. absurd (
            let s = (b.inv.works p.slot).orders.sets f held in
            (reserved p paired).no_snapshot s.snapshot s.line s.kept s.listed (s.tablet_is ∙ c.tablet_is));
      }

  slot_grown : (slot : ℕ) → SlotGood (grown ps.master r n) (clone n r changes) slot (ps.tablet slot)
  slot_grown slot =
      let t = ps.tablet slot in
      let h = b.inv.slots slot in
      record {
        good = h.good;
        home = λ present. by_interval ps activity changes n r serving at b (λ j. j.tablet ≡ t.tablet → j.slot ≡ slot) (λ i there is. h.home present i there is)
            (λ p paired is. elim ((b.inv.works slot).obeyed.home present) [
              | inl k ↦ absurd ((reserved p paired).unknown k.interval k.kept (k.tablet_is ∙ sym is))
              | inr k ↦ (
                  let one = same_made k.clone p k.pair k.kept (ap is_visible k.state_is) k.paired paired (k.tablet_is ∙ sym is) in
                  let same_ = (good ps activity changes n r serving at b).one_target k.pair p (subst (λ c. In k.pair c.tablets) one k.paired) paired (k.tablet_is ∙ sym is) in
                  ap (λ q. q.slot) (sym same_) ∙ k.slot_is)
            ]);
        numbered = h.numbered;
        each = by_interval ps activity changes n r serving at b (λ j. j.slot ≡ slot → IsGood (grown ps.master r n) (clone n r changes) t j)
            (λ i there is. old_good slot i there (h.each i there is))
            (λ p paired is. subst (λ s. IsGood (grown ps.master r n) (clone n r changes) (ps.tablet s) (taken n p)) is (new_good p paired));
        opens = λ serves unfenced. (let o = h.opens serves unfenced in record {
          interval = o.interval;
          listed = stays ps activity changes n r serving at b o.interval o.listed;
          slot_is = o.slot_is;
          opened = o.opened;
          begun = o.begun;
          settled = o.settled;
        });
        shown = λ serves unfenced x cut. (
            let o = h.opens serves unfenced in
            let is = (h.each o.interval o.listed o.slot_is).table_is in
            ap is_some (table_aside n r changes x t.table (ap (source_of r.tables) is ∙ outside o.interval o.listed)) ∙ h.shown serves unfenced x cut);
        later = λ ns to fixed serves unfenced owner. elim (fixed_is n r changes ns to fixed) [
          | inl k ↦ subst (λ x. x ≤ t.clock) (sym k.1) ((slot_yet slot).later serves unfenced (owner ∙ ap Some k.0))
          | inr old ↦ h.later ns to old serves unfenced owner
        ];
      }

  -- The master

  master_grown : MasterGood (grown ps.master r n) (clone n r changes)
  master_grown =
      let m = ps.master in
      let h = b.inv.master in
      let k = good ps activity changes n r serving at b in
      let takes_ = takes_catalog ps activity changes n r serving at b in
      record {
        namespaces = names_cloned m.catalog.namespaces m.clock m.drawn.namespaces n changes r up k.drawn_target (k.no_namespace (dark ps activity changes n r serving at b)) h.namespaces;
        tables = tables_cloned m.catalog m.clock m.drawn.tables n changes r takes_ h.tables (grown m r n).catalog.namespaces up;
        marks = marks_cloned m.catalog m.clock m.drawn.tables n changes r takes_ h.tables h.marks;
        past = λ ns to fixed. elim (fixed_is n r changes ns to fixed) [
          | inl k ↦ (let e = k.1 in let l = (good ps activity changes n r serving at b).past in let z = b.before in omega arith)
          | inr old ↦ le_trans (h.past ns to old) up
        ];
        complete = λ s isin. le_trans (h.complete s isin) up;
        listed = h.listed;
        listed_of = λ q l isin lists. by_interval ps activity changes n r serving at b (λ i. i.tablet ≡ l.tablet → owner_of m.catalog.owners i.table ≡ Some q.namespace)
            (λ i there. h.listed_of q l isin lists i there)
            (λ p paired e. absurd ((reserved p paired).no_restoration q l isin lists (sym e)));
      }

  -- Other clones

  source_grown : (c : CloneRecord) (p : TabletPair) → IsSource ps.master c p → IsSource (grown ps.master r n) c p
  source_grown c p h = record {
    interval = h.interval;
    kept = stays ps activity changes n r serving at b h.interval h.kept;
    tablet_is = h.tablet_is;
    slot_is = h.slot_is;
    low_is = h.low_is;
    high_is = h.high_is;
    active = h.active;
    owned = h.owned;
    pair = h.pair;
    paired = h.paired;
    source_is = h.source_is;
    target_is = h.target_is;
  }

  clone_grown : (c : CloneRecord) → In c ps.master.clones → (c ≡ r → ⊥) → CloneGood ps.master changes c → CloneGood (grown ps.master r n) (clone n r changes) c
  clone_grown c isin apart = clone_goes (grounds ps.master) (grounds (grown ps.master r n)) changes (clone n r changes) (grounds_grown ps activity changes n r serving at b) ps.master.restorations ps.master.restorations c (λ open_. record {
    space = space_grown ps activity changes n r serving at b c.target_id (λ e. apart (same_target c isin open_ e))
        (λ e. apart (b.inv.operations.apart.one_clone c r r.source isin b.kept open_ (ap is_cloned b.is) (inr e) (inl refl)));
    lines = λ owner. record {
      stays = λ l i lists there is. stays ps activity changes n r serving at b i there;
      was = λ l i lists known. by_interval ps activity changes n r serving at b (λ i. i.tablet ≡ l.tablet → In i ps.master.activity)
          (λ i there is. there)
          (λ p paired e. absurd ((reserved p paired).unknown known.interval known.kept (known.tablet_is ∙ sym e))) i;
    };
    named = λ q there is. (q, (there, same_on q));
    schedule = λ k there is. (k, (there, is));
    source = λ p paired h. source_grown c p h;
    reserved = λ unseen p paired g. record {
      free = by_interval ps activity changes n r serving at b (λ i. i.slot ≡ p.slot → ⊥) (λ i there is. g.free i there is)
          (λ q in_q is. apart (b.inv.operations.apart.one_target c r p q isin b.kept open_ (ap is_cloned b.is) paired in_q (sym is)));
      unknown = by_interval ps activity changes n r serving at b (λ i. i.tablet ≡ p.target → ⊥) (λ i there is. g.unknown i there is)
          (λ q in_q is. apart (same_made c q p isin unseen paired in_q (sym is)));
      no_snapshot = g.no_snapshot;
      no_restoration = g.no_restoration;
    };
    names = λ unseen q there free. in_added (λ q. (q.id ≡ c.target_id → ⊥) × (is_open q.to ≡ true → q.name ≡ c.target → ⊥)) ps.master.catalog.namespaces (new_namespace r.target_id r.target n)
        (λ q there. free q there)
        (λ e. apart (same_target c isin open_ (sym e)), λ opened e. apart (b.inv.operations.apart.one_name c r isin b.kept unseen (dark ps activity changes n r serving at b) (sym e))) q there;
    schedules = λ unseen k there is. (k, (there, is));
  })

  -- The journal

  more : RowsFrom changes (clone n r changes)
  more = one_more changes (record { stamp = n; act = NamespaceCloned r.source r.target_id r.target r.to r.tables }) (λ table key op e. let q = e in grind arith) (λ ns point. refl)

  journal_grown : JournalGood (grown ps.master r n) (clone n r changes)
  journal_grown = let h = b.inv.journal in record {
    fixed_drawn = λ ns to fixed. elim (fixed_is n r changes ns to fixed) [
      | inl k ↦ subst (λ i. i.number ≤ ps.master.drawn.namespaces) (sym k.0) (good ps activity changes n r serving at b).drawn_source
      | inr old ↦ h.fixed_drawn ns to old
    ];
    drawn = λ c table key op isin is. h.drawn c table key op (more.all c table key op isin is) is;
    undone = λ x point isin is_at c table key op there is owned. h.undone x point isin is_at c table key op (more.undone x.namespace point c table key op there is) is owned;
    restored = λ ns point is. h.restored ns point (more.switched ns point is);
    one_point = h.one_point;
  }

  rows_grown : RowsPast (grown ps.master r n) ps.tablet (clone n r changes)
  rows_grown = λ c table key op isin is. elim (b.inv.rows_past c table key op (more.all c table key op isin is) is) [
    | inl past ↦ inl (le_trans past up)
    | inr w ↦ inr (record { interval = w.interval; kept = stays ps activity changes n r serving at b w.interval w.kept; opened = w.opened; table_is = w.table_is; behind = w.behind; unacked = w.unacked })
  ]

  -- Slots and operations

  fence_grown : (slot : ℕ) (table : Id) (done : List Mark) (operation : Id) → IsFence ps.master slot table done operation → IsFence (grown ps.master r n) slot table done operation
  fence_grown slot table done operation (inl h) = inl (record { restoration = h.restoration; kept = h.kept; id_is = h.id_is; owned = h.owned; place = place_goes h.restoration.state h.restoration ps.master.activity (grown ps.master r n).activity ps.master.catalog.owners ps.master.catalog.owners slot done (λ open_ i opened is. open_on ps activity changes n r serving at b h.restoration.namespace i opened) h.place })
  fence_grown slot table done operation (inr h) = inr (record { clone = h.clone; kept = h.kept; id_is = h.id_is; owned = h.owned; place = h.place })

  orders_grown : (slot : ℕ) → OrdersGood (grown ps.master r n) slot (ps.tablet slot)
  orders_grown slot =
      let m = ps.master in
      let g = grown m r n in
      let t = ps.tablet slot in
      let h = (b.inv.works slot).orders in
      record {
        fences = λ operation is. fence_grown slot t.table t.done operation (h.fences operation is);
        orders = λ c isin. (let k = h.orders c isin in record {
          is_pending = k.is_pending;
          after = k.after;
        });
        once = h.once;
        fresh = h.fresh;
        marks = λ mark isin. (let k = h.marks mark isin in assumption k);
        holds = h.holds;
        frozen = h.frozen;
        sets = h.sets;
        bare = h.bare;
      }

  -- The record moves

  steps : Steps ps.master.clones (step r serving at n)
  steps = record {
    kept = b.kept;
    kind_is = (good ps activity changes n r serving at b).kind_is;
    unfinished = (ap is_cloned b.is);
    acked = acked_all;
    seen = λ dark_. absurd (true≢false dark_);
    stage = subst (λ s. stage_of_clone s ≤ 2) (sym b.is) (omega arith);
    copied = λ x is. inl (ap copied_at b.is ∙ is);
    released = λ l x isin body. subst (λ s. stage_of_clone s ≤ 1) (sym b.is) (le_refl _);
  }

  -- each line that is released is of a target
  by_line : (P : Listed → Type 0) → ((k : Listed) → In k r.listed → P (line n k)) → (l : Listed) → In l (released n r.listed) → P l
  by_line P go l isin = in_mapped {A = Listed} {B = Listed} (line n) P r.listed go l isin

  line_in : (k : Listed) → In k r.listed → In (line n k) (released n r.listed)
  line_in k isin = map_in {A = Listed} {B = Listed} (line n) r.listed k isin

  now_visible : VisibleGood (stepped (grown ps.master r n) (step r serving at n)) (now (step r serving at n)) at
  now_visible =
      let c = copying ps activity changes n r serving at b in
      let k = good ps activity changes n r serving at b in
      record {
        since = n;
        begun = le_refl n;
        later = c.later;
        copied = (let l = c.begun in let z = b.before in omega arith);
        bodies = by_line (λ l. l.body ≡ Release n) (λ l isin. refl);
        active = by_line (λ l. IsActive (stepped (grown ps.master r n) (step r serving at n)) l n) (λ l isin. let q = c.bodies l isin in record {
          interval = taken n q.pair;
          kept = begins ps activity changes n r serving at b q.pair q.paired;
          tablet_is = sym q.tablet_is;
          slot_is = sym q.slot_is;
          opened = refl;
          from_is = refl;
        });
        listed_of = λ l i lists there. by_line (λ l. i.tablet ≡ l.tablet → owner_of ps.master.catalog.owners i.table ≡ Some r.target_id) (λ l isin.
            let q = c.bodies l isin in
            by_interval ps activity changes n r serving at b (λ i. i.tablet ≡ l.tablet → owner_of ps.master.catalog.owners i.table ≡ Some r.target_id)
            (λ j kept e. absurd ((reserved q.pair q.paired).unknown j kept (e ∙ q.tablet_is)))
            (λ p paired e. (k.pairs p paired).owned) i there) l lists;
        opens = λ i h. by_interval ps activity changes n r serving at b (λ i. owner_of ps.master.catalog.owners i.table ≡ Some r.target_id → IsListed (released n r.listed) i)
            (λ j kept owner. absurd (k.no_tablet (dark ps activity changes n r serving at b) j kept owner))
            (λ p paired owner. let l = c.all p paired in record { line = line n l.0; listed = line_in l.0 l.1.0; tablet_is = l.1.1.0; slot_is = l.1.1.1 }) i h.kept h.owned;
      }

  now_good : CloneGood (stepped (grown ps.master r n) (step r serving at n)) (clone n r changes) (now (step r serving at n))
  now_good = let h = good ps activity changes n r serving at b in record {
    kind_is = h.kind_is;
    drawn = h.drawn;
    drawn_source = h.drawn_source;
    drawn_target = h.drawn_target;
    apart = h.apart;
    past = lt_of_lt_of_le h.past up;
    pairs = λ p paired. (let g = h.pairs p paired in record { slot_from = g.slot_from; slot_to = g.slot_to; drawn = g.drawn; drawn_table = g.drawn_table; owned = g.owned });
    drawn_listed = by_line (λ l. l.tablet.number ≤ ps.master.drawn.tablets) h.drawn_listed;
    one_slot = h.one_slot;
    one_target = h.one_target;
    one_table = h.one_table;
    tables_apart = h.tables_apart;
    owned = h.owned;
    drawn_sources = h.drawn_sources;
    covers = h.covers;
    scheduled = λ open_. h.scheduled (ap is_cloned b.is);
    sources = λ open_ p paired. source_grown r p (source p paired);
    reserved = λ unseen. absurd (true≢false unseen);
    no_tablet = λ unseen. absurd (true≢false unseen);
    no_table = λ unseen. absurd (true≢false unseen);
    no_namespace = λ unseen. absurd (true≢false unseen);
    no_schedule = λ unseen. absurd (true≢false unseen);
    unfixed = λ open_ to fixed. elim (fixed_is n r changes r.target_id to fixed) [
      | inl k ↦ h.apart (sym k.0)
      | inr old ↦ h.unfixed (ap is_cloned b.is) to old
    ];
    in_state = now_visible;
  }

  released_slot : (slot : ℕ) (l : Listed) → In l (released n r.listed) → l.slot ≡ slot → ReleasingSlot r.id l (ps.tablet slot)
  released_slot slot = by_line (λ l. l.slot ≡ slot → ReleasingSlot r.id l (ps.tablet slot)) (λ k isin is.
      let q = (copying ps activity changes n r serving at b).bodies k isin in
      let c : IsCopy changes r at q.pair (ps.tablet slot) = subst (λ s. IsCopy changes r at q.pair (ps.tablet s)) (sym q.slot_is ∙ is) (copied q.pair q.paired) in
      record {
        acked = λ e. absurd (true≢false (sym e));
        serves = c.serves;
        released = λ did. absurd (true≢false (sym did ∙ unreleased slot));
        fenced = λ undone. c.fenced;
      })

  obeyed_now : (slot : ℕ) → ObeyedGood (stepped (grown ps.master r n) (step r serving at n)) (clone n r changes) slot (ps.tablet slot)
  obeyed_now slot =
      let m = ps.master in
      let g = grown m r n in
      let v = step r serving at n in
      let cs = entered v m.clones in
      let s = unsent r.id m.sent in
      let t = ps.tablet slot in
      let ops = b.inv.operations in
      let h = (b.inv.works slot).obeyed in
      record {
        drawn_table = h.drawn_table;
        home = λ present. elim (h.home present) [
          | inl k ↦ inl (record { interval = k.interval; kept = stays ps activity changes n r serving at b k.interval k.kept; slot_is = k.slot_is; tablet_is = k.tablet_is })
          | inr k ↦ either_way (same k.clone.id r.id)
              (λ e.
              let one : k.clone ≡ r = ops.apart.clone_ids k.clone r k.kept b.kept (same_equal k.clone.id r.id e) in
              inl (record { interval = taken n k.pair; kept = begins ps activity changes n r serving at b k.pair (subst (λ c. In k.pair c.tablets) one k.paired); slot_is = k.slot_is; tablet_is = k.tablet_is }))
              (λ e. inr (record { clone = k.clone; kept = other_in v m.clones k.clone k.kept e; serving = k.serving; at = k.at; state_is = k.state_is; pair = k.pair; paired = k.paired; slot_is = k.slot_is; tablet_is = k.tablet_is }))
        ];
        snapshots = h.snapshots;
        restorations = λ x isin. restoration_slot_goes x.state x m.activity g.activity m.catalog.owners m.catalog.owners changes (clone n r changes) slot t
            (λ open_ i opened. open_was ps activity changes n r serving at b x.namespace i (λ e. other_use ps activity changes n r serving at b x isin open_ (inr (sym e))) opened)
            (λ point served e. before_any changes x.namespace point (clone n r changes) changes (subst (λ st. RestorationStateGood st m changes x) e (ops.restorations x isin).in_state).switched)
            (h.restorations x isin);
        clones = λ c. by_entering (λ c. CloneSlot c.state (stepped g v) (clone n r changes) c slot t) v m.clones ops.apart.clone_ids b.kept (released_slot slot)
            (λ x there other. clone_slot_goes x.state x m.catalog.owners m.catalog.owners changes (clone n r changes) slot t (λ of. of) (λ served time d key e listed. rows_early n r changes x.to d.source key (lt_of_lt_of_le (ops.clones x there).past up)) (h.clones x there)) c;
      }

  works_now : (slot : ℕ) → SlotWorks (stepped (grown ps.master r n) (step r serving at n)) (clone n r changes) slot (ps.tablet slot)
  works_now slot = record {
    orders = orders_entering (grown ps.master r n) (step r serving at n) steps b.inv.operations.apart slot (ps.tablet slot)
        (λ place. let k = subst (λ s. ClonePlace s r slot (ps.tablet slot).done) b.is place in (line n k.0, (line_in k.0 k.1.0, (k.1.1, unreleased slot))))
        (orders_grown slot);
    obeyed = obeyed_now slot;
  }

  -- What is remembered, and kept

  floors_now : FloorsRise (grown ps.master r n) (stepped (grown ps.master r n) (step r serving at n))
  floors_now = entered_floors (grown ps.master r n) (step r serving at n) steps b.inv.operations.apart

  remembered_now : Remembered (stepped (grown ps.master r n) (step r serving at n)) (activity ++ cloned_activity n r.tablets)
  remembered_now =
      let m = ps.master in
      let g = grown m r n in
      let v = step r serving at n in
      let cs = entered v m.clones in
      let s = unsent r.id m.sent in
      let new = cloned_activity n r.tablets in
      let h = b.inv.remembered in
      let k = good ps activity changes n r serving at b in
      let ops = b.inv.operations in
      let of_new : (P : Interval → Type 0) → ((p : TabletPair) → In p r.tablets → P (taken n p)) → (i : Interval) → In i new → P i = λ P go i isin. in_mapped {A = TabletPair} {B = Interval} (taken n) P r.tablets go i isin in
      record {
        part = part_append activity m.activity new new h.part (part_same new);
        each = λ i isin. elim (in_append activity new i isin) [
          | inl old ↦ (elim (h.each i old) [
            | inl here ↦ inl (stays ps activity changes n r serving at b i here)
            | inr gone ↦ inr (forgotten_beside g cs s i floors_now (forgotten_on m g i (record { clock = up; schedules = refl; restorations = refl; clones = refl }) refl
                (by_interval ps activity changes n r serving at b (λ j. j.tablet ≡ i.tablet → ⊥) (λ j there e. gone.unknown j there e) (λ p paired e. (unlisted ps activity changes n r serving at b p i paired old).0 (sym e))) gone))
          ])
          | inr came ↦ inl (in_second m.activity new i came)
        ];
        drawn = λ i isin. elim (in_append activity new i isin) [ inl old ↦ h.drawn i old | inr came ↦ of_new (λ i. i.tablet.number ≤ m.drawn.tablets) (λ p paired. (k.pairs p paired).drawn) i came ];
        drawn_table = λ i isin. elim (in_append activity new i isin) [ inl old ↦ h.drawn_table i old | inr came ↦ of_new (λ i. i.table.number ≤ m.drawn.tables) (λ p paired. (k.pairs p paired).drawn_table) i came ];
        reserved = λ c p i. by_entering (λ c. is_visible c.state ≡ false → In p c.tablets → In i (activity ++ new) → (i.tablet ≡ p.target → ⊥) × (i.table ≡ p.table → ⊥)) v m.clones ops.apart.clone_ids b.kept
            (λ unseen. absurd (true≢false unseen))
            (λ x there other unseen paired isin. elim (in_append activity new i isin) [
              | inl old ↦ h.reserved x p i there unseen paired old
              | inr came ↦ of_new (λ i. (i.tablet ≡ p.target → ⊥) × (i.table ≡ p.table → ⊥)) (λ q in_q. (
                λ e. no_other x other (same_made x q p there unseen paired in_q (sym e)),
                λ e. no_other x other (same_target x there (visible_later x.state unseen)
                    (let z : Some x.target_id ≡ Some r.target_id = sym ((ops.clones x there).pairs p paired).owned ∙ ap (owner_of m.catalog.owners) (sym e) ∙ (k.pairs q in_q).owned in cc)),
              )) i came
            ]) c;
      }

  kept_now : (ns : Id) → kept_from (grown ps.master r n).catalog.kept_from ns ≤ floor_of (grown ps.master r n) ns n
  kept_now ns = either_way (same r.target_id ns)
      (λ e.
      let g = grown ps.master r n in
      let is = same_equal r.target_id ns e in
      let none = no_lows ps.master.schedules ns n (λ k there of. (good ps activity changes n r serving at b).no_schedule (dark ps activity changes n r serving at b) k there (of ∙ sym is)) in
      subst (λ l. kept_from g.catalog.kept_from ns ≤ floor l (time_of_user g ns) n) (sym none) (kept_by ps.master.catalog.kept_from r.target_id n n ns (le_trans (b.inv.master.tables.kept ns) up) (le_refl n)))
      (λ e. subst (λ k. k ≤ floor_of (grown ps.master r n) ns n) (sym (kept_beside ps.master.catalog.kept_from r.target_id n ns e)) (le_trans (b.inv.operations.kept ns) (floors ps activity changes n r serving at b ns)))

  operations_now : OperationsGood (stepped (grown ps.master r n) (step r serving at n)) (clone n r changes)
  operations_now =
      let m = ps.master in
      let g = grown m r n in
      let v = step r serving at n in
      let cs = entered v m.clones in
      let s = unsent r.id m.sent in
      let new = clone n r changes in
      let ops = b.inv.operations in
      record {
        kept = λ ns. le_trans (kept_now ns) (floors_now ns);
        owners = ops.owners;
        apart = entered_apart g v steps ops.apart;
        schedules = λ k isin. schedule_grown ps activity changes n r serving at b k (ops.schedules k isin);
        scheduled = λ k isin. scheduled_beside g cs s k floors_now (scheduled_grown ps activity changes n r serving at b k (ops.scheduled k isin));
        snapshots = λ q isin. snapshot_beside g cs s q floors_now (snapshot_grown ps activity changes n r serving at b q isin (ops.snapshots q isin));
        restorations = λ x isin. restoration_grown ps activity changes n r serving at b x isin (ops.restorations x isin);
        clones = by_entering (CloneGood (stepped g v) new) v m.clones ops.apart.clone_ids b.kept now_good (λ x there other. clone_grown x there (no_other x other) (ops.clones x there));
        sent = sent_entering g v steps ops.apart ops.sent;
      }

  became : Inv (record { master = stepped (grown ps.master r n) (step r serving at n); tablet = ps.tablet }) (activity ++ cloned_activity n r.tablets) (clone n r changes)
  became =
      let m = ps.master in
      let g = grown m r n in
      let v = step r serving at n in
      let cs = entered v m.clones in
      let s = unsent r.id m.sent in
      let new = clone n r changes in
      record {
        master = master_beside g cs s new master_grown;
        remembered = remembered_now;
        cover = cloned_covers activity changes r n (takes ps activity changes n r serving at b) b.inv.cover;
        slots = λ slot. slot_beside g cs s new slot (ps.tablet slot) (slot_grown slot);
        operations = operations_now;
        journal = journal_grown;
        rows_past = rows_grown;
        works = works_now;
      }

-- the move by which the target becomes current
pub copied_moves : (ps : Parts) (activity : List Interval) (changes : List Change) (n : ℕ) (r : CloneRecord) (serving : Id) (at : ℕ) → ps.master.clock < n → r.state ≡ Copying serving at → MayMove ps.master r → Inv ps activity changes
    → MovedKeeps (Copying serving at) ps activity changes n r
copied_moves ps activity changes n r serving at before is may inv = became ps activity changes n r serving at (record { before = before; kept = may.kept; is = is; inv = inv }) may.acked
