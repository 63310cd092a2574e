-- The records go on: what a step may do to the ground on which the records of operations stand, and that a record that the step doesn't
-- name goes on to be good. Each act that leaves records as they are gives what is asked here, and no more.
use Rattle.std.proofs.Common.{ℕ, ◌≡◌, ◌≤◌, ◌+◌, Bool, List, Some, true, false, refl, sym, ap, subst, ◌∙◌, arith, le_trans, lt_of_lt_of_le}
use Rattle.std.proofs.lemmas.Bool.{true≢false}
use Rattle.model.specs.Cluster.{Kind, NamespaceKind as Namespace, TableKind as Table, TabletKind, RestorationKind as Restoration, CloneKind as Clone, Id, In, is_open, NamespaceRecord, TableRecord, Owner, owner_of, Interval, Tablet, Mark, Listed, Schedule, SnapshotRecord, RestorationRecord, RestorationState, Fencing, Snapshotting, Switching, Restoring, Releasing, Restored, TabletPair, IdPair, CloneRecord, CloneState, CloneSnapshot, Copying, CloneReleasing, CloneComplete, is_restored, is_cloned, is_visible, named_by_restoration, named_by_clone, point_of, ScheduledNamespace}
use Rattle.model.specs.Journal.{Change, row_at}
use Rattle.model.specs.Stands.{AreRowsAt, before_restore}
use Rattle.model.specs.Schedules.{complete_to}
use Rattle.model.specs.Drawn.{drawn_of}
use Rattle.model.specs.Right.{is_fixed}
use Rattle.law_invariants.specs.Operations.{Grounds, is_switched, IsKnownIn, IsOpenIn, IsActiveIn, IsServingIn, IsPointIn, BeforePointIn, IsSourceIn, IsReservedIn, RestorationStateIn, RestorationIn, CloneStateIn, CloneIn}
use Rattle.law_invariants.specs.Orders.{FencePlaceIn, IsRestored, RestorationSlotIn, IsCopy, CloneSlotIn}
use Rattle.law_invariants.proofs.Recording.{SnapshotOn}

-- time, slots and numbers go on, a table stays its namespace's, and a restore stays in the journal
pub record GroundsGo (g k : Grounds) (changes new : List Change) : Type 0 where
  pub clock : g.clock ≤ k.clock
  pub slots : g.slots ≤ k.slots
  pub drawn : (kind : Kind) → drawn_of kind g.drawn ≤ drawn_of kind k.drawn
  pub owned : (table ns : Id) → owner_of g.catalog.owners table ≡ Some ns → owner_of k.catalog.owners table ≡ Some ns
  pub switched : (ns : Id) (point : ℕ) → is_switched changes ns point ≡ true → is_switched new ns point ≡ true

-- a snapshot stays, and may become complete
abbrev pub Stays : List SnapshotRecord → SnapshotRecord → Type 0
Stays snapshots q = (p : SnapshotRecord) × (In p snapshots × SnapshotOn q p)

-- nothing comes to a namespace that an unfinished operation holds
pub record NamespaceGoes (g k : Grounds) (changes new : List Change) (ns : Id) : Type 0 where
  pub came : (i : Interval) → In i k.activity → owner_of k.catalog.owners i.table ≡ Some ns → In i g.activity × (owner_of g.catalog.owners i.table ≡ Some ns)
  pub tables : (t : TableRecord) → In t k.catalog.tables → t.namespace ≡ ns → In t g.catalog.tables
  pub fixed : (to : ℕ) → is_fixed new ns to ≡ true → is_fixed changes ns to ≡ true

-- the tablets that it lists keep their intervals, and get no others
pub record LinesGo (before after : List Interval) (ls : List Listed) : Type 0 where
  pub stays : (l : Listed) (i : Interval) → In l ls → In i before → i.tablet ≡ l.tablet → In i after
  pub was : (l : Listed) (i : Interval) → In l ls → IsKnownIn before l → In i after → i.tablet ≡ l.tablet → In i before

-- what an unfinished restoration needs
pub record RestorationGoes (g k : Grounds) (changes new : List Change) (r : RestorationRecord) : Type 0 where
  pub space : NamespaceGoes g k changes new r.namespace
  pub lines : LinesGo g.activity k.activity r.listed
  pub named : (q : SnapshotRecord) → In q g.snapshots → named_by_restoration r.state ≡ Some q.id → Stays k.snapshots q
  -- from its point on no snapshot of its namespace comes
  pub taken : (point : ℕ) (q : SnapshotRecord) → point_of r.state ≡ Some point → In q k.snapshots → q.namespace ≡ r.namespace → (p : SnapshotRecord) × (In p g.snapshots × SnapshotOn p q)
  pub points : (point : ℕ) → point_of r.state ≡ Some point → ((s : ScheduledNamespace) → In s g.scheduled → s.namespace ≡ r.namespace → complete_to s + 1 ≤ point)
      → (s : ScheduledNamespace) → In s k.scheduled → s.namespace ≡ r.namespace → complete_to s + 1 ≤ point
  pub schedule : (s : Schedule) → In s g.schedules → s.id ≡ r.schedule → s.namespace ≡ r.namespace → (t : Schedule) × (In t k.schedules × ((t.id ≡ r.schedule) × (t.namespace ≡ r.namespace)))

-- what an unfinished clone needs
pub record CloneGoes (g k : Grounds) (before after : List RestorationRecord) (changes new : List Change) (c : CloneRecord) : Type 0 where
  pub space : NamespaceGoes g k changes new c.target_id
  -- the tablets that it releases are its target's
  pub lines : ((l : Listed) (i : Interval) → In l c.listed → In i g.activity → i.tablet ≡ l.tablet → owner_of g.catalog.owners i.table ≡ Some c.target_id)
      → LinesGo g.activity k.activity c.listed
  pub named : (q : SnapshotRecord) → In q g.snapshots → named_by_clone c.state ≡ Some q.id → Stays k.snapshots q
  pub schedule : (s : Schedule) → In s g.schedules → s.namespace ≡ c.source → (t : Schedule) × (In t k.schedules × (t.namespace ≡ c.source))
  pub source : (p : TabletPair) → In p c.tablets → IsSourceIn g.activity g.catalog.owners c.to c.source c.tables p → IsSourceIn k.activity k.catalog.owners c.to c.source c.tables p
  -- before its target is current
  pub reserved : is_visible c.state ≡ false → (p : TabletPair) → In p c.tablets → IsReservedIn g.activity g.snapshots before p → IsReservedIn k.activity k.snapshots after p
  pub names : is_visible c.state ≡ false → (r : NamespaceRecord) → In r k.catalog.namespaces
      → ((q : NamespaceRecord) → In q g.catalog.namespaces → (q.id ≡ c.target_id → ⊥) × (is_open q.to ≡ true → q.name ≡ c.target → ⊥))
      → (r.id ≡ c.target_id → ⊥) × (is_open r.to ≡ true → r.name ≡ c.target → ⊥)
  pub schedules : is_visible c.state ≡ false → (s : Schedule) → In s k.schedules → s.namespace ≡ c.target_id → (t : Schedule) × (In t g.schedules × (t.namespace ≡ c.target_id))

visible_unfinished : (state : CloneState) → is_visible state ≡ false → is_cloned state ≡ false
visible_unfinished (CloneComplete serving at) e = e
visible_unfinished _ e = refl

module _ (g k : Grounds) (changes new : List Change) (o : GroundsGo g k changes new) where
  known_goes : (ls : List Listed) (l : Listed) → LinesGo g.activity k.activity ls → In l ls → IsKnownIn g.activity l → IsKnownIn k.activity l
  known_goes ls l lines isin h = record { interval = h.interval; kept = lines.stays l h.interval isin h.kept h.tablet_is; tablet_is = h.tablet_is; slot_is = h.slot_is }

  open_was : (ns : Id) (i : Interval) → NamespaceGoes g k changes new ns → IsOpenIn k.activity k.catalog.owners ns i → IsOpenIn g.activity g.catalog.owners ns i
  open_was ns i space h = let w = space.came i h.kept h.owned in record { kept = w.0; opened = h.opened; owned = w.1 }

  active_goes : (ls : List Listed) (l : Listed) (from : ℕ) → LinesGo g.activity k.activity ls → In l ls → IsActiveIn g.activity l from → IsActiveIn k.activity l from
  active_goes ls l from lines isin h = record { interval = h.interval; kept = lines.stays l h.interval isin h.kept h.tablet_is; tablet_is = h.tablet_is; slot_is = h.slot_is; opened = h.opened; from_is = h.from_is }

  serving_goes : (snapshot ns : Id) (to : ℕ) → ((q : SnapshotRecord) → In q g.snapshots → Some snapshot ≡ Some q.id → Stays k.snapshots q) → IsServingIn g.snapshots snapshot ns to → IsServingIn k.snapshots snapshot ns to
  serving_goes snapshot ns to named h = let p = named h.serving h.kept (ap Some (sym h.id_is)) in record {
    serving = p.0;
    kept = p.1.0;
    id_is = p.1.1.id_is ∙ h.id_is;
    complete = p.1.1.complete h.complete;
    namespace_is = p.1.1.namespace_is ∙ h.namespace_is;
    after = (let e = p.1.1.after_is in let l = h.after in omega arith);
    reaches = (let e = p.1.1.at_is in let l = h.reaches in omega arith);
  }

  point_goes : (r : RestorationRecord) (point : ℕ) → RestorationGoes g k changes new r → point_of r.state ≡ Some point → IsPointIn g.snapshots g.scheduled changes r.namespace r.to point → IsPointIn k.snapshots k.scheduled new r.namespace r.to point
  point_goes r point x at h = record {
    later = h.later;
    fixed = λ to is. h.fixed to (x.space.fixed to is);
    snapshots = λ q isin is. (let p = x.taken point q at isin is in let l = h.snapshots p.0 p.1.0 (sym p.1.1.namespace_is ∙ is) in let e = p.1.1.at_is in omega arith);
    complete = x.points point at h.complete;
  }

  -- what holds of the unfinished snapshots of its namespace
  unfinished_goes : (r : RestorationRecord) (point : ℕ) (P : Id → Type 0) → RestorationGoes g k changes new r → point_of r.state ≡ Some point
      → ((q : SnapshotRecord) → In q g.snapshots → q.complete ≡ false → q.namespace ≡ r.namespace → P q.id)
      → (q : SnapshotRecord) → In q k.snapshots → q.complete ≡ false → q.namespace ≡ r.namespace → P q.id
  unfinished_goes r point P x at h q isin open_ is =
      let p = x.taken point q at isin is in
      subst P (sym p.1.1.id_is) (h p.0 p.1.0 (still p.0.complete q.complete p.1.1.complete open_) (sym p.1.1.namespace_is ∙ is))
    where
      still : (a b : Bool) → (a ≡ true → b ≡ true) → b ≡ false → a ≡ false
      still true b on e = absurd (true≢false (sym (on refl) ∙ e))
      still false b on e = refl

  before_goes : (ns : Id) (point : ℕ) → NamespaceGoes g k changes new ns → BeforePointIn g.activity g.catalog.owners g.catalog.tables ns point → BeforePointIn k.activity k.catalog.owners k.catalog.tables ns point
  before_goes ns point space h = record {
    begun = λ i there owner. (let w = space.came i there owner in h.begun i w.0 w.1);
    ended = λ i end_ there owner. (let w = space.came i there owner in h.ended i end_ w.0 w.1);
    tables_begun = λ t there of. h.tables_begun t (space.tables t there of) of;
    tables_ended = λ t end_ there of. h.tables_ended t end_ (space.tables t there of) of;
  }

  state_goes : (state : RestorationState) (r : RestorationRecord) → r.state ≡ state → (is_restored state ≡ false → RestorationGoes g k changes new r)
      → (is_restored state ≡ false → (l : Listed) → In l r.listed → IsKnownIn g.activity l) → RestorationStateIn state g changes r → RestorationStateIn state k new r
  state_goes Fencing r e goes known h = let x = goes refl in record {
    bodies = h.bodies;
    lists = λ i opened. h.lists i (open_was r.namespace i x.space opened);
    opens = λ l isin. (let w = h.opens l isin in (w.0, (record { kept = x.lines.stays l w.0 isin w.1.0.kept w.1.1.0; opened = w.1.0.opened; owned = o.owned w.0.table r.namespace w.1.0.owned }, w.1.1)));
  }
  state_goes (Snapshotting point own) r e goes known h =
      let x = goes refl in
      let p = x.named h.snapshot h.kept (ap named_by_restoration e ∙ ap Some (sym h.id_is)) in
      record {
        is_point = point_goes r point x (ap point_of e) h.is_point;
        empty = h.empty;
        soon = le_trans h.soon (let l = o.clock in omega arith);
        before = before_goes r.namespace point x.space h.before;
        snapshot = p.0;
        kept = p.1.0;
        id_is = p.1.1.id_is ∙ h.id_is;
        at_is = ap (λ x. x + 1) p.1.1.at_is ∙ h.at_is;
        namespace_is = p.1.1.namespace_is ∙ h.namespace_is;
        alone = unfinished_goes r point (λ id. id ≡ own) x (ap point_of e) h.alone;
      }
  state_goes (Switching point serving) r e goes known h = let x = goes refl in record {
    is_point = point_goes r point x (ap point_of e) h.is_point;
    empty = h.empty;
    begun = le_trans h.begun o.clock;
    before = before_goes r.namespace point x.space h.before;
    serves = serving_goes serving r.namespace r.to (λ q isin is. x.named q isin (ap named_by_restoration e ∙ is)) h.serves;
    calm = unfinished_goes r point (λ id. ⊥) x (ap point_of e) h.calm;
  }
  state_goes (Restoring point serving) r e goes known h = let x = goes refl in record {
    is_point = point_goes r point x (ap point_of e) h.is_point;
    begun = le_trans h.begun o.clock;
    serves = serving_goes serving r.namespace r.to (λ q isin is. x.named q isin (ap named_by_restoration e ∙ is)) h.serves;
    calm = unfinished_goes r point (λ id. ⊥) x (ap point_of e) h.calm;
    switched = o.switched r.namespace point h.switched;
    bodies = h.bodies;
    back = λ l isin is. (let w = h.back l isin is in record {
      then_ = w.then_;
      kept_then = x.lines.stays l w.then_ isin w.kept_then w.tablet_then;
      tablet_then = w.tablet_then;
      active = w.active;
      now = w.now;
      kept_now = x.lines.stays l w.now isin w.kept_now w.tablet_now;
      tablet_now = w.tablet_now;
      slot_now = w.slot_now;
      opened = w.opened;
      from_is = w.from_is;
    });
    gone = λ l i isin is there same_. h.gone l i isin is (x.lines.was l i isin (known refl l isin) there same_) same_;
    opens = λ i opened. h.opens i (open_was r.namespace i x.space opened);
  }
  state_goes (Releasing point serving) r e goes known h = let x = goes refl in record {
    is_point = point_goes r point x (ap point_of e) h.is_point;
    begun = le_trans h.begun o.clock;
    switched = o.switched r.namespace point h.switched;
    bodies = h.bodies;
    active = λ l isin. active_goes r.listed l point x.lines isin (h.active l isin);
    opens = λ i opened. h.opens i (open_was r.namespace i x.space opened);
  }
  state_goes (Restored point serving) r e goes known h = record { empty = h.empty; begun = le_trans h.begun o.clock; later = h.later; switched = o.switched r.namespace point h.switched }

  pub restoration_goes : (r : RestorationRecord) → (is_restored r.state ≡ false → RestorationGoes g k changes new r) → RestorationIn g changes r → RestorationIn k new r
  restoration_goes r goes h = record {
    kind_is = h.kind_is;
    drawn = le_trans h.drawn (o.drawn Restoration);
    drawn_namespace = le_trans h.drawn_namespace (o.drawn Namespace);
    past = lt_of_lt_of_le h.past o.clock;
    scheduled = λ unfinished. (let s = h.scheduled unfinished in (goes unfinished).schedule s.0 s.1.0 s.1.1.0 s.1.1.1);
    known = λ unfinished l isin. known_goes r.listed l (goes unfinished).lines isin (h.known unfinished l isin);
    in_state = state_goes r.state r refl goes h.known h.in_state;
  }

  clone_state_goes : (state : CloneState) (before after : List RestorationRecord) (c : CloneRecord) → c.state ≡ state → (is_cloned state ≡ false → CloneGoes g k before after changes new c) → CloneStateIn state g c → CloneStateIn state k c
  clone_state_goes (CloneSnapshot own) before after c e goes h =
      let p = (goes refl).named h.snapshot h.kept (ap named_by_clone e ∙ ap Some (sym h.id_is)) in
      record { empty = h.empty; snapshot = p.0; kept = p.1.0; id_is = p.1.1.id_is ∙ h.id_is; namespace_is = p.1.1.namespace_is ∙ h.namespace_is; reaches = (let l = h.reaches in let q = p.1.1.at_is in omega arith) }
  clone_state_goes (Copying serving at) before after c e goes h =
      record { begun = le_trans h.begun o.clock; later = h.later; serves = serving_goes serving c.source c.to (λ q isin is. (goes refl).named q isin (ap named_by_clone e ∙ is)) h.serves; bodies = h.bodies; all = h.all }
  clone_state_goes (CloneReleasing serving at) before after c e goes h =
      let x = goes refl in
      let lines = x.lines h.listed_of in
      record {
        since = h.since;
        begun = le_trans h.begun o.clock;
        later = h.later;
        copied = h.copied;
        bodies = h.bodies;
        active = λ l isin. active_goes c.listed l h.since lines isin (h.active l isin);
        listed_of = λ l i isin there is. (
            let a = h.active l isin in
            let known : IsKnownIn g.activity l = record { interval = a.interval; kept = a.kept; tablet_is = a.tablet_is; slot_is = a.slot_is } in
            o.owned i.table c.target_id (h.listed_of l i isin (lines.was l i isin known there is) is));
        opens = λ i opened. h.opens i (open_was c.target_id i x.space opened);
      }
  clone_state_goes _ before after c e goes h = h

  pub clone_goes : (before after : List RestorationRecord) (c : CloneRecord) → (is_cloned c.state ≡ false → CloneGoes g k before after changes new c) → CloneIn g before changes c → CloneIn k after new c
  clone_goes before after c goes h =
      let unseen : is_visible c.state ≡ false → CloneGoes g k before after changes new c = λ e. goes (visible_unfinished c.state e) in
      record {
        kind_is = h.kind_is;
        drawn = le_trans h.drawn (o.drawn Clone);
        drawn_source = le_trans h.drawn_source (o.drawn Namespace);
        drawn_target = le_trans h.drawn_target (o.drawn Namespace);
        apart = h.apart;
        past = lt_of_lt_of_le h.past o.clock;
        pairs = λ p paired. (let w = h.pairs p paired in
            record { slot_from = w.slot_from; slot_to = le_trans w.slot_to o.slots; drawn = le_trans w.drawn (o.drawn TabletKind); drawn_table = le_trans w.drawn_table (o.drawn Table); owned = o.owned p.table c.target_id w.owned });
        drawn_listed = λ l isin. le_trans (h.drawn_listed l isin) (o.drawn TabletKind);
        one_slot = h.one_slot;
        one_target = h.one_target;
        one_table = h.one_table;
        tables_apart = h.tables_apart;
        owned = λ d paired. o.owned d.source c.source (h.owned d paired);
        drawn_sources = λ d paired. le_trans (h.drawn_sources d paired) (o.drawn Table);
        covers = h.covers;
        scheduled = λ unfinished. (let s = h.scheduled unfinished in (goes unfinished).schedule s.0 s.1.0 s.1.1);
        sources = λ unfinished p paired. (goes unfinished).source p paired (h.sources unfinished p paired);
        reserved = λ e p paired. (unseen e).reserved e p paired (h.reserved e p paired);
        no_tablet = λ e i there owner. (let w = (unseen e).space.came i there owner in h.no_tablet e i w.0 w.1);
        no_table = λ e t there of. h.no_table e t ((unseen e).space.tables t there of) of;
        no_namespace = λ e r there. (unseen e).names e r there (h.no_namespace e);
        no_schedule = λ e s there is. (let t = (unseen e).schedules e s there is in h.no_schedule e t.0 t.1.0 t.1.1);
        unfixed = λ unfinished to is. h.unfixed unfinished to ((goes unfinished).space.fixed to is);
        in_state = clone_state_goes c.state before after c refl goes h.in_state;
      }

-- What tablets did goes on: of activity and owners it reads the open intervals of the namespace in the slot, and of the journal what was
-- before the restore, and the rows that a clone copies

pub place_goes : (state : RestorationState) (r : RestorationRecord) (a b : List Interval) (os ps : List Owner) (slot : ℕ) (done : List Mark)
    → (is_restored state ≡ false → (i : Interval) → IsOpenIn a os r.namespace i → i.slot ≡ slot → IsOpenIn b ps r.namespace i) → FencePlaceIn state r a os slot done → FencePlaceIn state r b ps slot done
place_goes (Restoring point serving) r a b os ps slot done opens h = h
place_goes (Releasing point serving) r a b os ps slot done opens h = h
place_goes (Restored point serving) r a b os ps slot done opens h = h
place_goes _ r a b os ps slot done opens h = (h.0, (opens refl h.0 h.1.0 h.1.1, h.1.1))

restored_goes : (changes new : List Change) (r : RestorationRecord) (point : ℕ) (t : Tablet) → before_restore new r.namespace point new ≡ before_restore changes r.namespace point changes → IsRestored changes r point t → IsRestored new r point t
restored_goes changes new r point t before h = assumption (subst (λ then_. AreRowsAt t.versions t.low t.high point then_ r.to t.table) (sym before) h.rows, h)

pub restoration_slot_goes : (state : RestorationState) (r : RestorationRecord) (a b : List Interval) (os ps : List Owner) (changes new : List Change) (slot : ℕ) (t : Tablet)
    → (is_restored state ≡ false → (i : Interval) → IsOpenIn b ps r.namespace i → IsOpenIn a os r.namespace i)
    → ((point : ℕ) (serving : Id) → state ≡ Restoring point serving → before_restore new r.namespace point new ≡ before_restore changes r.namespace point changes)
    → RestorationSlotIn state a os changes r slot t → RestorationSlotIn state b ps new r slot t
restoration_slot_goes (Snapshotting point own) r a b os ps changes new slot t opens before h = record { fenced = λ i opened is. h.fenced i (opens refl i opened) is }
restoration_slot_goes (Switching point serving) r a b os ps changes new slot t opens before h = record { fenced = λ i opened is. h.fenced i (opens refl i opened) is; past = λ i opened is. h.past i (opens refl i opened) is }
restoration_slot_goes (Restoring point serving) r a b os ps changes new slot t opens before h = λ l lists is. (
    let k = h l lists is in
    record { acked = k.acked; fenced = k.fenced; restored = λ restores did. restored_goes changes new r point t (before point serving refl) (k.restored restores did); hidden = k.hidden })
restoration_slot_goes _ r a b os ps changes new slot t opens before h = h

-- the rows of a clone's copies, by a journal that has the same of their source at the clone's time
copy_goes : (changes new : List Change) (c : CloneRecord) (at : ℕ) (p : TabletPair) (t : Tablet) → ((d : IdPair) (key : List ℕ) → In d c.tables → row_at new c.to d.source key ≡ row_at changes c.to d.source key)
    → IsCopy changes c at p t → IsCopy new c at p t
copy_goes changes new c at p t stays h =
    let rows_now : (d : IdPair) → In d c.tables → d.target ≡ p.table → AreRowsAt t.versions p.low p.high at new c.to d.source = λ d paired is. (let k = h.rows d paired is in record { stamps = k.stamps; upserts = k.upserts; rows = λ key range. k.rows key range ∙ sym (stays d key paired); inside = k.inside }) in
    assumption (rows_now, h)

pub clone_slot_goes : (state : CloneState) (c : CloneRecord) (os ps : List Owner) (changes new : List Change) (slot : ℕ) (t : Tablet) → (owner_of ps t.table ≡ Some c.source → owner_of os t.table ≡ Some c.source)
    → ((serving : Id) (at : ℕ) (d : IdPair) (key : List ℕ) → state ≡ Copying serving at → In d c.tables → row_at new c.to d.source key ≡ row_at changes c.to d.source key)
    → CloneSlotIn state os changes c slot t → CloneSlotIn state ps new c slot t
clone_slot_goes (Copying serving at) c os ps changes new slot t owner rows h = record {
  acked = h.acked;
  empty = h.empty;
  copied = λ p paired is done. copy_goes changes new c at p t (λ d key listed. rows serving at d key refl listed) (h.copied p paired is done);
  later = λ serves free of. h.later serves free (owner of);
}
clone_slot_goes _ c os ps changes new slot t owner rows h = h
