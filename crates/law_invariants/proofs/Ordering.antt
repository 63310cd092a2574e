-- What operations have a slot's tablet do goes on to hold while the master goes on with its records, and while a tablet changes what no
-- operation has it do.
use Rattle.std.proofs.Common.{ℕ, ◌≡◌, ◌≤◌, ◌<◌, List, [], Option, Some, None, true, false, ◌⊎◌, inl, inr, refl, sym, ap, subst, ◌∙◌, arith, le_refl, le_trans, lt_of_lt_of_le}
use Rattle.std.proofs.lemmas.Bool.{true≢false}
use Rattle.model.specs.Cluster.{TableKind as Table, Id, In, Catalog, owner_of, Interval, Listed, RestorationRecord, RestorationState, Fencing, Snapshotting, Switching, Restoring, Releasing, Restored, TabletPair, IdPair, CloneRecord, CloneState, Accepted, Copying, CloneReleasing, CloneComplete, Sent, is_restored, is_cloned, is_visible, SnapshotRecord, Master, Drawn}
use Rattle.row_values.specs.Store.{Version, of_rows, rows_at}
use Rattle.model.specs.Journal.{Change, row_at}
use Rattle.model.specs.Looks.{is_reserved}
use Rattle.model.specs.Tablets.{Tablet, Presence, HiddenPart, BodyKind, Command, Mark, is_empty, is_serving, placed, is_done, RestoreFromKind, FreezeKind}
use Rattle.model.specs.Stands.{AreRowsAt, before_restore, is_restore, HoldsFrozen}
use Rattle.model.specs.Drawn.{drawn_of}
use Rattle.law_invariants.specs.Operations.{IsKnown, RestorationStateGood, CloneStateGood, OperationsGood}
use Rattle.law_invariants.specs.Invariant.{SlotWorks}
use Rattle.law_invariants.specs.Orders.{FencePlace, ClonePlace, IsFence, IsAfter, IsOrder, IsMark, OrdersGood, RestoringSlot, ReleasingSlot, RestorationSlot, IsCopy, CloneSlot, IsHome, IsTarget, ObeyedGood, directory, IsFenceIn, operations, IsMarkIn, RestorationSlotIn, CloneSlotIn, IsRestored, IsOrderIn, IsBare}
use Rattle.law_invariants.proofs.Operating.{NotHeld, Onward, ListedOf, going, target_reserved, alike_on, open_on, open_was}
use Rattle.law_invariants.proofs.Going.{place_goes, restoration_slot_goes, clone_slot_goes}

-- The master goes on

fence_on : (m : Master) (n : ℕ) (c : Catalog) (a : List Interval) (d : Drawn) (s : List Sent) (changes new : List Change) (slot : ℕ) (table : Id) (done : List Mark) (operation : Id) → Onward m n c a d changes new
    → IsFence m slot table done operation → IsFence (going m n c a d s) slot table done operation
fence_on m n c a d s changes new slot table done operation o (inl h) = inl (record {
  restoration = h.restoration;
  kept = h.kept;
  id_is = h.id_is;
  owned = o.owned table h.restoration.namespace h.owned;
  place = place_goes h.restoration.state h.restoration m.activity a m.catalog.owners c.owners slot done (λ unfinished i opened is. open_on m n c a d s changes new h.restoration.namespace i o (λ free. free.restoration h.restoration h.kept unfinished refl) opened) h.place;
})
fence_on m n c a d s changes new slot table done operation o (inr h) = inr (record {
  clone = h.clone;
  kept = h.kept;
  id_is = h.id_is;
  owned = o.owned table h.clone.target_id h.owned;
  place = h.place;
})

pub orders_on : (m : Master) (n : ℕ) (c : Catalog) (a : List Interval) (d : Drawn) (s : List Sent) (changes new : List Change) (slot : ℕ) (t : Tablet) → Onward m n c a d changes new → OrdersGood m slot t
    → OrdersGood (going m n c a d s) slot t
orders_on m n c a d s changes new slot t o h =
    let fences : (operation : Id) → t.fence ≡ Some operation → IsFenceIn (directory (going m n c a d s)) slot t.table t.done operation = λ operation is. fence_on m n c a d s changes new slot t.table t.done operation o (h.fences operation is) in
    let marks : (mark : Mark) → In mark t.done → IsMarkIn d (operations (going m n c a d s)) t.clock mark = λ mark isin. (let g = h.marks mark isin in let drawn : mark.operation.number ≤ drawn_of mark.operation.kind d = le_trans g.drawn (o.drawn mark.operation.kind) in assumption (drawn, g)) in
    assumption (fences, marks)

-- the rows that clones copy are the same in two journals
abbrev pub SourcesStay : Master → List Change → List Change → Type 0
SourcesStay m changes new = (c : CloneRecord) (serving : Id) (at : ℕ) (d : IdPair) (key : List ℕ) → In c m.clones → c.state ≡ Copying serving at → In d c.tables
    → row_at new c.to d.source key ≡ row_at changes c.to d.source key

home_on : (m : Master) (n : ℕ) (c : Catalog) (a : List Interval) (d : Drawn) (s : List Sent) (changes new : List Change) (slot : ℕ) (tablet : Id) → Onward m n c a d changes new → IsHome m slot tablet ⊎ IsTarget m slot tablet
    → IsHome (going m n c a d s) slot tablet ⊎ IsTarget (going m n c a d s) slot tablet
home_on m n c a d s changes new slot tablet o (inl h) = let k = o.kept h.interval h.kept in let e = alike_on m n h.interval k.0 k.1.1 in
    inl (record { interval = k.0; kept = k.1.0; slot_is = e.slot ∙ h.slot_is; tablet_is = e.tablet ∙ h.tablet_is })
home_on m n c a d s changes new slot tablet o (inr h) = inr h

pub obeyed_on : (m : Master) (n : ℕ) (c : Catalog) (a : List Interval) (d : Drawn) (s : List Sent) (changes new : List Change) (slot : ℕ) (t : Tablet) → Onward m n c a d changes new → SourcesStay m changes new
    → OperationsGood m changes → ObeyedGood m changes slot t → ObeyedGood (going m n c a d s) new slot t
obeyed_on m n c a d s changes new slot t o stays ops h = record {
  drawn_table = le_trans h.drawn_table (o.drawn Table);
  home = λ present. home_on m n c a d s changes new slot t.tablet o (h.home present);
  snapshots = h.snapshots;
  restorations = λ r isin. restoration_slot_goes r.state r m.activity a m.catalog.owners c.owners changes new slot t
      (λ unfinished i opened. open_was m n c a d s changes new r.namespace i o (λ free. free.restoration r isin unfinished refl) opened)
      (λ point serving e. o.before r.namespace point (subst (λ state. RestorationStateGood state m changes r) e (ops.restorations r isin).in_state).switched) (h.restorations r isin);
  clones = λ k isin. clone_slot_goes k.state k m.catalog.owners c.owners changes new slot t (λ of. sym (o.owners t.table h.drawn_table) ∙ of) (λ serving at b key e listed. stays k serving at b key isin e listed) (h.clones k isin);
}

-- A tablet changes

-- the tablet with a later clock, and another schema version, other versions, another cutoff and other commands
abbrev pub milder : Tablet → ℕ → ℕ → List Version → ℕ → List Command → Tablet
milder t n version vs cutoff inbox = record t { clock = n; version = version; versions = vs; cutoff = cutoff; inbox = inbox }

pub after_later : (m : Master) (from to : ℕ) (operation : Id) (kind : BodyKind) → from ≤ to → IsAfter m from operation kind → IsAfter m to operation kind
after_later m from to operation kind le h = record {
  snapshot = λ r isin is. lt_of_lt_of_le (h.snapshot r isin is) le;
  restoration = λ r isin is. lt_of_lt_of_le (h.restoration r isin is) le;
  point = λ r at isin is p k. lt_of_lt_of_le (h.point r at isin is p k) le;
  copied = λ c at isin is p. lt_of_lt_of_le (h.copied c at isin is p) le;
  released = λ c l at isin is lists b k. lt_of_lt_of_le (h.released c l at isin is lists b k) le;
}

pub order_later : (m : Master) (slot from to : ℕ) (c : Command) → from ≤ to → IsOrder m slot from c → IsOrder m slot to c
order_later m slot from to c le h = record { is_pending = h.is_pending; after = after_later m from to c.operation _ le h.after }

pub mark_later : (m : Master) (from to : ℕ) (mark : Mark) → from ≤ to → IsMark m from mark → IsMark m to mark
mark_later m from to mark le h = record { drawn = h.drawn; after = after_later m from to mark.operation mark.kind le h.after; by_snapshot = h.by_snapshot; by_restoration = h.by_restoration; by_clone = h.by_clone }

-- its commands and marks stay, and its clock may rise
pub orders_mild : (m : Master) (slot : ℕ) (t : Tablet) (n version : ℕ) (vs : List Version) (cutoff : ℕ) → t.clock ≤ n → OrdersGood m slot t → OrdersGood m slot (milder t n version vs cutoff t.inbox)
orders_mild m slot t n version vs cutoff le h =
    let orders : (c : Command) → In c (milder t n version vs cutoff t.inbox).inbox → IsOrderIn (operations m) slot (milder t n version vs cutoff t.inbox).clock c = λ c isin. order_later m slot t.clock n c le (h.orders c isin) in
    let marks : (mark : Mark) → In mark (milder t n version vs cutoff t.inbox).done → IsMarkIn m.drawn (operations m) (milder t n version vs cutoff t.inbox).clock mark = λ mark isin. mark_later m t.clock n mark le (h.marks mark isin) in
    let holds : (r : SnapshotRecord) → In r m.snapshots → is_done (milder t n version vs cutoff t.inbox).done r.id FreezeKind ≡ true → HoldsFrozen r.id r.at (milder t n version vs cutoff t.inbox) = λ r isin did. (let f = h.holds r isin did in record { set = f.set; held = f.held; time = f.time; inside = f.inside }) in
    let bare : is_empty (milder t n version vs cutoff t.inbox).presence ≡ true → IsBare (milder t n version vs cutoff t.inbox) = λ vacant. (let b = h.bare vacant in record { frozen = b.frozen; fence = b.fence; done = b.done }) in
    assumption (orders, marks, holds, bare)

-- its commands are lost
pub orders_lost : (m : Master) (slot : ℕ) (t : Tablet) (n : ℕ) → t.clock ≤ n → OrdersGood m slot t → OrdersGood m slot (record t { clock = n; inbox = [] })
orders_lost m slot t n le h = record {
  fences = h.fences;
  orders = λ c isin. absurd isin;
  once = tt;
  fresh = λ c isin. absurd isin;
  marks = λ mark isin. mark_later m t.clock n mark le (h.marks mark isin);
  holds = λ r isin did. (let f = h.holds r isin did in record { set = f.set; held = f.held; time = f.time; inside = f.inside });
  frozen = h.frozen;
  sets = h.sets;
  bare = λ vacant. (let b = h.bare vacant in record { frozen = b.frozen; fence = b.fence; done = b.done });
}

-- where versions are upserts at one stamp they stay, and the cutoff doesn't fall; or the tablet takes writes
abbrev pub RowsStay : Tablet → List Version → ℕ → Type 0
RowsStay t vs cutoff = record { later : t.cutoff ≤ cutoff; same_ : (stamp : ℕ) → t.versions ≡ of_rows (rows_at t.versions stamp) stamp → vs ≡ t.versions } ⊎ (t.fence ≡ None)

pub rows_same : (t : Tablet) → RowsStay t t.versions t.cutoff
rows_same t = inl (record { later = le_refl _; same_ = λ stamp e. refl })

rows_stay : (t : Tablet) (vs : List Version) (cutoff low high stamp : ℕ) (changes : List Change) (to : ℕ) (table operation : Id) → RowsStay t vs cutoff → t.fence ≡ Some operation → AreRowsAt t.versions low high stamp changes to table
    → (t.cutoff ≤ cutoff) × AreRowsAt vs low high stamp changes to table
rows_stay t vs cutoff low high stamp changes to table operation (inl stays) fenced h = (stays.later, subst (λ ws. AreRowsAt ws low high stamp changes to table) (sym (stays.same_ stamp h.upserts)) h)
rows_stay t vs cutoff low high stamp changes to table operation (inr free) fenced h = absurd (let q : None ≡ Some operation = sym free ∙ fenced in grind arith)

restoring_mild : (changes : List Change) (r : RestorationRecord) (point : ℕ) (l : Listed) (t : Tablet) (n version : ℕ) (vs : List Version) (cutoff : ℕ) (inbox : List Command) → RowsStay t vs cutoff → (t.cutoff ≡ point → cutoff ≡ point)
    → RestoringSlot changes r point l t → RestoringSlot changes r point l (milder t n version vs cutoff inbox)
restoring_mild changes r point l t n version vs cutoff inbox stays capped h =
    let restored : is_restore l.body ≡ true → is_done t.done r.id RestoreFromKind ≡ true → IsRestored changes r point (milder t n version vs cutoff inbox) = λ is did. (let k = h.restored is did in record {
      serves = k.serves;
      cutoff_is = capped k.cutoff_is;
      rows = (rows_stay t vs cutoff t.low t.high point (before_restore changes r.namespace point changes) r.to t.table r.id stays (h.fenced k.serves) k.rows).1;
    }) in
    assumption restored

releasing_mild : (operation : Id) (l : Listed) (t : Tablet) (n version : ℕ) (vs : List Version) (cutoff : ℕ) (inbox : List Command) → ReleasingSlot operation l t → ReleasingSlot operation l (milder t n version vs cutoff inbox)
releasing_mild operation l t n version vs cutoff inbox h = record { acked = h.acked; serves = h.serves; released = h.released; fenced = h.fenced }

restoration_slot_mild : (state : RestorationState) (m : Master) (changes : List Change) (r : RestorationRecord) (slot : ℕ) (t : Tablet) (n version : ℕ) (vs : List Version) (cutoff : ℕ) (inbox : List Command) → t.clock ≤ n → RowsStay t vs cutoff
    → ((l : Listed) (point : ℕ) (serving : Id) → state ≡ Restoring point serving → In l r.listed → l.slot ≡ slot → t.cutoff ≡ point → cutoff ≡ point) → RestorationSlot state m changes r slot t
    → RestorationSlot state m changes r slot (milder t n version vs cutoff inbox)
restoration_slot_mild Fencing m changes r slot t n version vs cutoff inbox le stays capped h = record { acked = h.acked; fenced = h.fenced }
restoration_slot_mild (Snapshotting point own) m changes r slot t n version vs cutoff inbox le stays capped h = record { fenced = h.fenced }
restoration_slot_mild (Switching point serving) m changes r slot t n version vs cutoff inbox le stays capped h = record { fenced = h.fenced; past = λ i opened is. le_trans (h.past i opened is) le }
restoration_slot_mild (Restoring point serving) m changes r slot t n version vs cutoff inbox le stays capped h = λ l isin is. restoring_mild changes r point l t n version vs cutoff inbox stays (capped l point serving refl isin is) (h l isin is)
restoration_slot_mild (Releasing point serving) m changes r slot t n version vs cutoff inbox le stays capped h = λ l isin is. releasing_mild r.id l t n version vs cutoff inbox (h l isin is)
restoration_slot_mild (Restored point serving) m changes r slot t n version vs cutoff inbox le stays capped h = tt

copy_mild : (changes : List Change) (c : CloneRecord) (at : ℕ) (p : TabletPair) (t : Tablet) (n version : ℕ) (vs : List Version) (cutoff : ℕ) (inbox : List Command) → RowsStay t vs cutoff → IsCopy changes c at p t
    → IsCopy changes c at p (milder t n version vs cutoff inbox)
copy_mild changes c at p t n version vs cutoff inbox stays h =
    let cutoff_now : at ≤ cutoff = cutoff_stays stays in
    let rows : (d : IdPair) → In d c.tables → d.target ≡ p.table → AreRowsAt vs p.low p.high at changes c.to d.source = λ d paired is. (rows_stay t vs cutoff p.low p.high at changes c.to d.source c.id stays h.fenced (h.rows d paired is)).1 in
    assumption (cutoff_now, rows)
  where
    cutoff_stays : RowsStay t vs cutoff → at ≤ cutoff
    cutoff_stays (inl k) = le_trans h.cutoff k.later
    cutoff_stays (inr free) = absurd (let q : None ≡ Some c.id = sym free ∙ h.fenced in grind arith)

clone_slot_mild : (state : CloneState) (m : Master) (changes : List Change) (c : CloneRecord) (slot : ℕ) (t : Tablet) (n version : ℕ) (vs : List Version) (cutoff : ℕ) (inbox : List Command) → t.clock ≤ n → RowsStay t vs cutoff
    → CloneSlot state m changes c slot t → CloneSlot state m changes c slot (milder t n version vs cutoff inbox)
clone_slot_mild (Copying serving at) m changes c slot t n version vs cutoff inbox le stays h = record {
  acked = h.acked;
  empty = h.empty;
  copied = λ p paired is done. copy_mild changes c at p t n version vs cutoff inbox stays (h.copied p paired is done);
  later = λ serving_ free of. le_trans (h.later serving_ free of) le;
}
clone_slot_mild (CloneReleasing serving at) m changes c slot t n version vs cutoff inbox le stays h = λ l isin is. releasing_mild c.id l t n version vs cutoff inbox (h l isin is)
clone_slot_mild (CloneComplete serving at) m changes c slot t n version vs cutoff inbox le stays h = tt
clone_slot_mild _ m changes c slot t n version vs cutoff inbox le stays h = record { empty = h.empty }

pub obeyed_mild : (m : Master) (changes : List Change) (slot : ℕ) (t : Tablet) (n version : ℕ) (vs : List Version) (cutoff : ℕ) (inbox : List Command) → t.clock ≤ n → RowsStay t vs cutoff
    → ((r : RestorationRecord) (l : Listed) (point : ℕ) (serving : Id) → In r m.restorations → r.state ≡ Restoring point serving → In l r.listed → l.slot ≡ slot → t.cutoff ≡ point → cutoff ≡ point) → ObeyedGood m changes slot t
    → ObeyedGood m changes slot (milder t n version vs cutoff inbox)
obeyed_mild m changes slot t n version vs cutoff inbox le stays capped h =
    let restorations : (r : RestorationRecord) → In r m.restorations → RestorationSlotIn r.state m.activity m.catalog.owners changes r slot (milder t n version vs cutoff inbox) = λ r isin. restoration_slot_mild r.state m changes r slot t n version vs cutoff inbox le stays (λ l point serving is lists at e. capped r l point serving isin is lists at e) (h.restorations r isin) in
    let clones : (c : CloneRecord) → In c m.clones → CloneSlotIn c.state m.catalog.owners changes c slot (milder t n version vs cutoff inbox) = λ c isin. clone_slot_mild c.state m changes c slot t n version vs cutoff inbox le stays (h.clones c isin) in
    assumption (restorations, clones)

-- A slot gets a tablet

-- a slot that was free: no interval is in it, and no unfinished clone has reserved it
pub record IsFreeSlot (m : Master) (slot : ℕ) : Type 0 where
  pub vacant : (i : Interval) → In i m.activity → i.slot ≡ slot → ⊥
  pub unreserved : is_reserved m.clones slot ≡ false

unknown_there : (m : Master) (slot : ℕ) (l : Listed) → IsFreeSlot m slot → IsKnown m l → l.slot ≡ slot → ⊥
unknown_there m slot l free h is = free.vacant h.interval h.kept (h.slot_is ∙ is)

unreserved_there : (m : Master) (slot : ℕ) (c : CloneRecord) (p : TabletPair) → IsFreeSlot m slot → In c m.clones → is_cloned c.state ≡ false → In p c.tablets → p.slot ≡ slot → ⊥
unreserved_there m slot c p free isin unfinished paired is = true≢false (sym (target_reserved m.clones c p isin unfinished paired) ∙ ap (is_reserved m.clones) is ∙ free.unreserved)

placed_restorations : (state : RestorationState) (m : Master) (n : ℕ) (c : Catalog) (a : List Interval) (d : Drawn) (s : List Sent) (changes new : List Change) (r : RestorationRecord) (slot : ℕ) (t : Tablet) → Onward m n c a d changes new
    → IsFreeSlot m slot → (is_restored state ≡ false → NotHeld m r.namespace → ⊥) → (is_restored state ≡ false → (l : Listed) → In l r.listed → IsKnown m l)
    → RestorationSlot state (going m n c a d s) new r slot (placed t.tablet t.table t.low t.high t.version t.versions t.cutoff n t)
placed_restorations Fencing m n c a d s changes new r slot t o free held known = record {
  acked = λ l isin is. absurd (unknown_there m slot l free (known refl l isin) is);
  fenced = λ did. absurd (let q = did in grind arith);
}
placed_restorations (Snapshotting point own) m n c a d s changes new r slot t o free held known = record {
  fenced = λ i opened is. absurd (let k = open_was m n c a d s changes new r.namespace i o (held refl) opened in free.vacant i k.kept is);
}
placed_restorations (Switching point serving) m n c a d s changes new r slot t o free held known = record {
  past = λ i opened is. absurd (let k = open_was m n c a d s changes new r.namespace i o (held refl) opened in free.vacant i k.kept is);
  fenced = λ i opened is. absurd (let k = open_was m n c a d s changes new r.namespace i o (held refl) opened in free.vacant i k.kept is);
}
placed_restorations (Restored point serving) m n c a d s changes new r slot t o free held known = tt
placed_restorations _ m n c a d s changes new r slot t o free held known = λ l isin is. absurd (unknown_there m slot l free (known refl l isin) is)

placed_clones : (state : CloneState) (m : Master) (n : ℕ) (c : Catalog) (a : List Interval) (d : Drawn) (s : List Sent) (new : List Change) (k : CloneRecord) (slot : ℕ) (t : Tablet) → k.to ≤ n
    → (is_cloned state ≡ false → (p : TabletPair) → In p k.tablets → p.slot ≡ slot → ⊥) → CloneStateGood state m k → ((i : Interval) → In i m.activity → i.slot ≡ slot → ⊥)
    → CloneSlot state (going m n c a d s) new k slot (placed t.tablet t.table t.low t.high t.version t.versions t.cutoff n t)
placed_clones (Copying serving at) m n c a d s new k slot t past apart good vacant = record {
  acked = λ l isin is. absurd (let b = good.bodies l isin in apart refl b.pair b.paired (sym b.slot_is ∙ is));
  empty = λ p paired is. absurd (apart refl p paired is);
  copied = λ p paired is. absurd (apart refl p paired is);
  later = λ serving_ free of. past;
}
placed_clones (CloneReleasing serving at) m n c a d s new k slot t past apart good vacant = λ l isin is. absurd (let b = good.active l isin in vacant b.interval b.kept (b.slot_is ∙ is))
placed_clones (CloneComplete serving at) m n c a d s new k slot t past apart good vacant = tt
placed_clones _ m n c a d s new k slot t past apart good vacant = record { empty = λ p paired is. absurd (apart refl p paired is) }

-- nothing was asked of a new tablet in a free slot; `t` has what it is made with
pub placed_works : (m : Master) (n : ℕ) (c : Catalog) (a : List Interval) (d : Drawn) (s : List Sent) (changes new : List Change) (slot : ℕ) (t : Tablet) (w : Interval) → Onward m n c a d changes new → OperationsGood m changes
    → IsFreeSlot m slot → In w a → w.slot ≡ slot → w.tablet ≡ t.tablet → m.drawn.tablets < t.tablet.number → t.table.number ≤ d.tables
    → SlotWorks (going m n c a d s) new slot (placed t.tablet t.table t.low t.high t.version t.versions t.cutoff n t)
placed_works m n c a d s changes new slot t w o h free isin is same_ drawn drawn_table = record {
  orders = record {
    fences = λ operation e. absurd (let q = e in grind arith);
    orders = λ k e. absurd e;
    once = tt;
    fresh = λ k e. absurd e;
    marks = λ mark e. absurd e;
    holds = λ r known did. absurd (let q = did in grind arith);
    frozen = λ f e. absurd e;
    sets = λ f e. absurd e;
    bare = λ e. absurd (let q = e in grind arith);
  };
  obeyed = record {
    drawn_table = drawn_table;
    home = λ present. inl (record { interval = w; kept = isin; slot_is = is; tablet_is = same_ });
    snapshots = λ r l known lists at acked is_tablet. absurd (let l1 = (h.snapshots r known).drawn_listed l lists in let e : t.tablet.number ≡ l.tablet.number = ap (λ id. id.number) is_tablet in omega arith);
    restorations = λ r known. placed_restorations r.state m n c a d s changes new r slot t o free (λ unfinished released. released.restoration r known unfinished refl) (h.restorations r known).known;
    clones = λ k known. (let g = h.clones k known in
        placed_clones k.state m n c a d s new k slot t (let l1 = g.past in let l2 = o.clock in omega arith) (λ unfinished p paired there. unreserved_there m slot k p free known unfinished paired there) g.in_state free.vacant);
  };
}

-- A tablet is hidden

hidden_restorations : (state : RestorationState) (m : Master) (changes : List Change) (r : RestorationRecord) (slot : ℕ) (t : Tablet) (n : ℕ) (p : Presence) → t.clock ≤ n → ((l : Listed) → In l r.listed → l.slot ≡ slot → is_restored state ≡ false → ⊥)
    → RestorationSlot state m changes r slot t → RestorationSlot state m changes r slot (record t { clock = n; presence = p })
hidden_restorations Fencing m changes r slot t n p le apart h = record { acked = h.acked; fenced = h.fenced }
hidden_restorations (Snapshotting point own) m changes r slot t n p le apart h = record { fenced = h.fenced }
hidden_restorations (Switching point serving) m changes r slot t n p le apart h = record { fenced = h.fenced; past = λ i opened is. le_trans (h.past i opened is) le }
hidden_restorations (Restored point serving) m changes r slot t n p le apart h = tt
hidden_restorations _ m changes r slot t n p le apart h = λ l isin is. absurd (apart l isin is refl)

hidden_clones : (state : CloneState) (m : Master) (changes : List Change) (c : CloneRecord) (slot : ℕ) (t : Tablet) (n : ℕ) (p : Presence) → is_serving p ≡ false
    → ((q : TabletPair) → In q c.tablets → q.slot ≡ slot → is_visible state ≡ false → ⊥) → ((l : Listed) → In l c.listed → l.slot ≡ slot → is_visible state ≡ true → is_cloned state ≡ false → ⊥)
    → CloneSlot state m changes c slot t → CloneSlot state m changes c slot (record t { clock = n; presence = p })
hidden_clones (Copying serving at) m changes c slot t n p out apart listed h = record {
  acked = h.acked;
  empty = λ q paired is. absurd (apart q paired is refl);
  copied = λ q paired is. absurd (apart q paired is refl);
  later = λ serves. absurd (true≢false (sym serves ∙ out));
}
hidden_clones (CloneReleasing serving at) m changes c slot t n p out apart listed h = λ l isin is. absurd (listed l isin is refl refl)
hidden_clones (CloneComplete serving at) m changes c slot t n p out apart listed h = tt
hidden_clones _ m changes c slot t n p out apart listed h = record { empty = λ q paired is. absurd (apart q paired is refl) }

visible_active : (state : CloneState) (m : Master) (c : CloneRecord) (l : Listed) (slot : ℕ) (ns : Id) → is_visible state ≡ true → is_cloned state ≡ false → CloneStateGood state m c → In l c.listed → l.slot ≡ slot
    → ((i : Interval) → In i m.activity → i.slot ≡ slot → owner_of m.catalog.owners i.table ≡ Some ns) → c.target_id ≡ ns
visible_active Accepted m c l slot ns seen unfinished h isin is one = absurd (true≢false (sym seen))
visible_active (CloneReleasing serving at) m c l slot ns seen unfinished h isin is one =
    let k = h.active l isin in
    let q : Some c.target_id ≡ Some ns = sym (h.listed_of l k.interval isin k.kept k.tablet_is) ∙ one k.interval k.kept (k.slot_is ∙ is) in cc
visible_active (CloneComplete serving at) m c l slot ns seen unfinished h isin is one = absurd (true≢false unfinished)
visible_active _ m c l slot ns seen unfinished h isin is one = absurd (true≢false (sym seen))

-- where no operation holds the namespace of a slot's tablet, the tablet may be hidden
pub hidden_works : (m : Master) (changes : List Change) (slot : ℕ) (t : Tablet) (n : ℕ) (ns : Id) (j : Interval) → t.clock ≤ n → is_empty t.presence ≡ false → OperationsGood m changes
    → ((r : RestorationRecord) → In r m.restorations → ListedOf m r) → NotHeld m ns → In j m.activity → j.slot ≡ slot
    → ((i : Interval) → In i m.activity → i.slot ≡ slot → owner_of m.catalog.owners i.table ≡ Some ns) → SlotWorks m changes slot t → SlotWorks m changes slot (record t { clock = n; presence = HiddenPart n })
hidden_works m changes slot t n ns j le present ops of free isin is one h =
    let o = h.orders in
    let b = h.obeyed in record {
      orders = let orders : (c : Command) → In c t.inbox → IsOrderIn (operations m) slot n c = λ c lists. order_later m slot t.clock n c le (o.orders c lists) in
          let marks : (mark : Mark) → In mark t.done → IsMarkIn m.drawn (operations m) n mark = λ mark lists. mark_later m t.clock n mark le (o.marks mark lists) in
          let holds : (r : SnapshotRecord) → In r m.snapshots → is_done t.done r.id FreezeKind ≡ true → HoldsFrozen r.id r.at (record t { clock = n; presence = HiddenPart n }) = λ r known did. (let f = o.holds r known did in record { set = f.set; held = f.held; time = f.time; inside = f.inside }) in
          let bare : is_empty (HiddenPart n) ≡ true → IsBare (record t { clock = n; presence = HiddenPart n }) = λ e. absurd (let q = e in grind arith) in
          assumption (orders, marks, holds, bare);
      obeyed = record {
        drawn_table = b.drawn_table;
        home = λ hidden. b.home present;
        snapshots = λ r l known lists at acked same_ hidden. b.snapshots r l known lists at acked same_ present;
        restorations = λ r known. hidden_restorations r.state m changes r slot t n (HiddenPart n) le
            (λ l lists at unfinished.
            let k = (ops.restorations r known).known unfinished l lists in
            let q : Some r.namespace ≡ Some ns = sym ((of r known).owner l lists k.interval k.kept k.tablet_is) ∙ one k.interval k.kept (k.slot_is ∙ at) in
            let e : r.namespace ≡ ns = cc in
            free.restoration r known unfinished e)
            (b.restorations r known);
        clones = λ c known. (let g = ops.clones c known in hidden_clones c.state m changes c slot t n (HiddenPart n) refl
            (λ p paired at unseen. (g.reserved unseen p paired).free j isin (is ∙ sym at))
            (λ l lists at seen unfinished. free.clone c known unfinished (visible_active c.state m c l slot ns seen unfinished g.in_state lists at one))
            (b.clones c known));
      };
    }

-- No operation, no fence

-- an operation that has a fence somewhere is unfinished
pub place_left : (state : RestorationState) (r : RestorationRecord) (m : Master) (slot : ℕ) (done : List Mark) → FencePlace state r m slot done → is_restored state ≡ false
place_left (Restored point serving) r m slot done h = absurd h
place_left _ r m slot done h = refl

pub clone_left : (state : CloneState) (c : CloneRecord) (slot : ℕ) (done : List Mark) → ClonePlace state c slot done → is_cloned state ≡ false
clone_left (CloneComplete serving at) c slot done h = absurd h
clone_left _ c slot done h = refl

fence_free : (fence : Option Id) (m : Master) (slot : ℕ) (t : Tablet) (ns : Id) → t.fence ≡ fence → OrdersGood m slot t → owner_of m.catalog.owners t.table ≡ Some ns → NotHeld m ns → fence ≡ None
fence_free None m slot t ns e h owner free = refl
fence_free (Some operation) m slot t ns e h owner free = elim (h.fences operation e) as (λ _. Some operation ≡ None) [
  | inl k ↦ absurd (
      let q : Some k.restoration.namespace ≡ Some ns = sym k.owned ∙ owner in
      let is : k.restoration.namespace ≡ ns = cc in
      free.restoration k.restoration k.kept (place_left k.restoration.state k.restoration m slot t.done k.place) is)
  | inr k ↦ absurd (
      let q : Some k.clone.target_id ≡ Some ns = sym k.owned ∙ owner in
      let is : k.clone.target_id ≡ ns = cc in
      free.clone k.clone k.kept (clone_left k.clone.state k.clone slot t.done k.place) is)
]

-- where no operation holds the namespace of a tablet, it is not fenced
pub not_fenced : (m : Master) (slot : ℕ) (t : Tablet) (ns : Id) → OrdersGood m slot t → owner_of m.catalog.owners t.table ≡ Some ns → NotHeld m ns → t.fence ≡ None
not_fenced m slot t ns h owner free = fence_free t.fence m slot t ns refl h owner free
