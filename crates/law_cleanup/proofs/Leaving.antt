-- What a removal leaves: the master keeps fewer intervals and fewer snapshots, and all that its other records need.
use Rattle.std.proofs.Common.{ℕ, ◌≡◌, ◌≤◌, ◌<◌, List, Some, false, ◌⊎◌, inl, inr, refl, subst, le_refl, le_trans, lt_of_lt_of_le}
use Rattle.model.specs.Cluster.{Id, In, Interval, Listed, SnapshotRecord, RestorationRecord, TabletPair, CloneRecord, ScheduledNamespace, is_restored, is_cloned, named_by_restoration, named_by_clone, Master}
use Rattle.model.specs.Journal.{Change}
use Rattle.model.specs.Cleanup.{floor_of}
use Rattle.model.specs.Drawn.{drawn_of}
use Rattle.law_invariants.specs.Operations.{grounds, SnapshotsRise, IsKnown, SnapshotGood, ScheduledGood, RestorationGood, CloneGood, OperationsGood}
use Rattle.law_invariants.proofs.Going.{GroundsGo, NamespaceGoes, restoration_goes, clone_goes}
use Rattle.law_invariants.proofs.Recording.{same_on}
use Rattle.law_invariants.proofs.Remembering.{floor_rises}

-- the master with the intervals and the snapshots that are kept
abbrev pub leaving : Master → ℕ → List Interval → List SnapshotRecord → Master
leaving m n a s = record m { clock = n; activity = a; snapshots = s }

-- a snapshot that goes is complete and below the floor, and no unfinished record names it; an interval that goes is of a tablet that none
-- lists, and that is no source
pub record Leaves (m : Master) (n : ℕ) (a : List Interval) (s : List SnapshotRecord) : Type 0 where
  pub clock : m.clock ≤ n
  pub was : (i : Interval) → In i a → In i m.activity
  pub was_taken : (q : SnapshotRecord) → In q s → In q m.snapshots
  pub rise : SnapshotsRise s
  pub taken : (q : SnapshotRecord) → In q m.snapshots → In q s ⊎ (q.at < floor_of m q.namespace n)
  pub unfinished : (q : SnapshotRecord) → In q m.snapshots → q.complete ≡ false → In q s
  pub named : (r : RestorationRecord) (q : SnapshotRecord) → In r m.restorations → is_restored r.state ≡ false → In q m.snapshots
      → named_by_restoration r.state ≡ Some q.id → In q s
  pub named_by : (c : CloneRecord) (q : SnapshotRecord) → In c m.clones → is_cloned c.state ≡ false → In q m.snapshots → named_by_clone c.state ≡ Some q.id → In q s
  pub snapshot : (r : SnapshotRecord) (l : Listed) (i : Interval) → In r m.snapshots → r.complete ≡ false → In l r.listed → In i m.activity → i.tablet ≡ l.tablet → In i a
  pub restoration : (r : RestorationRecord) (l : Listed) (i : Interval) → In r m.restorations → is_restored r.state ≡ false → In l r.listed → In i m.activity
      → i.tablet ≡ l.tablet → In i a
  pub clone : (c : CloneRecord) (l : Listed) (i : Interval) → In c m.clones → is_cloned c.state ≡ false → In l c.listed → In i m.activity → i.tablet ≡ l.tablet → In i a
  pub source : (c : CloneRecord) (p : TabletPair) (i : Interval) → In c m.clones → is_cloned c.state ≡ false → In p c.tablets → In i m.activity → i.tablet ≡ p.source → In i a

module _ (m : Master) (n : ℕ) (a : List Interval) (s : List SnapshotRecord) (x : Leaves m n a s) where
  known_left : (l : Listed) → ((i : Interval) → In i m.activity → i.tablet ≡ l.tablet → In i a) → IsKnown m l → IsKnown (leaving m n a s) l
  known_left l stays h = record { interval = h.interval; kept = stays h.interval h.kept h.tablet_is; tablet_is = h.tablet_is; slot_is = h.slot_is }

  -- floors rise with the clock
  pub floor_left : (ns : Id) → floor_of m ns m.clock ≤ floor_of (leaving m n a s) ns n
  floor_left ns = floor_rises m (leaving m n a s) ns (record { clock = x.clock; schedules = refl; restorations = refl; clones = refl })

  below_left : (q : SnapshotRecord) (ns : Id) (after : ℕ) → q.namespace ≡ ns → q.at ≡ after → q.at < floor_of m q.namespace n → after < floor_of m ns n
  below_left q ns after is at l = subst (λ y. y < floor_of m ns n) at (subst (λ k. q.at < floor_of m k n) is l)

  scheduled_left : (k : ScheduledNamespace) → ScheduledGood m k → ScheduledGood (leaving m n a s) k
  scheduled_left k h = record {
    drawn_namespace = h.drawn_namespace;
    from_one = h.from_one;
    last = le_trans h.last x.clock;
    reached = elim h.reached [
      | inl l ↦ inl (lt_of_lt_of_le l (floor_left k.namespace))
      | inr w ↦ (elim (x.taken w.0 w.1.0) [ inl kept ↦ inr (w.0, (kept, w.1.1)) | inr below ↦ inl (below_left w.0 k.namespace _ w.1.1.0 w.1.1.1 below) ])
    ];
    has = h.has;
  }

  snapshot_left : (r : SnapshotRecord) → In r m.snapshots → SnapshotGood m r → SnapshotGood (leaving m n a s) r
  snapshot_left r isin h = record {
    kind_is = h.kind_is;
    drawn = h.drawn;
    drawn_namespace = h.drawn_namespace;
    rises = h.rises;
    past = le_trans h.past x.clock;
    bodies = h.bodies;
    drawn_listed = h.drawn_listed;
    listed_of = λ l i lists there is. h.listed_of l i lists (x.was i there) is;
    known = λ unfinished l lists. known_left l (λ i there is. x.snapshot r l i isin unfinished lists there is) (h.known unfinished l lists);
    lists = λ i there owner active. h.lists i (x.was i there) owner active;
    reached = elim h.reached [
      | inl l ↦ inl (lt_of_lt_of_le l (floor_left r.namespace))
      | inr w ↦ (elim (x.taken w.0 w.1.0) [ inl kept ↦ inr (w.0, (kept, w.1.1)) | inr below ↦ inl (below_left w.0 r.namespace r.after w.1.1.0 w.1.1.1.0 below) ])
    ];
    scheduled = h.scheduled;
  }

  grounds_left : (changes : List Change) → GroundsGo (grounds m) (grounds (leaving m n a s)) changes changes
  grounds_left changes = record { clock = x.clock; slots = le_refl m.slots; drawn = λ kind. le_refl (drawn_of kind m.drawn); owned = λ table ns is. is; switched = λ ns point is. is }

  space_left : (changes : List Change) (ns : Id) → NamespaceGoes (grounds m) (grounds (leaving m n a s)) changes changes ns
  space_left changes ns = record { came = λ i there owner. (x.was i there, owner); tables = λ t there of. there; fixed = λ to is. is }

  restoration_left : (changes : List Change) (r : RestorationRecord) → In r m.restorations → RestorationGood m changes r → RestorationGood (leaving m n a s) changes r
  restoration_left changes r isin = restoration_goes (grounds m) (grounds (leaving m n a s)) changes changes (grounds_left changes) r (λ unfinished. record {
    space = space_left changes r.namespace;
    lines = record { stays = λ l i lists there is. x.restoration r l i isin unfinished lists there is; was = λ l i lists known there is. x.was i there };
    named = λ q there named. (q, (x.named r q isin unfinished there named, same_on q));
    taken = λ point q at there is. (q, (x.was_taken q there, same_on q));
    points = λ point at h. h;
    schedule = λ k there id_is is. (k, (there, (id_is, is)));
  })

  clone_left : (changes : List Change) (c : CloneRecord) → In c m.clones → CloneGood m changes c → CloneGood (leaving m n a s) changes c
  clone_left changes c isin = clone_goes (grounds m) (grounds (leaving m n a s)) changes changes (grounds_left changes) m.restorations m.restorations c (λ unfinished. record {
    space = space_left changes c.target_id;
    lines = λ owner. record { stays = λ l i lists there is. x.clone c l i isin unfinished lists there is; was = λ l i lists known there is. x.was i there };
    named = λ q there named. (q, (x.named_by c q isin unfinished there named, same_on q));
    schedule = λ k there is. (k, (there, is));
    source = λ p paired k. record {
      interval = k.interval;
      kept = x.source c p k.interval isin unfinished paired k.kept k.tablet_is;
      tablet_is = k.tablet_is;
      slot_is = k.slot_is;
      low_is = k.low_is;
      high_is = k.high_is;
      active = k.active;
      owned = k.owned;
      pair = k.pair;
      paired = k.paired;
      source_is = k.source_is;
      target_is = k.target_is;
    };
    reserved = λ unseen p paired k. record {
      free = λ i there. k.free i (x.was i there);
      unknown = λ i there. k.unknown i (x.was i there);
      no_snapshot = λ q l known. k.no_snapshot q l (x.was_taken q known);
      no_restoration = k.no_restoration;
    };
    names = λ unseen r there free. free r there;
    schedules = λ unseen k there is. (k, (there, is));
  })

  pub operations_left : (changes : List Change) → OperationsGood m changes → OperationsGood (leaving m n a s) changes
  operations_left changes h = record {
    kept = λ ns. le_trans (h.kept ns) (floor_left ns);
    owners = h.owners;
    apart = (
        let one : (q r : SnapshotRecord) → In q s → In r s → q.complete ≡ false → r.complete ≡ false → q.namespace ≡ r.namespace → q ≡ r =
        λ q r in_q in_r. h.apart.one_snapshot q r (x.was_taken q in_q) (x.was_taken r in_r) in
        assumption (one, x.rise));
    schedules = λ k isin. (let g = h.schedules k isin in record { drawn = g.drawn; drawn_namespace = g.drawn_namespace; begun = le_trans g.begun x.clock; scheduled = g.scheduled });
    scheduled = λ k isin. scheduled_left k (h.scheduled k isin);
    snapshots = λ r isin. snapshot_left r (x.was_taken r isin) (h.snapshots r (x.was_taken r isin));
    restorations = λ r isin. restoration_left changes r isin (h.restorations r isin);
    clones = λ c isin. clone_left changes c isin (h.clones c isin);
    sent = λ mark isin. elim (h.sent mark isin) [ inl q ↦ inl (q.0, (x.unfinished q.0 q.1.0 q.1.1.1, q.1.1)) | inr other ↦ inr other ];
  }
