-- What holds of the records that stay, of clones and of slots goes on to hold while others are made, move or go.
use Rattle.std.proofs.Common.{ℕ, ◌≡◌, ◌≤◌, List, Some, None, true, false, inl, inr, refl, sym, ap, ◌∙◌, arith, le_refl, le_trans, lt_of_lt_of_le, subst, ◌<◌, ◌⊎◌}
use Rattle.model.specs.Cluster.{Kind, NamespaceKind as Namespace, TableKind as Table, TabletKind, ScheduleKind, Snapshot, Id, In, Interval, owner_of, NamespaceRecord, TableRecord, Listed, Schedule, SnapshotRecord, RestorationRecord, TabletPair, CloneRecord, point_of, ScheduledNamespace, Master, Parts}
use Rattle.model.specs.Journal.{Change}
use Rattle.model.specs.Schedules.{after_of}
use Rattle.model.specs.Cleanup.{floor_of}
use Rattle.model.specs.Drawn.{drawn_of}
use Rattle.law_invariants.specs.Remembered.{Remembered}
use Rattle.law_invariants.specs.Operations.{grounds, IsReached, ScheduleGood, SnapshotGood, RestorationGood, IsReserved, CloneGood, OperationsGood, JournalGood, ScheduledGood}
use Rattle.law_invariants.specs.Orders.{RowsPast}
use Rattle.law_invariants.specs.Invariant.{MasterGood}
use Rattle.law_invariants.proofs.Ticking.{namespaces_later, tables_later}
use Rattle.law_invariants.proofs.Going.{GroundsGo, restoration_goes, clone_goes}
use Rattle.law_invariants.proofs.Recording.{same_on, Records, recorded, SnapshotOn, Onto, StaysScheduled}
use Rattle.law_invariants.proofs.Remembering.{forgotten_later, kept_all}

-- Schedules and snapshots

reach_on : (m : Master) (w : Records) (ns : Id) (after : ℕ) → floor_of m ns m.clock ≤ floor_of (recorded m w) ns w.clock
    → ((q : SnapshotRecord) → In q m.snapshots → (r : SnapshotRecord) × (In r w.snapshots × SnapshotOn q r)) → IsReached m ns after → IsReached (recorded m w) ns after
reach_on m w ns after floors kept (inl l) = inl (lt_of_lt_of_le l floors)
reach_on m w ns after floors kept (inr q) = let k = kept q.0 q.1.0 in inr (k.0, (k.1.0, (k.1.1.namespace_is ∙ q.1.1.0, k.1.1.at_is ∙ q.1.1.1)))

pub schedule_on : (m : Master) (w : Records) (s : Schedule) → m.clock ≤ w.clock → ((kind : Kind) → drawn_of kind m.drawn ≤ drawn_of kind w.drawn)
    → ((k : ScheduledNamespace) → In k m.scheduled → k.namespace ≡ s.namespace → StaysScheduled w.scheduled k) → ScheduleGood m s → ScheduleGood (recorded m w) s
schedule_on m w s clock drawn stays h = record {
  drawn = le_trans h.drawn (drawn ScheduleKind);
  drawn_namespace = le_trans h.drawn_namespace (drawn Namespace);
  begun = le_trans h.begun clock;
  scheduled = (let k = h.scheduled in let j = stays k.0 k.1.0 k.1.1.0 in (j.0, (j.1.0, (j.1.1.0 ∙ k.1.1.0, subst (λ x. x ≤ s.kept_low) (sym j.1.1.1) k.1.1.1))));
}

pub scheduled_on : (m : Master) (w : Records) (k : ScheduledNamespace) → m.clock ≤ w.clock → ((kind : Kind) → drawn_of kind m.drawn ≤ drawn_of kind w.drawn) → floor_of m k.namespace m.clock ≤ floor_of (recorded m w) k.namespace w.clock
    → ((q : SnapshotRecord) → In q m.snapshots → (r : SnapshotRecord) × (In r w.snapshots × SnapshotOn q r)) → (s : Schedule) × (In s w.schedules × (s.namespace ≡ k.namespace)) → ScheduledGood m k → ScheduledGood (recorded m w) k
scheduled_on m w k clock drawn floors kept has h = record {
  drawn_namespace = le_trans h.drawn_namespace (drawn Namespace);
  from_one = h.from_one;
  last = le_trans h.last clock;
  reached = reach_on m w k.namespace (after_of k) floors kept h.reached;
  has = has;
}

snapshot_on : (ps : Parts) (changes : List Change) (w : Records) (q : SnapshotRecord) → Onto ps changes w → In q ps.master.snapshots → In q w.snapshots → SnapshotGood ps.master q → SnapshotGood (recorded ps.master w) q
snapshot_on ps changes w q o there now h =
    let m = ps.master in
    let drawn : q.id.number ≤ w.drawn.snapshots = le_trans h.drawn (o.drawn Snapshot) in
    let drawn_namespace : q.namespace.number ≤ w.drawn.namespaces = le_trans h.drawn_namespace (o.drawn Namespace) in
    let past : q.at ≤ w.clock = le_trans h.past o.clock in
    let drawn_listed : (l : Listed) → In l q.listed → l.tablet.number ≤ w.drawn.tablets = λ l isin. le_trans (h.drawn_listed l isin) (o.drawn TabletKind) in
    let reached : (q.after < floor_of (recorded ps.master w) q.namespace w.clock) ⊎ ((q' : SnapshotRecord) × (In q' w.snapshots × ((q'.namespace ≡ q.namespace) × ((q'.at ≡ q.after) × (q'.complete ≡ true))))) = elim h.reached [
      | inl l ↦ inl (lt_of_lt_of_le l (o.floors q.namespace))
      | inr p ↦ (let k = o.snapshot_kept p.0 p.1.0 in inr (k.0, (k.1.0, (k.1.1.namespace_is ∙ p.1.1.0, (k.1.1.at_is ∙ p.1.1.1.0, k.1.1.complete p.1.1.1.1)))))
    ] in
    let scheduled : q.complete ≡ false → (k : ScheduledNamespace) × (In k w.scheduled × ((k.namespace ≡ q.namespace) × (k.last ≡ Some q.at))) = λ unfinished. (let s = h.scheduled unfinished in o.last q there now unfinished s.0 s.1.0 s.1.1.0 s.1.1.1) in
    assumption (drawn, drawn_namespace, past, drawn_listed, reached, scheduled)

-- Restorations

grounds_on : (ps : Parts) (changes : List Change) (w : Records) → Onto ps changes w → GroundsGo (grounds ps.master) (grounds (recorded ps.master w)) changes changes
grounds_on ps changes w o = record { clock = o.clock; slots = le_refl ps.master.slots; drawn = o.drawn; owned = λ table ns is. is; switched = λ ns point is. is }

restoration_on : (ps : Parts) (changes : List Change) (w : Records) (r : RestorationRecord) → Onto ps changes w → In r ps.master.restorations → RestorationGood ps.master changes r → RestorationGood (recorded ps.master w) changes r
restoration_on ps changes w r o isin = restoration_goes (grounds ps.master) (grounds (recorded ps.master w)) changes changes (grounds_on ps changes w o) r (λ unfinished. record {
  space = record { came = λ i there owner. (there, owner); tables = λ t there of. there; fixed = λ to is. is };
  lines = record { stays = λ l i lists there is. there; was = λ l i lists known there is. there };
  named = λ q there is. o.snapshot_kept q there;
  taken = λ point q at there is. elim (o.snapshot_came q there) [
    | inl old ↦ (q, (old, same_on q))
    | inr came ↦ elim came.how [
      | inl new ↦ absurd (new.apart r point isin unfinished at is)
      | inr done ↦ (done.was, (done.kept, done.on))
    ]
  ];
  points = λ point at h s there is. o.points r point s isin unfinished at there is;
  schedule = λ s there id_is is. elim (o.schedule_kept s there) [
    | inl k ↦ (k.0, (k.1.0, (k.1.1.0 ∙ id_is, k.1.1.1 ∙ is)))
    | inr free ↦ absurd (free.restoration r isin unfinished is)
  ];
})

-- Clones

reserved_on : (ps : Parts) (changes : List Change) (w : Records) (p : TabletPair) → Onto ps changes w → IsReserved ps.master p → IsReserved (recorded ps.master w) p
reserved_on ps changes w p o h = record {
  free = h.free;
  unknown = h.unknown;
  no_snapshot = λ q l isin lists is. elim (o.snapshot_came q isin) [
    | inl old ↦ h.no_snapshot q l old lists is
    | inr came ↦ elim came.how [
      | inl new ↦ (let k = new.known l lists in h.unknown k.interval k.kept (k.tablet_is ∙ is))
      | inr done ↦ (let k = done.lines l lists in h.no_snapshot done.was k.0 done.kept k.1.0 (k.1.1.0 ∙ is))
    ]
  ];
  no_restoration = λ r l isin lists is. elim (o.restoration_came r isin) [
    | inl old ↦ h.no_restoration r l old lists is
    | inr came ↦ (let k = came.known l lists in h.unknown k.interval k.kept (k.tablet_is ∙ is))
  ];
}

clone_on : (ps : Parts) (changes : List Change) (w : Records) (c : CloneRecord) → Onto ps changes w → In c ps.master.clones → CloneGood ps.master changes c → CloneGood (recorded ps.master w) changes c
clone_on ps changes w c o isin = clone_goes (grounds ps.master) (grounds (recorded ps.master w)) changes changes (grounds_on ps changes w o) ps.master.restorations w.restorations c (λ unfinished. record {
  space = record { came = λ i there owner. (there, owner); tables = λ t there of. there; fixed = λ to is. is };
  lines = λ owner. record { stays = λ l i lists there is. there; was = λ l i lists known there is. there };
  named = λ q there is. o.snapshot_kept q there;
  schedule = λ s there is. elim (o.schedule_kept s there) [
    | inl k ↦ (k.0, (k.1.0, k.1.1.1 ∙ is))
    | inr free ↦ absurd (free.clone c isin unfinished is)
  ];
  source = λ p paired h. h;
  reserved = λ unseen p paired h. reserved_on ps changes w p o h;
  names = λ unseen r there free. free r there;
  schedules = λ unseen s there is. elim (o.schedule_came s there) [
    | inl was ↦ (was.was, (was.kept, sym was.namespace_is ∙ is))
    | inr new ↦ absurd (new.unmade c isin unseen (sym is))
  ];
})

pub operations_on : (ps : Parts) (changes : List Change) (w : Records) → Onto ps changes w → OperationsGood ps.master changes → OperationsGood (recorded ps.master w) changes
operations_on ps changes w o h = record {
  kept = λ ns. le_trans (h.kept ns) (o.floors ns);
  apart = o.apart;
  schedules = o.schedule;
  scheduled = o.scheduled;
  snapshots = λ q isin. elim (o.snapshot_came q isin) [ inl old ↦ snapshot_on ps changes w q o old isin (h.snapshots q old) | inr came ↦ came.good ];
  restorations = λ r isin. elim (o.restoration_came r isin) [ inl old ↦ restoration_on ps changes w r o old (h.restorations r old) | inr came ↦ came.good ];
  clones = λ c isin. clone_on ps changes w c o isin (h.clones c isin);
  owners = λ table ns is. le_trans (h.owners table ns is) (o.drawn Namespace);
  sent = o.sent;
}

-- The journal, and rows

pub journal_on : (ps : Parts) (changes : List Change) (w : Records) → Onto ps changes w → JournalGood ps.master changes → JournalGood (recorded ps.master w) changes
journal_on ps changes w o h = record {
  fixed_drawn = λ ns to is. le_trans (h.fixed_drawn ns to is) (o.drawn Namespace);
  drawn = λ c table key op isin is. le_trans (h.drawn c table key op isin is) (o.drawn Table);
  undone = λ r point isin at. elim (o.restoration_came r isin) [
    | inl old ↦ h.undone r point old at
    | inr came ↦ elim came.how [
      | inl new ↦ absurd (let q : None ≡ Some point = sym (ap point_of new.fencing) ∙ at in grind arith)
      | inr moved ↦ moved.undone point at
    ]
  ];
  restored = o.restored;
  one_point = o.one_point;
}

pub rows_on : (ps : Parts) (changes : List Change) (w : Records) → Onto ps changes w → RowsPast ps.master ps.tablet changes → RowsPast (recorded ps.master w) ps.tablet changes
rows_on ps changes w o h = λ c table key op isin is. elim (h c table key op isin is) [
  | inl past ↦ inl (le_trans past o.clock)
  | inr b ↦ inr (record {
    interval = b.interval;
    kept = b.kept;
    opened = b.opened;
    table_is = b.table_is;
    behind = b.behind;
    unacked = λ r l there fencing lists at. elim (o.restoration_came r there) [
      | inl old ↦ b.unacked r l old fencing lists at
      | inr came ↦ elim came.how [ inl new ↦ new.unacked l lists | inr moved ↦ absurd (moved.moving fencing) ]
    ];
  })
]

-- The master

pub remembered_on : (ps : Parts) (activity : List Interval) (changes : List Change) (w : Records) → Onto ps changes w → Remembered ps.master activity → Remembered (recorded ps.master w) activity
remembered_on ps activity changes w o h = record {
  part = h.part;
  each = λ i isin. elim (h.each i isin) [ inl here ↦ inl here | inr gone ↦ inr (forgotten_later ps.master (recorded ps.master w) i o.clock o.floors refl gone.unknown gone) ];
  drawn = λ i isin. le_trans (h.drawn i isin) (o.drawn TabletKind);
  drawn_table = λ i isin. le_trans (h.drawn_table i isin) (o.drawn Table);
  reserved = h.reserved;
}

pub master_on : (ps : Parts) (activity : List Interval) (changes : List Change) (w : Records) → Onto ps changes w → Remembered ps.master activity → MasterGood ps.master changes → MasterGood (recorded ps.master w) changes
master_on ps activity changes w o old h =
    let m = ps.master in record {
      namespaces = (let g = namespaces_later m.catalog.namespaces m.clock w.clock m.drawn.namespaces changes o.clock h.namespaces in
          let drawn_before : (r : NamespaceRecord) → In r ps.master.catalog.namespaces → r.id.number ≤ w.drawn.namespaces = λ r isin. le_trans (g.drawn_before r isin) (o.drawn Namespace) in
          assumption drawn_before);
      tables = (let g = tables_later m.catalog m.clock w.clock m.drawn.tables changes o.clock h.tables in
          let drawn_before : (r : TableRecord) → In r ps.master.catalog.tables → r.id.number ≤ w.drawn.tables = λ r isin. le_trans (g.drawn_before r isin) (o.drawn Table) in
          let owners_drawn : (id : Id) → w.drawn.tables < id.number → owner_of ps.master.catalog.owners id ≡ None = λ id more. g.owners_drawn id (let l = o.drawn Table in omega arith) in
          assumption (drawn_before, owners_drawn));
      past = λ ns to is. le_trans (h.past ns to is) o.clock;
      complete = o.complete;
      listed = λ r l isin lists. elim (o.restoration_came r isin) [
        | inl there ↦ le_trans (h.listed r l there lists) (o.drawn TabletKind)
        | inr came ↦ (let k = came.known l lists in let d = old.drawn k.interval (kept_all old k.interval k.kept) in let e : k.interval.tablet.number ≡ l.tablet.number = ap (λ i. i.number) k.tablet_is in let u = o.drawn TabletKind in omega arith)
      ];
      marks = h.marks;
      listed_of = λ r l isin lists i there is. elim (o.restoration_came r isin) [
        | inl before ↦ h.listed_of r l before lists i there is
        | inr came ↦ came.listed_of l i lists there is
      ];
    }
