-- What holds of slots goes on to hold while records of operations are made, move or go.
use Rattle.model.specs.Cluster.{ended_by, TableKind as Table, TabletKind, Id, same, In, Interval, SnapshotRecord, RestorationRecord, Master, Parts}
use Rattle.std.proofs.Common.{ℕ, ◌≡◌, ◌≤◌, List, [], ◌∷◌, Some, None, Bool, true, false, ◌||◌, inl, inr, refl, sym, ap, subst, ◌∙◌, arith, le_trans}
use Rattle.std.proofs.lemmas.Bool.{true≢false}
use Rattle.model.specs.Journal.{Change}
use Rattle.model.specs.Tablets.{Presence, EmptyPart, HiddenPart, BodyKind, FreezeKind, RestoreFromKind, HideKind, ReleaseKind, Mark, is_empty, is_serving, is_mark, is_done, kind_of, set_of, same_body}
use Rattle.model.specs.Stands.{is_after_switch, awaited_in, awaited_of}
use Rattle.model.specs.Drawn.{drawn_of}
use Rattle.law_store.proofs.Keys.{either_way}
use Rattle.law_invariants.specs.Orders.{IsAfter, IsMark, OrdersGood, ObeyedGood, restoring_stage, stage_of_restoration, directory}
use Rattle.law_invariants.specs.Invariant.{IsGood, SlotGood, Inv, is_awaited, IsPast, TurnsAt, ComesFrom, StandsIn, IsGoodIn, TakesWritesIn}
use Rattle.law_invariants.proofs.Finding.{both_pass, same_equal, body_equal}
use Rattle.law_invariants.proofs.Ticking.{past_later}
use Rattle.law_invariants.proofs.Recording.{Records, recorded, NewSnapshot, NewRestoration, MovedRestoration, Onto}
use Rattle.law_invariants.proofs.Staying.{operations_on, journal_on, rows_on, remembered_on, master_on}

-- What tablets stand for

good_on : (ps : Parts) (changes : List Change) (w : Records) (slot : ℕ) (i : Interval) → Onto ps changes w → IsGood ps.master changes (ps.tablet slot) i → IsGood (recorded ps.master w) changes (ps.tablet slot) i
good_on ps changes w slot i o g =
    let t = ps.tablet slot in
    let same_ = o.awaits slot g.present in
    let past : IsPast w.clock i.from i.to = past_later i.from ps.master.clock w.clock i.to o.clock g.past in
    let drawn : i.tablet.number ≤ w.drawn.tablets = le_trans g.drawn (o.drawn TabletKind) in
    let drawn_table : i.table.number ≤ w.drawn.tables = le_trans g.drawn_table (o.drawn Table) in
    let waits_now : (point : ℕ) → awaited_in w.restorations (ps.tablet slot).tablet (ps.tablet slot).done ≡ Some point → TurnsAt point i.from i.to = λ point waits. g.waits point (sym same_ ∙ waits) in
    let comes : (r : RestorationRecord) (point : ℕ) → In r w.restorations → awaited_of r.state r (ps.tablet slot).tablet (ps.tablet slot).done ≡ Some point → i.to ≡ None → ComesFrom changes r.namespace i point r.to = λ r point there awaits opened. elim (o.restoration_came r there) [
      | inl old ↦ g.comes r point old awaits opened
      | inr came ↦ absurd (let q : None ≡ Some point = sym (came.unawaited t.tablet t.done) ∙ awaits in grind arith)
    ] in
    let serves : i.to ≡ None → awaited_in w.restorations (ps.tablet slot).tablet (ps.tablet slot).done ≡ None → is_serving (ps.tablet slot).presence ≡ true = λ opened settled. g.serves opened (sym same_ ∙ settled) in
    let hidden : (at : ℕ) → (ps.tablet slot).presence ≡ HiddenPart at → is_awaited (awaited_in w.restorations (ps.tablet slot).tablet (ps.tablet slot).done) i.to ≡ false → ended_by at i.to ≡ true = λ at is came. g.hidden at is (ap (λ a. is_awaited a i.to) (sym same_) ∙ came) in
    let stands : is_awaited (awaited_in w.restorations (ps.tablet slot).tablet (ps.tablet slot).done) i.to ≡ false → StandsIn (ps.tablet slot) changes i = λ counted. g.stands (ap (λ a. is_awaited a i.to) (sym same_) ∙ counted) in
    assumption (past, drawn, drawn_table, waits_now, comes, serves, hidden, stands)

pub serving_present : (p : Presence) → is_serving p ≡ true → is_empty p ≡ false
serving_present EmptyPart e = absurd (true≢false (sym e))
serving_present _ e = refl

pub slot_on : (ps : Parts) (changes : List Change) (w : Records) (slot : ℕ) → Onto ps changes w → SlotGood ps.master changes slot (ps.tablet slot) → SlotGood (recorded ps.master w) changes slot (ps.tablet slot)
slot_on ps changes w slot o h =
    let t = ps.tablet slot in
    let numbered : (ps.tablet slot).tablet.number ≤ w.drawn.tablets = le_trans h.numbered (o.drawn TabletKind) in
    let each : (i : Interval) → In i ps.master.activity → i.slot ≡ slot → IsGoodIn w.clock ps.master.slots (directory (recorded ps.master w)) changes (ps.tablet slot) i = λ i isin is. good_on ps changes w slot i o (h.each i isin is) in
    let opens : is_serving (ps.tablet slot).presence ≡ true → (ps.tablet slot).fence ≡ None → TakesWritesIn ps.master.activity w.restorations slot (ps.tablet slot) = λ serving unfenced. (let k = h.opens serving unfenced in record {
      interval = k.interval;
      listed = k.listed;
      slot_is = k.slot_is;
      opened = k.opened;
      begun = k.begun;
      settled = o.awaits slot (serving_present t.presence serving) ∙ k.settled;
    }) in
    assumption (numbered, each, opens)

-- Commands and marks

-- what is done has its mark
pub done_mark : (marks : List Mark) (operation : Id) (kind : BodyKind) → is_done marks operation kind ≡ true → (mark : Mark) × (In mark marks × (mark.operation ≡ operation))
done_mark [] operation kind e = absurd (true≢false (sym e))
done_mark (m ∷ ms) operation kind e = either_way (is_mark operation kind m)
    (λ is. (m, (inl refl, same_equal m.operation operation (both_pass (same m.operation operation) _ is).0)))
    (λ not_. let q : (is_mark operation kind m || is_done ms operation kind) ≡ true = e in let k : is_done ms operation kind ≡ true = rw not_ at q in
    let r = done_mark ms operation kind k in (r.0, (inr r.1.0, r.1.1)))

-- an operation that was drawn is none that is made now
old_snapshot : (m : Master) (operation : Id) (q : SnapshotRecord) → operation.number ≤ drawn_of operation.kind m.drawn → NewSnapshot m q → q.id ≡ operation → ⊥
old_snapshot m operation q drawn new is =
    let d : q.id.number ≤ drawn_of q.id.kind m.drawn = subst (λ i. i.number ≤ drawn_of i.kind m.drawn) (sym is) drawn in
    let k : q.id.number ≤ m.drawn.snapshots = subst (λ k. q.id.number ≤ drawn_of k m.drawn) new.kind_is d in
    let l = new.drawn in omega arith

old_restoration : (m : Master) (operation : Id) (r : RestorationRecord) → operation.number ≤ drawn_of operation.kind m.drawn → NewRestoration m r → r.id ≡ operation → ⊥
old_restoration m operation r drawn new is =
    let d : r.id.number ≤ drawn_of r.id.kind m.drawn = subst (λ i. i.number ≤ drawn_of i.kind m.drawn) (sym is) drawn in
    let k : r.id.number ≤ m.drawn.restorations = subst (λ k. r.id.number ≤ drawn_of k m.drawn) new.kind_is d in
    let l = new.drawn in omega arith

-- a clock goes on to be above an operation's stamps, where a restoration that gets its point now gave no command of the kind
after_on : (ps : Parts) (changes : List Change) (w : Records) (clock : ℕ) (operation : Id) (kind : BodyKind) → Onto ps changes w → operation.number ≤ drawn_of operation.kind ps.master.drawn
    → ((r : RestorationRecord) → (v : MovedRestoration ps.master changes r) → v.was.id ≡ operation → is_after_switch kind ≡ true → stage_of_restoration v.was.state ≡ 1 → ⊥)
    → IsAfter ps.master clock operation kind → IsAfter (recorded ps.master w) clock operation kind
after_on ps changes w clock operation kind o drawn early h = let m = ps.master in record {
  snapshot = λ q isin is. elim (o.snapshot_came q isin) [
    | inl old ↦ h.snapshot q old is
    | inr came ↦ elim came.how [
      | inl new ↦ absurd (old_snapshot m operation q drawn new is)
      | inr done ↦ (let e = done.on.at_is in let l = h.snapshot done.was done.kept (sym done.on.id_is ∙ is) in omega arith)
    ]
  ];
  restoration = λ r isin is. elim (o.restoration_came r isin) [
    | inl old ↦ h.restoration r old is
    | inr came ↦ elim came.how [
      | inl new ↦ absurd (old_restoration m operation r drawn new is)
      | inr moved ↦ (let e = moved.to_is in let l = h.restoration moved.was moved.kept (sym moved.id_is ∙ is) in omega arith)
    ]
  ];
  point = λ r at isin is p k. elim (o.restoration_came r isin) [
    | inl old ↦ h.point r at old is p k
    | inr came ↦ elim came.how [
      | inl new ↦ absurd (old_restoration m operation r drawn new is)
      | inr moved ↦ elim (moved.point at p) [
        | inl same_ ↦ h.point moved.was at moved.kept (sym moved.id_is ∙ is) same_ k
        | inr first ↦ absurd (early r moved (sym moved.id_is ∙ is) k first)
      ]
    ]
  ];
  copied = h.copied;
  released = h.released;
}

after_late : (kind : BodyKind) (n : ℕ) → is_after_switch kind ≡ true → restoring_stage kind ≤ n → n ≡ 1 → ⊥
after_late RestoreFromKind n is le e = omega arith
after_late HideKind n is le e = omega arith
after_late ReleaseKind n is le e = omega arith
after_late _ n is le e = true≢false (sym is)

mark_on : (ps : Parts) (changes : List Change) (w : Records) (clock : ℕ) (mark : Mark) → Onto ps changes w → IsMark ps.master clock mark → IsMark (recorded ps.master w) clock mark
mark_on ps changes w clock mark o g = let m = ps.master in record {
  drawn = le_trans g.drawn (o.drawn mark.operation.kind);
  after = after_on ps changes w clock mark.operation mark.kind o g.drawn
      (λ r v is late first. after_late mark.kind (stage_of_restoration v.was.state) late (g.by_restoration v.was v.kept is) first) g.after;
  by_snapshot = λ q isin is. elim (o.snapshot_came q isin) [
    | inl old ↦ g.by_snapshot q old is
    | inr came ↦ elim came.how [
      | inl new ↦ absurd (old_snapshot m mark.operation q g.drawn new is)
      | inr done ↦ g.by_snapshot done.was done.kept (sym done.on.id_is ∙ is)
    ]
  ];
  by_restoration = λ r isin is. elim (o.restoration_came r isin) [
    | inl old ↦ g.by_restoration r old is
    | inr came ↦ elim came.how [
      | inl new ↦ absurd (old_restoration m mark.operation r g.drawn new is)
      | inr moved ↦ le_trans (g.by_restoration moved.was moved.kept (sym moved.id_is ∙ is)) moved.stage
    ]
  ];
  by_clone = g.by_clone;
}

orders_on : (ps : Parts) (changes : List Change) (w : Records) (slot : ℕ) → Onto ps changes w → OrdersGood ps.master slot (ps.tablet slot) → OrdersGood (recorded ps.master w) slot (ps.tablet slot)
orders_on ps changes w slot o h = let m = ps.master in let t = ps.tablet slot in record {
  fences = λ operation is. o.fences slot operation (h.fences operation is);
  orders = λ c isin. (let g = h.orders c isin in record {
    is_pending = o.pendings c.operation slot _ g.is_pending;
    after = after_on ps changes w t.clock c.operation (kind_of c.body) o (o.given c.operation slot _ g.is_pending)
        (λ r v is late first. o.unmoved c.operation slot _ r g.is_pending v is) g.after;
  });
  once = h.once;
  fresh = h.fresh;
  marks = λ mark isin. mark_on ps changes w t.clock mark o (h.marks mark isin);
  holds = λ q isin did. elim (o.snapshot_came q isin) [
    | inl old ↦ h.holds q old did
    | inr came ↦ elim came.how [
      | inl new ↦ absurd (let k = done_mark t.done q.id FreezeKind did in old_snapshot m k.0.operation q (h.marks k.0 k.1.0).drawn new (sym k.1.1))
      | inr done ↦ (let f = h.holds done.was done.kept (ap (λ i. is_done t.done i FreezeKind) (sym done.on.id_is) ∙ did) in record {
        set = f.set;
        held = ap (set_of t.frozen) done.on.id_is ∙ f.held;
        time = f.time ∙ sym done.on.at_is;
        inside = λ v within. (let e = done.on.at_is in let l = f.inside v within in omega arith);
      })
    ]
  ];
  frozen = h.frozen;
  sets = λ f isin. (let g = h.sets f isin in let k = o.snapshot_kept g.snapshot g.kept in let line = k.1.1.lines g.line g.listed in record {
    snapshot = k.0;
    kept = k.1.0;
    id_is = k.1.1.id_is ∙ g.id_is;
    at_is = k.1.1.at_is ∙ g.at_is;
    line = line.0;
    listed = line.1.0;
    tablet_is = line.1.1 ∙ g.tablet_is;
  });
  bare = h.bare;
}

-- What tablets did

or_right : (a b : Bool) → b ≡ true → (a || b) ≡ true
or_right true b e = refl
or_right false b e = e

neither : (a b : Bool) → a ≡ false → b ≡ false → (a || b) ≡ true → ⊥
neither true b e f g = true≢false e
neither false b e f g = true≢false (sym g ∙ f)

obeyed_on : (ps : Parts) (changes : List Change) (w : Records) (slot : ℕ) → Onto ps changes w → ObeyedGood ps.master changes slot (ps.tablet slot) → ObeyedGood (recorded ps.master w) changes slot (ps.tablet slot)
obeyed_on ps changes w slot o h = let m = ps.master in let t = ps.tablet slot in record {
  drawn_table = le_trans h.drawn_table (o.drawn Table);
  home = h.home;
  snapshots = λ q l isin lists at acked is present. elim (o.snapshot_came q isin) [
    | inl old ↦ h.snapshots q l old lists at acked is present
    | inr came ↦ elim came.how [
      | inl new ↦ absurd (neither q.complete l.acked new.unfinished (new.unacked l lists) acked)
      | inr done ↦ (let k = done.lines l lists in
          ap (λ i. is_done t.done i FreezeKind) done.on.id_is ∙ h.snapshots done.was k.0 done.kept k.1.0 (k.1.1.1 ∙ at) (or_right done.was.complete k.0.acked (done.acked k.0 k.1.0)) (is ∙ sym k.1.1.0) present)
    ]
  ];
  restorations = λ r isin. elim (o.restoration_came r isin) [
    | inl old ↦ h.restorations r old
    | inr came ↦ came.slots slot
  ];
  clones = h.clones;
}

-- The parts with the new records
abbrev pub parts_with : Parts → Records → Parts
parts_with ps w = record { master = recorded ps.master w; tablet = ps.tablet }

pub records_keep : (ps : Parts) (activity : List Interval) (changes : List Change) (w : Records) → Onto ps changes w → Inv ps activity changes → Inv (parts_with ps w) activity changes
records_keep ps activity changes w o inv = record {
  master = master_on ps activity changes w o inv.remembered inv.master;
  remembered = remembered_on ps activity changes w o inv.remembered;
  cover = inv.cover;
  slots = λ slot. slot_on ps changes w slot o (inv.slots slot);
  operations = operations_on ps changes w o inv.operations;
  journal = journal_on ps changes w o inv.journal;
  rows_past = rows_on ps changes w o inv.rows_past;
  works = λ slot. (let h = inv.works slot in record { orders = orders_on ps changes w slot o h.orders; obeyed = obeyed_on ps changes w slot o h.obeyed });
}

pub done_is : (marks : List Mark) (operation : Id) (kind : BodyKind) → is_done marks operation kind ≡ true → (mark : Mark) × (In mark marks × ((mark.operation ≡ operation) × (mark.kind ≡ kind)))
done_is [] operation kind e = absurd (true≢false (sym e))
done_is (m ∷ ms) operation kind e = either_way (is_mark operation kind m)
    (λ is. let b = both_pass (same m.operation operation) (same_body m.kind kind) is in
    (m, (inl refl, (same_equal m.operation operation b.0, body_equal m.kind kind b.1))))
    (λ not_. let k : is_done ms operation kind ≡ true = sym (ap (λ b. b || is_done ms operation kind) not_) ∙ e in let r = done_is ms operation kind k in (r.0, (inr r.1.0, r.1.1)))
