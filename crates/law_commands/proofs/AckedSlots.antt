-- What holds of the master, of slots and of the journal goes on through an ack, where the tablet did what is acked.
use Rattle.std.proofs.Common.{ℕ, ◌≡◌, ◌≤◌, ◌<◌, List, [], ◌∷◌, Option, Some, None, Bool, true, false, cond, ◌&&◌, ◌||◌, inl, inr, map, refl, sym, ap, subst, ◌∙◌, arith, not, eqb, eqb-true, le_trans, ◌⊎◌}
use Rattle.std.specs.List.{list_any}
use Rattle.std.specs.Option.{option_and_then, option_map_or, option_or}
use Rattle.std.proofs.lemmas.Bool.{true≢false}
use Rattle.std.proofs.lemmas.Bool.Decides.{nat_tests}
use Rattle.model.specs.Cluster.{Kind, Snapshot, RestorationKind as Restoration, CloneKind as Clone, Id, same, In, ended_by, owner_of, Interval, Listed, SnapshotRecord, RestorationRecord, RestorationState, Fencing, Snapshotting, Switching, Restoring, Releasing, Restored, CloneRecord, CloneState, Copying, CloneReleasing, CloneComplete, acked_at, unacked_at, is_restored, is_cloned, is_visible, point_of, TabletPair, Master}
use Rattle.model.specs.Journal.{Change}
use Rattle.model.specs.Tablets.{Tablet, Command, Mark, Body, BodyKind, FenceKind, FreezeKind, RestoreFromKind, HideKind, CopyKind, ReleaseKind, kind_of, is_done, FrozenSet, is_serving, HiddenPart}
use Rattle.model.specs.Tablets as tell
use Rattle.model.specs.Coordination.{pending_of, unfinished_snapshot, unfinished_restoration, unfinished_clone, acked_restoration, acked_clone}
use Rattle.model.specs.Stands.{is_restore, is_after_switch, copied_at, awaited_in, awaited_of, HoldsFrozen}
use Rattle.model.specs.Cleanup.{floor_of}
use Rattle.law_store.proofs.Keys.{either_way}
use Rattle.law_invariants.specs.Remembered.{Remembered, IsForgotten}
use Rattle.law_invariants.specs.Invariant.{MasterGood, ComesFrom, is_awaited, SlotGood, TurnsAt, StandsIn, IsGoodIn, TakesWritesIn}
use Rattle.law_invariants.specs.Operations.{RestorationStateGood, CloneStateGood, OperationsGood, JournalGood, AfterRowsOf}
use Rattle.law_invariants.specs.Orders.{FencePlace, ClonePlace, IsFence, IsAfter, OrdersGood, restoring_stage, stage_of_restoration, cloning_stage, stage_of_clone, ReleasingSlot, RestorationSlot, CloneSlot, ObeyedGood, RowsPast, directory, IsCopy}
use Rattle.law_invariants.proofs.Finding.{not_passing, same_equal, either_is}
use Rattle.law_commands.proofs.Acked.{pairs, ack_if, Was, was, now, ack_snapshot, ack_restoration, ack_clone, acked_all, each_snapshot, all_restorations, all_clones, snapshot_stays, restoration_stays, clone_stays, floor_acked, if_same}

-- The master

pub master_acked : (m : Master) (id : Id) (slot : ℕ) (changes : List Change) → MasterGood m changes → MasterGood (acked_all id slot m) changes
master_acked m id slot changes h =
    let listed : (r : RestorationRecord) (l : Listed) → In r (acked_restoration id slot m.restorations) → In l r.listed → l.tablet.number ≤ m.drawn.tablets = λ r l isin. all_restorations m id slot (λ q. In l q.listed → l.tablet.number ≤ m.drawn.tablets)
    (λ q inq lists. let w = was (same q.id id) q.listed slot l lists in subst (λ t. t.number ≤ m.drawn.tablets) (sym w.tablet_is) (h.listed q w.line inq w.listed)) r isin in
    let listed_of : (r : RestorationRecord) (l : Listed) → In r (acked_restoration id slot m.restorations) → In l r.listed → (i : Interval) → In i m.activity → i.tablet ≡ l.tablet → owner_of m.catalog.owners i.table ≡ Some r.namespace = λ r l isin lists i there is. all_restorations m id slot (λ q. In l q.listed → owner_of m.catalog.owners i.table ≡ Some q.namespace)
    (λ q inq isl. let w = was (same q.id id) q.listed slot l isl in h.listed_of q w.line inq w.listed i there (is ∙ w.tablet_is)) r isin lists in
    assumption (listed, listed_of)

table_floor : (m : Master) (id : Id) (slot : ℕ) (owner : Option Id) (n : ℕ) → option_map_or (λ ns. floor_of (acked_all id slot m) ns n) owner n ≡ option_map_or (λ ns. floor_of m ns n) owner n
table_floor m id slot None n = refl
table_floor m id slot (Some ns) n = floor_acked m id slot ns n

pub remembered_acked : (m : Master) (id : Id) (slot : ℕ) (activity : List Interval) → Remembered m activity → Remembered (acked_all id slot m) activity
remembered_acked m id slot activity h =
    let each : (i : Interval) → In i activity → In i m.activity ⊎ IsForgotten (acked_all id slot m) i = λ i isin. elim (h.each i isin) [
      | inl here ↦ inl here
      | inr gone ↦ inr (record { below = ap (λ f. ended_by f i.to) (table_floor m id slot (owner_of m.catalog.owners i.table) m.clock) ∙ gone.below; over = gone.over; unknown = gone.unknown })
    ] in
    let reserved : (c : CloneRecord) (p : TabletPair) (i : Interval) → In c (acked_clone id slot m.clones) → is_visible c.state ≡ false → In p c.tablets → In i activity → (i.tablet ≡ p.target → ⊥) × (i.table ≡ p.table → ⊥) = λ c p i known unseen paired isin. all_clones m id slot (λ d. is_visible d.state ≡ false → In p d.tablets → (i.tablet ≡ p.target → ⊥) × (i.table ≡ p.table → ⊥)) (λ d ind a b. h.reserved d p i ind a b isin) c known unseen paired in
    assumption (each, reserved)

pub journal_acked : (m : Master) (id : Id) (slot : ℕ) (changes : List Change) → JournalGood m changes → JournalGood (acked_all id slot m) changes
journal_acked m id slot changes h = record {
  fixed_drawn = h.fixed_drawn;
  drawn = h.drawn;
  undone = λ r point isin. all_restorations m id slot (λ q. point_of q.state ≡ Some point → AfterRowsOf m.catalog.owners q.namespace point changes) (λ q inq e. h.undone q point inq e) r isin;
  restored = λ ns point is. (let k = h.restored ns point is in
      record { restoration = ack_restoration id slot k.restoration; kept = restoration_stays m id slot k.restoration k.kept; namespace_is = k.namespace_is; point_is = k.point_is; switched = k.switched });
  one_point = λ q r point inq inr_. pairs (ack_restoration id slot) (λ a b. a.namespace ≡ b.namespace → point_of a.state ≡ Some point → point_of b.state ≡ Some point → a ≡ b) m.restorations
      (λ a b ina inb e x y. ap (ack_restoration id slot) (h.one_point a b point ina inb e x y)) q r inq inr_;
}

-- a tablet that is acked has told the master how far it is
pub rows_acked : (m : Master) (id : Id) (slot : ℕ) (tablet : ℕ → Tablet) (changes : List Change) → (tablet slot).clock ≤ m.clock → RowsPast m tablet changes → RowsPast (acked_all id slot m) tablet changes
rows_acked m id slot tablet changes heard h = λ c table key op isin is. elim (h c table key op isin is) [
  | inl past ↦ inl past
  | inr w ↦ either_way (eqb w.interval.slot slot)
      (λ b. inl (le_trans w.behind (subst (λ s. (tablet s).clock ≤ m.clock) (sym (eqb-true w.interval.slot slot b)) heard)))
      (λ b. inr (record {
        interval = w.interval;
        kept = w.kept;
        opened = w.opened;
        table_is = w.table_is;
        behind = w.behind;
        unacked = λ r l known state_is lists at. all_restorations m id slot (λ q. q.state ≡ Fencing → In l q.listed → l.acked ≡ false)
            (λ q inq fencing isl.
            let k = was (same q.id id) q.listed slot l isl in
            not_passing l.acked (λ a. elim (k.acked a) as (λ _. ⊥) [
              | inl x ↦ true≢false (sym x ∙ w.unacked q k.line inq fencing k.listed (sym k.slot_is ∙ at))
              | inr x ↦ true≢false (sym (eqb_at w.interval.slot slot (sym at ∙ k.slot_is ∙ x.1)) ∙ b)
            ])) r known state_is lists;
      }))
]
  where
    eqb_at : (a b : ℕ) → a ≡ b → eqb a b ≡ true
    eqb_at a b e = grind (arith, nat_tests)

-- Stores

any_acked : (ls : List Listed) (slot : ℕ) (tablet : Id) → list_any (λ l. same l.tablet tablet && is_restore l.body) (acked_at slot ls) ≡ list_any (λ l. same l.tablet tablet && is_restore l.body) ls
any_acked [] slot tablet = refl
any_acked (l ∷ ls) slot tablet = ap (λ q. (same l.tablet tablet && is_restore l.body) || q) (any_acked ls slot tablet)

any_if : (b : Bool) (ls : List Listed) (slot : ℕ) (tablet : Id) → list_any (λ l. same l.tablet tablet && is_restore l.body) (ack_if b slot ls) ≡ list_any (λ l. same l.tablet tablet && is_restore l.body) ls
any_if true ls slot tablet = any_acked ls slot tablet
any_if false ls slot tablet = refl

awaited_of_acked : (state : RestorationState) (r : RestorationRecord) (id : Id) (slot : ℕ) (tablet : Id) (done : List Mark) → awaited_of state (ack_restoration id slot r) tablet done ≡ awaited_of state r tablet done
awaited_of_acked (Restoring point serving) r id slot tablet done = ap (λ q. cond (q && not (is_done done r.id RestoreFromKind)) (Some point) None) (any_if (same r.id id) r.listed slot tablet)
awaited_of_acked _ r id slot tablet done = refl

pub awaited_acked : (rs : List RestorationRecord) (id : Id) (slot : ℕ) (tablet : Id) (done : List Mark) → awaited_in (map (ack_restoration id slot) rs) tablet done ≡ awaited_in rs tablet done
awaited_acked [] id slot tablet done = refl
awaited_acked (r ∷ rs) id slot tablet done =
    ap (λ q. option_or q (awaited_in (map (ack_restoration id slot) rs) tablet done)) (awaited_of_acked r.state r id slot tablet done)
    ∙ ap (option_or (awaited_of r.state r tablet done)) (awaited_acked rs id slot tablet done)

pub slot_acked : (m : Master) (id : Id) (acked slot : ℕ) (changes : List Change) (t : Tablet) → SlotGood m changes slot t → SlotGood (acked_all id acked m) changes slot t
slot_acked m id acked slot changes t h =
    let e : awaited_in (acked_all id acked m).restorations t.tablet t.done ≡ awaited_in m.restorations t.tablet t.done = awaited_acked m.restorations id acked t.tablet t.done in
    let each : (i : Interval) → In i m.activity → i.slot ≡ slot → IsGoodIn m.clock m.slots (directory (acked_all id acked m)) changes t i = λ i isin is. let g = h.each i isin is in
    let waits : (point : ℕ) → awaited_in ((acked_restoration id acked m.restorations)) t.tablet t.done ≡ Some point → TurnsAt point i.from i.to = λ point a. g.waits point (sym e ∙ a) in
    let comes : (r : RestorationRecord) (point : ℕ) → In r ((acked_restoration id acked m.restorations)) → awaited_of r.state r t.tablet t.done ≡ Some point → i.to ≡ None → ComesFrom changes r.namespace i point r.to = λ r point known. all_restorations m id acked (λ q. awaited_of q.state q t.tablet t.done ≡ Some point → i.to ≡ None → ComesFrom changes q.namespace i point q.to)
    (λ q inq a opened. g.comes q point inq (sym (awaited_of_acked q.state q id acked t.tablet t.done) ∙ a) opened) r known in
    let serves : i.to ≡ None → awaited_in ((acked_restoration id acked m.restorations)) t.tablet t.done ≡ None → is_serving t.presence ≡ true = λ opened none. g.serves opened (sym e ∙ none) in
    let hidden : (at : ℕ) → t.presence ≡ HiddenPart at → is_awaited (awaited_in ((acked_restoration id acked m.restorations)) t.tablet t.done) i.to ≡ false → ended_by at i.to ≡ true = λ at out counted. g.hidden at out (ap (λ p. is_awaited p i.to) (sym e) ∙ counted) in
    let stands : is_awaited (awaited_in ((acked_restoration id acked m.restorations)) t.tablet t.done) i.to ≡ false → StandsIn t changes i = λ counted. g.stands (ap (λ p. is_awaited p i.to) (sym e) ∙ counted) in
    assumption (waits, comes, serves, hidden, stands) in
    let opens : is_serving t.presence ≡ true → t.fence ≡ None → TakesWritesIn m.activity ((acked_restoration id acked m.restorations)) slot t = λ serving free. let o = h.opens serving free in record { interval = o.interval; listed = o.listed; slot_is = o.slot_is; opened = o.opened; begun = o.begun; settled = e ∙ o.settled } in
    assumption (each, opens)

-- Commands

unacked_elsewhere : (ls : List Listed) (slot other : ℕ) (l : Listed) → eqb other slot ≡ false → unacked_at ls other ≡ Some l → unacked_at (acked_at slot ls) other ≡ Some l
unacked_elsewhere [] slot other l apart e = absurd (let q = e in grind arith)
unacked_elsewhere (k ∷ ls) slot other l apart e = either_way (eqb k.slot other)
    (λ b.
    let is : k.slot ≡ other = eqb-true k.slot other b in
    let beside : eqb k.slot slot ≡ false = ap (λ s. eqb s slot) is ∙ apart in
    let same_ : (k.acked || eqb k.slot slot) ≡ k.acked = or_false k.acked (eqb k.slot slot) beside in
    either_way k.acked
    (λ a. let skip : (eqb k.slot other && not k.acked) ≡ false = rw (b, a) refl in
    let skips : (eqb k.slot other && not (k.acked || eqb k.slot slot)) ≡ false = ap (λ z. eqb k.slot other && not z) same_ ∙ skip in
    let rest : unacked_at ls other ≡ Some l = rw skip at e in
    rw skips (unacked_elsewhere ls slot other l apart rest))
    (λ a. let take : (eqb k.slot other && not k.acked) ≡ true = rw (b, a) refl in
    let takes : (eqb k.slot other && not (k.acked || eqb k.slot slot)) ≡ true = ap (λ z. eqb k.slot other && not z) same_ ∙ take in
    let here : Some k ≡ Some l = rw take at e in
    let mine : Some (record k { acked = k.acked || eqb k.slot slot }) ≡ Some k = ap (λ z. Some (record k { acked = z })) same_ in
    ap (λ z. cond z (Some (record k { acked = k.acked || eqb k.slot slot })) (unacked_at (acked_at slot ls) other)) takes ∙ mine ∙ here))
    (λ b. let skip : (eqb k.slot other && not k.acked) ≡ false = rw b refl in
    let skips : (eqb k.slot other && not (k.acked || eqb k.slot slot)) ≡ false = rw b refl in
    let rest : unacked_at ls other ≡ Some l = rw skip at e in
    rw skips (unacked_elsewhere ls slot other l apart rest))
  where
    or_false : (a b : Bool) → b ≡ false → (a || b) ≡ a
    or_false true b e = refl
    or_false false b e = e

unacked_if : (own id operation : Id) (ls : List Listed) (slot other : ℕ) (l : Listed) → same own operation ≡ true → (same operation id ≡ true → eqb other slot ≡ false) → unacked_at ls other ≡ Some l → unacked_at (ack_if (same own id) slot ls) other ≡ Some l
unacked_if own id operation ls slot other l is apart e = either_way (same own id)
    (λ b.
    let this : same operation id ≡ true = ap (λ z. same z id) (sym (same_equal own operation is)) ∙ b in
    ap (λ z. unacked_at (ack_if z slot ls) other) b ∙ unacked_elsewhere ls slot other l (apart this) e)
    (λ b. ap (λ z. unacked_at (ack_if z slot ls) other) b ∙ e)

left : (a b : Bool) → (a && b) ≡ true → a ≡ true
left true b e = refl
left false b e = e

pending_snapshots : (rs : List SnapshotRecord) (id operation : Id) (slot other : ℕ) (l : Listed) → (same operation id ≡ true → eqb other slot ≡ false)
    → option_and_then (λ r. unacked_at r.listed other) (unfinished_snapshot rs operation) ≡ Some l → option_and_then (λ r. unacked_at r.listed other) (unfinished_snapshot (map (ack_snapshot id slot) rs) operation) ≡ Some l
pending_snapshots [] id operation slot other l apart e = e
pending_snapshots (r ∷ rs) id operation slot other l apart e = either_way (same r.id operation && not r.complete)
    (λ b. let here : unacked_at r.listed other ≡ Some l = rw b at e in rw b (unacked_if r.id id operation r.listed slot other l (left _ _ b) apart here))
    (λ b. let rest : option_and_then (λ q. unacked_at q.listed other) (unfinished_snapshot rs operation) ≡ Some l = rw b at e in rw b (pending_snapshots rs id operation slot other l apart rest))

pending_restorations : (rs : List RestorationRecord) (id operation : Id) (slot other : ℕ) (l : Listed) → (same operation id ≡ true → eqb other slot ≡ false)
    → option_and_then (λ r. unacked_at r.listed other) (unfinished_restoration rs operation) ≡ Some l → option_and_then (λ r. unacked_at r.listed other) (unfinished_restoration (map (ack_restoration id slot) rs) operation) ≡ Some l
pending_restorations [] id operation slot other l apart e = e
pending_restorations (r ∷ rs) id operation slot other l apart e = either_way (same r.id operation && not (is_restored r.state))
    (λ b. let here : unacked_at r.listed other ≡ Some l = rw b at e in rw b (unacked_if r.id id operation r.listed slot other l (left _ _ b) apart here))
    (λ b. let rest : option_and_then (λ q. unacked_at q.listed other) (unfinished_restoration rs operation) ≡ Some l = rw b at e in rw b (pending_restorations rs id operation slot other l apart rest))

pending_clones : (rs : List CloneRecord) (id operation : Id) (slot other : ℕ) (l : Listed) → (same operation id ≡ true → eqb other slot ≡ false)
    → option_and_then (λ r. unacked_at r.listed other) (unfinished_clone rs operation) ≡ Some l → option_and_then (λ r. unacked_at r.listed other) (unfinished_clone (map (ack_clone id slot) rs) operation) ≡ Some l
pending_clones [] id operation slot other l apart e = e
pending_clones (r ∷ rs) id operation slot other l apart e = either_way (same r.id operation && not (is_cloned r.state))
    (λ b. let here : unacked_at r.listed other ≡ Some l = rw b at e in rw b (unacked_if r.id id operation r.listed slot other l (left _ _ b) apart here))
    (λ b. let rest : option_and_then (λ q. unacked_at q.listed other) (unfinished_clone rs operation) ≡ Some l = rw b at e in rw b (pending_clones rs id operation slot other l apart rest))

-- a command that is pending stays so, but for the one that is acked
pending_acked : (kind : Kind) (m : Master) (id operation : Id) (slot other : ℕ) (l : Listed) → (same operation id ≡ true → eqb other slot ≡ false) → pending_of kind m.snapshots m.restorations m.clones operation other ≡ Some l → pending_of kind (acked_all id slot m).snapshots (acked_all id slot m).restorations (acked_all id slot m).clones operation other ≡ Some l
pending_acked Snapshot m id operation slot other l apart e = pending_snapshots m.snapshots id operation slot other l apart e
pending_acked Restoration m id operation slot other l apart e = pending_restorations m.restorations id operation slot other l apart e
pending_acked Clone m id operation slot other l apart e = pending_clones m.clones id operation slot other l apart e
pending_acked _ m id operation slot other l apart e = e

after_acked : (m : Master) (id : Id) (slot clock : ℕ) (operation : Id) (kind : BodyKind) → IsAfter m clock operation kind → IsAfter (acked_all id slot m) clock operation kind
after_acked m id slot clock operation kind h = record {
  snapshot = each_snapshot m id slot (λ r. r.id ≡ operation → r.at < clock) (λ r isin. h.snapshot r isin);
  restoration = all_restorations m id slot (λ r. r.id ≡ operation → r.to < clock) (λ r isin. h.restoration r isin);
  point = λ r at isin. all_restorations m id slot (λ q. q.id ≡ operation → point_of q.state ≡ Some at → is_after_switch kind ≡ true → at < clock) (λ q inq. h.point q at inq) r isin;
  copied = λ c at isin. all_clones m id slot (λ d. d.id ≡ operation → copied_at d.state ≡ Some at → at < clock) (λ d ind. h.copied d at ind) c isin;
  released = λ c l at isin. all_clones m id slot (λ d. d.id ≡ operation → In l d.listed → l.body ≡ tell.Release at → kind ≡ ReleaseKind → at < clock)
      (λ d ind is lists body kind_is. let w = was (same d.id id) d.listed slot l lists in h.released d w.line at ind is w.listed (sym w.body_is ∙ body) kind_is) c isin;
}

place_acked : (state : RestorationState) (m : Master) (id : Id) (slot : ℕ) (r : RestorationRecord) (at : ℕ) (done : List Mark) → FencePlace state r m at done → FencePlace state (ack_restoration id slot r) (acked_all id slot m) at done
place_acked (Restoring point serving) m id slot r at done h = let w = now (same r.id id) r.listed slot h.0 h.1.0 in
    (w.line, (w.listed, (w.slot_is ∙ h.1.1.0, elim h.1.1.1 [ inl restores ↦ inl (ap is_restore w.body_is ∙ restores) | inr hides ↦ inr hides ])))
place_acked (Releasing point serving) m id slot r at done h = let w = now (same r.id id) r.listed slot h.0 h.1.0 in (w.line, (w.listed, (w.slot_is ∙ h.1.1.0, h.1.1.1)))
place_acked (Restored point serving) m id slot r at done h = h
place_acked _ m id slot r at done h = (h.0, (h.1.0, h.1.1))

clone_place_acked : (state : CloneState) (id : Id) (slot : ℕ) (c : CloneRecord) (at : ℕ) (done : List Mark) → ClonePlace state c at done → ClonePlace state (ack_clone id slot c) at done
clone_place_acked (Copying serving copied) id slot c at done h = let w = now (same c.id id) c.listed slot h.0 h.1.0 in (w.line, (w.listed, w.slot_is ∙ h.1.1))
clone_place_acked (CloneReleasing serving copied) id slot c at done h = let w = now (same c.id id) c.listed slot h.0 h.1.0 in (w.line, (w.listed, (w.slot_is ∙ h.1.1.0, h.1.1.1)))
clone_place_acked _ id slot c at done h = h

fence_acked : (m : Master) (id : Id) (slot at : ℕ) (table : Id) (done : List Mark) (operation : Id) → IsFence m at table done operation → IsFence (acked_all id slot m) at table done operation
fence_acked m id slot at table done operation (inl h) = inl (record {
  restoration = ack_restoration id slot h.restoration;
  kept = restoration_stays m id slot h.restoration h.kept;
  id_is = h.id_is;
  owned = h.owned;
  place = place_acked h.restoration.state m id slot h.restoration at done h.place;
})
fence_acked m id slot at table done operation (inr h) = inr (record {
  clone = ack_clone id slot h.clone;
  kept = clone_stays m id slot h.clone h.kept;
  id_is = h.id_is;
  owned = h.owned;
  place = clone_place_acked h.clone.state id slot h.clone at done h.place;
})

pub orders_acked : (m : Master) (id : Id) (acked slot : ℕ) (t : Tablet) → ((c : Command) → In c t.inbox → same c.operation id ≡ true → eqb slot acked ≡ false) → OrdersGood m slot t → OrdersGood (acked_all id acked m) slot t
orders_acked m id acked slot t apart h = record {
  fences = λ operation e. fence_acked m id acked slot t.table t.done operation (h.fences operation e);
  orders = λ c isin. (let k = h.orders c isin in record {
    is_pending = pending_acked c.operation.kind m id c.operation acked slot _ (apart c isin) k.is_pending;
    after = after_acked m id acked t.clock c.operation _ k.after;
  });
  once = h.once;
  fresh = h.fresh;
  marks = λ k isin. (let w = h.marks k isin in record {
    drawn = w.drawn;
    after = after_acked m id acked t.clock k.operation k.kind w.after;
    by_snapshot = each_snapshot m id acked (λ r. r.id ≡ k.operation → k.kind ≡ FreezeKind) (λ r inr_. w.by_snapshot r inr_);
    by_restoration = all_restorations m id acked (λ r. r.id ≡ k.operation → restoring_stage k.kind ≤ stage_of_restoration r.state) (λ r inr_. w.by_restoration r inr_);
    by_clone = all_clones m id acked (λ c. c.id ≡ k.operation → cloning_stage k.kind ≤ stage_of_clone c.state) (λ c inc. w.by_clone c inc);
  });
  holds = each_snapshot m id acked (λ r. is_done t.done r.id FreezeKind ≡ true → HoldsFrozen r.id r.at t) (λ r isin. h.holds r isin);
  frozen = h.frozen;
  sets = λ f held. (let k = h.sets f held in let w = now (same k.snapshot.id id) k.snapshot.listed acked k.line k.listed in
      record { snapshot = ack_snapshot id acked k.snapshot; kept = snapshot_stays m id acked k.snapshot k.kept; id_is = k.id_is; at_is = k.at_is; line = w.line; listed = w.listed; tablet_is = w.tablet_is ∙ k.tablet_is });
  bare = h.bare;
}

-- What was done

-- the tablet of the acked slot did what the operation's record lists there
pub record AckDone (m : Master) (id : Id) (acked slot : ℕ) (t : Tablet) : Type 0 where
  pub snapshots : (r : SnapshotRecord) (l : Listed) → In r m.snapshots → same r.id id ≡ true → In l r.listed → l.slot ≡ acked → l.slot ≡ slot → is_done t.done r.id (kind_of l.body) ≡ true
  pub restorations : (r : RestorationRecord) (l : Listed) → In r m.restorations → same r.id id ≡ true → In l r.listed → l.slot ≡ acked → l.slot ≡ slot → is_done t.done r.id (kind_of l.body) ≡ true
  pub clones : (c : CloneRecord) (l : Listed) → In c m.clones → same c.id id ≡ true → In l c.listed → l.slot ≡ acked → l.slot ≡ slot → is_done t.done c.id (kind_of l.body) ≡ true

releasing_acked : (operation : Id) (ls : List Listed) (b : Bool) (acked slot : ℕ) (l : Listed) (t : Tablet) (w : Was ls b acked l) → l.slot ≡ slot → (b ≡ true → w.line.slot ≡ acked → w.line.slot ≡ slot → is_done t.done operation ReleaseKind ≡ true)
    → ReleasingSlot operation w.line t → ReleasingSlot operation l t
releasing_acked operation ls b acked slot l t w at did h =
    let acked_now : l.acked ≡ true → is_done t.done operation ReleaseKind ≡ true = λ a. elim (w.acked a) [ inl old ↦ h.acked old | inr new ↦ did new.0 new.1 (sym w.slot_is ∙ at) ] in
    assumption acked_now

restoration_slot_acked : (state : RestorationState) (m : Master) (id : Id) (acked slot : ℕ) (changes : List Change) (r : RestorationRecord) (t : Tablet) → ((l : Listed) → same r.id id ≡ true → In l r.listed → l.slot ≡ acked → l.slot ≡ slot → is_done t.done r.id (kind_of l.body) ≡ true)
    → RestorationStateGood state m changes r → RestorationSlot state m changes r slot t → RestorationSlot state (acked_all id acked m) changes (ack_restoration id acked r) slot t
restoration_slot_acked Fencing m id acked slot changes r t did good h = record {
  acked = λ l isin at a. (let w = was (same r.id id) r.listed acked l isin in elim (w.acked a) [
    | inl old ↦ h.acked w.line w.listed (sym w.slot_is ∙ at) old
    | inr new ↦ ap (λ z. is_done t.done r.id (kind_of z)) (sym (good.bodies w.line w.listed)) ∙ did w.line new.0 w.listed new.1 (sym w.slot_is ∙ at)
  ]);
  fenced = h.fenced;
}
restoration_slot_acked (Snapshotting point own) m id acked slot changes r t did good h = record { fenced = λ i opened is. h.fenced i opened is }
restoration_slot_acked (Switching point serving) m id acked slot changes r t did good h =
    record { fenced = λ i opened is. h.fenced i opened is; past = λ i opened is. h.past i opened is }
restoration_slot_acked (Restoring point serving) m id acked slot changes r t did good h = λ l isin at. (
    let w = was (same r.id id) r.listed acked l isin in
    let k = h w.line w.listed (sym w.slot_is ∙ at) in
    let body = w.body_is in record {
      acked = λ a. elim (w.acked a) [
        | inl old ↦ ap (λ z. is_done t.done r.id (kind_of z)) body ∙ k.acked old
        | inr new ↦ ap (λ z. is_done t.done r.id (kind_of z)) body ∙ did w.line new.0 w.listed new.1 (sym w.slot_is ∙ at)
      ];
      fenced = k.fenced;
      restored = λ restores done. (let q = k.restored (ap is_restore (sym body) ∙ restores) done in record { serves = q.serves; cutoff_is = q.cutoff_is; rows = q.rows });
      hidden = λ hides done. k.hidden (ap is_restore (sym body) ∙ hides) done;
    })
restoration_slot_acked (Releasing point serving) m id acked slot changes r t did good h = λ l isin at. (
    let w = was (same r.id id) r.listed acked l isin in
    releasing_acked r.id r.listed (same r.id id) acked slot l t w at (λ b there here. ap (λ z. is_done t.done r.id (kind_of z)) (sym (good.bodies w.line w.listed)) ∙ did w.line b w.listed there here)
    (h w.line w.listed (sym w.slot_is ∙ at)))
restoration_slot_acked (Restored point serving) m id acked slot changes r t did good h = tt

clone_slot_acked : (state : CloneState) (m : Master) (id : Id) (acked slot : ℕ) (changes : List Change) (c : CloneRecord) (t : Tablet) → ((l : Listed) → same c.id id ≡ true → In l c.listed → l.slot ≡ acked → l.slot ≡ slot → is_done t.done c.id (kind_of l.body) ≡ true)
    → CloneStateGood state m c → CloneSlot state m changes c slot t → CloneSlot state (acked_all id acked m) changes (ack_clone id acked c) slot t
clone_slot_acked (Copying serving at) m id acked slot changes c t did good h =
    let acked_now : (l : Listed) → In l (if_same c.id id acked c.listed) → l.slot ≡ slot → l.acked ≡ true → is_done t.done c.id CopyKind ≡ true = λ l isin there a. (let w = was (same c.id id) c.listed acked l isin in elim (w.acked a) [
      | inl old ↦ h.acked w.line w.listed (sym w.slot_is ∙ there) old
      | inr new ↦ ap (λ z. is_done t.done c.id (kind_of z)) (sym (good.bodies w.line w.listed).body_is) ∙ did w.line new.0 w.listed new.1 (sym w.slot_is ∙ there)
    ]) in
    let copied : (p : TabletPair) → In p c.tablets → p.slot ≡ slot → is_done t.done c.id CopyKind ≡ true → IsCopy changes (ack_clone id acked c) at p t = λ p paired is done. (let k = h.copied p paired is done in assumption k) in
    assumption (acked_now, copied)
clone_slot_acked (CloneReleasing serving at) m id acked slot changes c t did good h = λ l isin there. (
    let w = was (same c.id id) c.listed acked l isin in
    releasing_acked c.id c.listed (same c.id id) acked slot l t w there (λ b here at_. ap (λ z. is_done t.done c.id (kind_of z)) (sym (good.bodies w.line w.listed)) ∙ did w.line b w.listed here at_)
    (h w.line w.listed (sym w.slot_is ∙ there)))
clone_slot_acked (CloneComplete serving at) m id acked slot changes c t did good h = tt
clone_slot_acked _ m id acked slot changes c t did good h = record { empty = h.empty }

pub obeyed_acked : (m : Master) (id : Id) (acked slot : ℕ) (changes : List Change) (t : Tablet) → OperationsGood m changes → AckDone m id acked slot t → ObeyedGood m changes slot t → ObeyedGood (acked_all id acked m) changes slot t
obeyed_acked m id acked slot changes t ops did h = record {
  drawn_table = h.drawn_table;
  home = λ present. elim (h.home present) [
    | inl k ↦ inl (record { interval = k.interval; kept = k.kept; slot_is = k.slot_is; tablet_is = k.tablet_is })
    | inr k ↦ inr (record { clone = ack_clone id acked k.clone; kept = clone_stays m id acked k.clone k.kept; serving = k.serving; at = k.at; state_is = k.state_is; pair = k.pair; paired = k.paired; slot_is = k.slot_is; tablet_is = k.tablet_is })
  ];
  snapshots = λ r l isin. each_snapshot m id acked (λ q. In l q.listed → l.slot ≡ slot → (q.complete || l.acked) ≡ true → t.tablet ≡ l.tablet → tell.is_empty t.presence ≡ false → is_done t.done q.id FreezeKind ≡ true)
      (λ q inq lists at either is present.
      let w = was (same q.id id) q.listed acked l lists in
      let old : (q.complete || w.line.acked) ≡ true → is_done t.done q.id FreezeKind ≡ true = λ e. h.snapshots q w.line inq w.listed (sym w.slot_is ∙ at) e (is ∙ w.tablet_is) present in
      either_is q.complete l.acked either
      (λ complete. old (rw complete refl))
      (λ a. elim (w.acked a) [
        | inl e ↦ old (second q.complete w.line.acked e)
        | inr new ↦ ap (λ z. is_done t.done q.id (kind_of z)) (sym ((ops.snapshots q inq).bodies w.line w.listed)) ∙ did.snapshots q w.line inq new.0 w.listed new.1 (sym w.slot_is ∙ at)
      ])) r isin;
  restorations = all_restorations m id acked (λ r. RestorationSlot r.state (acked_all id acked m) changes r slot t)
      (λ r isin. restoration_slot_acked r.state m id acked slot changes r t (λ l b lists there here. did.restorations r l isin b lists there here) (ops.restorations r isin).in_state (h.restorations r isin));
  clones = all_clones m id acked (λ c. CloneSlot c.state (acked_all id acked m) changes c slot t)
      (λ c isin. clone_slot_acked c.state m id acked slot changes c t (λ l b lists there here. did.clones c l isin b lists there here) (ops.clones c isin).in_state (h.clones c isin));
}
  where
    second : (a b : Bool) → b ≡ true → (a || b) ≡ true
    second true b e = refl
    second false b e = e
