-- A snapshot becomes complete.
use Rattle.std.proofs.Common.{ℕ, ◌≡◌, ◌≤◌, ◌<◌, ◌+◌, List, [], ◌∷◌, map, Some, None, Bool, true, false, cond, ◌&&◌, inl, inr, refl, sym, ap, subst, ◌∙◌, arith, not, le_trans, le_refl, le_of_lt, lt_of_lt_of_le}
use Rattle.std.specs.Option.{option_map_or}
use Rattle.std.proofs.lemmas.Bool.{true≢false}
use Rattle.model.specs.Cluster.{Snapshot, RestorationKind as Restoration, CloneKind as Clone, Id, same, In, Interval, Listed, SnapshotRecord, unsent, ScheduledNamespace, Advance, Master, Parts}
use Rattle.model.specs.Journal.{Change as Made}
use Rattle.model.specs.Schedules.{complete_to, or_before}
use Rattle.model.specs.Coordination.{unfinished_snapshot, unfinished_restoration, unfinished_clone}
use Rattle.model.specs.Cleanup.{floor_of}
use Rattle.model.specs.Moves.{progress_of, snapshot_progress, anew, completed, moved_of, advance, snapshot_advanced}
use Rattle.model.specs.History.{with_either}
use Rattle.law_store.proofs.Keys.{either_way}
use Rattle.law_invariants.specs.Operations.{SnapshotsRise, ScheduledGood}
use Rattle.law_invariants.specs.Invariant.{Inv, Later}
use Rattle.law_invariants.proofs.Finding.{same_equal, same_self, filter_in, in_mapped, map_in}
use Rattle.law_invariants.proofs.Remembering.{floor_rises}
use Rattle.law_invariants.proofs.Ticking.{KeepsAll, not_true}
use Rattle.law_invariants.proofs.Recording.{Records, recorded, SnapshotOn, SnapshotCame, Onto}
use Rattle.law_invariants.proofs.Staying.{schedule_on, scheduled_on}
use Rattle.law_invariants.proofs.Slots.{records_keep}
use Rattle.law_invariants.proofs.Advancing.{alone_keeps, moves, advance_by, mapped_some, no_restoration, no_clone}
use Rattle.law_invariants.proofs.Pending.{point_is, pending_drawn, pending_unmoved, pending_stays, fence_stays, unfinished_snapshot_is, unacked_is}
use Rattle.law_invariants.proofs.Using.{mapped_is, alone_mapped, one_snapshot}

stays_complete : (b complete : Bool) → complete ≡ true → cond b true complete ≡ true
stays_complete true complete e = refl
stays_complete false complete e = e

was_incomplete : (b complete : Bool) → cond b true complete ≡ false → complete ≡ false
was_incomplete true complete e = absurd (true≢false e)
was_incomplete false complete e = e

was_another : (b complete : Bool) → cond b true complete ≡ false → b ≡ false
was_another true complete e = e
was_another false complete e = refl

-- Snapshots rise, so each has an identifier of its own

-- The records after the move

abbrev marked : SnapshotRecord → SnapshotRecord → SnapshotRecord
marked r x = record x { complete = cond (same x.id r.id) true x.complete; listed = cond (same x.id r.id) (anew x.listed) x.listed }

abbrev timed : SnapshotRecord → ScheduledNamespace → ScheduledNamespace
timed r k = record k { complete = cond (same k.namespace r.namespace) (Some r.at) k.complete }

abbrev finished : SnapshotRecord → ℕ → Master → Records
finished r n m = record {
  clock = n;
  schedules = m.schedules;
  scheduled = map (timed r) m.scheduled;
  snapshots = map (marked r) m.snapshots;
  restorations = m.restorations;
  sent = unsent r.id m.sent;
  drawn = m.drawn;
}

marked_done : (r : SnapshotRecord) → marked r r ≡ snapshot_advanced r
marked_done r =
    let with_it : Bool → List Listed → SnapshotRecord = λ b ls. record r { complete = b; listed = ls } in
    ap (λ b. with_it (cond b true r.complete) (cond b (anew r.listed) r.listed)) (same_self r.id)

marked_same : (r x : SnapshotRecord) → same x.id r.id ≡ false → marked r x ≡ x
marked_same r x other =
    let with_it : Bool → List Listed → SnapshotRecord = λ b ls. record x { complete = b; listed = ls } in
    ap (λ b. with_it (cond b true x.complete) (cond b (anew x.listed) x.listed)) other

-- what holds of the time of the last complete snapshot, and of the new one, holds of what a namespace has after the move
timed_by : (P : ℕ → Type 0) (r : SnapshotRecord) (k : ScheduledNamespace) → (k.namespace ≡ r.namespace → P r.at) → P (complete_to k) → P (complete_to (timed r k))
timed_by P r k new old = either_way (same k.namespace r.namespace)
    (λ b. subst (λ c. P (or_before (cond c (Some r.at) k.complete) k.since)) (sym b) (new (same_equal k.namespace r.namespace b)))
    (λ b. subst (λ c. P (or_before (cond c (Some r.at) k.complete) k.since)) (sym b) old)

timed_good : (m : Master) (r : SnapshotRecord) (k : ScheduledNamespace) → ScheduledGood m k → ScheduledGood m (timed r k)
timed_good m r k h = record { drawn_namespace = h.drawn_namespace; from_one = h.from_one; last = h.last; reached = h.reached; has = h.has }

finished_floors : (m : Master) (n : ℕ) (r : SnapshotRecord) (ns : Id) → m.clock ≤ n → floor_of m ns m.clock ≤ floor_of (recorded m (finished r n m)) ns n
finished_floors m n r ns le = floor_rises m (recorded m (finished r n m)) ns (record { clock = le; schedules = refl; restorations = refl; clones = refl })

rise_marked : (rs : List SnapshotRecord) (r : SnapshotRecord) → SnapshotsRise rs → SnapshotsRise (map (marked r) rs)
rise_marked [] r h = tt
rise_marked (s ∷ rs) r h = (in_mapped {A = SnapshotRecord} {B = SnapshotRecord} (marked r) (λ q. (s.id.number < q.id.number) × (s.at < q.at)) rs h.0, rise_marked rs r h.1)

-- a line of a list from which the acks are cleared
anew_is : (ls : List Listed) (l : Listed) → In l (anew ls) → (k : Listed) × (In k ls × ((k.tablet ≡ l.tablet) × ((k.slot ≡ l.slot) × (k.body ≡ l.body))))
anew_is ls l isin = in_mapped {A = Listed} {B = Listed} (λ k. record k { acked = false }) (λ l. (k : Listed) × (In k ls × ((k.tablet ≡ l.tablet) × ((k.slot ≡ l.slot) × (k.body ≡ l.body))))) ls
    (λ k there. (k, (there, (refl, (refl, refl))))) l isin

anew_has : (ls : List Listed) (l : Listed) → In l ls → In (record l { acked = false }) (anew ls)
anew_has ls l isin = map_in {A = Listed} {B = Listed} (λ k. record k { acked = false }) ls l isin

lines_marked : (b : Bool) (ls : List Listed) (l : Listed) → In l ls → (k : Listed) × (In k (cond b (anew ls) ls) × (k.tablet ≡ l.tablet))
lines_marked true ls l isin = (record l { acked = false }, (anew_has ls l isin, refl))
lines_marked false ls l isin = (l, (isin, refl))

marked_on : (r x : SnapshotRecord) → SnapshotOn x (marked r x)
marked_on r x = record {
  id_is = refl;
  namespace_is = refl;
  after_is = refl;
  at_is = refl;
  complete = λ e. stays_complete (same x.id r.id) x.complete e;
  lines = λ l isin. lines_marked (same x.id r.id) x.listed l isin;
}

done_on : (r : SnapshotRecord) → SnapshotOn r (snapshot_advanced r)
done_on r =
    let complete : r.complete ≡ true → true ≡ true = λ e. refl in
    let lines : (l : Listed) → In l r.listed → (k : Listed) × (In k (anew r.listed) × (k.tablet ≡ l.tablet)) = λ l isin. (record l { acked = false }, (anew_has r.listed l isin, refl)) in
    assumption (complete, lines)

-- what is found among the unfinished ones is found still, if it is not the one that is complete now
found_still : (rs : List SnapshotRecord) (r : SnapshotRecord) (id : Id) (q : SnapshotRecord) → unfinished_snapshot rs id ≡ Some q → same q.id r.id ≡ false → unfinished_snapshot (map (marked r) rs) id ≡ Some q
found_still [] r id q e other = absurd (let k = e in grind arith)
found_still (x ∷ rs) r id q e other = either_way (same x.id id && not x.complete)
    (λ b.
    let k : Some x ≡ Some q = rw b at e in
    let first : x ≡ q = cc in
    let stays : marked r x ≡ x = marked_same r x (ap (λ y. same y.id r.id) first ∙ other) in
    ap (λ y. cond (same y.id id && not y.complete) (Some y) (unfinished_snapshot (map (marked r) rs) id)) stays ∙ ap (λ c. cond c (Some x) (unfinished_snapshot (map (marked r) rs) id)) b ∙ ap Some first)
    (λ b.
    let k : unfinished_snapshot rs id ≡ Some q = rw b at e in
    let rest = found_still rs r id q k other in
    let fails : (same x.id id && not (cond (same x.id r.id) true x.complete)) ≡ false = still (same x.id id) x.complete (same x.id r.id) b in
    ap (λ c. cond c (Some (marked r x)) (unfinished_snapshot (map (marked r) rs) id)) fails ∙ rest)
  where
    still : (a c d : Bool) → (a && not c) ≡ false → (a && not (cond d true c)) ≡ false
    still false c d e = refl
    still true true d e = ap not (stays_complete d true refl)
    still true false d e = absurd (true≢false e)

-- the snapshot that is complete now
finished_came : (ps : Parts) (activity : List Interval) (changes : List Made) (n : ℕ) (r : SnapshotRecord) → ps.master.clock < n → In r ps.master.snapshots → ((l : Listed) → In l r.listed → l.acked ≡ true) → Inv ps activity changes
    → SnapshotCame ps.master (finished r n ps.master) (snapshot_advanced r)
finished_came ps activity changes n r before there acked inv =
    let m = ps.master in
    let w = finished r n m in
    let h = inv.operations.snapshots r there in
    record {
      how = inr (record {
        was = r;
        kept = there;
        on = done_on r;
        now = refl;
        acked = acked;
        lines = λ l isin. (let k = anew_is r.listed l isin in (k.0, (k.1.0, (k.1.1.0, k.1.1.1.0))));
      });
      good = record {
        kind_is = h.kind_is;
        drawn = h.drawn;
        drawn_namespace = h.drawn_namespace;
        rises = h.rises;
        past = le_trans h.past (le_of_lt before);
        bodies = λ l isin. (let k = anew_is r.listed l isin in sym k.1.1.1.1 ∙ h.bodies k.0 k.1.0);
        drawn_listed = λ l isin. (let k = anew_is r.listed l isin in subst (λ i. i.number ≤ m.drawn.tablets) k.1.1.0 (h.drawn_listed k.0 k.1.0));
        listed_of = λ l i isin active is. (let k = anew_is r.listed l isin in let g = h.listed_of k.0 i k.1.0 active (is ∙ sym k.1.1.0) in (g.0, g.1 ∙ k.1.1.1.0));
        known = λ unfinished l isin. absurd (true≢false unfinished);
        lists = λ i active owner within. (let k = h.lists i active owner within in
            record { line = record k.line { acked = false }; listed = anew_has r.listed k.line k.listed; tablet_is = k.tablet_is; slot_is = k.slot_is });
        reached = elim h.reached [
          | inl l ↦ inl (lt_of_lt_of_le l (finished_floors m n r r.namespace (le_of_lt before)))
          | inr q ↦ inr (marked r q.0, (map_in {A = SnapshotRecord} {B = SnapshotRecord} (marked r) m.snapshots q.0 q.1.0, (q.1.1.0, (q.1.1.1.0, stays_complete (same q.0.id r.id) q.0.complete q.1.1.1.1))))
        ];
        scheduled = λ unfinished. absurd (true≢false unfinished);
      };
    }

finished_onto : (ps : Parts) (activity : List Interval) (changes : List Made) (n : ℕ) (r : SnapshotRecord) → ps.master.clock < n → In r ps.master.snapshots → ((l : Listed) → In l r.listed → l.acked ≡ true) → Inv ps activity changes
    → Onto ps changes (finished r n ps.master)
finished_onto ps activity changes n r before there acked inv =
    let m = ps.master in
    let w = finished r n m in
    let ops = inv.operations in
    let a = ops.apart in
    let h = ops.snapshots r there in
    let floors : (id : Id) → floor_of m id m.clock ≤ floor_of (recorded m w) id n = λ id. finished_floors m n r id (le_of_lt before) in
    let kept : (q : SnapshotRecord) → In q m.snapshots → (k : SnapshotRecord) × (In k w.snapshots × SnapshotOn q k) = λ q isin. (marked r q, (map_in {A = SnapshotRecord} {B = SnapshotRecord} (marked r) m.snapshots q isin, marked_on r q)) in
    record {
      clock = le_of_lt before;
      drawn = λ kind. le_refl _;
      floors = floors;
      apart = record {
        schedule_ids = a.schedule_ids;
        one_scheduled = alone_mapped {A = ScheduledNamespace} (λ k. k.namespace) (timed r) m.scheduled (λ k. refl) a.one_scheduled;
        snapshots_rise = rise_marked m.snapshots r a.snapshots_rise;
        one_snapshot = λ q s in_q in_s open_q open_s e. (
            let x = mapped_is {A = SnapshotRecord} (marked r) m.snapshots q in_q in
            let y = mapped_is {A = SnapshotRecord} (marked r) m.snapshots s in_s in
            let one = a.one_snapshot x.0 y.0 x.1.0 y.1.0
            (was_incomplete (same x.0.id r.id) x.0.complete (ap (λ k. k.complete) x.1.1 ∙ open_q)) (was_incomplete (same y.0.id r.id) y.0.complete (ap (λ k. k.complete) y.1.1 ∙ open_s))
            (ap (λ k. k.namespace) x.1.1 ∙ e ∙ sym (ap (λ k. k.namespace) y.1.1)) in
            sym x.1.1 ∙ ap (marked r) one ∙ y.1.1);
        restoration_ids = a.restoration_ids;
        one_restoration = a.one_restoration;
        clone_ids = a.clone_ids;
        one_clone = a.one_clone;
        one_operation = a.one_operation;
        one_target = a.one_target;
        one_made = a.one_made;
        one_name = a.one_name;
      };
      complete = in_mapped {A = ScheduledNamespace} {B = ScheduledNamespace} (timed r) (λ k. complete_to k + 1 ≤ n) m.scheduled
          (λ k isin. timed_by (λ x. x + 1 ≤ n) r k (λ is. let l = h.past in omega arith) (le_trans (inv.master.complete k isin) (le_of_lt before)));
      schedule = λ t isin. schedule_on m w t (le_of_lt before) (λ kind. le_refl _)
          (λ k there is. (timed r k, (map_in {A = ScheduledNamespace} {B = ScheduledNamespace} (timed r) m.scheduled k there, (refl, refl)))) (ops.schedules t isin);
      scheduled = in_mapped {A = ScheduledNamespace} {B = ScheduledNamespace} (timed r) (ScheduledGood (recorded m w)) m.scheduled
          (λ k isin. let g = ops.scheduled k isin in timed_good (recorded m w) r k (scheduled_on m w k (le_of_lt before) (λ kind. le_refl _) (floors k.namespace) kept g.has g));
      schedule_came = λ t isin. inl (record { was = t; kept = isin; namespace_is = refl });
      schedule_kept = λ t isin. inl (t, (isin, (refl, refl)));
      points = λ k point t in_k unfinished at isin is. (
          let p = mapped_is {A = ScheduledNamespace} (timed r) m.scheduled t isin in
          let named = ap (λ q. q.namespace) p.1.1 ∙ is in
          let g = point_is k.state m changes k point at unfinished (ops.restorations k in_k).in_state in
          subst (λ q. complete_to q + 1 ≤ point) p.1.1
          (timed_by (λ x. x + 1 ≤ point) r p.0
          (λ of. (let l : r.at < point = g.snapshots r there (sym of ∙ named) in omega arith))
          (g.complete p.0 p.1.0 named)));
      last = λ q in_q now unfinished k isin is lasts. (timed r k, (map_in {A = ScheduledNamespace} {B = ScheduledNamespace} (timed r) m.scheduled k isin, (is, lasts)));
      sent = λ mark isin. (
          let k = filter_in m.sent (λ s. not (same s.operation r.id)) mark isin in
          elim (ops.sent mark k.0) [
            | inl q ↦ inl (q.0, (subst (λ x. In x w.snapshots) (marked_same r q.0 (ap (λ i. same i r.id) q.1.1.0 ∙ not_true (same mark.operation r.id) k.1)) (map_in {A = SnapshotRecord} {B = SnapshotRecord} (marked r) m.snapshots q.0 q.1.0), q.1.1))
            | inr more ↦ inr more
          ]);
      snapshot_came = λ q isin. (
          let x = mapped_is {A = SnapshotRecord} (marked r) m.snapshots q isin in
          either_way (same x.0.id r.id)
          (λ b.
          let one : x.0 ≡ r = one_snapshot m.snapshots x.0 r a.snapshots_rise x.1.0 there (same_equal x.0.id r.id b) in
          let is : q ≡ snapshot_advanced r = sym x.1.1 ∙ ap (marked r) one ∙ marked_done r in
          inr (subst (SnapshotCame m w) (sym is) (finished_came ps activity changes n r before there acked inv)))
          (λ b. inl (subst (λ k. In k m.snapshots) (sym (marked_same r x.0 b) ∙ x.1.1) x.1.0)));
      snapshot_kept = kept;
      restoration_came = λ k isin. inl isin;
      restored = inv.journal.restored;
      one_point = inv.journal.one_point;
      awaits = λ slot present. refl;
      fences = λ slot operation f. fence_stays m w slot (ps.tablet slot).table (ps.tablet slot).done operation (λ k isin. inl isin) f;
      pendings = λ operation slot l e. pending_stays m w operation slot l
          (record {
            snapshot = λ id slot l q found at. (
                let k = unfinished_snapshot_is m.snapshots id q found in
                either_way (same q.id r.id)
                (λ b.
                let one : q ≡ r = one_snapshot m.snapshots q r a.snapshots_rise k.0 there (same_equal q.id r.id b) in
                let u = unacked_is q.listed slot l at in
                absurd (true≢false (sym (acked l (subst (λ x. In l x.listed) one u.0)) ∙ u.1)))
                (λ b. found_still m.snapshots r id q found b));
            restoration = λ id slot l q found at. found;
          }) e;
      given = λ operation slot l e. pending_drawn m changes operation slot l ops e;
      unmoved = λ operation slot l q e v is. pending_unmoved m changes operation slot l q ops e v is;
    }

-- an advance of a snapshot keeps what holds
pub advance_snapshot_keeps : (ps : Parts) (activity : List Interval) (changes : List Made) (n : ℕ) (operation : Id) → Later (0 ∷ []) ps n → operation.kind ≡ Snapshot → Inv ps activity changes
    → KeepsAll (Advance operation) n ps activity changes (advance operation n ps)
advance_snapshot_keeps ps activity changes n operation later kind inv =
    let m = ps.master in
    let before : m.clock < n = later 0 refl in
    advance_by operation n ps activity changes later inv (λ p is acked unawaited.
    let found = mapped_some snapshot_progress (unfinished_snapshot m.snapshots operation) p (ap (λ k. progress_of k m operation) (sym kind) ∙ is) in
    let r = found.0 in
    let there = unfinished_snapshot_is m.snapshots operation r found.1.0 in
    let w = finished r n m in
    let moved_is : (k : Master) → k.snapshots ≡ m.snapshots → moved_of operation.kind operation n k ≡ completed r n k = λ k same_.
    ap (λ q. moved_of q operation n k) kind
    ∙ ap (λ qs. option_map_or {T = SnapshotRecord} (λ r. completed r n k) (unfinished_snapshot qs operation) (record k { clock = n })) same_
    ∙ ap (λ o. option_map_or {T = SnapshotRecord} (λ r. completed r n k) o (record k { clock = n })) found.1.0 in
    let quiet : with_either (unfinished_restoration m.restorations operation) (unfinished_clone m.clones operation) n changes ≡ changes =
    ap (λ o. with_either o (unfinished_clone m.clones operation) n changes) (no_restoration m changes operation inv.operations (λ e. let q : Snapshot ≡ Restoration = sym kind ∙ e in grind arith))
    ∙ ap (λ o. with_either None o n changes) (no_clone m changes operation inv.operations (λ e. let q : Snapshot ≡ Clone = sym kind ∙ e in grind arith)) in
    alone_keeps (Advance operation) (moves operation p.next) n ps activity activity changes changes (recorded m w) refl refl (moved_is m refl) (ap (λ k. k.activity) (moved_is (record m { activity = activity }) refl)) quiet
    (records_keep ps activity changes w
    (finished_onto ps activity changes n r before there.0 (λ l isin. acked l (subst (λ q. In l q.listed) found.1.1 isin)) inv) inv))
