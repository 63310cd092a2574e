-- A snapshot of a namespace is taken: the records go on.
use Rattle.std.proofs.Common.{ℕ, ◌≡◌, ◌≤◌, ◌<◌, ◌+◌, List, [], ◌∷◌, ◌++◌, Some, None, Bool, true, false, cond, ◌⊎◌, inl, inr, refl, sym, ap, subst, ◌∙◌, arith, le_trans, le_refl, le_of_lt, lt_of_lt_of_le}
use Rattle.std.specs.List.{filter}
use Rattle.std.proofs.lemmas.Bool.{true≢false}
use Rattle.model.specs.Cluster.{Kind, Snapshot, Id, same, In, Interval, active_within, owner_of, Freeze, Listed, Schedule, SnapshotRecord, RestorationRecord, is_restored, point_of, unfinished_of, ScheduledNamespace, Master, Parts, Drawn}
use Rattle.model.specs.Journal.{Change as Made}
use Rattle.model.specs.Schedules.{floor, complete_to, after_of, least_low, after_in}
use Rattle.model.specs.Drawn.{drawn_of}
use Rattle.model.specs.Operations.{time_of_user}
use Rattle.model.specs.Cleanup.{floor_of}
use Rattle.model.specs.Lists.{next_snapshot, new_snapshot, set_last, tablets_active_within, intervals_in, once, set_last_of}
use Rattle.law_store.proofs.Keys.{either_way}
use Rattle.law_invariants.specs.Operations.{SnapshotsRise, ScheduleGood, SnapshotGood, OperationsGood, Alone, IsReached, ScheduledGood}
use Rattle.law_invariants.specs.Invariant.{Inv}
use Rattle.law_invariants.proofs.Finding.{same_equal, same_self, in_append, in_added, in_first, in_second, filter_in, in_filter, in_mapped, map_in}
use Rattle.law_invariants.proofs.Remembering.{floor_rises, kept_all}
use Rattle.law_invariants.proofs.Recording.{same_on, Records, recorded, SnapshotCame, SnapshotOn, Onto}
use Rattle.law_invariants.proofs.Staying.{schedule_on, scheduled_on}
use Rattle.law_invariants.proofs.Listing.{IsLineOf, listing_only, listing_has, once_only, once_has, namespace_only, namespace_has, one_place}
use Rattle.law_invariants.proofs.Pending.{point_complete, pending_drawn, pending_unmoved, pending_stays, fence_stays, snapshot_added}
use Rattle.law_invariants.proofs.Using.{unfinished_none, mapped_is, alone_mapped, mapped_lows}

abbrev pub taken : Id → Id → ℕ → Master → Records
taken ns schedule n m = record {
  clock = n;
  schedules = set_last schedule n m.schedules;
  scheduled = set_last_of ns n m.scheduled;
  snapshots = m.snapshots ++ new_snapshot m ns schedule n ∷ [];
  restorations = m.restorations;
  sent = m.sent;
  drawn = record m.drawn { snapshots = m.drawn.snapshots + 1 };
}

drawn_more : (d : Drawn) (kind : Kind) → drawn_of kind d ≤ drawn_of kind (record d { snapshots = d.snapshots + 1 })
drawn_more d Snapshot = omega arith
drawn_more d _ = le_refl _

taken_floors : (m : Master) (n : ℕ) (at schedule ns : Id) → m.clock ≤ n → floor_of m ns m.clock ≤ floor_of (recorded m (taken at schedule n m)) ns n
taken_floors m n at schedule ns le =
    let up : floor_of m ns m.clock ≤ floor (least_low m.schedules ns n) (time_of_user m ns) n =
    floor_rises m (record m { clock = n }) ns (record { clock = le; schedules = refl; restorations = refl; clones = refl }) in
    let is = mapped_lows m.schedules (λ t. record t { last = cond (same t.id schedule) (Some n) t.last }) ns n (λ t. refl) (λ t. refl) in
    subst (λ o. floor_of m ns m.clock ≤ floor o (time_of_user m ns) n) (sym is) up

rise_added : (rs : List SnapshotRecord) (q : SnapshotRecord) → ((r : SnapshotRecord) → In r rs → (r.id.number < q.id.number) × (r.at < q.at)) → SnapshotsRise rs → SnapshotsRise (rs ++ q ∷ [])
rise_added [] q above h = ((λ p none. absurd none), tt)
rise_added (r ∷ rs) q above h = (in_added (λ p. (r.id.number < p.id.number) × (r.at < p.at)) rs q h.0 (above r (inl refl)), rise_added rs q (λ p isin. above p (inr isin)) h.1)

-- the time of the namespace's snapshot before the next one, by its record
pub after_is : (ks : List ScheduledNamespace) (k : ScheduledNamespace) → Alone (λ k. k.namespace) ks → In k ks → after_in ks k.namespace ≡ after_of k
after_is [] k one isin = absurd isin
after_is (j ∷ ks) k one isin = either_way (same j.namespace k.namespace)
    (λ b. ap (λ c. cond c (after_of j) (after_in ks k.namespace)) b ∙ ap after_of (one j k (inl refl) isin (same_equal j.namespace k.namespace b)))
    (λ b. ap (λ c. cond c (after_of j) (after_in ks k.namespace)) b ∙ after_is ks k (λ x y in_x in_y e. one x y (inr in_x) (inr in_y) e)
    (elim isin [ inl e ↦ absurd (true≢false (sym (ap (λ q. same q.namespace k.namespace) e ∙ same_self k.namespace) ∙ b)) | inr rest ↦ rest ]))

-- what a snapshot may be taken of: a scheduled namespace, of which no snapshot is unfinished, and a restoration that uses it has no point yet
pub record MayTake (m : Master) (ns schedule : Id) : Type 0 where
  pub scheduled : (k : ScheduledNamespace) × (In k m.scheduled × (k.namespace ≡ ns))
  pub calm : unfinished_of m.snapshots ns ≡ None
  pub early : (r : RestorationRecord) (point : ℕ) → In r m.restorations → is_restored r.state ≡ false → point_of r.state ≡ Some point → ns ≡ r.namespace → ⊥

-- what holds of the time before it
record AfterGood (m : Master) (ns : Id) : Type 0 where
  past : after_in m.scheduled ns ≤ m.clock
  reached : IsReached m ns (after_in m.scheduled ns)
  drawn : ns.number ≤ m.drawn.namespaces

after_good : (m : Master) (changes : List Made) (ns schedule : Id) → MayTake m ns schedule → OperationsGood m changes → AfterGood m ns
after_good m changes ns schedule may ops =
    let k = may.scheduled in
    let g = ops.scheduled k.0 k.1.0 in
    let e = after_is m.scheduled k.0 ops.apart.one_scheduled k.1.0 in
    subst (AfterGood m) k.1.1 (record {
      past = subst (λ x. x ≤ m.clock) (sym e) g.last;
      reached = subst (IsReached m k.0.namespace) (sym e) g.reached;
      drawn = g.drawn_namespace;
    })

taken_good : (ps : Parts) (activity : List Interval) (changes : List Made) (n : ℕ) (ns schedule : Id) → ps.master.clock < n → MayTake ps.master ns schedule → Inv ps activity changes
    → SnapshotGood (recorded ps.master (taken ns schedule n ps.master)) (new_snapshot ps.master ns schedule n)
taken_good ps activity changes n ns schedule before may inv =
    let m = ps.master in
    let w = taken ns schedule n m in
    let ops = inv.operations in
    let g = after_good m changes ns schedule may ops in
    let body = Freeze (next_snapshot m) n in
    let after = after_in m.scheduled ns in
    let within = filter (active_within after n) (intervals_in m.catalog.owners m.activity ns) in
    let line : (l : Listed) → In l (new_snapshot m ns schedule n).listed → IsLineOf body (once within) l = λ l isin. listing_only body (once within) l isin in
    let was : (l : Listed) (isin : In l (new_snapshot m ns schedule n).listed) → In (line l isin).interval m.activity × (owner_of m.catalog.owners (line l isin).interval.table ≡ Some ns) =
    λ l isin. namespace_only m ns _ (filter_in (intervals_in m.catalog.owners m.activity ns) (active_within after n) _ (once_only within _ (line l isin).listed)).0 in
    record {
      kind_is = refl;
      drawn = le_refl _;
      drawn_namespace = g.drawn;
      rises = (let l = g.past in omega arith);
      past = le_refl _;
      bodies = λ l isin. (line l isin).body_is;
      drawn_listed = λ l isin. (
          let d = inv.remembered.drawn _ (kept_all inv.remembered _ (was l isin).0) in
          let e : l.tablet.number ≡ (line l isin).interval.tablet.number = ap (λ i. i.number) (line l isin).tablet_is in omega arith);
      listed_of = λ l i isin there is. (
          let k = one_place ps activity changes i (line l isin).interval inv there (was l isin).0 (is ∙ (line l isin).tablet_is) in
          (ap (owner_of m.catalog.owners) k.table_is ∙ (was l isin).1, k.slot_is ∙ sym (line l isin).slot_is));
      known = λ unfinished l isin. record { interval = (line l isin).interval; kept = (was l isin).0; tablet_is = sym (line l isin).tablet_is; slot_is = sym (line l isin).slot_is };
      lists = λ i there owner active. (
          let first = once_has within i (in_filter (intervals_in m.catalog.owners m.activity ns) (active_within after n) i (namespace_has m ns i there owner) active) in
          let listed = listing_has body (once within) first.0 first.1.0 in
          let kept = namespace_only m ns first.0 (filter_in (intervals_in m.catalog.owners m.activity ns) (active_within after n) first.0 (once_only within first.0 first.1.0)).0 in
          let k = one_place ps activity changes first.0 i inv kept.0 there first.1.1 in
          record { line = listed.line; listed = listed.listed; tablet_is = listed.tablet_is ∙ first.1.1; slot_is = listed.slot_is ∙ k.slot_is });
      reached = elim g.reached [
        | inl l ↦ inl (lt_of_lt_of_le l (taken_floors m n ns schedule ns (le_of_lt before)))
        | inr q ↦ inr (q.0, (in_first m.snapshots (new_snapshot m ns schedule n ∷ []) q.0 q.1.0, (q.1.1.0, (q.1.1.1, all_complete q.0 q.1.0 q.1.1.0))))
      ];
      scheduled = λ unfinished. (let k = may.scheduled in (
        record k.0 { last = cond (same k.0.namespace ns) (Some n) k.0.last },
        (
          map_in {A = ScheduledNamespace} {B = ScheduledNamespace} (λ k. record k { last = cond (same k.namespace ns) (Some n) k.last }) m.scheduled k.0 k.1.0,
          (k.1.1, ap (λ i. cond (same i ns) (Some n) k.0.last) k.1.1 ∙ ap (λ b. cond b (Some n) k.0.last) (same_self ns)),
        ),
      ));
    }
  where
    all_complete : (q : SnapshotRecord) → In q ps.master.snapshots → q.namespace ≡ ns → q.complete ≡ true
    all_complete q isin is = either_way q.complete (λ b. b) (λ b. absurd (unfinished_none ps.master.snapshots ns q may.calm isin b is))

-- the scheduled namespaces, of which one has its last snapshot now
lasted : (b : Bool) (m : Master) (n : ℕ) (ns schedule : Id) (k : ScheduledNamespace) → m.clock < n → (b ≡ true → k.namespace ≡ ns) → In (new_snapshot m ns schedule n) (taken ns schedule n m).snapshots → ScheduledGood (recorded m (taken ns schedule n m)) k
    → ScheduledGood (recorded m (taken ns schedule n m)) (record k { last = cond b (Some n) k.last })
lasted false m n ns schedule k before is there h = record { drawn_namespace = h.drawn_namespace; from_one = h.from_one; last = h.last; reached = h.reached; has = h.has }
lasted true m n ns schedule k before is there h =
    let last_now : after_of (record k { last = cond true (Some n) k.last }) ≤ ((taken ns schedule n m).clock) = le_refl _ in
    let reached : IsReached (recorded m (taken ns schedule n m)) k.namespace (after_of (record k { last = cond true (Some n) k.last })) = inr (new_snapshot m ns schedule n, (there, (sym (is refl), refl))) in
    assumption (last_now, reached)

pub taken_onto : (ps : Parts) (activity : List Interval) (changes : List Made) (n : ℕ) (ns schedule : Id) → ps.master.clock < n → MayTake ps.master ns schedule → Inv ps activity changes → Onto ps changes (taken ns schedule n ps.master)
taken_onto ps activity changes n ns schedule before may inv =
    let m = ps.master in
    let w = taken ns schedule n m in
    let ops = inv.operations in
    let a = ops.apart in
    let q0 = new_snapshot m ns schedule n in
    let f : Schedule → Schedule = λ t. record t { last = cond (same t.id schedule) (Some n) t.last } in
    let g : ScheduledNamespace → ScheduledNamespace = λ k. record k { last = cond (same k.namespace ns) (Some n) k.last } in
    let good = taken_good ps activity changes n ns schedule before may inv in
    let floors : (id : Id) → floor_of m id m.clock ≤ floor_of (recorded m w) id n = λ id. taken_floors m n ns schedule id (le_of_lt before) in
    let here : In q0 (m.snapshots ++ q0 ∷ []) = in_second m.snapshots (q0 ∷ []) q0 (inl refl) in
    let kept : (q : SnapshotRecord) → In q m.snapshots → (r : SnapshotRecord) × (In r w.snapshots × SnapshotOn q r) = λ q isin. (q, (in_first m.snapshots (q0 ∷ []) q isin, same_on q)) in
    record {
      clock = le_of_lt before;
      drawn = drawn_more m.drawn;
      floors = floors;
      apart = let schedule_ids : Alone (λ s. s.id) (taken ns schedule n ps.master).schedules = alone_mapped {A = Schedule} (λ t. t.id) f m.schedules (λ t. refl) a.schedule_ids in
          let one_scheduled : Alone (λ k. k.namespace) (taken ns schedule n ps.master).scheduled = alone_mapped {A = ScheduledNamespace} (λ k. k.namespace) g m.scheduled (λ k. refl) a.one_scheduled in
          let snapshots_rise : SnapshotsRise (taken ns schedule n ps.master).snapshots = rise_added m.snapshots q0 (λ r isin. let k = ops.snapshots r isin in let l = k.drawn in let u = k.past in (omega arith, omega arith)) a.snapshots_rise in
          let one_snapshot : (q r : SnapshotRecord) → In q (taken ns schedule n ps.master).snapshots → In r (taken ns schedule n ps.master).snapshots → q.complete ≡ false → r.complete ≡ false → q.namespace ≡ r.namespace → q ≡ r = λ q r in_q in_r open_q open_r e. elim (in_append m.snapshots (q0 ∷ []) q in_q) [
            | inl old_q ↦ elim (in_append m.snapshots (q0 ∷ []) r in_r) [
              | inl old_r ↦ a.one_snapshot q r old_q old_r open_q open_r e
              | inr new_r ↦ elim new_r [ inl is ↦ absurd (unfinished_none m.snapshots ns q may.calm old_q open_q (e ∙ sym (ap (λ k. k.namespace) is))) | inr none ↦ absurd none ]
            ]
            | inr new_q ↦ elim new_q [
              | inl is ↦ elim (in_append m.snapshots (q0 ∷ []) r in_r) [
                | inl old_r ↦ absurd (unfinished_none m.snapshots ns r may.calm old_r open_r (sym e ∙ sym (ap (λ k. k.namespace) is)))
                | inr new_r ↦ elim new_r [ inl is_r ↦ sym is ∙ is_r | inr none ↦ absurd none ]
              ]
              | inr none ↦ absurd none
            ]
          ] in
          assumption (schedule_ids, one_scheduled, snapshots_rise, one_snapshot);
      complete = in_mapped {A = ScheduledNamespace} {B = ScheduledNamespace} g (λ k. complete_to k + 1 ≤ n) m.scheduled (λ k isin. le_trans (inv.master.complete k isin) (le_of_lt before));
      schedule = in_mapped {A = Schedule} {B = Schedule} f (ScheduleGood (recorded m w)) m.schedules
          (λ t isin. let s = schedule_on m w t (le_of_lt before) (drawn_more m.drawn) (λ k there is. (g k, (map_in {A = ScheduledNamespace} {B = ScheduledNamespace} g m.scheduled k there, (refl, refl)))) (ops.schedules t isin) in
          record { drawn = s.drawn; drawn_namespace = s.drawn_namespace; begun = s.begun; scheduled = s.scheduled });
      scheduled = in_mapped {A = ScheduledNamespace} {B = ScheduledNamespace} g (ScheduledGood (recorded m w)) m.scheduled
          (λ k isin. lasted (same k.namespace ns) m n ns schedule k before (λ e. same_equal k.namespace ns e) here
          (let h = ops.scheduled k isin in scheduled_on m w k (le_of_lt before) (drawn_more m.drawn) (floors k.namespace) kept (f h.has.0, (map_in {A = Schedule} {B = Schedule} f m.schedules h.has.0 h.has.1.0, h.has.1.1)) h));
      schedule_came = λ t isin. (let p = mapped_is {A = Schedule} f m.schedules t isin in inl (record { was = p.0; kept = p.1.0; namespace_is = ap (λ q. q.namespace) (sym p.1.1) }));
      schedule_kept = λ t isin. inl (f t, (map_in {A = Schedule} {B = Schedule} f m.schedules t isin, (refl, refl)));
      points = λ r point k there unfinished at isin is. (let p = mapped_is {A = ScheduledNamespace} g m.scheduled k isin in
          subst (λ q. complete_to q + 1 ≤ point) p.1.1 (point_complete m changes r point p.0 ops there unfinished at p.1.0 (ap (λ q. q.namespace) p.1.1 ∙ is)));
      last = λ q there now unfinished k isin is lasts. either_way (same k.namespace ns)
          (λ b. absurd (unfinished_none m.snapshots ns q may.calm there unfinished (sym is ∙ same_equal k.namespace ns b)))
          (λ b. (g k, (map_in {A = ScheduledNamespace} {B = ScheduledNamespace} g m.scheduled k isin, (is, ap (λ c. cond c (Some n) k.last) b ∙ lasts))));
      sent = λ mark isin. elim (ops.sent mark isin) [
        | inl q ↦ inl (q.0, (in_first m.snapshots (q0 ∷ []) q.0 q.1.0, q.1.1))
        | inr more ↦ inr more
      ];
      snapshot_came = in_added (λ q. In q m.snapshots ⊎ SnapshotCame m w q) m.snapshots q0 (λ q isin. inl isin) (inr (record {
        how = inl (record {
          kind_is = refl;
          drawn = omega arith;
          unfinished = refl;
          known = λ l isin. (let k = good.known refl l isin in record { interval = k.interval; kept = k.kept; tablet_is = k.tablet_is; slot_is = k.slot_is });
          unacked = λ l isin. (listing_only (Freeze (next_snapshot m) n) (tablets_active_within m.catalog.owners m.activity ns (after_in m.scheduled ns) n) l isin).unacked;
          apart = λ k point isin unfinished at e. may.early k point isin unfinished at e;
        });
        good = good;
      }));
      snapshot_kept = kept;
      restoration_came = λ r isin. inl isin;
      restored = inv.journal.restored;
      one_point = inv.journal.one_point;
      awaits = λ slot present. refl;
      fences = λ slot operation h. fence_stays m w slot (ps.tablet slot).table (ps.tablet slot).done operation (λ r isin. inl isin) h;
      pendings = λ operation slot l e. pending_stays m w operation slot l
          (record { snapshot = λ id slot l r e at. snapshot_added m.snapshots q0 id r e; restoration = λ id slot l r e at. e }) e;
      given = λ operation slot l e. pending_drawn m changes operation slot l ops e;
      unmoved = λ operation slot l r e v is. pending_unmoved m changes operation slot l r ops e v is;
    }
