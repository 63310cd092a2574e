-- Schedules are made and deleted.
use Rattle.std.proofs.Common.{ℕ, ◌≡◌, ◌≤◌, ◌<◌, ◌+◌, List, [], ◌∷◌, ◌++◌, Option, Some, None, Bool, true, false, cond, ◌⊎◌, inl, inr, refl, sym, ap, subst, ◌∙◌, arith, not, le_trans, le_refl, le_of_lt}
use Rattle.std.specs.Prelude.{is_some}
use Rattle.std.specs.List.{filter}
use Rattle.std.proofs.lemmas.Bool.{true≢false}
use Rattle.model.specs.Cluster.{Kind, ScheduleKind, Id, same, In, same_slots, Interval, Schedule, schedule_of, unfinished_of, ScheduledNamespace, scheduled_in, CreateSchedule, DeleteSchedule, Change, Master, Parts, Drawn, MakesSchedule, DeletesSchedule}
use Rattle.model.specs.Journal.{Change as Made}
use Rattle.model.specs.Schedules.{floor, low, complete_to, least_low, least_with}
use Rattle.model.specs.Drawn.{drawn_of}
use Rattle.model.specs.Operations.{user, time_of_user}
use Rattle.model.specs.Cleanup.{floor_of}
use Rattle.model.specs.Looks.{found_namespace}
use Rattle.model.specs.Changes.{accepts, create_schedule_checks, judge_create_schedule, create_schedule, found_schedule, delete_schedule_checks, judge_delete_schedule, delete_schedule}
use Rattle.model.specs.Changed.{next_schedule, without_schedule, begin_scheduled, still_scheduled}
use Rattle.law_store.proofs.Keys.{either_way}
use Rattle.law_invariants.specs.Operations.{Alone, ScheduleGood, OperationsGood, ScheduledGood}
use Rattle.law_invariants.specs.Invariant.{Inv, Later}
use Rattle.law_invariants.proofs.Finding.{none_or_some, same_equal, same_self, in_append, in_added, in_first, filter_in, in_filter, in_second}
use Rattle.law_invariants.proofs.Names.{named_is}
use Rattle.law_invariants.proofs.Operating.{not_held, visible_later, NotHeld}
use Rattle.law_invariants.proofs.Remembering.{floor_rises, lows_left, lows_added, floor_turns, has_low, no_lows}
use Rattle.law_invariants.proofs.Ticking.{by_judgement, refused_keeps, KeepsAll}
use Rattle.law_invariants.proofs.Judging.{checked_is}
use Rattle.law_invariants.proofs.Cataloguing.{namespace_is}
use Rattle.law_invariants.proofs.Recording.{same_on, Records, recorded, WasSchedule, NewSchedule, Onto}
use Rattle.law_invariants.proofs.Staying.{schedule_on, scheduled_on}
use Rattle.law_invariants.proofs.Slots.{records_keep}
use Rattle.law_invariants.proofs.Advancing.{alone_keeps}
use Rattle.law_invariants.proofs.Pending.{point_complete, pending_drawn, pending_unmoved, pending_stays, fence_stays}
use Rattle.law_invariants.proofs.Using.{alone_added, schedule_of_is, schedule_is, unfinished_none, neither_is, NotUsed, not_used, no_time, schedule_there}

abbrev made_schedule : Id → ℕ → ℕ → ℕ → Master → Schedule
made_schedule ns interval retention n m = record { id = next_schedule m; namespace = ns; interval = interval; retention = retention; made = n; kept_low = n; last = None }

abbrev with_schedule : Option ScheduledNamespace → Schedule → ℕ → Master → Records
with_schedule found s n m = record {
  clock = n;
  schedules = m.schedules ++ s ∷ [];
  scheduled = begin_scheduled found s.namespace n m.scheduled;
  snapshots = m.snapshots;
  restorations = m.restorations;
  sent = m.sent;
  drawn = record m.drawn { schedules = m.drawn.schedules + 1 };
}

drawn_more : (d : Drawn) (kind : Kind) → drawn_of kind d ≤ drawn_of kind (record d { schedules = d.schedules + 1 })
drawn_more d ScheduleKind = omega arith
drawn_more d _ = le_refl _

-- a namespace is found where it is scheduled
scheduled_is : (ks : List ScheduledNamespace) (ns : Id) (k : ScheduledNamespace) → scheduled_in ks ns ≡ Some k → In k ks × (k.namespace ≡ ns)
scheduled_is [] ns k e = absurd (let q = e in grind arith)
scheduled_is (j ∷ ks) ns k e = either_way (same j.namespace ns)
    (λ b. let is : Some j ≡ Some k = rw b at e in let first : j ≡ k = cc in (inl first, ap (λ x. x.namespace) (sym first) ∙ same_equal j.namespace ns b))
    (λ b. let rest = scheduled_is ks ns k (rw b at e) in (inr rest.0, rest.1))

scheduled_none : (ks : List ScheduledNamespace) (ns : Id) (k : ScheduledNamespace) → scheduled_in ks ns ≡ None → In k ks → k.namespace ≡ ns → ⊥
scheduled_none [] ns k e isin is = isin
scheduled_none (j ∷ ks) ns k e isin is = either_way (same j.namespace ns)
    (λ b. let q : Some j ≡ None = rw b at e in grind arith)
    (λ b. elim isin [
      | inl first ↦ true≢false (sym (ap (λ x. same x.namespace ns) first ∙ ap (λ i. same i ns) is ∙ same_self ns) ∙ b)
      | inr rest ↦ scheduled_none ks ns k (rw b at e) rest is
    ])

-- each scheduled namespace goes on, and a new one begins
begun_kept : (found : Option ScheduledNamespace) (ns : Id) (n : ℕ) (ks : List ScheduledNamespace) (k : ScheduledNamespace) → In k ks → In k (begin_scheduled found ns n ks)
begun_kept (Some j) ns n ks k isin = isin
begun_kept None ns n ks k isin = in_first ks (record { namespace = ns; since = n; last = None; complete = None } ∷ []) k isin

begun_came : (found : Option ScheduledNamespace) (ns : Id) (n : ℕ) (ks : List ScheduledNamespace) (k : ScheduledNamespace) → In k (begin_scheduled found ns n ks)
    → In k ks ⊎ ((found ≡ None) × (record { namespace = ns; since = n; last = None; complete = None } ≡ k))
begun_came (Some j) ns n ks k isin = inl isin
begun_came None ns n ks k isin = elim (in_append ks (record { namespace = ns; since = n; last = None; complete = None } ∷ []) k isin) [
  | inl old ↦ inl old
  | inr new ↦ elim new [ inl is ↦ inr (refl, is) | inr none ↦ absurd none ]
]

-- what a schedule may be made for: nothing holds the namespace
record MayMake (m : Master) (found : Option ScheduledNamespace) (ns : Id) : Type 0 where
  found_is : scheduled_in m.scheduled ns ≡ found
  drawn : ns.number ≤ m.drawn.namespaces
  free : NotHeld m ns

-- where the namespace has no schedule, nothing uses it
unused : (m : Master) (changes : List Made) (found : Option ScheduledNamespace) (ns : Id) → OperationsGood m changes → MayMake m found ns → ((s : Schedule) → In s m.schedules → s.namespace ≡ ns → ⊥) → NotUsed m ns
unused m changes found ns ops may none = record {
  restoration = may.free.restoration;
  clone = λ c isin unfinished uses. elim uses [
    | inl source ↦ (let k = (ops.clones c isin).scheduled unfinished in none k.0 k.1.0 (k.1.1 ∙ source))
    | inr target ↦ may.free.clone c isin unfinished target
  ];
}

low_now : (s : Schedule) (n : ℕ) → s.kept_low ≤ n → low s n ≤ n
low_now s n le = omega arith

made_floors : (m : Master) (changes : List Made) (n : ℕ) (found : Option ScheduledNamespace) (s : Schedule) (ns : Id) → m.clock ≤ n → s.kept_low ≡ n → OperationsGood m changes → MayMake m found s.namespace
    → floor_of m ns m.clock ≤ floor_of (recorded m (with_schedule found s n m)) ns n
made_floors m changes n found s ns le low_is ops may =
    let up : floor_of m ns m.clock ≤ floor (least_low m.schedules ns n) (time_of_user m ns) n =
    floor_rises m (record m { clock = n }) ns (record { clock = le; schedules = refl; restorations = refl; clones = refl }) in
    either_way (same s.namespace ns)
    (λ b.
    let is = same_equal s.namespace ns b in
    let turns = lows_added m.schedules s ns n (omega (arith, low_is)) (λ t isin. low_now t n (le_trans (ops.schedules t isin).begun le)) in
    le_trans up (floor_turns n (least_low m.schedules ns n) (least_low (m.schedules ++ s ∷ []) ns n) (time_of_user m ns) turns
    (λ none. inr (ap (time_of_user m) (sym is) ∙ no_time m s.namespace (unused m changes found s.namespace ops may
    (λ t isin at. let h = has_low m.schedules ns n t isin (at ∙ is) in let q : Some h.0 ≡ None = sym h.1.0 ∙ none in grind arith))))))
    (λ b. subst (λ o. floor_of m ns m.clock ≤ floor o (time_of_user m ns) n) (sym (lows_beside m.schedules s ns n b)) up)
  where
    lows_beside : (ss : List Schedule) (s : Schedule) (ns : Id) (n : ℕ) → same s.namespace ns ≡ false → least_low (ss ++ s ∷ []) ns n ≡ least_low ss ns n
    lows_beside [] s ns n b = ap (λ c. cond c (Some (least_with None (low s n))) None) b
    lows_beside (t ∷ ss) s ns n b = ap (λ o. cond (same t.namespace ns) (Some (least_with o (low t n))) o) (lows_beside ss s ns n b)

-- a namespace that gets its first schedule
first_good : (m : Master) (changes : List Made) (n : ℕ) (s : Schedule) → m.clock < n → s.kept_low ≡ n → OperationsGood m changes → MayMake m None s.namespace
    → ScheduledGood (recorded m (with_schedule None s n m)) (record { namespace = s.namespace; since = n; last = None; complete = None })
first_good m changes n s before low_is ops may =
    let w = with_schedule None s n m in
    let ns = s.namespace in
    let none : (t : Schedule) → In t m.schedules → t.namespace ≡ ns → ⊥ = λ t isin is. (let k = (ops.schedules t isin).scheduled in scheduled_none m.scheduled ns k.0 may.found_is k.1.0 (k.1.1.0 ∙ is)) in
    let time = no_time m ns (unused m changes None ns ops may none) in
    let here : floor_of (recorded m w) ns n ≡ low s n = ap (λ t. floor (least_low (m.schedules ++ s ∷ []) ns n) t n) time ∙ ap (λ o. floor o None n) (alone m.schedules none) in
    let above : n ≤ floor_of (recorded m w) ns n = subst (λ y. n ≤ y) (sym here) (omega (arith, low_is)) in
    record {
      drawn_namespace = may.drawn;
      from_one = omega arith;
      last = omega arith;
      reached = inl (omega arith);
      has = (s, (in_second m.schedules (s ∷ []) s (inl refl), refl));
    }
  where
    alone : (ss : List Schedule) → ((t : Schedule) → In t ss → t.namespace ≡ s.namespace → ⊥) → least_low (ss ++ s ∷ []) s.namespace n ≡ Some (low s n)
    alone [] none = ap (λ c. cond c (Some (low s n)) None) (same_self s.namespace)
    alone (t ∷ ss) none = either_way (same t.namespace s.namespace)
        (λ b. absurd (none t (inl refl) (same_equal t.namespace s.namespace b)))
        (λ b. ap (λ c. cond c (Some (least_with (least_low (ss ++ s ∷ []) s.namespace n) (low t n))) (least_low (ss ++ s ∷ []) s.namespace n)) b ∙ alone ss (λ k isin. none k (inr isin)))

-- the scheduled namespace of the new schedule
its_namespace : (found : Option ScheduledNamespace) (m : Master) (changes : List Made) (n : ℕ) (s : Schedule) → m.clock < n → s.kept_low ≡ n → OperationsGood m changes → MayMake m found s.namespace
    → (k : ScheduledNamespace) × (In k (begin_scheduled found s.namespace n m.scheduled) × ((k.namespace ≡ s.namespace) × (k.since ≤ s.kept_low)))
its_namespace (Some k) m changes n s before low_is ops may =
    let h = scheduled_is m.scheduled s.namespace k may.found_is in
    let since : k.since ≤ n = since_past (ops.scheduled k h.0) in
    (k, (h.0, (h.1, subst (λ x. k.since ≤ x) (sym low_is) since)))
  where
    since_past : ScheduledGood m k → k.since ≤ n
    since_past g = (let s0 = g.has in let l = (ops.schedules s0.0 s0.1.0).scheduled in let b = (ops.schedules s0.0 s0.1.0).begun in
        let one : l.0 ≡ k = ops.apart.one_scheduled l.0 k l.1.0 (scheduled_is m.scheduled s.namespace k may.found_is).0 (l.1.1.0 ∙ s0.1.1) in
        let same_ : l.0.since ≡ k.since = ap (λ x. x.since) one in let q = l.1.1.1 in omega arith)
its_namespace None m changes n s before low_is ops may =
    (record { namespace = s.namespace; since = n; last = None; complete = None }, (in_second m.scheduled (record { namespace = s.namespace; since = n; last = None; complete = None } ∷ []) _ (inl refl), (refl, subst (λ x. n ≤ x) (sym low_is) (le_refl n))))

made_onto : (found : Option ScheduledNamespace) (ps : Parts) (activity : List Interval) (changes : List Made) (n : ℕ) (s : Schedule) → ps.master.clock < n → s.kept_low ≡ n → s.id ≡ next_schedule ps.master → MayMake ps.master found s.namespace
    → Inv ps activity changes → Onto ps changes (with_schedule found s n ps.master)
made_onto found ps activity changes n s before low_is id_is may inv =
    let m = ps.master in
    let ns = s.namespace in
    let w = with_schedule found s n m in
    let ops = inv.operations in
    let a = ops.apart in
    let fresh : ScheduledNamespace = record { namespace = ns; since = n; last = None; complete = None } in
    let floors : (id : Id) → floor_of m id m.clock ≤ floor_of (recorded m w) id n = λ id. made_floors m changes n found s id (le_of_lt before) low_is ops may in
    let number_is : s.id.number ≡ m.drawn.schedules + 1 = ap (λ i. i.number) id_is in
    let unlike : (t : Schedule) → In t m.schedules → t.id ≡ s.id → ⊥ = λ t isin is. (let l = (ops.schedules t isin).drawn in let e : t.id.number ≡ s.id.number = ap (λ i. i.number) is in omega arith) in
    let alone : (k : ScheduledNamespace) → In k m.scheduled → found ≡ None → k.namespace ≡ ns → ⊥ = λ k isin e is. scheduled_none m.scheduled ns k (may.found_is ∙ e) isin is in
    record {
      clock = le_of_lt before;
      drawn = drawn_more m.drawn;
      floors = floors;
      apart = record {
        schedule_ids = alone_added {A = Schedule} (λ t. t.id) m.schedules s a.schedule_ids unlike;
        one_scheduled = λ x y in_x in_y e. elim (begun_came found ns n m.scheduled x in_x) [
          | inl old_x ↦ elim (begun_came found ns n m.scheduled y in_y) [
            | inl old_y ↦ a.one_scheduled x y old_x old_y e
            | inr new_y ↦ absurd (alone x old_x new_y.0 (e ∙ sym (ap (λ k. k.namespace) new_y.1)))
          ]
          | inr new_x ↦ elim (begun_came found ns n m.scheduled y in_y) [
            | inl old_y ↦ absurd (alone y old_y new_x.0 (sym e ∙ sym (ap (λ k. k.namespace) new_x.1)))
            | inr new_y ↦ sym new_x.1 ∙ new_y.1
          ]
        ];
        snapshots_rise = a.snapshots_rise;
        one_snapshot = a.one_snapshot;
        restoration_ids = a.restoration_ids;
        one_restoration = a.one_restoration;
        clone_ids = a.clone_ids;
        one_clone = a.one_clone;
        one_operation = a.one_operation;
        one_target = a.one_target;
        one_made = a.one_made;
        one_name = a.one_name;
      };
      complete = λ k isin. elim (begun_came found ns n m.scheduled k isin) [
        | inl old ↦ le_trans (inv.master.complete k old) (le_of_lt before)
        | inr new ↦ subst (λ q. complete_to q + 1 ≤ n) new.1 (omega arith)
      ];
      schedule = in_added (ScheduleGood (recorded m w)) m.schedules s
          (λ t isin. schedule_on m w t (le_of_lt before) (drawn_more m.drawn) (λ k there is. (k, (begun_kept found ns n m.scheduled k there, (refl, refl)))) (ops.schedules t isin))
          (record { drawn = omega (arith, number_is); drawn_namespace = may.drawn; begun = omega (arith, low_is); scheduled = its_namespace found m changes n s before low_is ops may });
      scheduled = λ k isin. elim (begun_came found ns n m.scheduled k isin) [
        | inl old ↦ (let g = ops.scheduled k old in
            scheduled_on m w k (le_of_lt before) (drawn_more m.drawn) (floors k.namespace) (λ q there. (q, (there, same_on q))) (g.has.0, (in_first m.schedules (s ∷ []) g.has.0 g.has.1.0, g.has.1.1)) g)
        | inr new ↦ subst (ScheduledGood (recorded m w)) new.1 (subst (λ o. ScheduledGood (recorded m (with_schedule o s n m)) fresh) (sym new.0)
            (first_good m changes n s before low_is ops (subst (λ o. MayMake m o ns) new.0 may)))
      ];
      schedule_came = in_added (λ t. WasSchedule m t ⊎ NewSchedule m t) m.schedules s
          (λ t isin. inl (record { was = t; kept = isin; namespace_is = refl }))
          (inr (record { unmade = λ c isin unseen is. may.free.clone c isin (visible_later c.state unseen) is }));
      schedule_kept = λ t isin. inl (t, (in_first m.schedules (s ∷ []) t isin, (refl, refl)));
      points = λ r point k there unfinished at isin is. elim (begun_came found ns n m.scheduled k isin) [
        | inl old ↦ point_complete m changes r point k ops there unfinished at old is
        | inr new ↦ absurd (may.free.restoration r there unfinished (sym is ∙ sym (ap (λ q. q.namespace) new.1)))
      ];
      last = λ q there now unfinished k isin is lasts. (k, (begun_kept found ns n m.scheduled k isin, (is, lasts)));
      sent = λ mark isin. ops.sent mark isin;
      snapshot_came = λ q isin. inl isin;
      snapshot_kept = λ q isin. (q, (isin, same_on q));
      restoration_came = λ r isin. inl isin;
      restored = inv.journal.restored;
      one_point = inv.journal.one_point;
      awaits = λ slot present. refl;
      fences = λ slot operation h. fence_stays m w slot (ps.tablet slot).table (ps.tablet slot).done operation (λ r isin. inl isin) h;
      pendings = λ operation slot l e. pending_stays m w operation slot l (record { snapshot = λ id slot l r e at. e; restoration = λ id slot l r e at. e }) e;
      given = λ operation slot l e. pending_drawn m changes operation slot l ops e;
      unmoved = λ operation slot l r e v is. pending_unmoved m changes operation slot l r ops e v is;
    }

pub create_schedule_keeps : (ps : Parts) (activity : List Interval) (changes : List Made) (n interval retention : ℕ) (namespace slots : List ℕ) → Later (0 ∷ slots) ps n → same_slots slots [] ≡ true → Inv ps activity changes
    → KeepsAll (Change (CreateSchedule interval retention namespace) slots) n ps activity changes (create_schedule interval retention namespace ps.master)
unfolding create_schedule
create_schedule_keeps ps activity changes n interval retention namespace (slot ∷ slots) later plan inv = absurd (true≢false (sym plan))
create_schedule_keeps ps activity changes n interval retention namespace [] later plan inv =
    let m = ps.master in
    let act = Change (CreateSchedule interval retention namespace) [] in
    let before : m.clock < n = later 0 refl in
    by_judgement act n ps activity changes (judge_create_schedule interval retention namespace m) _
    (λ why. refused_keeps act why n ps activity changes later inv refl)
    (λ ns found.
    let judged = checked_is (found_namespace m namespace) (λ ns. create_schedule_checks ns interval retention m) ns found in
    let is = named_is m.catalog.namespaces namespace ns (namespace_is m namespace ns judged.0) in
    let drawn : ns.number ≤ m.drawn.namespaces = subst (λ i. i.number ≤ m.drawn.namespaces) is.id_is (inv.master.namespaces.drawn_before is.record_ is.listed) in
    let s = made_schedule ns interval retention n m in
    let k = scheduled_in m.scheduled ns in
    let may : MayMake m k ns = record { found_is = refl; drawn = drawn; free = not_held m ns judged.1.0 } in
    let w = with_schedule k s n m in
    alone_keeps act (accepts (MakesSchedule ns interval retention) [] (next_schedule m ∷ [])) n ps activity activity changes changes (recorded m w) refl refl refl refl refl
    (records_keep ps activity changes w (made_onto k ps activity changes n s before refl refl may inv) inv))

-- A schedule is deleted

abbrev deleted : Id → ℕ → Master → Records
deleted id n m = record {
  clock = n;
  schedules = without_schedule id m.schedules;
  scheduled = still_scheduled (without_schedule id m.schedules) m.scheduled;
  snapshots = m.snapshots;
  restorations = m.restorations;
  sent = m.sent;
  drawn = m.drawn;
}

deleted_floors : (m : Master) (changes : List Made) (n : ℕ) (s : Schedule) (ns : Id) → m.clock ≤ n → In s m.schedules → OperationsGood m changes → NotUsed m s.namespace → floor_of m ns m.clock ≤ floor_of (recorded m (deleted s.id n m)) ns n
deleted_floors m changes n s ns le there ops free =
    let up : floor_of m ns m.clock ≤ floor (least_low m.schedules ns n) (time_of_user m ns) n =
    floor_rises m (record m { clock = n }) ns (record { clock = le; schedules = refl; restorations = refl; clones = refl }) in
    let turns = lows_left (λ t. not (same t.id s.id)) m.schedules ns n (λ t isin. low_now t n (le_trans (ops.schedules t isin).begun le)) in
    le_trans up (floor_turns n (least_low m.schedules ns n) (least_low (without_schedule s.id m.schedules) ns n) (time_of_user m ns) turns
    (λ none. inl (no_lows (without_schedule s.id m.schedules) ns n (λ t isin is.
    let h = has_low m.schedules ns n t (filter_in m.schedules (λ t. not (same t.id s.id)) t isin).0 is in let q : Some h.0 ≡ None = sym h.1.0 ∙ none in grind arith))))

deleted_onto : (ps : Parts) (activity : List Interval) (changes : List Made) (n : ℕ) (s : Schedule) → ps.master.clock < n → In s ps.master.schedules → unfinished_of ps.master.snapshots s.namespace ≡ None → NotUsed ps.master s.namespace
    → Inv ps activity changes → Onto ps changes (deleted s.id n ps.master)
deleted_onto ps activity changes n s before there calm free inv =
    let m = ps.master in
    let w = deleted s.id n m in
    let ops = inv.operations in
    let a = ops.apart in
    let test : Schedule → Bool = λ t. not (same t.id s.id) in
    let still : ScheduledNamespace → Bool = λ k. is_some (schedule_of (filter test m.schedules) k.namespace) in
    let old : (t : Schedule) → In t (filter test m.schedules) → In t m.schedules = λ t isin. (filter_in m.schedules test t isin).0 in
    let was : (k : ScheduledNamespace) → In k (filter still m.scheduled) → In k m.scheduled = λ k isin. (filter_in m.scheduled still k isin).0 in
    let floors : (id : Id) → floor_of m id m.clock ≤ floor_of (recorded m w) id n = λ id. deleted_floors m changes n s id (le_of_lt before) there ops free in
    -- what has another namespace stays scheduled
    let others : (k : ScheduledNamespace) → In k m.scheduled → (k.namespace ≡ s.namespace → ⊥) → In k (filter still m.scheduled) = λ k isin apart. in_filter m.scheduled still k isin (
    let h = (ops.scheduled k isin).has in
    schedule_in (filter test m.schedules) h.0 k.namespace (in_filter m.schedules test h.0 h.1.0 (either_way (same h.0.id s.id)
    (λ b. absurd (apart (sym h.1.1 ∙ ap (λ t. t.namespace) (a.schedule_ids h.0 s h.1.0 there (same_equal h.0.id s.id b)))))
    (λ b. ap not b))) h.1.1) in
    record {
      clock = le_of_lt before;
      drawn = λ kind. le_refl _;
      floors = floors;
      apart = (
          let ids : Alone (λ t. t.id) (filter test m.schedules) = λ x y in_x in_y e. a.schedule_ids x y (old x in_x) (old y in_y) e in
          let one : Alone (λ k. k.namespace) (filter still m.scheduled) = λ x y in_x in_y e. a.one_scheduled x y (was x in_x) (was y in_y) e in
          assumption (ids, one, a));
      complete = λ k isin. le_trans (inv.master.complete k (was k isin)) (le_of_lt before);
      schedule = λ t isin. schedule_on m w t (le_of_lt before) (λ kind. le_refl _)
          (λ k k_in is. (k, (in_filter m.scheduled still k k_in (schedule_in (filter test m.schedules) t k.namespace isin (sym is)), (refl, refl)))) (ops.schedules t (old t isin));
      scheduled = λ k isin. (let g = ops.scheduled k (was k isin) in
          scheduled_on m w k (le_of_lt before) (λ kind. le_refl _) (floors k.namespace) (λ q q_in. (q, (q_in, same_on q)))
          (schedule_found (filter test m.schedules) k.namespace (filter_in m.scheduled still k isin).1) g);
      schedule_came = λ t isin. inl (record { was = t; kept = old t isin; namespace_is = refl });
      schedule_kept = λ t isin. either_way (same t.id s.id)
          (λ b. let e : t ≡ s = a.schedule_ids t s isin there (same_equal t.id s.id b) in inr (record {
            restoration = λ r r_in unfinished is. free.restoration r r_in unfinished (sym is ∙ ap (λ q. q.namespace) e);
            clone = λ c c_in unfinished is. free.clone c c_in unfinished (inl (sym is ∙ ap (λ q. q.namespace) e));
          }))
          (λ b. inl (t, (in_filter m.schedules test t isin (ap not b), (refl, refl))));
      points = λ r point k r_in unfinished at isin is. point_complete m changes r point k ops r_in unfinished at (was k isin) is;
      last = λ q q_in now unfinished k isin is lasts.
          (k, (others k isin (λ e. unfinished_none m.snapshots s.namespace q calm q_in unfinished (sym is ∙ e)), (is, lasts)));
      sent = λ mark isin. ops.sent mark isin;
      snapshot_came = λ q isin. inl isin;
      snapshot_kept = λ q isin. (q, (isin, same_on q));
      restoration_came = λ r isin. inl isin;
      restored = inv.journal.restored;
      one_point = inv.journal.one_point;
      awaits = λ slot present. refl;
      fences = λ slot operation h. fence_stays m w slot (ps.tablet slot).table (ps.tablet slot).done operation (λ r isin. inl isin) h;
      pendings = λ operation slot l e. pending_stays m w operation slot l (record { snapshot = λ id slot l r e at. e; restoration = λ id slot l r e at. e }) e;
      given = λ operation slot l e. pending_drawn m changes operation slot l ops e;
      unmoved = λ operation slot l r e v is. pending_unmoved m changes operation slot l r ops e v is;
    }
  where
    schedule_in : (ss : List Schedule) (t : Schedule) (ns : Id) → In t ss → t.namespace ≡ ns → is_some (schedule_of ss ns) ≡ true
    schedule_in ss t ns isin is = ap (λ i. is_some (schedule_of ss i)) (sym is) ∙ schedule_there ss t isin

    schedule_found : (ss : List Schedule) (ns : Id) → is_some (schedule_of ss ns) ≡ true → (t : Schedule) × (In t ss × (t.namespace ≡ ns))
    schedule_found ss ns e = none_or_some (schedule_of ss ns) (λ none. absurd (true≢false (sym e ∙ ap is_some none))) (λ t some. (t, schedule_of_is ss ns t some))

pub delete_schedule_keeps : (ps : Parts) (activity : List Interval) (changes : List Made) (n : ℕ) (schedule : Id) (slots : List ℕ) → Later (0 ∷ slots) ps n → same_slots slots [] ≡ true → Inv ps activity changes
    → KeepsAll (Change (DeleteSchedule schedule) slots) n ps activity changes (delete_schedule schedule ps.master)
unfolding delete_schedule
delete_schedule_keeps ps activity changes n schedule (slot ∷ slots) later plan inv = absurd (true≢false (sym plan))
delete_schedule_keeps ps activity changes n schedule [] later plan inv =
    let m = ps.master in
    let act = Change (DeleteSchedule schedule) [] in
    let before : m.clock < n = later 0 refl in
    by_judgement act n ps activity changes (judge_delete_schedule schedule m) _
    (λ why. refused_keeps act why n ps activity changes later inv refl)
    (λ s found.
    let judged = checked_is (found_schedule m schedule) (λ s. delete_schedule_checks s m) s found in
    let is = schedule_is m schedule s judged.0 in
    let neither = neither_is (user m s.namespace) (unfinished_of m.snapshots s.namespace) judged.1.0 in
    let w : Records = deleted s.id n m in
    let onto : Onto ps changes w = deleted_onto ps activity changes n s before is.0 neither.1 (not_used m s.namespace (ap is_some neither.0)) inv in
    alone_keeps act (accepts (DeletesSchedule s.id) [] []) n ps activity activity changes changes (recorded m w) refl refl refl refl refl (records_keep ps activity changes w onto inv))
