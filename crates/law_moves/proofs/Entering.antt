-- A restoration's record enters a state: what is asked of the record there gives what holds of all.
use Rattle.std.proofs.Common.{ℕ, ◌≡◌, ◌≤◌, List, [], ◌∷◌, map, Option, Some, None, true, false, cond, ◌&&◌, ◌⊎◌, inl, inr, refl, sym, ap, subst, ◌∙◌, arith, not, le_trans, le_refl, lt_of_lt_of_le, ◌<◌}
use Rattle.std.specs.Option.{option_map, option_or}
use Rattle.std.proofs.lemmas.Bool.{true≢false}
use Rattle.model.specs.Cluster.{Id, same, In, Interval, owner_of, Mark, is_empty, Listed, RestorationRecord, RestorationState, Fencing, CloneRecord, is_restored, point_of, unsent, is_cloned, Schedule, Master, Parts}
use Rattle.model.specs.Journal.{Change}
use Rattle.model.specs.Schedules.{floor, least_low}
use Rattle.model.specs.Stands.{awaited_in, awaited_of}
use Rattle.model.specs.Coordination.{unfinished_restoration}
use Rattle.model.specs.Operations.{restoration_of, clone_with, time_of_user}
use Rattle.model.specs.Cleanup.{floor_of}
use Rattle.law_store.proofs.Keys.{either_way}
use Rattle.law_invariants.specs.Operations.{OperationsApart, has_switched, IsSwitchedBy, Alone, Uses, AfterRowsOf, IsKnown, RestorationStateGood}
use Rattle.law_invariants.specs.Orders.{FencePlace, RestorationSlot, stage_of_restoration}
use Rattle.law_invariants.specs.Invariant.{Inv}
use Rattle.law_invariants.proofs.Finding.{same_equal, same_self, filter_in, in_mapped, map_in, passes_both}
use Rattle.law_invariants.proofs.Remembering.{floor_rises}
use Rattle.law_invariants.proofs.Ticking.{not_true}
use Rattle.law_invariants.proofs.Recording.{same_on, Records, recorded, RestorationCame, Onto, NewRestoration, MovedRestoration}
use Rattle.law_invariants.proofs.Staying.{schedule_on, scheduled_on}
use Rattle.law_invariants.proofs.Slots.{parts_with, records_keep}
use Rattle.law_invariants.proofs.Pending.{point_complete, pending_drawn, pending_unmoved, pending_stays, fence_stays, unfinished_restoration_is, unacked_is}
use Rattle.law_invariants.proofs.Using.{mapped_is, alone_mapped}

abbrev pub entered : RestorationRecord → RestorationState → List Listed → RestorationRecord
entered r state listed = record r { listed = listed; state = state }

abbrev pub entering : RestorationRecord → RestorationState → List Listed → RestorationRecord → RestorationRecord
entering r state listed x = record x { listed = cond (same x.id r.id) listed x.listed; state = cond (same x.id r.id) state x.state }

abbrev pub enters : RestorationRecord → RestorationState → List Listed → ℕ → Master → Records
enters r state listed n m = record {
  clock = n;
  schedules = m.schedules;
  scheduled = m.scheduled;
  snapshots = m.snapshots;
  restorations = map (entering r state listed) m.restorations;
  sent = unsent r.id m.sent;
  drawn = m.drawn;
}

pub entering_it : (r : RestorationRecord) (state : RestorationState) (listed : List Listed) → entering r state listed r ≡ entered r state listed
entering_it r state listed =
    let with_it : List Listed → RestorationState → RestorationRecord = λ ls st. record r { listed = ls; state = st } in
    ap (λ b. with_it (cond b listed r.listed) (cond b state r.state)) (same_self r.id)

pub entering_other : (r : RestorationRecord) (state : RestorationState) (listed : List Listed) (x : RestorationRecord) → same x.id r.id ≡ false → entering r state listed x ≡ x
entering_other r state listed x other =
    let with_it : List Listed → RestorationState → RestorationRecord = λ ls st. record x { listed = ls; state = st } in
    ap (λ b. with_it (cond b listed x.listed) (cond b state x.state)) other

-- what is asked of a restoration that enters a state
pub record Enters (ps : Parts) (changes : List Change) (n : ℕ) (r : RestorationRecord) (state : RestorationState) (listed : List Listed) : Type 0 where
  pub there : In r ps.master.restorations
  pub unfinished : is_restored r.state ≡ false
  pub acked : (l : Listed) → In l r.listed → l.acked ≡ true
  pub clock : ps.master.clock ≤ n
  pub floors : (ns : Id) → floor_of ps.master ns ps.master.clock ≤ floor_of (recorded ps.master (enters r state listed n ps.master)) ns n
  pub moving : state ≡ Fencing → ⊥
  -- one that has switched stays so, with its point, and no other of its namespace has the point
  pub switched : has_switched r.state ≡ true → (has_switched state ≡ true) × (point_of state ≡ point_of r.state)
  pub one_point : (q : RestorationRecord) (at : ℕ) → In q ps.master.restorations → q.namespace ≡ r.namespace → point_of q.state ≡ Some at → point_of state ≡ Some at → q ≡ r
  pub stage : stage_of_restoration r.state ≤ stage_of_restoration state
  pub point : (at : ℕ) → point_of state ≡ Some at → (point_of r.state ≡ Some at) ⊎ (stage_of_restoration r.state ≡ 1)
  pub undone : (at : ℕ) → point_of state ≡ Some at → AfterRowsOf ps.master.catalog.owners r.namespace at changes
  pub unawaited : (tablet : Id) (done : List Mark) → awaited_of state (entered r state listed) tablet done ≡ None
  pub settled : (slot : ℕ) → is_empty (ps.tablet slot).presence ≡ false → awaited_of r.state r (ps.tablet slot).tablet (ps.tablet slot).done ≡ None
  pub known : (l : Listed) → In l listed → IsKnown ps.master l
  pub listed_of : (l : Listed) (i : Interval) → In l listed → In i ps.master.activity → i.tablet ≡ l.tablet → owner_of ps.master.catalog.owners i.table ≡ Some r.namespace
  pub state_good : RestorationStateGood state (recorded ps.master (enters r state listed n ps.master)) changes (entered r state listed)
  pub slots : (slot : ℕ) → RestorationSlot state (recorded ps.master (enters r state listed n ps.master)) changes (entered r state listed) slot (ps.tablet slot)
  pub place : (slot : ℕ) → FencePlace r.state r ps.master slot (ps.tablet slot).done → FencePlace state (entered r state listed) (recorded ps.master (enters r state listed n ps.master)) slot (ps.tablet slot).done

-- a record whose state is changed, or that stays
pub by_record : (P : RestorationRecord → RestorationRecord → Type 0) (m : Master) (r : RestorationRecord) (state : RestorationState) (listed : List Listed) (x : RestorationRecord) → Alone (λ r. r.id) m.restorations → In r m.restorations → In x m.restorations
    → P r (entered r state listed) → (same x.id r.id ≡ false → P x x) → P x (entering r state listed x)
by_record P m r state listed x one there isin it others = either_way (same x.id r.id)
    (λ b. let e : x ≡ r = one x r isin there (same_equal x.id r.id b) in
    subst (λ k. P k (entering r state listed k)) (sym e) (subst (P r) (sym (entering_it r state listed)) it))
    (λ b. subst (P x) (sym (entering_other r state listed x b)) (others b))

pub found_still : (rs : List RestorationRecord) (r : RestorationRecord) (state : RestorationState) (listed : List Listed) (id : Id) (q : RestorationRecord) → ((x : RestorationRecord) → In x rs → x.id ≡ r.id → is_restored x.state ≡ false)
    → unfinished_restoration rs id ≡ Some q → same q.id r.id ≡ false → unfinished_restoration (map (entering r state listed) rs) id ≡ Some q
found_still [] r state listed id q open_ e other = absurd (let k = e in grind arith)
found_still (x ∷ rs) r state listed id q open_ e other = either_way (same x.id r.id)
    (λ s. either_way (same x.id id)
    (λ b.
    let still : is_restored x.state ≡ false = open_ x (inl refl) (same_equal x.id r.id s) in
    let k : Some x ≡ Some q = sym (ap (λ c. cond c (Some x) (unfinished_restoration rs id)) (passes_both (same x.id id) (not (is_restored x.state)) b (ap not still))) ∙ e in
    let first : x ≡ q = cc in
    absurd (true≢false (sym s ∙ ap (λ y. same y.id r.id) first ∙ other)))
    (λ b.
    let k : unfinished_restoration rs id ≡ Some q = sym (ap (λ c. cond (c && not (is_restored x.state)) (Some x) (unfinished_restoration rs id)) b) ∙ e in
    ap (λ c. cond (c && not (is_restored (entering r state listed x).state)) (Some (entering r state listed x)) (unfinished_restoration (map (entering r state listed) rs) id)) b
    ∙ found_still rs r state listed id q (λ y isin is. open_ y (inr isin) is) k other))
    (λ s.
    let stays = entering_other r state listed x s in
    ap (λ y. cond (same y.id id && not (is_restored y.state)) (Some y) (unfinished_restoration (map (entering r state listed) rs) id)) stays
    ∙ either_way (same x.id id && not (is_restored x.state))
    (λ b. ap (λ c. cond c (Some x) (unfinished_restoration (map (entering r state listed) rs) id)) b ∙ sym (ap (λ c. cond c (Some x) (unfinished_restoration rs id)) b) ∙ e)
    (λ b.
    let k : unfinished_restoration rs id ≡ Some q = sym (ap (λ c. cond c (Some x) (unfinished_restoration rs id)) b) ∙ e in
    ap (λ c. cond c (Some x) (unfinished_restoration (map (entering r state listed) rs) id)) b ∙ found_still rs r state listed id q (λ y isin is. open_ y (inr isin) is) k other))

pub awaited_mapped : (rs : List RestorationRecord) (f : RestorationRecord → RestorationRecord) (tablet : Id) (done : List Mark) → ((x : RestorationRecord) → In x rs → awaited_of (f x).state (f x) tablet done ≡ awaited_of x.state x tablet done)
    → awaited_in (map f rs) tablet done ≡ awaited_in rs tablet done
awaited_mapped [] f tablet done each = refl
awaited_mapped (x ∷ rs) f tablet done each =
    ap (λ a. option_or a (awaited_in (map f rs) tablet done)) (each x (inl refl)) ∙ ap (option_or (awaited_of x.state x tablet done)) (awaited_mapped rs f tablet done (λ y isin. each y (inr isin)))

-- the records go on to be each of their own
pub entered_apart : (m : Master) (r : RestorationRecord) (state : RestorationState) (listed : List Listed) → In r m.restorations → is_restored r.state ≡ false → OperationsApart m.schedules m.scheduled m.snapshots m.restorations m.clones
    → OperationsApart m.schedules m.scheduled m.snapshots (map (entering r state listed) m.restorations) m.clones
entered_apart m r state listed there unfinished a =
    let f = entering r state listed in
    let open_was : (x : RestorationRecord) → In x m.restorations → is_restored (f x).state ≡ false → is_restored x.state ≡ false = λ x isin.
    by_record (λ x y. is_restored y.state ≡ false → is_restored x.state ≡ false) m r state listed x a.restoration_ids there isin (λ k. unfinished) (λ b k. k) in
    let restoration_ids : Alone (λ r. r.id) (map (entering r state listed) m.restorations) = alone_mapped {A = RestorationRecord} (λ r. r.id) f m.restorations (λ x. refl) a.restoration_ids in
    let one_restoration : (q r' : RestorationRecord) → In q (map (entering r state listed) m.restorations) → In r' (map (entering r state listed) m.restorations) → is_restored q.state ≡ false → is_restored r'.state ≡ false → q.namespace ≡ r'.namespace → q ≡ r' = λ q s in_q in_s open_q open_s is. (
    let x = mapped_is {A = RestorationRecord} f m.restorations q in_q in
    let y = mapped_is {A = RestorationRecord} f m.restorations s in_s in
    let one = a.one_restoration x.0 y.0 x.1.0 y.1.0 (open_was x.0 x.1.0 (ap (λ k. is_restored k.state) x.1.1 ∙ open_q)) (open_was y.0 y.1.0 (ap (λ k. is_restored k.state) y.1.1 ∙ open_s))
    (ap (λ k. k.namespace) x.1.1 ∙ is ∙ sym (ap (λ k. k.namespace) y.1.1)) in
    sym x.1.1 ∙ ap f one ∙ y.1.1) in
    let one_operation : (r' : RestorationRecord) (c : CloneRecord) → In r' (map (entering r state listed) m.restorations) → In c m.clones → is_restored r'.state ≡ false → is_cloned c.state ≡ false → Uses c r'.namespace → ⊥ = λ q c in_q in_c open_q open_c uses. (
    let x = mapped_is {A = RestorationRecord} f m.restorations q in_q in
    a.one_operation x.0 c x.1.0 in_c (open_was x.0 x.1.0 (ap (λ k. is_restored k.state) x.1.1 ∙ open_q)) open_c (subst (Uses c) (sym (ap (λ k. k.namespace) x.1.1)) uses)) in
    assumption (restoration_ids, one_restoration, one_operation)

-- points go on to differ
pub entered_points : (m : Master) (r : RestorationRecord) (state : RestorationState) (listed : List Listed) → Alone (λ r. r.id) m.restorations → In r m.restorations
    → ((q s : RestorationRecord) (at : ℕ) → In q m.restorations → In s m.restorations → q.namespace ≡ s.namespace → point_of q.state ≡ Some at → point_of s.state ≡ Some at → q ≡ s)
    → ((q : RestorationRecord) (at : ℕ) → In q m.restorations → q.namespace ≡ r.namespace → point_of q.state ≡ Some at → point_of state ≡ Some at → q ≡ r)
    → (q s : RestorationRecord) (at : ℕ) → In q (map (entering r state listed) m.restorations) → In s (map (entering r state listed) m.restorations) → q.namespace ≡ s.namespace → point_of q.state ≡ Some at → point_of s.state ≡ Some at → q ≡ s
entered_points m r state listed one_id there old free = let f = entering r state listed in
    λ q s at in_q in_s is at_q at_s. (
    let x = mapped_is {A = RestorationRecord} f m.restorations q in_q in
    let y = mapped_is {A = RestorationRecord} f m.restorations s in_s in
    let named = ap (λ k. k.namespace) x.1.1 ∙ is ∙ sym (ap (λ k. k.namespace) y.1.1) in
    let one : x.0 ≡ y.0 =
    by_record (λ x z. point_of z.state ≡ Some at → x.namespace ≡ y.0.namespace → x ≡ y.0) m r state listed x.0 one_id there x.1.0
    (λ p k. by_record (λ y z. point_of z.state ≡ Some at → r.namespace ≡ y.namespace → r ≡ y) m r state listed y.0 one_id there y.1.0
    (λ o j. refl) (λ b o j. sym (free y.0 at y.1.0 (sym j) o p)) (ap (λ k. point_of k.state) y.1.1 ∙ at_s) k)
    (λ b p k. by_record (λ y z. point_of z.state ≡ Some at → x.0.namespace ≡ y.namespace → x.0 ≡ y) m r state listed y.0 one_id there y.1.0
    (λ o j. free x.0 at x.1.0 j p o) (λ c o j. old x.0 y.0 at x.1.0 y.1.0 j p o) (ap (λ k. point_of k.state) y.1.1 ∙ at_s) k)
    (ap (λ k. point_of k.state) x.1.1 ∙ at_q) named in
    sym x.1.1 ∙ ap f one ∙ y.1.1)

entered_came : (ps : Parts) (activity : List Interval) (changes : List Change) (n : ℕ) (r : RestorationRecord) (state : RestorationState) (listed : List Listed) → Enters ps changes n r state listed → Inv ps activity changes
    → RestorationCame ps changes (enters r state listed n ps.master) (entered r state listed)
entered_came ps activity changes n r state listed e inv =
    let h = inv.operations.restorations r e.there in
    let how : NewRestoration ps.master (entered r state listed) ⊎ MovedRestoration ps.master changes (entered r state listed) = inr (record {
      was = r;
      kept = e.there;
      id_is = refl;
      to_is = refl;
      acked = e.acked;
      unfinished = e.unfinished;
      stage = e.stage;
      point = e.point;
      moving = e.moving;
      undone = e.undone;
    }) in
    let past : (entered r state listed).to < n = lt_of_lt_of_le h.past e.clock in
    let scheduled : is_restored (entered r state listed).state ≡ false → (s : Schedule) × (In s ps.master.schedules × ((s.id ≡ (entered r state listed).schedule) × (s.namespace ≡ (entered r state listed).namespace))) = λ unfinished. h.scheduled e.unfinished in
    let known : is_restored (entered r state listed).state ≡ false → (l : Listed) → In l (entered r state listed).listed → IsKnown (recorded ps.master (enters r state listed n ps.master)) l = λ unfinished l isin. e.known l isin in
    let in_state : RestorationStateGood (entered r state listed).state (recorded ps.master (enters r state listed n ps.master)) changes (entered r state listed) = e.state_good in
    assumption (how, past, scheduled, known, in_state)

pub entered_onto : (ps : Parts) (activity : List Interval) (changes : List Change) (n : ℕ) (r : RestorationRecord) (state : RestorationState) (listed : List Listed) → Enters ps changes n r state listed → Inv ps activity changes
    → Onto ps changes (enters r state listed n ps.master)
entered_onto ps activity changes n r state listed e inv =
    let m = ps.master in
    let w = enters r state listed n m in
    let f = entering r state listed in
    let ops = inv.operations in
    let a = ops.apart in
    record {
      clock = e.clock;
      drawn = λ kind. le_refl _;
      floors = e.floors;
      apart = entered_apart m r state listed e.there e.unfinished a;
      complete = λ t isin. le_trans (inv.master.complete t isin) e.clock;
      schedule = λ t isin. schedule_on m w t e.clock (λ kind. le_refl _) (λ k there is. (k, (there, (refl, refl)))) (ops.schedules t isin);
      scheduled = λ k isin. (let g = ops.scheduled k isin in scheduled_on m w k e.clock (λ kind. le_refl _) (e.floors k.namespace) (λ q q_in. (q, (q_in, same_on q))) g.has g);
      schedule_came = λ t isin. inl (record { was = t; kept = isin; namespace_is = refl });
      schedule_kept = λ t isin. inl (t, (isin, (refl, refl)));
      points = λ k point t in_k unfinished at isin is. point_complete m changes k point t ops in_k unfinished at isin is;
      last = λ q in_q now unfinished t isin is lasts. (t, (isin, (is, lasts)));
      sent = λ mark isin. (
          let k = filter_in m.sent (λ s. not (same s.operation r.id)) mark isin in
          elim (ops.sent mark k.0) [
            | inl q ↦ inl q
            | inr more ↦ elim more [
              | inl q ↦ inr (inl (q.0, (subst (λ x. In x w.restorations) (entering_other r state listed q.0 (ap (λ i. same i r.id) q.1.1.0 ∙ not_true (same mark.operation r.id) k.1)) (map_in {A = RestorationRecord} {B = RestorationRecord} f m.restorations q.0 q.1.0), q.1.1)))
              | inr c ↦ inr (inr c)
            ]
          ]);
      snapshot_came = λ q isin. inl isin;
      snapshot_kept = λ q isin. (q, (isin, same_on q));
      restoration_came = in_mapped {A = RestorationRecord} {B = RestorationRecord} f (λ q. In q m.restorations ⊎ RestorationCame ps changes w q) m.restorations
          (λ x isin. by_record (λ x y. In y m.restorations ⊎ RestorationCame ps changes w y) m r state listed x a.restoration_ids e.there isin (inr (entered_came ps activity changes n r state listed e inv)) (λ b. inl isin));
      restored = λ ns at is. (let k = inv.journal.restored ns at is in
          by_record (λ x y. In y w.restorations → x.namespace ≡ ns → point_of x.state ≡ Some at → has_switched x.state ≡ true → IsSwitchedBy w.restorations ns at) m r state listed k.restoration a.restoration_ids e.there k.kept
          (λ there named p s. let q = e.switched s in record { restoration = entered r state listed; kept = there; namespace_is = named; point_is = q.1 ∙ p; switched = q.0 })
          (λ b there named p s. record { restoration = k.restoration; kept = there; namespace_is = named; point_is = p; switched = s })
          (map_in {A = RestorationRecord} {B = RestorationRecord} f m.restorations k.restoration k.kept) k.namespace_is k.point_is k.switched);
      one_point = entered_points m r state listed a.restoration_ids e.there inv.journal.one_point e.one_point;
      awaits = λ slot present. awaited_mapped m.restorations f (ps.tablet slot).tablet (ps.tablet slot).done
          (λ x isin. by_record (λ x y. awaited_of y.state y (ps.tablet slot).tablet (ps.tablet slot).done ≡ awaited_of x.state x (ps.tablet slot).tablet (ps.tablet slot).done) m r state listed x a.restoration_ids e.there isin
          (e.unawaited (ps.tablet slot).tablet (ps.tablet slot).done ∙ sym (e.settled slot present)) (λ b. refl));
      fences = λ slot operation h. fence_stays m w slot (ps.tablet slot).table (ps.tablet slot).done operation
          (λ x isin. either_way (same x.id r.id)
          (λ b.
          let one : r ≡ x = sym (a.restoration_ids x r isin e.there (same_equal x.id r.id b)) in
          let there : In (entered r state listed) w.restorations = subst (λ q. In q w.restorations) (entering_it r state listed) (map_in {A = RestorationRecord} {B = RestorationRecord} f m.restorations r e.there) in
          inr (subst (λ x. (k : RestorationRecord) × (In k w.restorations × ((k.id ≡ x.id) × ((k.namespace ≡ x.namespace) × (FencePlace x.state x m slot (ps.tablet slot).done → FencePlace k.state k (recorded m w) slot (ps.tablet slot).done))))) one
          (entered r state listed, (there, (refl, (refl, e.place slot))))))
          (λ b. inl (subst (λ q. In q w.restorations) (entering_other r state listed x b) (map_in {A = RestorationRecord} {B = RestorationRecord} f m.restorations x isin)))) h;
      pendings = λ operation slot l is. pending_stays m w operation slot l
          (record {
            snapshot = λ id slot l q found at. found;
            restoration = λ id slot l q found at. (
                let k = unfinished_restoration_is m.restorations id q found in
                either_way (same q.id r.id)
                (λ b.
                let one : q ≡ r = a.restoration_ids q r k.0 e.there (same_equal q.id r.id b) in
                let u = unacked_is q.listed slot l at in
                absurd (true≢false (sym (e.acked l (subst (λ x. In l x.listed) one u.0)) ∙ u.1)))
                (λ b. found_still m.restorations r state listed id q (λ x isin is. ap (λ k. is_restored k.state) (a.restoration_ids x r isin e.there is) ∙ e.unfinished) found b));
          }) is;
      given = λ operation slot l is. pending_drawn m changes operation slot l ops is;
      unmoved = λ operation slot l q is v named. pending_unmoved m changes operation slot l q ops is v named;
    }

pub entered_keeps : (ps : Parts) (activity : List Interval) (changes : List Change) (n : ℕ) (r : RestorationRecord) (state : RestorationState) (listed : List Listed) → Enters ps changes n r state listed → Inv ps activity changes
    → Inv (parts_with ps (enters r state listed n ps.master)) activity changes
entered_keeps ps activity changes n r state listed e inv = records_keep ps activity changes (enters r state listed n ps.master) (entered_onto ps activity changes n r state listed e inv) inv

-- Floors

pub times_stay : (rs : List RestorationRecord) (f : RestorationRecord → RestorationRecord) (ns : Id) → ((x : RestorationRecord) → In x rs → ((f x).to ≡ x.to) × ((same (f x).namespace ns && not (is_restored (f x).state)) ≡ (same x.namespace ns && not (is_restored x.state))))
    → option_map {T = RestorationRecord} (λ r. r.to) (restoration_of (map f rs) ns) ≡ option_map {T = RestorationRecord} (λ r. r.to) (restoration_of rs ns)
times_stay [] f ns each = refl
times_stay (x ∷ rs) f ns each =
    let here = each x (inl refl) in
    let time : Option RestorationRecord → Option ℕ = option_map {T = RestorationRecord} (λ r. r.to) in
    ap (λ c. time (cond c (Some (f x)) (restoration_of (map f rs) ns))) here.1
    ∙ either_way (same x.namespace ns && not (is_restored x.state))
    (λ b. ap (λ c. time (cond c (Some (f x)) (restoration_of (map f rs) ns))) b ∙ ap Some here.0 ∙ sym (ap (λ c. time (cond c (Some x) (restoration_of rs ns))) b))
    (λ b. ap (λ c. time (cond c (Some (f x)) (restoration_of (map f rs) ns))) b ∙ times_stay rs f ns (λ y isin. each y (inr isin)) ∙ sym (ap (λ c. time (cond c (Some x) (restoration_of rs ns))) b))

-- while a restoration goes on the floors stay
pub going_floors : (m : Master) (n : ℕ) (r : RestorationRecord) (state : RestorationState) (listed : List Listed) (ns : Id) → m.clock ≤ n → Alone (λ r. r.id) m.restorations → In r m.restorations → is_restored r.state ≡ false → is_restored state ≡ false
    → floor_of m ns m.clock ≤ floor_of (recorded m (enters r state listed n m)) ns n
going_floors m n r state listed ns le one there unfinished still =
    let up : floor_of m ns m.clock ≤ floor (least_low m.schedules ns n) (time_of_user m ns) n =
    floor_rises m (record m { clock = n }) ns (record { clock = le; schedules = refl; restorations = refl; clones = refl }) in
    let f = entering r state listed in
    let times : option_map {T = RestorationRecord} (λ r. r.to) (restoration_of (map f m.restorations) ns) ≡ option_map {T = RestorationRecord} (λ r. r.to) (restoration_of m.restorations ns) = times_stay m.restorations f ns
    (λ x isin. (refl, by_record (λ x y. (same x.namespace ns && not (is_restored y.state)) ≡ (same x.namespace ns && not (is_restored x.state))) m r state listed x one there isin (ap (λ b. same r.namespace ns && not b) (still ∙ sym unfinished)) (λ b. refl))) in
    let here : floor_of (recorded m (enters r state listed n m)) ns n ≡ floor (least_low m.schedules ns n) (time_of_user m ns) n =
    ap (λ t. floor (least_low m.schedules ns n) (option_or t (option_map {T = CloneRecord} (λ c. c.to) (clone_with m.clones ns))) n) times in
    subst (λ y. floor_of m ns m.clock ≤ y) (sym here) up
