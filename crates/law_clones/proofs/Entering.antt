-- A clone's record enters its next state, while the catalog and the tablets' activity stay.
use Rattle.std.proofs.Common.{ℕ, ◌≡◌, ◌≤◌, ◌<◌, List, [], ◌∷◌, map, Option, Some, None, true, false, cond, ◌&&◌, ◌⊎◌, inl, inr, refl, sym, ap, subst, ◌∙◌, arith, not, le_trans}
use Rattle.std.specs.Option.{option_and_then}
use Rattle.std.proofs.lemmas.Bool.{true≢false}
use Rattle.model.specs.Cluster.{Kind, CloneKind as Clone, Id, same, In, Interval, Tablet, Mark, Release, BodyKind, FenceKind, ReleaseKind, kind_of, Listed, CloneRecord, CloneState, Copying, Sent, is_cloned, is_visible, unsent, unacked_at, Master, Parts}
use Rattle.model.specs.Journal.{Change}
use Rattle.model.specs.Stands.{copied_at}
use Rattle.model.specs.Coordination.{pending, pending_of, unfinished_clone}
use Rattle.law_store.proofs.Keys.{either_way}
use Rattle.law_invariants.specs.Operations.{Uses, OperationsApart, OperationsGood, CloneStateGood, CloneGood, IsSent}
use Rattle.law_invariants.specs.Orders.{ClonePlace, IsFence, IsAfter, IsMark, OrdersGood, CloneSlot, IsHome, IsTarget, ObeyedGood, cloning_stage, stage_of_clone}
use Rattle.law_invariants.specs.Invariant.{Inv}
use Rattle.law_invariants.proofs.Finding.{same_equal, same_self, in_mapped, map_in, filter_in, first_fails}
use Rattle.law_invariants.proofs.Ticking.{not_true}
use Rattle.law_invariants.proofs.Using.{mapped_is, alone_mapped}
use Rattle.law_invariants.proofs.Pending.{unfinished_clone_is, unacked_is}
use Rattle.law_clones.proofs.Beside.{with_clones, FloorsRise, scheduled_beside, snapshot_beside, forgotten_beside, master_beside, slot_beside}
use Rattle.law_clones.proofs.Users.{users_floors}

-- which record enters which state, with the tablets that it lists there
pub record Step : Type 0 where
  pub clone : CloneRecord
  pub state : CloneState
  pub listed : List Listed

abbrev pub now : Step → CloneRecord
now v = record v.clone { listed = v.listed; state = v.state }

abbrev pub entering : Step → CloneRecord → CloneRecord
entering v x = record x { listed = cond (same x.id v.clone.id) v.listed x.listed; state = cond (same x.id v.clone.id) v.state x.state }

abbrev pub entered : Step → List CloneRecord → List CloneRecord
entered v cs = map (entering v) cs

abbrev pub stepped : Master → Step → Master
stepped m v = with_clones m (entered v m.clones) (unsent v.clone.id m.sent)

-- what a move asks of the records of clones
pub record Steps (cs : List CloneRecord) (v : Step) : Type 0 where
  pub kept : In v.clone cs
  pub kind_is : v.clone.id.kind ≡ Clone
  pub unfinished : is_cloned v.clone.state ≡ false
  pub acked : (l : Listed) → In l v.clone.listed → l.acked ≡ true
  -- a target that is current stays so
  pub seen : is_visible v.state ≡ false → is_visible v.clone.state ≡ false
  pub stage : stage_of_clone v.clone.state ≤ stage_of_clone v.state
  pub copied : (at : ℕ) → copied_at v.state ≡ Some at → (copied_at v.clone.state ≡ Some at) ⊎ (stage_of_clone v.clone.state ≡ 0)
  -- what is to be released was not released before
  pub released : (l : Listed) (at : ℕ) → In l v.listed → l.body ≡ Release at → stage_of_clone v.clone.state ≤ 1

-- and of the one that was and the one that is, where the target doesn't become current
pub record Enters (ps : Parts) (changes : List Change) (v : Step) : Type 0 where
  pub steps : Steps ps.master.clones v
  pub still : (serving : Id) (at : ℕ) → v.clone.state ≡ Copying serving at → ⊥
  pub drawn_listed : (l : Listed) → In l v.listed → l.tablet.number ≤ ps.master.drawn.tablets
  pub in_state : CloneStateGood v.state (stepped ps.master v) (now v)
  pub slots : (slot : ℕ) → CloneSlot v.state (stepped ps.master v) changes (now v) slot (ps.tablet slot)
  pub place : (slot : ℕ) → ClonePlace v.clone.state v.clone slot (ps.tablet slot).done → ClonePlace v.state (now v) slot (ps.tablet slot).done

-- The records after the move

entering_now : (v : Step) → entering v v.clone ≡ now v
entering_now v = let with_it : List Listed → CloneState → CloneRecord = λ ls state. record v.clone { listed = ls; state = state } in
    ap (λ b. with_it (cond b v.listed v.clone.listed) (cond b v.state v.clone.state)) (same_self v.clone.id)

entering_same : (v : Step) (x : CloneRecord) → same x.id v.clone.id ≡ false → entering v x ≡ x
entering_same v x other = let with_it : List Listed → CloneState → CloneRecord = λ ls state. record x { listed = ls; state = state } in
    ap (λ b. with_it (cond b v.listed x.listed) (cond b v.state x.state)) other

pub by_entering : (P : CloneRecord → Type 0) (v : Step) (cs : List CloneRecord) → ((x y : CloneRecord) → In x cs → In y cs → x.id ≡ y.id → x ≡ y) → In v.clone cs → P (now v)
    → ((x : CloneRecord) → In x cs → same x.id v.clone.id ≡ false → P x) → (x : CloneRecord) → In x (entered v cs) → P x
by_entering P v cs ids kept here others = in_mapped {A = CloneRecord} {B = CloneRecord} (entering v) P cs (λ x isin. either_way (same x.id v.clone.id)
    (λ b. let one : x ≡ v.clone = ids x v.clone isin kept (same_equal x.id v.clone.id b) in subst P (sym (ap (entering v) one ∙ entering_now v)) here)
    (λ b. subst P (sym (entering_same v x b)) (others x isin b)))

pub now_in : (v : Step) (cs : List CloneRecord) → In v.clone cs → In (now v) (entered v cs)
now_in v cs kept = subst (λ k. In k (entered v cs)) (entering_now v) (map_in {A = CloneRecord} {B = CloneRecord} (entering v) cs v.clone kept)

pub other_in : (v : Step) (cs : List CloneRecord) (x : CloneRecord) → In x cs → same x.id v.clone.id ≡ false → In x (entered v cs)
other_in v cs x isin b = subst (λ k. In k (entered v cs)) (entering_same v x b) (map_in {A = CloneRecord} {B = CloneRecord} (entering v) cs x isin)

module _ (m : Master) (v : Step) (w : Steps m.clones v) (a : OperationsApart m.schedules m.scheduled m.snapshots m.restorations m.clones) where
  -- what a record is, of which one knows what it is now

  open_was : (x : CloneRecord) → In x m.clones → is_cloned (entering v x).state ≡ false → is_cloned x.state ≡ false
  open_was x isin open_ = either_way (same x.id v.clone.id)
      (λ b. ap (λ k. is_cloned k.state) (a.clone_ids x v.clone isin w.kept (same_equal x.id v.clone.id b)) ∙ w.unfinished)
      (λ b. ap (λ k. is_cloned k.state) (sym (entering_same v x b)) ∙ open_)

  seen_was : (x : CloneRecord) → In x m.clones → is_visible (entering v x).state ≡ false → is_visible x.state ≡ false
  seen_was x isin dark = either_way (same x.id v.clone.id)
      (λ b. let one = a.clone_ids x v.clone isin w.kept (same_equal x.id v.clone.id b) in
      ap (λ k. is_visible k.state) one ∙ w.seen (ap (λ k. is_visible k.state) (sym (ap (entering v) one ∙ entering_now v)) ∙ dark))
      (λ b. ap (λ k. is_visible k.state) (sym (entering_same v x b)) ∙ dark)

  pub entered_apart : OperationsApart m.schedules m.scheduled m.snapshots m.restorations (entered v m.clones)
  entered_apart =
      let cs = m.clones in
      let was : (x : CloneRecord) → In x (entered v cs) → (y : CloneRecord) × (In y cs × (entering v y ≡ x)) = λ x isin. mapped_is {A = CloneRecord} (entering v) cs x isin in
      let opens : (y x : CloneRecord) → In y cs → entering v y ≡ x → is_cloned x.state ≡ false → is_cloned y.state ≡ false = λ y x isin e open_. open_was y isin (ap (λ k. is_cloned k.state) e ∙ open_) in
      let unseen : (y x : CloneRecord) → In y cs → entering v y ≡ x → is_visible x.state ≡ false → is_visible y.state ≡ false = λ y x isin e dark. seen_was y isin (ap (λ k. is_visible k.state) e ∙ dark) in
      record {
        schedule_ids = a.schedule_ids;
        one_scheduled = a.one_scheduled;
        snapshots_rise = a.snapshots_rise;
        one_snapshot = a.one_snapshot;
        restoration_ids = a.restoration_ids;
        one_restoration = a.one_restoration;
        clone_ids = alone_mapped {A = CloneRecord} (λ c. c.id) (entering v) cs (λ c. refl) a.clone_ids;
        one_clone = λ c d ns in_c in_d open_c open_d use_c use_d. (
            let x = was c in_c in
            let y = was d in_d in
            sym x.1.1
            ∙ ap (entering v) (a.one_clone x.0 y.0 ns x.1.0 y.1.0 (opens x.0 c x.1.0 x.1.1 open_c) (opens y.0 d y.1.0 y.1.1 open_d) (subst (λ k. Uses k ns) (sym x.1.1) use_c) (subst (λ k. Uses k ns) (sym y.1.1) use_d))
            ∙ y.1.1);
        one_operation = λ r c in_r in_c open_r open_c used. (let x = was c in_c in a.one_operation r x.0 in_r x.1.0 open_r (opens x.0 c x.1.0 x.1.1 open_c) (subst (λ k. Uses k r.namespace) (sym x.1.1) used));
        one_target = λ c d p q in_c in_d open_c open_d in_p in_q e. (
            let x = was c in_c in
            let y = was d in_d in
            sym x.1.1
            ∙ ap (entering v) (a.one_target x.0 y.0 p q x.1.0 y.1.0 (opens x.0 c x.1.0 x.1.1 open_c) (opens y.0 d y.1.0 y.1.1 open_d) (subst (λ k. In p k.tablets) (sym x.1.1) in_p) (subst (λ k. In q k.tablets) (sym y.1.1) in_q) e)
            ∙ y.1.1);
        one_made = λ c d p q in_c in_d dark_c dark_d in_p in_q e. (
            let x = was c in_c in
            let y = was d in_d in
            sym x.1.1
            ∙ ap (entering v) (a.one_made x.0 y.0 p q x.1.0 y.1.0 (unseen x.0 c x.1.0 x.1.1 dark_c) (unseen y.0 d y.1.0 y.1.1 dark_d) (subst (λ k. In p k.tablets) (sym x.1.1) in_p) (subst (λ k. In q k.tablets) (sym y.1.1) in_q) e)
            ∙ y.1.1);
        one_name = λ c d in_c in_d dark_c dark_d e. (
            let x = was c in_c in
            let y = was d in_d in
            sym x.1.1 ∙ ap (entering v) (a.one_name x.0 y.0 x.1.0 y.1.0 (unseen x.0 c x.1.0 x.1.1 dark_c) (unseen y.0 d y.1.0 y.1.1 dark_d) (ap (λ k. k.target) x.1.1 ∙ e ∙ sym (ap (λ k. k.target) y.1.1))) ∙ y.1.1);
      }

  pub entered_floors : FloorsRise m (stepped m v)
  entered_floors = users_floors m (entered v m.clones) (unsent v.clone.id m.sent) a.one_clone
      (λ d ns isin uses open_.
      let x = mapped_is {A = CloneRecord} (entering v) m.clones d isin in
      (x.0, (x.1.0, (subst (λ k. Uses k ns) (sym x.1.1) uses, (open_was x.0 x.1.0 (ap (λ k. is_cloned k.state) x.1.1 ∙ open_), ap (λ k. k.to) x.1.1)))))

-- The record that entered

entered_good : (ps : Parts) (changes : List Change) (v : Step) → Enters ps changes v → CloneGood ps.master changes v.clone → CloneGood (stepped ps.master v) changes (now v)
entered_good ps changes v w h = let m = ps.master in let cs = entered v m.clones in let s = unsent v.clone.id m.sent in record {
  kind_is = h.kind_is;
  drawn = h.drawn;
  drawn_source = h.drawn_source;
  drawn_target = h.drawn_target;
  apart = h.apart;
  past = h.past;
  pairs = λ p paired. (let g = h.pairs p paired in record { slot_from = g.slot_from; slot_to = g.slot_to; drawn = g.drawn; drawn_table = g.drawn_table; owned = g.owned });
  drawn_listed = w.drawn_listed;
  one_slot = h.one_slot;
  one_target = h.one_target;
  one_table = h.one_table;
  tables_apart = h.tables_apart;
  owned = h.owned;
  drawn_sources = h.drawn_sources;
  covers = h.covers;
  scheduled = λ unfinished. h.scheduled w.steps.unfinished;
  sources = λ unfinished p paired. h.sources w.steps.unfinished p paired;
  reserved = λ unseen p paired. h.reserved (w.steps.seen unseen) p paired;
  no_tablet = λ unseen. h.no_tablet (w.steps.seen unseen);
  no_table = λ unseen. h.no_table (w.steps.seen unseen);
  no_namespace = λ unseen. h.no_namespace (w.steps.seen unseen);
  no_schedule = λ unseen. h.no_schedule (w.steps.seen unseen);
  unfixed = λ unfinished. h.unfixed w.steps.unfinished;
  in_state = w.in_state;
}

-- What is pending

found_then : {A : Type 0} {P : Type 0} (o : Option A) (f : A → Option Listed) (l : Listed) → option_and_then f o ≡ Some l → ((a : A) → o ≡ Some a → f a ≡ Some l → P) → P
found_then None f l e go = absurd (let q = e in grind arith)
found_then (Some a) f l e go = go a refl e

found_beside : (cs : List CloneRecord) (v : Step) (id : Id) (q : CloneRecord) → unfinished_clone cs id ≡ Some q → same id v.clone.id ≡ false → unfinished_clone (entered v cs) id ≡ Some q
found_beside [] v id q e other = absurd (let k = e in grind arith)
found_beside (x ∷ cs) v id q e other = either_way (same x.id id)
    (λ named.
    let stays : entering v x ≡ x = entering_same v x (ap (λ i. same i v.clone.id) (same_equal x.id id named) ∙ other) in
    ap (λ y. cond (same y.id id && not (is_cloned y.state)) (Some y) (unfinished_clone (entered v cs) id)) stays
    ∙ either_way (same x.id id && not (is_cloned x.state))
    (λ b. let k : Some x ≡ Some q = rw b at e in ap (λ c. cond c (Some x) (unfinished_clone (entered v cs) id)) b ∙ k)
    (λ b. let k : unfinished_clone cs id ≡ Some q = rw b at e in ap (λ c. cond c (Some x) (unfinished_clone (entered v cs) id)) b ∙ found_beside cs v id q k other))
    (λ named.
    let b = first_fails (same x.id id) (not (is_cloned x.state)) named in
    let k : unfinished_clone cs id ≡ Some q = sym (ap (λ c. cond c (Some x) (unfinished_clone cs id)) b) ∙ e in
    ap (λ c. cond c (Some (entering v x)) (unfinished_clone (entered v cs) id)) (first_fails (same x.id id) (not (is_cloned (entering v x).state)) named) ∙ found_beside cs v id q k other)

pub from_one : (kind : BodyKind) (n : ℕ) → cloning_stage kind ≤ n → n ≡ 0 → ⊥
from_one FenceKind n le e = omega arith
from_one _ n le e = omega arith

module _ (m : Master) (v : Step) (w : Steps m.clones v) (a : OperationsApart m.schedules m.scheduled m.snapshots m.restorations m.clones) where
  -- it is of no clone that listed only what was acked
  pending_other : (slot : ℕ) (l : Listed) (q : CloneRecord) → In q m.clones → unacked_at q.listed slot ≡ Some l → same q.id v.clone.id ≡ false
  pending_other slot l q isin at = either_way (same q.id v.clone.id)
      (λ b.
      let one : q ≡ v.clone = a.clone_ids q v.clone isin w.kept (same_equal q.id v.clone.id b) in
      let u = unacked_is q.listed slot l at in
      absurd (true≢false (sym (w.acked l (subst (λ x. In l x.listed) one u.0)) ∙ u.1)))
      (λ b. b)

  pending_by : (kind : Kind) (operation : Id) (slot : ℕ) (l : Listed) → pending_of kind m.snapshots m.restorations m.clones operation slot ≡ Some l → pending_of kind (stepped m v).snapshots (stepped m v).restorations (stepped m v).clones operation slot ≡ Some l
  pending_by Clone operation slot l e = found_then (unfinished_clone m.clones operation) (λ r. unacked_at r.listed slot) l e
      (λ r found at.
      let k = unfinished_clone_is m.clones operation r found in
      let other = ap (λ i. same i v.clone.id) (sym k.1.0) ∙ pending_other slot l r k.0 at in
      ap (option_and_then {T = CloneRecord} (λ q. unacked_at q.listed slot)) (found_beside m.clones v operation r found other) ∙ at)
  pending_by _ operation slot l e = e

  unmoved_by : (kind : Kind) (operation : Id) (slot : ℕ) (l : Listed) → kind ≡ Clone → pending_of kind m.snapshots m.restorations m.clones operation slot ≡ Some l → v.clone.id ≡ operation → ⊥
  unmoved_by Clone operation slot l kind e is = found_then (unfinished_clone m.clones operation) (λ r. unacked_at r.listed slot) l e
      (λ r found at.
      let k = unfinished_clone_is m.clones operation r found in
      true≢false (sym (ap (λ i. same i v.clone.id) (k.1.0 ∙ sym is) ∙ same_self v.clone.id) ∙ pending_other slot l r k.0 at))
  unmoved_by _ operation slot l kind e is = let q = kind in grind arith

  pending_unmoved : (operation : Id) (slot : ℕ) (l : Listed) → pending m operation slot ≡ Some l → v.clone.id ≡ operation → ⊥
  pending_unmoved operation slot l e is = unmoved_by operation.kind operation slot l (ap (λ i. i.kind) (sym is) ∙ w.kind_is) e is

  -- Commands, marks and fences

  -- of the clone's commands none is from before the copies, and none a release
  after_entering : (clock : ℕ) (operation : Id) (kind : BodyKind) → (v.clone.id ≡ operation → cloning_stage kind ≤ stage_of_clone v.clone.state) → IsAfter m clock operation kind → IsAfter (stepped m v) clock operation kind
  after_entering clock operation kind given h = record {
    snapshot = h.snapshot;
    restoration = h.restoration;
    point = h.point;
    copied = λ c at isin. by_entering (λ c. c.id ≡ operation → copied_at c.state ≡ Some at → at < clock) v m.clones a.clone_ids w.kept
        (λ is e. elim (w.copied at e) [ inl old ↦ h.copied v.clone at w.kept is old | inr none ↦ absurd (from_one kind (stage_of_clone v.clone.state) (given is) none) ])
        (λ x there other. h.copied x at there) c isin;
    released = λ c l at isin. by_entering (λ c. c.id ≡ operation → In l c.listed → l.body ≡ Release at → kind ≡ ReleaseKind → at < clock) v m.clones a.clone_ids w.kept
        (λ is lists body of. absurd (let l1 = w.released l at lists body in let l2 : 2 ≤ stage_of_clone v.clone.state = subst (λ k. cloning_stage k ≤ stage_of_clone v.clone.state) of (given is) in omega arith))
        (λ x there other. h.released x l at there) c isin;
  }

  mark_entering : (clock : ℕ) (mark : Mark) → IsMark m clock mark → IsMark (stepped m v) clock mark
  mark_entering clock mark g = record {
    drawn = g.drawn;
    after = after_entering clock mark.operation mark.kind (λ is. g.by_clone v.clone w.kept is) g.after;
    by_snapshot = g.by_snapshot;
    by_restoration = g.by_restoration;
    by_clone = λ c isin. by_entering (λ c. c.id ≡ mark.operation → cloning_stage mark.kind ≤ stage_of_clone c.state) v m.clones a.clone_ids w.kept
        (λ is. le_trans (g.by_clone v.clone w.kept is) w.stage) (λ x there other. g.by_clone x there) c isin;
  }

  -- where its own fences go on
  abbrev pub Places : ℕ → List Mark → Type 0
  Places slot done = ClonePlace v.clone.state v.clone slot done → ClonePlace v.state (now v) slot done

  fence_entering : (slot : ℕ) (done : List Mark) (table operation : Id) → Places slot done → IsFence m slot table done operation → IsFence (stepped m v) slot table done operation
  fence_entering slot done table operation goes (inl h) = inl h
  fence_entering slot done table operation goes (inr h) = either_way (same h.clone.id v.clone.id)
      (λ b.
      let one : h.clone ≡ v.clone = a.clone_ids h.clone v.clone h.kept w.kept (same_equal h.clone.id v.clone.id b) in
      inr (record {
        clone = now v;
        kept = now_in v m.clones w.kept;
        id_is = ap (λ c. c.id) (sym one) ∙ h.id_is;
        owned = h.owned ∙ ap (λ c. Some c.target_id) one;
        place = goes (subst (λ c. ClonePlace c.state c slot done) one h.place);
      }))
      (λ b. inr (record { clone = h.clone; kept = other_in v m.clones h.clone h.kept b; id_is = h.id_is; owned = h.owned; place = h.place }))

  pub orders_entering : (slot : ℕ) (t : Tablet) → Places slot t.done → OrdersGood m slot t → OrdersGood (stepped m v) slot t
  orders_entering slot t goes h = record {
    fences = λ operation is. fence_entering slot t.done t.table operation goes (h.fences operation is);
    orders = λ c isin. (let g = h.orders c isin in record {
      is_pending = pending_by c.operation.kind c.operation slot _ g.is_pending;
      after = after_entering t.clock c.operation (kind_of c.body) (λ is. absurd (pending_unmoved c.operation slot _ g.is_pending is)) g.after;
    });
    once = h.once;
    fresh = h.fresh;
    marks = λ mark isin. mark_entering t.clock mark (h.marks mark isin);
    holds = h.holds;
    frozen = h.frozen;
    sets = h.sets;
    bare = h.bare;
  }

  -- Sent marks

  pub sent_entering : ((mark : Sent) → In mark m.sent → IsSent m.snapshots m.restorations m.clones mark) → (mark : Sent) → In mark (unsent v.clone.id m.sent) → IsSent m.snapshots m.restorations (entered v m.clones) mark
  sent_entering were mark isin =
      let left = filter_in m.sent (λ s. not (same s.operation v.clone.id)) mark isin in
      let other : same mark.operation v.clone.id ≡ false = not_true (same mark.operation v.clone.id) left.1 in
      elim (were mark left.0) [
        | inl of ↦ inl of
        | inr rest ↦ elim rest [
          | inl of ↦ inr (inl of)
          | inr of ↦ inr (inr (of.0, (other_in v m.clones of.0 of.1.0 (ap (λ i. same i v.clone.id) of.1.1.0 ∙ other), of.1.1)))
        ]
      ]

home_entering : (ps : Parts) (changes : List Change) (v : Step) (slot : ℕ) (tablet : Id) → Enters ps changes v → OperationsGood ps.master changes → IsHome ps.master slot tablet ⊎ IsTarget ps.master slot tablet
    → IsHome (stepped ps.master v) slot tablet ⊎ IsTarget (stepped ps.master v) slot tablet
home_entering ps changes v slot tablet w ops (inl h) = inl h
home_entering ps changes v slot tablet w ops (inr h) = either_way (same h.clone.id v.clone.id)
    (λ b.
    let one : h.clone ≡ v.clone = ops.apart.clone_ids h.clone v.clone h.kept w.steps.kept (same_equal h.clone.id v.clone.id b) in
    absurd (w.still h.serving h.at (ap (λ c. c.state) (sym one) ∙ h.state_is)))
    (λ b. inr (record {
      clone = h.clone;
      kept = other_in v ps.master.clones h.clone h.kept b;
      serving = h.serving;
      at = h.at;
      state_is = h.state_is;
      pair = h.pair;
      paired = h.paired;
      slot_is = h.slot_is;
      tablet_is = h.tablet_is;
    }))

obeyed_entering : (ps : Parts) (changes : List Change) (v : Step) (slot : ℕ) → Enters ps changes v → OperationsGood ps.master changes → ObeyedGood ps.master changes slot (ps.tablet slot) → ObeyedGood (stepped ps.master v) changes slot (ps.tablet slot)
obeyed_entering ps changes v slot w ops h = let m = ps.master in let cs = entered v m.clones in let s = unsent v.clone.id m.sent in let t = ps.tablet slot in record {
  drawn_table = h.drawn_table;
  home = λ present. home_entering ps changes v slot t.tablet w ops (h.home present);
  snapshots = h.snapshots;
  restorations = h.restorations;
  clones = λ c isin. by_entering (λ c. CloneSlot c.state (stepped m v) changes c slot t) v m.clones ops.apart.clone_ids w.steps.kept (w.slots slot)
      (λ x there other. h.clones x there) c isin;
}

-- The whole

pub entering_keeps : (ps : Parts) (activity : List Interval) (changes : List Change) (v : Step) → Enters ps changes v → Inv ps activity changes → Inv (record { master = stepped ps.master v; tablet = ps.tablet }) activity changes
entering_keeps ps activity changes v w inv =
    let m = ps.master in
    let cs = entered v m.clones in
    let s = unsent v.clone.id m.sent in
    let ops = inv.operations in
    let floors = entered_floors m v w.steps ops.apart in
    record {
      master = master_beside m cs s changes inv.master;
      remembered = (let h = inv.remembered in record {
        part = h.part;
        each = λ i isin. elim (h.each i isin) [ inl here ↦ inl here | inr gone ↦ inr (forgotten_beside m cs s i floors gone) ];
        drawn = h.drawn;
        drawn_table = h.drawn_table;
        reserved = λ c p i isin. by_entering (λ c. is_visible c.state ≡ false → In p c.tablets → In i activity → (i.tablet ≡ p.target → ⊥) × (i.table ≡ p.table → ⊥)) v m.clones ops.apart.clone_ids w.steps.kept
            (λ unseen paired there. h.reserved v.clone p i w.steps.kept (w.steps.seen unseen) paired there) (λ x there other. h.reserved x p i there) c isin;
      });
      cover = inv.cover;
      slots = λ slot. slot_beside m cs s changes slot (ps.tablet slot) (inv.slots slot);
      operations = record {
        kept = λ ns. le_trans (ops.kept ns) (floors ns);
        owners = ops.owners;
        apart = entered_apart m v w.steps ops.apart;
        schedules = ops.schedules;
        scheduled = λ k isin. scheduled_beside m cs s k floors (ops.scheduled k isin);
        snapshots = λ q isin. snapshot_beside m cs s q floors (ops.snapshots q isin);
        restorations = ops.restorations;
        clones = λ c isin. by_entering (λ c. CloneGood (stepped m v) changes c) v m.clones ops.apart.clone_ids w.steps.kept (entered_good ps changes v w (ops.clones v.clone w.steps.kept))
            (λ x there other. ops.clones x there) c isin;
        sent = sent_entering m v w.steps ops.apart ops.sent;
      };
      journal = inv.journal;
      rows_past = inv.rows_past;
      works = λ slot. (let h = inv.works slot in record { orders = orders_entering m v w.steps ops.apart slot (ps.tablet slot) (w.place slot) h.orders; obeyed = obeyed_entering ps changes v slot w ops h.obeyed });
    }
