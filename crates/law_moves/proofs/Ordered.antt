-- What operations have slots do, after the switch.
use Rattle.std.proofs.Common.{ℕ, ◌≡◌, ◌≤◌, ◌<◌, List, map, Option, Some, None, true, false, ◌⊎◌, inl, inr, refl, sym, ap, subst, ◌∙◌, arith}
use Rattle.std.proofs.lemmas.Bool.{true≢false}
use Rattle.model.specs.Cluster.{Id, same, In, Interval, owner_of, RestorationRecord, Switching, Restoring, CloneRecord, is_restored, is_cloned, point_of, Master, Parts}
use Rattle.model.specs.Journal.{Change}
use Rattle.model.specs.Tablets.{Tablet, BodyKind, RestoreFromKind, HideKind, Mark, is_serving, kind_of, Command}
use Rattle.model.specs.Stands.{is_after_switch}
use Rattle.law_store.proofs.Keys.{either_way}
use Rattle.law_invariants.specs.Operations.{Uses, RestorationStateGood}
use Rattle.law_invariants.specs.Orders.{FencePlace, IsFence, IsAfter, IsMark, OrdersGood, RestorationSlot, CloneSlot, IsHome, IsTarget, restoring_stage, stage_of_restoration, operations, IsAfterIn, directory, IsFenceIn, IsOrderIn, IsMarkIn}
use Rattle.law_invariants.specs.Invariant.{SlotWorks}
use Rattle.law_invariants.proofs.Finding.{in_mapped, map_in, same_equal}
use Rattle.law_invariants.proofs.Working.{before_any}
use Rattle.law_invariants.proofs.Pending.{FindsOn, pending_stays, unfinished_restoration_is, unacked_is}
use Rattle.law_moves.proofs.Moving.{not_yet}
use Rattle.law_moves.proofs.Entering.{entering, entering_it, entering_other, enters, by_record, found_still}
use Rattle.law_moves.proofs.Viewing.{row_other}
use Rattle.law_moves.proofs.Counting.{ended_in}
use Rattle.law_moves.proofs.Switching.{IsSwitch, listed_then, turned, after, back, unfinished_yet, good_yet, slot_yet, other_namespace, not_mine, ended_there, open_was, open_on, line_is, line_of_open, activity_then}
use Rattle.law_moves.proofs.Turned.{before_other, other_restore}
use Rattle.law_invariants.proofs.Ordering.{place_left, clone_left}
use Rattle.law_invariants.proofs.Going.{place_goes, restoration_slot_goes, clone_slot_goes}

-- Fences

fence_turned : (ps : Parts) (activity : List Interval) (changes : List Change) (n : ℕ) (r : RestorationRecord) (point : ℕ) (serving_ : Id) (slot : ℕ) (operation : Id) → IsSwitch ps activity changes n r point serving_
    → IsFence ps.master slot (ps.tablet slot).table (ps.tablet slot).done operation → IsFence (turned ps.master r point serving_ n) slot (ps.tablet slot).table (ps.tablet slot).done operation
fence_turned ps activity changes n r point serving_ slot operation s (inr h) = inr h
fence_turned ps activity changes n r point serving_ slot operation s (inl h) =
    let m = ps.master in
    let L = listed_then m r point serving_ in
    let f = entering r (Restoring point serving_) L in
    let x = h.restoration in
    either_way (same x.id r.id)
    (λ b.
    let one : x ≡ r = s.inv.operations.apart.restoration_ids x r h.kept s.there (same_equal x.id r.id b) in
    let q : FencePlace (Switching point serving_) r m slot (ps.tablet slot).done = subst (λ st. FencePlace st r m slot (ps.tablet slot).done) s.is (subst (λ x. FencePlace x.state x m slot (ps.tablet slot).done) one h.place) in
    let k = line_of_open ps activity changes r point serving_ q.0 s.inv q.1.0 in
    inl (record {
      restoration = back m r point serving_;
      kept = subst (λ q. In q (map f m.restorations)) (entering_it r (Restoring point serving_) L) (map_in {A = RestorationRecord} {B = RestorationRecord} f m.restorations r s.there);
      id_is = ap (λ y. y.id) (sym one) ∙ h.id_is;
      owned = h.owned ∙ ap (λ y. Some y.namespace) one;
      place = (k.line, (k.listed, (k.slot_is ∙ q.1.1, inr (not_yet ps activity changes r slot HideKind s.inv s.there (let e : stage_of_restoration r.state ≡ 1 = ap stage_of_restoration s.is in omega arith)))));
    }))
    (λ b. inl (record {
      restoration = x;
      kept = subst (λ q. In q (map f m.restorations)) (entering_other r (Restoring point serving_) L x b) (map_in {A = RestorationRecord} {B = RestorationRecord} f m.restorations x h.kept);
      id_is = h.id_is;
      owned = h.owned;
      place = place_goes x.state x m.activity (activity_then m r point) m.catalog.owners m.catalog.owners slot (ps.tablet slot).done
          (λ open_ i opened at. open_on m r point serving_ n x.namespace i (λ e. other_namespace ps activity changes n r point serving_ x s h.kept b open_ e) opened) h.place;
    }))

-- Clocks

after_turned : (ps : Parts) (activity : List Interval) (changes : List Change) (n : ℕ) (r : RestorationRecord) (point : ℕ) (serving_ : Id) (clock : ℕ) (operation : Id) (kind : BodyKind) → IsSwitch ps activity changes n r point serving_
    → IsAfter ps.master clock operation kind → IsAfter (turned ps.master r point serving_ n) clock operation kind
after_turned ps activity changes n r point serving_ clock operation kind s h =
    let m = ps.master in
    let L = listed_then m r point serving_ in
    let f = entering r (Restoring point serving_) L in
    let one = s.inv.operations.apart.restoration_ids in
    let restoration : (r' : RestorationRecord) → In r' ((map (entering r (Restoring point serving_) (listed_then ps.master r point serving_)) ps.master.restorations)) → r'.id ≡ operation → r'.to < clock = λ q there. in_mapped {A = RestorationRecord} {B = RestorationRecord} f (λ q. q.id ≡ operation → q.to < clock) m.restorations
    (λ x isin. by_record (λ x q. q.id ≡ operation → q.to < clock) m r (Restoring point serving_) L x one s.there isin (λ e. h.restoration r s.there e) (λ b e. h.restoration x isin e)) q there in
    let point_now : (r' : RestorationRecord) (at : ℕ) → In r' ((map (entering r (Restoring point serving_) (listed_then ps.master r point serving_)) ps.master.restorations)) → r'.id ≡ operation → point_of r'.state ≡ Some at → is_after_switch kind ≡ true → at < clock = λ q at there. in_mapped {A = RestorationRecord} {B = RestorationRecord} f (λ q. q.id ≡ operation → point_of q.state ≡ Some at → is_after_switch kind ≡ true → at < clock) m.restorations
    (λ x isin. by_record (λ x q. q.id ≡ operation → point_of q.state ≡ Some at → is_after_switch kind ≡ true → at < clock) m r (Restoring point serving_) L x one s.there isin
    (λ e p k. h.point r at s.there e (ap point_of s.is ∙ p) k) (λ b e p k. h.point x at isin e p k)) q there in
    assumption (restoration, point_now)

mark_turned : (ps : Parts) (activity : List Interval) (changes : List Change) (n : ℕ) (r : RestorationRecord) (point : ℕ) (serving_ : Id) (clock : ℕ) (mark : Mark) → IsSwitch ps activity changes n r point serving_ → IsMark ps.master clock mark
    → IsMark (turned ps.master r point serving_ n) clock mark
mark_turned ps activity changes n r point serving_ clock mark s h =
    let m = ps.master in
    let L = listed_then m r point serving_ in
    let f = entering r (Restoring point serving_) L in
    let after_now : IsAfterIn (operations (turned ps.master r point serving_ n)) clock mark.operation mark.kind = after_turned ps activity changes n r point serving_ clock mark.operation mark.kind s h.after in
    let by_restoration : (r' : RestorationRecord) → In r' ((map (entering r (Restoring point serving_) (listed_then ps.master r point serving_)) ps.master.restorations)) → r'.id ≡ mark.operation → restoring_stage mark.kind ≤ stage_of_restoration r'.state = λ q there. in_mapped {A = RestorationRecord} {B = RestorationRecord} f (λ q. q.id ≡ mark.operation → restoring_stage mark.kind ≤ stage_of_restoration q.state) m.restorations
    (λ x isin. by_record (λ x q. q.id ≡ mark.operation → restoring_stage mark.kind ≤ stage_of_restoration q.state) m r (Restoring point serving_) L x s.inv.operations.apart.restoration_ids s.there isin
    (λ e. (let l = h.by_restoration r s.there e in let k : stage_of_restoration r.state ≡ 1 = ap stage_of_restoration s.is in omega arith)) (λ b e. h.by_restoration x isin e)) q there in
    assumption (after_now, by_restoration)

orders_turned : (ps : Parts) (activity : List Interval) (changes : List Change) (n : ℕ) (r : RestorationRecord) (point : ℕ) (serving_ : Id) (slot : ℕ) → IsSwitch ps activity changes n r point serving_ → OrdersGood (turned ps.master r point serving_ n) slot (ps.tablet slot)
orders_turned ps activity changes n r point serving_ slot s =
    let m = ps.master in
    let t = ps.tablet slot in
    let h = (s.inv.works slot).orders in
    let L = listed_then m r point serving_ in
    let w = enters r (Restoring point serving_) L n m in
    let one = s.inv.operations.apart.restoration_ids in
    let none = (good_yet ps activity changes n r point serving_ s).empty in
    let finds : FindsOn m w = record {
      snapshot = λ id slot l q found at. found;
      restoration = λ id slot l q found at. (
          let k = unfinished_restoration_is m.restorations id q found in
          either_way (same q.id r.id)
          (λ b.
          let e : q ≡ r = one q r k.0 s.there (same_equal q.id r.id b) in
          let u = unacked_is q.listed slot l at in
          absurd (subst (In l) none (subst (λ x. In l x.listed) e u.0)))
          (λ b. found_still m.restorations r (Restoring point serving_) L id q (λ x isin is. ap (λ k. is_restored k.state) (one x r isin s.there is) ∙ unfinished_yet ps activity changes n r point serving_ s) found b));
    } in
    let fences : (operation : Id) → (ps.tablet slot).fence ≡ Some operation → IsFenceIn (directory (turned ps.master r point serving_ n)) slot (ps.tablet slot).table (ps.tablet slot).done operation = λ operation is. fence_turned ps activity changes n r point serving_ slot operation s (h.fences operation is) in
    let orders : (c : Command) → In c (ps.tablet slot).inbox → IsOrderIn (operations (turned ps.master r point serving_ n)) slot (ps.tablet slot).clock c = λ c isin. (let g = h.orders c isin in record {
      is_pending = pending_stays m w c.operation slot _ finds g.is_pending;
      after = after_turned ps activity changes n r point serving_ t.clock c.operation (kind_of c.body) s g.after;
    }) in
    let marks : (mark : Mark) → In mark (ps.tablet slot).done → IsMarkIn ps.master.drawn (operations (turned ps.master r point serving_ n)) (ps.tablet slot).clock mark = λ mark isin. mark_turned ps activity changes n r point serving_ t.clock mark s (h.marks mark isin) in
    assumption (fences, orders, marks)

-- What tablets did

slot_state : (ps : Parts) (activity : List Interval) (changes : List Change) (n : ℕ) (r : RestorationRecord) (point : ℕ) (serving_ : Id) (x : RestorationRecord) (slot : ℕ) (t : Tablet) → (is_restored x.state ≡ false → x.namespace ≡ r.namespace → ⊥)
    → RestorationStateGood x.state ps.master changes x → RestorationSlot x.state ps.master changes x slot t → RestorationSlot x.state (turned ps.master r point serving_ n) (after r point changes) x slot t
slot_state ps activity changes n r point serving_ x slot t apart good = restoration_slot_goes x.state x ps.master.activity (activity_then ps.master r point) ps.master.catalog.owners ps.master.catalog.owners changes (after r point changes) slot t
    (λ open_ i opened. open_was ps.master r point serving_ n x.namespace i (apart open_) opened)
    (λ p served e. before_other r point changes x.namespace p (other_restore r point x.namespace p (apart (ap is_restored e)))
    ∙ before_any changes x.namespace p (after r point changes) changes (subst (λ st. RestorationStateGood st ps.master changes x) e good).switched)

-- a listed tablet that serves is fenced
back_fenced : (ps : Parts) (activity : List Interval) (changes : List Change) (n : ℕ) (r : RestorationRecord) (point : ℕ) (serving_ : Id) (slot : ℕ) (i : Interval) → IsSwitch ps activity changes n r point serving_ → In i ps.master.activity → i.slot ≡ slot
    → owner_of ps.master.catalog.owners i.table ≡ Some r.namespace → is_serving (ps.tablet slot).presence ≡ true → (ps.tablet slot).fence ≡ Some r.id
back_fenced ps activity changes n r point serving_ slot i s isin at owner serves = by_fence (ps.tablet slot).fence refl
  where
    by_fence : (fence : Option Id) → (ps.tablet slot).fence ≡ fence → (ps.tablet slot).fence ≡ Some r.id
    by_fence None e =
        let g = (s.inv.slots slot).each i isin at in
        let o = (s.inv.slots slot).opens serves e in
        let p = (s.inv.slots slot).each o.interval o.listed o.slot_is in
        (slot_yet ps activity changes n r point serving_ slot s).fenced o.interval
        (record { kept = o.listed; opened = o.opened; owned = ap (owner_of ps.master.catalog.owners) (sym p.table_is ∙ g.table_is) ∙ owner }) o.slot_is
    by_fence (Some operation) e =
        let g = (s.inv.slots slot).each i isin at in
        let mine : owner_of ps.master.catalog.owners (ps.tablet slot).table ≡ Some r.namespace = ap (owner_of ps.master.catalog.owners) g.table_is ∙ owner in
        elim ((s.inv.works slot).orders.fences operation e) [
          | inl h ↦ (
              let q : Some h.restoration.namespace ≡ Some r.namespace = sym h.owned ∙ mine in
              let same_ : h.restoration.namespace ≡ r.namespace = cc in
              let one : h.restoration ≡ r = s.inv.operations.apart.one_restoration h.restoration r h.kept s.there (place_left h.restoration.state h.restoration ps.master slot (ps.tablet slot).done h.place) (unfinished_yet ps activity changes n r point serving_ s) same_ in
              e ∙ ap Some (sym h.id_is ∙ ap (λ y. y.id) one))
          | inr h ↦ absurd (
              let q : Some h.clone.target_id ≡ Some r.namespace = sym h.owned ∙ mine in
              let same_ : h.clone.target_id ≡ r.namespace = cc in
              s.inv.operations.apart.one_operation r h.clone s.there h.kept (unfinished_yet ps activity changes n r point serving_ s) (clone_left h.clone.state h.clone slot (ps.tablet slot).done h.place) (inr same_))
        ]

back_slot : (ps : Parts) (activity : List Interval) (changes : List Change) (n : ℕ) (r : RestorationRecord) (point : ℕ) (serving_ : Id) (slot : ℕ) → IsSwitch ps activity changes n r point serving_
    → RestorationSlot (Restoring point serving_) (turned ps.master r point serving_ n) (after r point changes) (back ps.master r point serving_) slot (ps.tablet slot)
back_slot ps activity changes n r point serving_ slot s = λ l isin at. (
    let k = line_is ps.master r point serving_ l isin in
    let e : stage_of_restoration r.state ≡ 1 = ap stage_of_restoration s.is in
    record {
      acked = λ acked. absurd (true≢false (sym acked ∙ ap (λ z. z.acked) (sym k.is)));
      fenced = λ serves. back_fenced ps activity changes n r point serving_ slot k.interval s k.kept (ap (λ z. z.slot) k.is ∙ at) k.owned serves;
      restored = λ is did. absurd (true≢false (sym did ∙ not_yet ps activity changes r slot RestoreFromKind s.inv s.there (omega (arith, e))));
      hidden = λ is did. absurd (true≢false (sym did ∙ not_yet ps activity changes r slot HideKind s.inv s.there (omega (arith, e))));
    })

clone_slot : (ps : Parts) (activity : List Interval) (changes : List Change) (n : ℕ) (r : RestorationRecord) (point : ℕ) (serving_ : Id) (c : CloneRecord) (slot : ℕ) (t : Tablet) → IsSwitch ps activity changes n r point serving_ → In c ps.master.clones
    → (is_cloned c.state ≡ false → Uses c r.namespace → ⊥) → CloneSlot c.state ps.master changes c slot t → CloneSlot c.state (turned ps.master r point serving_ n) (after r point changes) c slot t
clone_slot ps activity changes n r point serving_ c slot t s isin unused = clone_slot_goes c.state c ps.master.catalog.owners ps.master.catalog.owners changes (after r point changes) slot t (λ of. of)
    (λ served at d key e listed. row_other ps.master.catalog.owners changes r.namespace d.source point r.to c.to key s.inv.master.tables.inside
    (not_mine ps.master r.namespace c.source d.source ((s.inv.operations.clones c isin).owned d listed) (λ z. unused (ap is_cloned e) (inl z))))

home_turned : (m : Master) (r : RestorationRecord) (point : ℕ) (serving_ : Id) (n slot : ℕ) (tablet : Id) → IsHome m slot tablet ⊎ IsTarget m slot tablet → IsHome (turned m r point serving_ n) slot tablet ⊎ IsTarget (turned m r point serving_ n) slot tablet
home_turned m r point serving_ n slot tablet (inl h) = inl (record { interval = ended_in m.catalog.owners r.namespace point h.interval; kept = ended_there m r point h.interval h.kept; slot_is = h.slot_is; tablet_is = h.tablet_is })
home_turned m r point serving_ n slot tablet (inr h) = inr h

pub works_turned : (ps : Parts) (activity : List Interval) (changes : List Change) (n : ℕ) (r : RestorationRecord) (point : ℕ) (serving_ : Id) (slot : ℕ) → IsSwitch ps activity changes n r point serving_
    → SlotWorks (turned ps.master r point serving_ n) (after r point changes) slot (ps.tablet slot)
works_turned ps activity changes n r point serving_ slot s =
    let m = ps.master in
    let t = ps.tablet slot in
    let h = (s.inv.works slot).obeyed in
    let L = listed_then m r point serving_ in
    record {
      orders = orders_turned ps activity changes n r point serving_ slot s;
      obeyed = record {
        drawn_table = h.drawn_table;
        home = λ present. home_turned m r point serving_ n slot t.tablet (h.home present);
        snapshots = h.snapshots;
        restorations = λ q there. in_mapped {A = RestorationRecord} {B = RestorationRecord} (entering r (Restoring point serving_) L) (λ q. RestorationSlot q.state (turned m r point serving_ n) (after r point changes) q slot t) m.restorations
            (λ x isin. by_record (λ x q. RestorationSlot q.state (turned m r point serving_ n) (after r point changes) q slot t) m r (Restoring point serving_) L x s.inv.operations.apart.restoration_ids s.there isin
            (back_slot ps activity changes n r point serving_ slot s)
            (λ b. slot_state ps activity changes n r point serving_ x slot t (λ open_ e. other_namespace ps activity changes n r point serving_ x s isin b open_ e) (s.inv.operations.restorations x isin).in_state (h.restorations x isin))) q there;
        clones = λ c isin. clone_slot ps activity changes n r point serving_ c slot t s isin
            (λ open_ uses. s.inv.operations.apart.one_operation r c s.there isin (unfinished_yet ps activity changes n r point serving_ s) open_ uses) (h.clones c isin);
      };
    }
