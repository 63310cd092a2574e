-- A clone is accepted: its record is added to the others.
use Rattle.std.proofs.Common.{ℕ, ◌≡◌, ◌≤◌, ◌<◌, List, [], ◌∷◌, ◌++◌, Option, Some, None, false, ◌&&◌, ◌⊎◌, inl, inr, refl, sym, ap, subst, ◌∙◌, arith, not, le_trans}
use Rattle.std.specs.Option.{option_and_then}
use Rattle.model.specs.Cluster.{Kind, CloneKind as Clone, Id, same, In, Interval, Mark, Release, BodyKind, kind_of, Listed, RestorationRecord, TabletPair, CloneRecord, Accepted, is_restored, is_cloned, is_visible, unacked_at, Master, Parts}
use Rattle.model.specs.Journal.{Change}
use Rattle.model.specs.Stands.{copied_at}
use Rattle.model.specs.Coordination.{pending_of, unfinished_clone}
use Rattle.law_store.proofs.Keys.{either_way}
use Rattle.law_invariants.specs.Operations.{Uses, OperationsApart, OperationsGood, CloneGood}
use Rattle.law_invariants.specs.Orders.{IsFence, IsAfter, OrdersGood, CloneSlot, IsHome, IsTarget, ReservedSlot, cloning_stage, stage_of_clone}
use Rattle.law_invariants.specs.Invariant.{Inv}
use Rattle.law_invariants.proofs.Finding.{in_added, in_first}
use Rattle.law_invariants.proofs.Using.{alone_added}
use Rattle.law_clones.proofs.Beside.{with_clones, FloorsRise, scheduled_beside, snapshot_beside, forgotten_beside, master_beside, slot_beside}

abbrev pub adding : Master → CloneRecord → Master
adding m c = with_clones m (m.clones ++ c ∷ []) m.sent

-- what is asked of a new clone
pub record Adds (ps : Parts) (activity : List Interval) (changes : List Change) (c : CloneRecord) : Type 0 where
  pub accepted : c.state ≡ Accepted
  pub empty : c.listed ≡ []
  pub other : (d : CloneRecord) → In d ps.master.clones → d.id ≡ c.id → ⊥
  pub unmarked : (slot : ℕ) (mark : Mark) → In mark (ps.tablet slot).done → mark.operation ≡ c.id → ⊥
  pub floors : FloorsRise ps.master (adding ps.master c)
  pub unused : (d : CloneRecord) (ns : Id) → In d ps.master.clones → is_cloned d.state ≡ false → Uses d ns → Uses c ns → ⊥
  pub unrestored : (r : RestorationRecord) → In r ps.master.restorations → is_restored r.state ≡ false → Uses c r.namespace → ⊥
  pub slots_apart : (d : CloneRecord) (p q : TabletPair) → In d ps.master.clones → is_cloned d.state ≡ false → In p d.tablets → In q c.tablets → p.slot ≡ q.slot → ⊥
  pub targets_apart : (d : CloneRecord) (p q : TabletPair) → In d ps.master.clones → In p d.tablets → In q c.tablets → p.target ≡ q.target → ⊥
  pub names_apart : (d : CloneRecord) → In d ps.master.clones → is_visible d.state ≡ false → d.target ≡ c.target → ⊥
  pub fresh : (p : TabletPair) (i : Interval) → In p c.tablets → In i activity → (i.tablet ≡ p.target → ⊥) × (i.table ≡ p.table → ⊥)
  pub good : CloneGood (adding ps.master c) changes c
  pub vacant : (slot : ℕ) → ReservedSlot c slot (ps.tablet slot)

-- the last of a list of two kinds

added_cases : {A : Type 0} {P : A → A → Type 0} (xs : List A) (c : A) → ((x y : A) → In x xs → In y xs → P x y) → ((x : A) → In x xs → P x c) → ((x : A) → In x xs → P c x) → P c c → (x y : A) → In x (xs ++ c ∷ []) → In y (xs ++ c ∷ []) → P x y
added_cases {A} {P} xs c both first second last x y in_x in_y =
    in_added (λ x. (y : A) → In y (xs ++ c ∷ []) → P x y) xs c
    (λ x isin. in_added (λ y. P x y) xs c (λ y there. both x y isin there) (first x isin))
    (in_added (λ y. P c y) xs c second last) x in_x y in_y

added_apart : (ps : Parts) (activity : List Interval) (changes : List Change) (c : CloneRecord) → Adds ps activity changes c → OperationsGood ps.master changes
    → OperationsApart ps.master.schedules ps.master.scheduled ps.master.snapshots ps.master.restorations (ps.master.clones ++ c ∷ [])
added_apart ps activity changes c w ops =
    let cs = ps.master.clones in
    let a = ops.apart in
    record {
      schedule_ids = a.schedule_ids;
      one_scheduled = a.one_scheduled;
      snapshots_rise = a.snapshots_rise;
      one_snapshot = a.one_snapshot;
      restoration_ids = a.restoration_ids;
      one_restoration = a.one_restoration;
      clone_ids = alone_added {A = CloneRecord} (λ c. c.id) cs c a.clone_ids w.other;
      one_clone = λ x y ns in_x in_y. added_cases {P = λ x y. is_cloned x.state ≡ false → is_cloned y.state ≡ false → Uses x ns → Uses y ns → x ≡ y} cs c
          (λ x y old_x old_y. a.one_clone x y ns old_x old_y)
          (λ x old open_x open_c of_x of_c. absurd (w.unused x ns old open_x of_x of_c))
          (λ x old open_c open_x of_c of_x. absurd (w.unused x ns old open_x of_x of_c))
          (λ open_c still of_c too. refl) x y in_x in_y;
      one_operation = λ r x in_r in_x open_r. in_added (λ x. is_cloned x.state ≡ false → Uses x r.namespace → ⊥) cs c (λ x old. a.one_operation r x in_r old open_r) (λ open_c of. w.unrestored r in_r open_r of) x in_x;
      one_target = λ x y p q in_x in_y. added_cases {P = λ x y. is_cloned x.state ≡ false → is_cloned y.state ≡ false → In p x.tablets → In q y.tablets → p.slot ≡ q.slot → x ≡ y} cs c
          (λ x y old_x old_y. a.one_target x y p q old_x old_y)
          (λ x old open_x open_c in_p in_q e. absurd (w.slots_apart x p q old open_x in_p in_q e))
          (λ x old open_c open_x in_p in_q e. absurd (w.slots_apart x q p old open_x in_q in_p (sym e)))
          (λ open_c still in_p in_q e. refl) x y in_x in_y;
      one_made = λ x y p q in_x in_y. added_cases {P = λ x y. is_visible x.state ≡ false → is_visible y.state ≡ false → In p x.tablets → In q y.tablets → p.target ≡ q.target → x ≡ y} cs c
          (λ x y old_x old_y. a.one_made x y p q old_x old_y)
          (λ x old dark_x dark_c in_p in_q e. absurd (w.targets_apart x p q old in_p in_q e))
          (λ x old dark_c dark_x in_p in_q e. absurd (w.targets_apart x q p old in_q in_p (sym e)))
          (λ dark_c still in_p in_q e. refl) x y in_x in_y;
      one_name = λ x y in_x in_y. added_cases {P = λ x y. is_visible x.state ≡ false → is_visible y.state ≡ false → x.target ≡ y.target → x ≡ y} cs c
          (λ x y old_x old_y. a.one_name x y old_x old_y)
          (λ x old dark_x dark_c e. absurd (w.names_apart x old dark_x e))
          (λ x old dark_c dark_x e. absurd (w.names_apart x old dark_x (sym e)))
          (λ dark_c still e. refl) x y in_x in_y;
    }

-- What is pending

clone_added : (cs : List CloneRecord) (c : CloneRecord) (id : Id) (q : CloneRecord) → unfinished_clone cs id ≡ Some q → unfinished_clone (cs ++ c ∷ []) id ≡ Some q
clone_added [] c id q e = absurd (let k = e in grind arith)
clone_added (x ∷ cs) c id q e = either_way (same x.id id && not (is_cloned x.state)) (λ b. rw b (rw b at e)) (λ b. rw b (clone_added cs c id q (rw b at e)))

found_then : {A : Type 0} {P : Type 0} (o : Option A) (f : A → Option Listed) (l : Listed) → option_and_then f o ≡ Some l → ((a : A) → o ≡ Some a → f a ≡ Some l → P) → P
found_then None f l e go = absurd (let q = e in grind arith)
found_then (Some a) f l e go = go a refl e

pending_by : (kind : Kind) (m : Master) (c : CloneRecord) (operation : Id) (slot : ℕ) (l : Listed) → pending_of kind m.snapshots m.restorations m.clones operation slot ≡ Some l → pending_of kind (adding m c).snapshots (adding m c).restorations (adding m c).clones operation slot ≡ Some l
pending_by Clone m c operation slot l e = found_then (unfinished_clone m.clones operation) (λ r. unacked_at r.listed slot) l e
    (λ r found at. ap (option_and_then {T = CloneRecord} (λ q. unacked_at q.listed slot)) (clone_added m.clones c operation r found) ∙ at)
pending_by _ m c operation slot l e = e

-- Commands, marks and fences

after_adding : (ps : Parts) (activity : List Interval) (changes : List Change) (c : CloneRecord) (clock : ℕ) (operation : Id) (kind : BodyKind) → Adds ps activity changes c → IsAfter ps.master clock operation kind → IsAfter (adding ps.master c) clock operation kind
after_adding ps activity changes c clock operation kind w h = let cs = ps.master.clones in record {
  snapshot = h.snapshot;
  restoration = h.restoration;
  point = h.point;
  copied = λ d at. in_added (λ d. d.id ≡ operation → copied_at d.state ≡ Some at → at < clock) cs c (λ d old. h.copied d at old)
      (λ is e. absurd (let q : None ≡ Some at = sym (ap copied_at w.accepted) ∙ e in grind arith)) d;
  released = λ d l at. in_added (λ d. d.id ≡ operation → In l d.listed → l.body ≡ Release at → kind ≡ _ → at < clock) cs c (λ d old. h.released d l at old)
      (λ is lists body of. absurd (subst (In l) w.empty lists)) d;
}

fence_adding : (ps : Parts) (c : CloneRecord) (slot : ℕ) (table operation : Id) → IsFence ps.master slot table (ps.tablet slot).done operation → IsFence (adding ps.master c) slot table (ps.tablet slot).done operation
fence_adding ps c slot table operation (inl h) = inl h
fence_adding ps c slot table operation (inr h) = inr (record { clone = h.clone; kept = in_first ps.master.clones (c ∷ []) h.clone h.kept; id_is = h.id_is; owned = h.owned; place = h.place })

orders_adding : (ps : Parts) (activity : List Interval) (changes : List Change) (c : CloneRecord) (slot : ℕ) → Adds ps activity changes c → OrdersGood ps.master slot (ps.tablet slot) → OrdersGood (adding ps.master c) slot (ps.tablet slot)
orders_adding ps activity changes c slot w h = let t = ps.tablet slot in record {
  fences = λ operation is. fence_adding ps c slot t.table operation (h.fences operation is);
  orders = λ o isin. (let g = h.orders o isin in record {
    is_pending = pending_by o.operation.kind ps.master c o.operation slot _ g.is_pending;
    after = after_adding ps activity changes c t.clock o.operation (kind_of o.body) w g.after;
  });
  once = h.once;
  fresh = h.fresh;
  marks = λ mark isin. (let g = h.marks mark isin in record {
    drawn = g.drawn;
    after = after_adding ps activity changes c t.clock mark.operation mark.kind w g.after;
    by_snapshot = g.by_snapshot;
    by_restoration = g.by_restoration;
    by_clone = λ d. in_added (λ d. d.id ≡ mark.operation → cloning_stage mark.kind ≤ stage_of_clone d.state) ps.master.clones c (λ d old. g.by_clone d old) (λ is. absurd (w.unmarked slot mark isin (sym is))) d;
  });
  holds = h.holds;
  frozen = h.frozen;
  sets = h.sets;
  bare = h.bare;
}

home_adding : (m : Master) (c : CloneRecord) (slot : ℕ) (tablet : Id) → IsHome m slot tablet ⊎ IsTarget m slot tablet → IsHome (adding m c) slot tablet ⊎ IsTarget (adding m c) slot tablet
home_adding m c slot tablet (inl h) = inl h
home_adding m c slot tablet (inr h) = inr (record {
  clone = h.clone;
  kept = in_first m.clones (c ∷ []) h.clone h.kept;
  serving = h.serving;
  at = h.at;
  state_is = h.state_is;
  pair = h.pair;
  paired = h.paired;
  slot_is = h.slot_is;
  tablet_is = h.tablet_is;
})

pub adding_keeps : (ps : Parts) (activity : List Interval) (changes : List Change) (c : CloneRecord) → Adds ps activity changes c → Inv ps activity changes → Inv (record { master = adding ps.master c; tablet = ps.tablet }) activity changes
adding_keeps ps activity changes c w inv =
    let m = ps.master in
    let cs = m.clones ++ c ∷ [] in
    let s = m.sent in
    let ops = inv.operations in
    record {
      master = master_beside m cs s changes inv.master;
      remembered = (let h = inv.remembered in record {
        part = h.part;
        each = λ i isin. elim (h.each i isin) [ inl here ↦ inl here | inr gone ↦ inr (forgotten_beside m cs s i w.floors gone) ];
        drawn = h.drawn;
        drawn_table = h.drawn_table;
        reserved = λ d p i. in_added (λ d. is_visible d.state ≡ false → In p d.tablets → In i activity → (i.tablet ≡ p.target → ⊥) × (i.table ≡ p.table → ⊥)) m.clones c (λ d old. h.reserved d p i old) (λ unseen paired isin. w.fresh p i paired isin) d;
      });
      cover = inv.cover;
      slots = λ slot. slot_beside m cs s changes slot (ps.tablet slot) (inv.slots slot);
      operations = record {
        kept = λ ns. le_trans (ops.kept ns) (w.floors ns);
        owners = ops.owners;
        apart = added_apart ps activity changes c w ops;
        schedules = λ k isin. ops.schedules k isin;
        scheduled = λ k isin. scheduled_beside m cs s k w.floors (ops.scheduled k isin);
        snapshots = λ q isin. snapshot_beside m cs s q w.floors (ops.snapshots q isin);
        restorations = ops.restorations;
        clones = in_added (CloneGood (adding m c) changes) m.clones c (λ d old. ops.clones d old) w.good;
        sent = λ mark isin. elim (ops.sent mark isin) [
          | inl of ↦ inl of
          | inr rest ↦ elim rest [ inl of ↦ inr (inl of) | inr of ↦ inr (inr (of.0, (in_first m.clones (c ∷ []) of.0 of.1.0, of.1.1))) ]
        ];
      };
      journal = inv.journal;
      rows_past = inv.rows_past;
      works = λ slot. (let h = inv.works slot in let t = ps.tablet slot in record {
        orders = orders_adding ps activity changes c slot w h.orders;
        obeyed = record {
          drawn_table = h.obeyed.drawn_table;
          home = λ present. home_adding m c slot t.tablet (h.obeyed.home present);
          snapshots = h.obeyed.snapshots;
          restorations = h.obeyed.restorations;
          clones = in_added (λ d. CloneSlot d.state (adding m c) changes d slot t) m.clones c (λ d old. h.obeyed.clones d old)
              (subst (λ state. CloneSlot state (adding m c) changes c slot t) (sym w.accepted) (w.vacant slot));
        };
      });
    }
