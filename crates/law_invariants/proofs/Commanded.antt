-- A command that is pending is that of an unfinished record, which lists the tablet of the slot without ack.
use Rattle.std.proofs.Common.{ℕ, ◌≡◌, ◌≤◌, ◌<◌, List, [], ◌∷◌, Some, true, false, ◌&&◌, ◌⊎◌, inl, inr, refl, sym, ap, subst, ◌∙◌, arith, not, eqb, eqb-true, lt_of_le_of_lt, le_of_lt}
use Rattle.std.specs.Option.{option_and_then}
use Rattle.std.proofs.lemmas.Bool.{true≢false}
use Rattle.model.specs.Cluster.{Kind, Snapshot, RestorationKind as Restoration, CloneKind as Clone, Id, same, In, Copy, Release, BodyKind, Listed, SnapshotRecord, RestorationRecord, RestorationState, Fencing, Snapshotting, Switching, Restoring, Releasing, Restored, CloneRecord, CloneState, CloneSnapshot, Copying, CloneReleasing, CloneComplete, unacked_at, is_restored, is_cloned, point_of, Master}
use Rattle.model.specs.Coordination.{pending, pending_of, unfinished_snapshot, unfinished_restoration, unfinished_clone}
use Rattle.model.specs.Stands.{copied_at}
use Rattle.model.specs.Journal.{Change}
use Rattle.law_store.proofs.Keys.{either_way}
use Rattle.law_invariants.specs.Operations.{RestorationStateGood, CloneStateGood, OperationsGood}
use Rattle.law_invariants.specs.Orders.{IsAfter}
use Rattle.law_invariants.proofs.Finding.{both_pass, same_equal}
use Rattle.law_invariants.proofs.Ticking.{not_true}

-- a list has a tablet in the slot without ack
pub record IsUnacked (ls : List Listed) (slot : ℕ) (l : Listed) : Type 0 where
  pub listed : In l ls
  pub slot_is : l.slot ≡ slot
  pub unacked : l.acked ≡ false

pub record OfSnapshot (m : Master) (operation : Id) (slot : ℕ) (l : Listed) : Type 0 where
  pub snapshot : SnapshotRecord
  pub kept : In snapshot m.snapshots
  pub id_is : snapshot.id ≡ operation
  pub unfinished : snapshot.complete ≡ false
  pub line : IsUnacked snapshot.listed slot l

pub record OfRestoration (m : Master) (operation : Id) (slot : ℕ) (l : Listed) : Type 0 where
  pub restoration : RestorationRecord
  pub kept : In restoration m.restorations
  pub id_is : restoration.id ≡ operation
  pub unfinished : is_restored restoration.state ≡ false
  pub line : IsUnacked restoration.listed slot l

pub record OfClone (m : Master) (operation : Id) (slot : ℕ) (l : Listed) : Type 0 where
  pub clone : CloneRecord
  pub kept : In clone m.clones
  pub id_is : clone.id ≡ operation
  pub unfinished : is_cloned clone.state ≡ false
  pub line : IsUnacked clone.listed slot l

pub data IsPending (m : Master) (operation : Id) (slot : ℕ) (l : Listed) : Type 0 where
  BySnapshot : (of : OfSnapshot m operation slot l) → IsPending m operation slot l
  ByRestoration : (of : OfRestoration m operation slot l) → IsPending m operation slot l
  ByClone : (of : OfClone m operation slot l) → IsPending m operation slot l

unacked_is : (ls : List Listed) (slot : ℕ) (l : Listed) → unacked_at ls slot ≡ Some l → IsUnacked ls slot l
unacked_is [] slot l e = absurd (let q = e in grind arith)
unacked_is (k ∷ ls) slot l e = either_way (eqb k.slot slot && not k.acked)
    (λ b. let q : Some k ≡ Some l = rw b at e in
    let is : k ≡ l = cc in
    let both = both_pass (eqb k.slot slot) (not k.acked) b in
    record { listed = inl is; slot_is = ap (λ j. j.slot) (sym is) ∙ eqb-true k.slot slot both.0; unacked = ap (λ j. j.acked) (sym is) ∙ not_true k.acked both.1 })
    (λ b. let q : unacked_at ls slot ≡ Some l = rw b at e in let r = unacked_is ls slot l q in record { listed = inr r.listed; slot_is = r.slot_is; unacked = r.unacked })

by_snapshot : (rs : List SnapshotRecord) (id : Id) (slot : ℕ) (l : Listed) → option_and_then (λ r. unacked_at r.listed slot) (unfinished_snapshot rs id) ≡ Some l
    → (r : SnapshotRecord) × (In r rs × ((r.id ≡ id) × ((r.complete ≡ false) × (unacked_at r.listed slot ≡ Some l))))
by_snapshot [] id slot l e = absurd (let q = e in grind arith)
by_snapshot (r ∷ rs) id slot l e = either_way (same r.id id && not r.complete)
    (λ b. let q : unacked_at r.listed slot ≡ Some l = rw b at e in
    let both = both_pass (same r.id id) (not r.complete) b in (r, (inl refl, (same_equal r.id id both.0, (not_true r.complete both.1, q)))))
    (λ b. let q : option_and_then (λ k. unacked_at k.listed slot) (unfinished_snapshot rs id) ≡ Some l = rw b at e in
    let k = by_snapshot rs id slot l q in (k.0, (inr k.1.0, k.1.1)))

by_restoration : (rs : List RestorationRecord) (id : Id) (slot : ℕ) (l : Listed) → option_and_then (λ r. unacked_at r.listed slot) (unfinished_restoration rs id) ≡ Some l
    → (r : RestorationRecord) × (In r rs × ((r.id ≡ id) × ((is_restored r.state ≡ false) × (unacked_at r.listed slot ≡ Some l))))
by_restoration [] id slot l e = absurd (let q = e in grind arith)
by_restoration (r ∷ rs) id slot l e = either_way (same r.id id && not (is_restored r.state))
    (λ b. let q : unacked_at r.listed slot ≡ Some l = rw b at e in
    let both = both_pass (same r.id id) (not (is_restored r.state)) b in (r, (inl refl, (same_equal r.id id both.0, (not_true (is_restored r.state) both.1, q)))))
    (λ b. let q : option_and_then (λ k. unacked_at k.listed slot) (unfinished_restoration rs id) ≡ Some l = rw b at e in
    let k = by_restoration rs id slot l q in (k.0, (inr k.1.0, k.1.1)))

by_clone : (rs : List CloneRecord) (id : Id) (slot : ℕ) (l : Listed) → option_and_then (λ r. unacked_at r.listed slot) (unfinished_clone rs id) ≡ Some l
    → (r : CloneRecord) × (In r rs × ((r.id ≡ id) × ((is_cloned r.state ≡ false) × (unacked_at r.listed slot ≡ Some l))))
by_clone [] id slot l e = absurd (let q = e in grind arith)
by_clone (r ∷ rs) id slot l e = either_way (same r.id id && not (is_cloned r.state))
    (λ b. let q : unacked_at r.listed slot ≡ Some l = rw b at e in
    let both = both_pass (same r.id id) (not (is_cloned r.state)) b in (r, (inl refl, (same_equal r.id id both.0, (not_true (is_cloned r.state) both.1, q)))))
    (λ b. let q : option_and_then (λ k. unacked_at k.listed slot) (unfinished_clone rs id) ≡ Some l = rw b at e in
    let k = by_clone rs id slot l q in (k.0, (inr k.1.0, k.1.1)))

pending_by : (kind : Kind) (m : Master) (operation : Id) (slot : ℕ) (l : Listed) → pending_of kind m.snapshots m.restorations m.clones operation slot ≡ Some l → IsPending m operation slot l
pending_by Snapshot m operation slot l e =
    let k = by_snapshot m.snapshots operation slot l e in
    BySnapshot (record { snapshot = k.0; kept = k.1.0; id_is = k.1.1.0; unfinished = k.1.1.1.0; line = unacked_is k.0.listed slot l k.1.1.1.1 })
pending_by Restoration m operation slot l e =
    let k = by_restoration m.restorations operation slot l e in
    ByRestoration (record { restoration = k.0; kept = k.1.0; id_is = k.1.1.0; unfinished = k.1.1.1.0; line = unacked_is k.0.listed slot l k.1.1.1.1 })
pending_by Clone m operation slot l e =
    let k = by_clone m.clones operation slot l e in
    ByClone (record { clone = k.0; kept = k.1.0; id_is = k.1.1.0; unfinished = k.1.1.1.0; line = unacked_is k.0.listed slot l k.1.1.1.1 })
pending_by _ m operation slot l e = absurd (let q = e in grind arith)

pub pending_is : (m : Master) (operation : Id) (slot : ℕ) (l : Listed) → pending m operation slot ≡ Some l → IsPending m operation slot l
pending_is m operation slot l e = pending_by operation.kind m operation slot l e

pub pending_line : (m : Master) (operation : Id) (slot : ℕ) (l : Listed) → IsPending m operation slot l → (l.slot ≡ slot) × (l.acked ≡ false)
pending_line m operation slot l (BySnapshot k) = (k.line.slot_is, k.line.unacked)
pending_line m operation slot l (ByRestoration k) = (k.line.slot_is, k.line.unacked)
pending_line m operation slot l (ByClone k) = (k.line.slot_is, k.line.unacked)

-- Kinds of records

pub snapshot_no_restoration : (m : Master) (changes : List Change) (s : SnapshotRecord) (r : RestorationRecord) → OperationsGood m changes → In s m.snapshots → In r m.restorations → s.id ≡ r.id → ⊥
snapshot_no_restoration m changes s r ops ins inr_ e =
    let q : Snapshot ≡ Restoration = sym (ops.snapshots s ins).kind_is ∙ ap (λ i. i.kind) e ∙ (ops.restorations r inr_).kind_is in grind arith

pub snapshot_no_clone : (m : Master) (changes : List Change) (s : SnapshotRecord) (c : CloneRecord) → OperationsGood m changes → In s m.snapshots → In c m.clones → s.id ≡ c.id → ⊥
snapshot_no_clone m changes s c ops ins inc e =
    let q : Snapshot ≡ Clone = sym (ops.snapshots s ins).kind_is ∙ ap (λ i. i.kind) e ∙ (ops.clones c inc).kind_is in grind arith

pub restoration_no_clone : (m : Master) (changes : List Change) (r : RestorationRecord) (c : CloneRecord) → OperationsGood m changes → In r m.restorations → In c m.clones → r.id ≡ c.id → ⊥
restoration_no_clone m changes r c ops inr_ inc e =
    let q : Restoration ≡ Clone = sym (ops.restorations r inr_).kind_is ∙ ap (λ i. i.kind) e ∙ (ops.clones c inc).kind_is in grind arith

-- Times of records

pub none_in : (ls : List Listed) (l : Listed) → ls ≡ [] → In l ls → ⊥
none_in ls l e isin = subst (In l) e isin

point_past : (state : RestorationState) (m : Master) (changes : List Change) (r : RestorationRecord) (at : ℕ) → RestorationStateGood state m changes r → point_of state ≡ Some at → (at ≤ m.clock) ⊎ (r.listed ≡ [])
point_past Fencing m changes r at h e = absurd (let q = e in grind arith)
point_past (Snapshotting point own) m changes r at h e = inr h.empty
point_past (Switching point serving) m changes r at h e = inl (let q : point ≡ at = cc in let b = h.begun in omega (arith, q, b))
point_past (Restoring point serving) m changes r at h e = inl (let q : point ≡ at = cc in let b = h.begun in omega (arith, q, b))
point_past (Releasing point serving) m changes r at h e = inl (let q : point ≡ at = cc in let b = h.begun in omega (arith, q, b))
point_past (Restored point serving) m changes r at h e = inl (let q : point ≡ at = cc in let b = h.begun in omega (arith, q, b))

copied_past : (state : CloneState) (m : Master) (c : CloneRecord) (at : ℕ) → CloneStateGood state m c → copied_at state ≡ Some at → (at ≤ m.clock) ⊎ (is_cloned state ≡ true)
copied_past (Copying serving copied) m c at h e = inl (let q : copied ≡ at = cc in let b = h.begun in omega (arith, q, b))
copied_past (CloneReleasing serving copied) m c at h e = inl (let q : copied ≡ at = cc in let b = h.begun in let d = h.copied in omega (arith, q, b, d))
copied_past (CloneComplete serving copied) m c at h e = inr refl
copied_past _ m c at h e = absurd (let q = e in grind arith)

released_past : (state : CloneState) (m : Master) (c : CloneRecord) (l : Listed) (at : ℕ) → CloneStateGood state m c → In l c.listed → l.body ≡ Release at → at ≤ m.clock
released_past (CloneSnapshot own) m c l at h isin e = absurd (none_in c.listed l h.empty isin)
released_past (Copying serving copied) m c l at h isin e =
    absurd (let b = h.bodies l isin in let q : Release at ≡ Copy b.pair.source_slot serving c.to copied b.pair.table b.pair.low b.pair.high 1 = sym e ∙ b.body_is in grind arith)
released_past (CloneReleasing serving copied) m c l at h isin e = let q : Release at ≡ Release h.since = sym e ∙ h.bodies l isin in let is : at ≡ h.since = cc in let b = h.begun in omega (arith, is, b)
released_past _ m c l at h isin e = absurd (none_in c.listed l h isin)

point_pending : (m : Master) (changes : List Change) (operation : Id) (slot n : ℕ) (l : Listed) (r : RestorationRecord) (at : ℕ) → OperationsGood m changes → m.clock < n → IsPending m operation slot l → In r m.restorations → r.id ≡ operation
    → (at ≤ m.clock) ⊎ (r.listed ≡ []) → at < n
point_pending m changes operation slot n l r at ops less p isin is (inl past) = lt_of_le_of_lt past less
point_pending m changes operation slot n l r at ops less (BySnapshot k) isin is (inr empty) = absurd (snapshot_no_restoration m changes k.snapshot r ops k.kept isin (k.id_is ∙ sym is))
point_pending m changes operation slot n l r at ops less (ByClone k) isin is (inr empty) = absurd (restoration_no_clone m changes r k.clone ops isin k.kept (is ∙ sym k.id_is))
point_pending m changes operation slot n l r at ops less (ByRestoration k) isin is (inr empty) =
    let one : k.restoration ≡ r = ops.apart.restoration_ids k.restoration r k.kept isin (k.id_is ∙ sym is) in
    absurd (none_in r.listed l empty (subst (λ q. In l q.listed) one k.line.listed))

copied_pending : (m : Master) (changes : List Change) (operation : Id) (slot n : ℕ) (l : Listed) (c : CloneRecord) (at : ℕ) → OperationsGood m changes → m.clock < n → IsPending m operation slot l → In c m.clones → c.id ≡ operation
    → (at ≤ m.clock) ⊎ (is_cloned c.state ≡ true) → at < n
copied_pending m changes operation slot n l c at ops less p isin is (inl past) = lt_of_le_of_lt past less
copied_pending m changes operation slot n l c at ops less (BySnapshot k) isin is (inr done) = absurd (snapshot_no_clone m changes k.snapshot c ops k.kept isin (k.id_is ∙ sym is))
copied_pending m changes operation slot n l c at ops less (ByRestoration k) isin is (inr done) = absurd (restoration_no_clone m changes k.restoration c ops k.kept isin (k.id_is ∙ sym is))
copied_pending m changes operation slot n l c at ops less (ByClone k) isin is (inr done) =
    let one : k.clone ≡ c = ops.apart.clone_ids k.clone c k.kept isin (k.id_is ∙ sym is) in
    absurd (true≢false (sym done ∙ ap (λ q. is_cloned q.state) (sym one) ∙ k.unfinished))

-- a stamp after the master's clock is after the entry of the state that gives a pending command
pub after_pending : (m : Master) (changes : List Change) (operation : Id) (slot n : ℕ) (l : Listed) (kind : BodyKind) → OperationsGood m changes → m.clock < n → IsPending m operation slot l → IsAfter m n operation kind
after_pending m changes operation slot n l kind ops less p = record {
  snapshot = λ r isin is. lt_of_le_of_lt (ops.snapshots r isin).past less;
  restoration = λ r isin is. lt_of_le_of_lt (le_of_lt (ops.restorations r isin).past) less;
  point = λ r at isin is e after. point_pending m changes operation slot n l r at ops less p isin is (point_past r.state m changes r at (ops.restorations r isin).in_state e);
  copied = λ c at isin is e. copied_pending m changes operation slot n l c at ops less p isin is (copied_past c.state m c at (ops.clones c isin).in_state e);
  released = λ c k at isin is lists e kind_is. lt_of_le_of_lt (released_past c.state m c k at (ops.clones c isin).in_state lists e) less;
}
