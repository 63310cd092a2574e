-- What is pending: of which operations it is, and that it stays while records are added.
use Rattle.std.proofs.Common.{ℕ, ◌≡◌, ◌≤◌, ◌+◌, List, [], ◌∷◌, ◌++◌, Option, Some, None, true, false, ◌&&◌, ◌⊎◌, inl, inr, refl, sym, ap, subst, ◌∙◌, arith, not, eqb}
use Rattle.std.specs.Option.{option_and_then}
use Rattle.std.proofs.lemmas.Bool.{true≢false}
use Rattle.model.specs.Cluster.{Kind, Snapshot, RestorationKind as Restoration, CloneKind as Clone, Id, same, In, Mark, Listed, SnapshotRecord, RestorationRecord, RestorationState, Fencing, Snapshotting, Switching, Restoring, Releasing, Restored, CloneRecord, is_restored, is_cloned, unacked_at, point_of, ScheduledNamespace, Master}
use Rattle.model.specs.Journal.{Change}
use Rattle.model.specs.Drawn.{drawn_of}
use Rattle.model.specs.Coordination.{pending, pending_of, unfinished_snapshot, unfinished_restoration, unfinished_clone}
use Rattle.law_store.proofs.Keys.{either_way}
use Rattle.model.specs.Schedules.{complete_to}
use Rattle.law_invariants.specs.Operations.{OperationsGood, IsPoint, RestorationStateGood}
use Rattle.law_invariants.specs.Orders.{FencePlace, IsFence}
use Rattle.law_invariants.proofs.Finding.{both_pass, same_equal}
use Rattle.law_invariants.proofs.Ticking.{not_true}
use Rattle.law_invariants.proofs.Recording.{Records, recorded, MovedRestoration}

-- The unfinished record of an identifier

pub unfinished_snapshot_is : (rs : List SnapshotRecord) (id : Id) (r : SnapshotRecord) → unfinished_snapshot rs id ≡ Some r → In r rs × ((r.id ≡ id) × (r.complete ≡ false))
unfinished_snapshot_is [] id r e = absurd (let q = e in grind arith)
unfinished_snapshot_is (q ∷ rs) id r e = either_way (same q.id id && not q.complete)
    (λ b. let k : Some q ≡ Some r = rw b at e in let first : q ≡ r = cc in let t = both_pass (same q.id id) (not q.complete) b in
    (inl first, (ap (λ x. x.id) (sym first) ∙ same_equal q.id id t.0, ap (λ x. x.complete) (sym first) ∙ not_true q.complete t.1)))
    (λ b. let k : unfinished_snapshot rs id ≡ Some r = rw b at e in let h = unfinished_snapshot_is rs id r k in (inr h.0, h.1))

pub unfinished_restoration_is : (rs : List RestorationRecord) (id : Id) (r : RestorationRecord) → unfinished_restoration rs id ≡ Some r → In r rs × ((r.id ≡ id) × (is_restored r.state ≡ false))
unfinished_restoration_is [] id r e = absurd (let q = e in grind arith)
unfinished_restoration_is (q ∷ rs) id r e = either_way (same q.id id && not (is_restored q.state))
    (λ b. let k : Some q ≡ Some r = rw b at e in let first : q ≡ r = cc in let t = both_pass (same q.id id) (not (is_restored q.state)) b in
    (inl first, (ap (λ x. x.id) (sym first) ∙ same_equal q.id id t.0, ap (λ x. is_restored x.state) (sym first) ∙ not_true (is_restored q.state) t.1)))
    (λ b. let k : unfinished_restoration rs id ≡ Some r = rw b at e in let h = unfinished_restoration_is rs id r k in (inr h.0, h.1))

pub unfinished_clone_is : (rs : List CloneRecord) (id : Id) (r : CloneRecord) → unfinished_clone rs id ≡ Some r → In r rs × ((r.id ≡ id) × (is_cloned r.state ≡ false))
unfinished_clone_is [] id r e = absurd (let q = e in grind arith)
unfinished_clone_is (q ∷ rs) id r e = either_way (same q.id id && not (is_cloned q.state))
    (λ b. let k : Some q ≡ Some r = rw b at e in let first : q ≡ r = cc in let t = both_pass (same q.id id) (not (is_cloned q.state)) b in
    (inl first, (ap (λ x. x.id) (sym first) ∙ same_equal q.id id t.0, ap (λ x. is_cloned x.state) (sym first) ∙ not_true (is_cloned q.state) t.1)))
    (λ b. let k : unfinished_clone rs id ≡ Some r = rw b at e in let h = unfinished_clone_is rs id r k in (inr h.0, h.1))

pub unacked_is : (ls : List Listed) (slot : ℕ) (l : Listed) → unacked_at ls slot ≡ Some l → In l ls × (l.acked ≡ false)
unacked_is [] slot l e = absurd (let q = e in grind arith)
unacked_is (k ∷ ls) slot l e = either_way (eqb k.slot slot && not k.acked)
    (λ b. let q : Some k ≡ Some l = rw b at e in let first : k ≡ l = cc in (inl first, ap (λ x. x.acked) (sym first) ∙ not_true k.acked (both_pass (eqb k.slot slot) (not k.acked) b).1))
    (λ b. let q : unacked_at ls slot ≡ Some l = rw b at e in let h = unacked_is ls slot l q in (inr h.0, h.1))

found_then : {A : Type 0} {P : Type 0} (o : Option A) (f : A → Option Listed) (l : Listed) → option_and_then f o ≡ Some l → ((a : A) → o ≡ Some a → f a ≡ Some l → P) → P
found_then None f l e go = absurd (let q = e in grind arith)
found_then (Some a) f l e go = go a refl e

-- What is pending is of an operation that was drawn

drawn_by : (kind : Kind) (m : Master) (changes : List Change) (operation : Id) (slot : ℕ) (l : Listed) → OperationsGood m changes → pending_of kind m.snapshots m.restorations m.clones operation slot ≡ Some l → operation.number ≤ drawn_of operation.kind m.drawn
drawn_by Snapshot m changes operation slot l ops e = found_then (unfinished_snapshot m.snapshots operation) (λ r. unacked_at r.listed slot) l e
    (λ r found is. let h = unfinished_snapshot_is m.snapshots operation r found in let g = ops.snapshots r h.0 in
    subst (λ i. i.number ≤ drawn_of i.kind m.drawn) h.1.0 (subst (λ k. r.id.number ≤ drawn_of k m.drawn) (sym g.kind_is) g.drawn))
drawn_by Restoration m changes operation slot l ops e = found_then (unfinished_restoration m.restorations operation) (λ r. unacked_at r.listed slot) l e
    (λ r found is. let h = unfinished_restoration_is m.restorations operation r found in let g = ops.restorations r h.0 in
    subst (λ i. i.number ≤ drawn_of i.kind m.drawn) h.1.0 (subst (λ k. r.id.number ≤ drawn_of k m.drawn) (sym g.kind_is) g.drawn))
drawn_by Clone m changes operation slot l ops e = found_then (unfinished_clone m.clones operation) (λ r. unacked_at r.listed slot) l e
    (λ r found is. let h = unfinished_clone_is m.clones operation r found in let g = ops.clones r h.0 in
    subst (λ i. i.number ≤ drawn_of i.kind m.drawn) h.1.0 (subst (λ k. r.id.number ≤ drawn_of k m.drawn) (sym g.kind_is) g.drawn))
drawn_by _ m changes operation slot l ops e = absurd (let q = e in grind arith)

pub pending_drawn : (m : Master) (changes : List Change) (operation : Id) (slot : ℕ) (l : Listed) → OperationsGood m changes → pending m operation slot ≡ Some l → operation.number ≤ drawn_of operation.kind m.drawn
pending_drawn m changes operation slot l ops e = drawn_by operation.kind m changes operation slot l ops e

-- and not of a restoration that listed only what was acked
restoration_acked : (kind : Kind) (m : Master) (changes : List Change) (operation : Id) (slot : ℕ) (l : Listed) (r : RestorationRecord) → OperationsGood m changes → kind ≡ Restoration → pending_of kind m.snapshots m.restorations m.clones operation slot ≡ Some l
    → In r m.restorations → r.id ≡ operation → ((k : Listed) → In k r.listed → k.acked ≡ true) → ⊥
restoration_acked Restoration m changes operation slot l r ops is e isin named acked = found_then (unfinished_restoration m.restorations operation) (λ q. unacked_at q.listed slot) l e
    (λ q found at. let h = unfinished_restoration_is m.restorations operation q found in
    let one : r ≡ q = ops.apart.restoration_ids r q isin h.0 (named ∙ sym h.1.0) in
    let u = unacked_is q.listed slot l at in
    true≢false (sym (acked l (subst (λ x. In l x.listed) (sym one) u.0)) ∙ u.1))
restoration_acked _ m changes operation slot l r ops is e isin named acked = let q = is in grind arith

pub pending_unmoved : (m : Master) (changes : List Change) (operation : Id) (slot : ℕ) (l : Listed) (r : RestorationRecord) → OperationsGood m changes → pending m operation slot ≡ Some l → (v : MovedRestoration m changes r) → v.was.id ≡ operation → ⊥
pending_unmoved m changes operation slot l r ops e v is =
    restoration_acked operation.kind m changes operation slot l v.was ops (ap (λ i. i.kind) (sym is) ∙ (ops.restorations v.was v.kept).kind_is) e v.kept is v.acked

-- What is pending stays where what is found stays

pub record FindsOn (m : Master) (w : Records) : Type 0 where
  pub snapshot : (id : Id) (slot : ℕ) (l : Listed) (r : SnapshotRecord) → unfinished_snapshot m.snapshots id ≡ Some r → unacked_at r.listed slot ≡ Some l → unfinished_snapshot w.snapshots id ≡ Some r
  pub restoration : (id : Id) (slot : ℕ) (l : Listed) (r : RestorationRecord) → unfinished_restoration m.restorations id ≡ Some r → unacked_at r.listed slot ≡ Some l → unfinished_restoration w.restorations id ≡ Some r

pending_by : (kind : Kind) (m : Master) (w : Records) (operation : Id) (slot : ℕ) (l : Listed) → FindsOn m w → pending_of kind m.snapshots m.restorations m.clones operation slot ≡ Some l → pending_of kind (recorded m w).snapshots (recorded m w).restorations (recorded m w).clones operation slot ≡ Some l
pending_by Snapshot m w operation slot l f e = found_then (unfinished_snapshot m.snapshots operation) (λ r. unacked_at r.listed slot) l e
    (λ r found at. ap (option_and_then {T = SnapshotRecord} (λ q. unacked_at q.listed slot)) (f.snapshot operation slot l r found at) ∙ at)
pending_by Restoration m w operation slot l f e = found_then (unfinished_restoration m.restorations operation) (λ r. unacked_at r.listed slot) l e
    (λ r found at. ap (option_and_then {T = RestorationRecord} (λ q. unacked_at q.listed slot)) (f.restoration operation slot l r found at) ∙ at)
pending_by _ m w operation slot l f e = e

pub pending_stays : (m : Master) (w : Records) (operation : Id) (slot : ℕ) (l : Listed) → FindsOn m w → pending m operation slot ≡ Some l → pending (recorded m w) operation slot ≡ Some l
pending_stays m w operation slot l f e = pending_by operation.kind m w operation slot l f e

pub snapshot_added : (rs : List SnapshotRecord) (s : SnapshotRecord) (id : Id) (r : SnapshotRecord) → unfinished_snapshot rs id ≡ Some r → unfinished_snapshot (rs ++ s ∷ []) id ≡ Some r
snapshot_added [] s id r e = absurd (let q = e in grind arith)
snapshot_added (q ∷ rs) s id r e = either_way (same q.id id && not q.complete) (λ b. rw b (rw b at e)) (λ b. rw b (snapshot_added rs s id r (rw b at e)))

pub restoration_added : (rs : List RestorationRecord) (s : RestorationRecord) (id : Id) (r : RestorationRecord) → unfinished_restoration rs id ≡ Some r → unfinished_restoration (rs ++ s ∷ []) id ≡ Some r
restoration_added [] s id r e = absurd (let q = e in grind arith)
restoration_added (q ∷ rs) s id r e = either_way (same q.id id && not (is_restored q.state)) (λ b. rw b (rw b at e)) (λ b. rw b (restoration_added rs s id r (rw b at e)))

-- Fences stay where their restorations do

-- a restoration stays, or another under its id has taken over its fences
abbrev pub HoldsOn : Master → Records → ℕ → List Mark → Type 0
HoldsOn m w slot done = (r : RestorationRecord) → In r m.restorations → In r w.restorations
    ⊎ ((k : RestorationRecord) × (In k w.restorations × ((k.id ≡ r.id) × ((k.namespace ≡ r.namespace) × (FencePlace r.state r m slot done → FencePlace k.state k (recorded m w) slot done)))))

pub fence_stays : (m : Master) (w : Records) (slot : ℕ) (table : Id) (done : List Mark) (operation : Id) → HoldsOn m w slot done → IsFence m slot table done operation → IsFence (recorded m w) slot table done operation
fence_stays m w slot table done operation holds (inl h) = elim (holds h.restoration h.kept) [
  | inl stays ↦ inl (record { restoration = h.restoration; kept = stays; id_is = h.id_is; owned = h.owned; place = h.place })
  | inr k ↦ inl (record { restoration = k.0; kept = k.1.0; id_is = k.1.1.0 ∙ h.id_is; owned = h.owned ∙ ap Some (sym k.1.1.1.0); place = k.1.1.1.1 h.place })
]
fence_stays m w slot table done operation holds (inr h) = inr (record { clone = h.clone; kept = h.kept; id_is = h.id_is; owned = h.owned; place = h.place })

-- Points

-- what is before the point of an unfinished restoration
pub point_is : (state : RestorationState) (m : Master) (changes : List Change) (r : RestorationRecord) (point : ℕ) → point_of state ≡ Some point → is_restored state ≡ false → RestorationStateGood state m changes r → IsPoint m changes r point
point_is Fencing m changes r point e unfinished h = absurd (let q = e in grind arith)
point_is (Snapshotting at own) m changes r point e unfinished h = let is : at ≡ point = cc in subst (IsPoint m changes r) is h.is_point
point_is (Switching at serving) m changes r point e unfinished h = let is : at ≡ point = cc in subst (IsPoint m changes r) is h.is_point
point_is (Restoring at serving) m changes r point e unfinished h = let is : at ≡ point = cc in subst (IsPoint m changes r) is h.is_point
point_is (Releasing at serving) m changes r point e unfinished h = let is : at ≡ point = cc in subst (IsPoint m changes r) is h.is_point
point_is (Restored at serving) m changes r point e unfinished h = absurd (true≢false unfinished)

pub point_complete : (m : Master) (changes : List Change) (r : RestorationRecord) (point : ℕ) (k : ScheduledNamespace) → OperationsGood m changes → In r m.restorations → is_restored r.state ≡ false → point_of r.state ≡ Some point → In k m.scheduled → k.namespace ≡ r.namespace
    → complete_to k + 1 ≤ point
point_complete m changes r point k ops there unfinished at isin is = (point_is r.state m changes r point at unfinished (ops.restorations r there).in_state).complete k isin is
