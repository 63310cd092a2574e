-- Which record gives which command, and from which frozen set a restore and a copy take their rows.
use Rattle.std.proofs.Common.{ℕ, ◌≡◌, ◌≤◌, ◌<◌, ◌+◌, List, [], ◌∷◌, Some, None, true, inl, inr, refl, sym, ap, subst, ◌∙◌, arith, Option, leb, leb-true, le_trans, le-leb, ◌||◌}
use Rattle.model.specs.Cluster.{Id, same, In, Interval, active_at, active_within, Tablet, Fence, Freeze, Release, Copy, FrozenSet, set_of, Hide, RestoreFrom, Listed, RestorationRecord, RestorationState, Fencing, Restoring, Releasing, CloneRecord, CloneState, CloneSnapshot, Copying, CloneReleasing, SnapshotRecord, Restored, Master, before_end, owner_of}
use Rattle.model.specs.Journal.{Change}
use Rattle.law_store.proofs.Keys.{either_way}
use Rattle.law_invariants.specs.Invariant.{SlotGood, SlotWorks}
use Rattle.law_invariants.specs.Operations.{IsAfterSwitch, IsCopied, RestorationStateGood, CloneStateGood, SnapshotsRise, IsServing, OperationsGood}
use Rattle.law_invariants.proofs.Finding.{both_pass, apart_by_number, passes_both}
use Rattle.std.proofs.lemmas.Bool.Decides.{nat_tests}
use Rattle.law_invariants.proofs.Commanded.{none_in}

pub copying_is : (state : CloneState) (m : Master) (c : CloneRecord) (l : Listed) (source : ℕ) (snapshot : Id) (to stamp : ℕ) (table : Id) (low high version : ℕ) → CloneStateGood state m c → In l c.listed → l.body ≡ Copy source snapshot to stamp table low high version
    → (serving : Id) × ((at : ℕ) × ((state ≡ Copying serving at) × IsCopied c serving at l))
copying_is (CloneSnapshot own) m c l source snapshot to stamp table low high version h isin e = absurd (none_in c.listed l h.empty isin)
copying_is (Copying serving at) m c l source snapshot to stamp table low high version h isin e = (serving, (at, (refl, h.bodies l isin)))
copying_is (CloneReleasing serving at) m c l source snapshot to stamp table low high version h isin e =
    absurd (let q : Copy source snapshot to stamp table low high version ≡ Release h.since = sym e ∙ h.bodies l isin in grind arith)
copying_is _ m c l source snapshot to stamp table low high version h isin e = absurd (none_in c.listed l h isin)

pub no_restoration_copy : (state : RestorationState) (m : Master) (changes : List Change) (r : RestorationRecord) (l : Listed) (source : ℕ) (snapshot : Id) (to stamp : ℕ) (table : Id) (low high version : ℕ) → RestorationStateGood state m changes r → In l r.listed
    → l.body ≡ Copy source snapshot to stamp table low high version → ⊥
no_restoration_copy Fencing m changes r l source snapshot to stamp table low high version h isin e = let q : Fence ≡ Copy source snapshot to stamp table low high version = sym (h.bodies l isin) ∙ e in grind arith
no_restoration_copy (Restoring point serving) m changes r l source snapshot to stamp table low high version h isin e = subst (IsAfterSwitch r.to point serving) e (h.bodies l isin)
no_restoration_copy (Releasing point serving) m changes r l source snapshot to stamp table low high version h isin e = let q : Release point ≡ Copy source snapshot to stamp table low high version = sym (h.bodies l isin) ∙ e in grind arith
no_restoration_copy _ m changes r l source snapshot to stamp table low high version h isin e = none_in r.listed l h.empty isin

-- a snapshot's identifier is its own
pub snapshot_alone : (rs : List SnapshotRecord) (q r : SnapshotRecord) → SnapshotsRise rs → In q rs → In r rs → q.id ≡ r.id → q ≡ r
snapshot_alone [] q r h inq inr_ e = absurd inq
snapshot_alone (s ∷ rs) q r h (inl a) (inl b) e = sym a ∙ b
snapshot_alone (s ∷ rs) q r h (inl a) (inr b) e = absurd (apart_by_number s.id r.id (h.0 r b).0 (ap (λ k. k.id) a ∙ e))
snapshot_alone (s ∷ rs) q r h (inr a) (inl b) e = absurd (apart_by_number s.id q.id (h.0 q a).0 (ap (λ k. k.id) b ∙ sym e))
snapshot_alone (s ∷ rs) q r h (inr a) (inr b) e = snapshot_alone rs q r h.1 a b e

pub no_restoration_freeze : (state : RestorationState) (m : Master) (changes : List Change) (r : RestorationRecord) (l : Listed) (snapshot : Id) (at : ℕ) → RestorationStateGood state m changes r → In l r.listed → l.body ≡ Freeze snapshot at → ⊥
no_restoration_freeze Fencing m changes r l snapshot at h isin e = let q : Fence ≡ Freeze snapshot at = sym (h.bodies l isin) ∙ e in grind arith
no_restoration_freeze (Restoring point serving) m changes r l snapshot at h isin e = subst (IsAfterSwitch r.to point serving) e (h.bodies l isin)
no_restoration_freeze (Releasing point serving) m changes r l snapshot at h isin e = let q : Release point ≡ Freeze snapshot at = sym (h.bodies l isin) ∙ e in grind arith
no_restoration_freeze _ m changes r l snapshot at h isin e = none_in r.listed l h.empty isin

pub no_clone_freeze : (state : CloneState) (m : Master) (c : CloneRecord) (l : Listed) (snapshot : Id) (at : ℕ) → CloneStateGood state m c → In l c.listed → l.body ≡ Freeze snapshot at → ⊥
no_clone_freeze (CloneSnapshot own) m c l snapshot at h isin e = none_in c.listed l h.empty isin
no_clone_freeze (Copying serving copied) m c l snapshot at h isin e =
    let b = h.bodies l isin in let q : Freeze snapshot at ≡ Copy b.pair.source_slot serving c.to copied b.pair.table b.pair.low b.pair.high 1 = sym e ∙ b.body_is in grind arith
no_clone_freeze (CloneReleasing serving copied) m c l snapshot at h isin e = let q : Freeze snapshot at ≡ Release h.since = sym e ∙ h.bodies l isin in grind arith
no_clone_freeze _ m c l snapshot at h isin e = none_in c.listed l h isin

pub hiding_is : (state : RestorationState) (m : Master) (changes : List Change) (r : RestorationRecord) (l : Listed) (at : ℕ) → RestorationStateGood state m changes r → In l r.listed → l.body ≡ Hide at → (serving : Id) × (state ≡ Restoring at serving)
hiding_is Fencing m changes r l at h isin e = absurd (let q : Fence ≡ Hide at = sym (h.bodies l isin) ∙ e in grind arith)
hiding_is (Restoring point serving) m changes r l at h isin e = let q : at ≡ point = subst (IsAfterSwitch r.to point serving) e (h.bodies l isin) in (serving, ap (λ z. Restoring z serving) (sym q))
hiding_is (Releasing point serving) m changes r l at h isin e = absurd (let q : Release point ≡ Hide at = sym (h.bodies l isin) ∙ e in grind arith)
hiding_is _ m changes r l at h isin e = absurd (none_in r.listed l h.empty isin)

pub no_clone_hide : (state : CloneState) (m : Master) (c : CloneRecord) (l : Listed) (ended : ℕ) → CloneStateGood state m c → In l c.listed → l.body ≡ Hide ended → ⊥
no_clone_hide (CloneSnapshot own) m c l ended h isin e = none_in c.listed l h.empty isin
no_clone_hide (Copying serving at) m c l ended h isin e =
    let b = h.bodies l isin in let q : Hide ended ≡ Copy b.pair.source_slot serving c.to at b.pair.table b.pair.low b.pair.high 1 = sym e ∙ b.body_is in grind arith
no_clone_hide (CloneReleasing serving at) m c l ended h isin e = let q : Hide ended ≡ Release h.since = sym e ∙ h.bodies l isin in grind arith
no_clone_hide _ m c l ended h isin e = none_in c.listed l h isin

pub releasing_is : (state : RestorationState) (m : Master) (changes : List Change) (r : RestorationRecord) (l : Listed) (cutoff : ℕ) → RestorationStateGood state m changes r → In l r.listed → l.body ≡ Release cutoff → (serving : Id) × (state ≡ Releasing cutoff serving)
releasing_is Fencing m changes r l cutoff h isin e = absurd (let q : Fence ≡ Release cutoff = sym (h.bodies l isin) ∙ e in grind arith)
releasing_is (Restoring point serving) m changes r l cutoff h isin e = absurd (subst (IsAfterSwitch r.to point serving) e (h.bodies l isin))
releasing_is (Releasing point serving) m changes r l cutoff h isin e = let q : Release point ≡ Release cutoff = sym (h.bodies l isin) ∙ e in let is : point ≡ cutoff = cc in (serving, ap (λ z. Releasing z serving) is)
releasing_is _ m changes r l cutoff h isin e = absurd (none_in r.listed l h.empty isin)

pub visible_is : (state : CloneState) (m : Master) (c : CloneRecord) (l : Listed) (cutoff : ℕ) → CloneStateGood state m c → In l c.listed → l.body ≡ Release cutoff → (serving : Id) × ((at : ℕ) × (state ≡ CloneReleasing serving at))
visible_is (CloneSnapshot own) m c l cutoff h isin e = absurd (none_in c.listed l h.empty isin)
visible_is (Copying serving at) m c l cutoff h isin e =
    absurd (let b = h.bodies l isin in let q : Release cutoff ≡ Copy b.pair.source_slot serving c.to at b.pair.table b.pair.low b.pair.high 1 = sym e ∙ b.body_is in grind arith)
visible_is (CloneReleasing serving at) m c l cutoff h isin e = (serving, (at, refl))
visible_is _ m c l cutoff h isin e = absurd (none_in c.listed l h isin)

pub set_in : (fs : List FrozenSet) (id : Id) (f : FrozenSet) → set_of fs id ≡ Some f → In f fs
set_in [] id f e = absurd (let q = e in grind arith)
set_in (g ∷ fs) id f e = either_way (same g.snapshot id)
    (λ b. inl (let q : Some g ≡ Some f = rw b at e in let is : g ≡ f = cc in is))
    (λ b. inr (set_in fs id f (rw b at e)))

pub before_earlier : (to : Option ℕ) (x y : ℕ) → x ≤ y → before_end y to ≡ true → before_end x to ≡ true
before_earlier None x y le h = refl
before_earlier (Some e) x y le h = grind (arith, nat_tests)

pub within : (i : Interval) (after at to : ℕ) → after < to → to ≤ at → active_at to i ≡ true → active_within after at i ≡ true
within i after at to less reaches active =
    let b = both_pass (leb i.from to) (before_end to i.to) active in
    let from : i.from ≤ to = leb-true i.from to b.0 in
    passes_both (leb i.from at) (before_end (after + 1) i.to) (le-leb i.from at (le_trans from reaches)) (before_earlier i.to (after + 1) to (omega arith) b.1)

-- the frozen set from which a tablet that was active at a time takes rows, where a complete snapshot serves it
pub record Serves (m : Master) (slot : ℕ) (t : Tablet) (snapshot : Id) (to : ℕ) : Type 0 where
  pub set : FrozenSet
  pub held : set_of t.frozen snapshot ≡ Some set
  pub isin : In set t.frozen
  pub reaches : to ≤ set.at

pub serves_then : (m : Master) (changes : List Change) (slot : ℕ) (t : Tablet) (snapshot ns : Id) (to : ℕ) (i : Interval) → OperationsGood m changes → SlotGood m changes slot t → SlotWorks m changes slot t → IsServing m snapshot ns to
    → In i m.activity → i.slot ≡ slot → owner_of m.catalog.owners i.table ≡ Some ns → active_at to i ≡ true → Serves m slot t snapshot to
serves_then m changes slot t snapshot ns to i ops good works serves isin at owned active =
    let s = serves.serving in
    let g = good.each i isin at in
    let k = (ops.snapshots s serves.kept).lists i isin (owned ∙ ap Some (sym serves.namespace_is)) (within i s.after s.at to serves.after serves.reaches active) in
    let did = works.obeyed.snapshots s k.line serves.kept k.listed (k.slot_is ∙ at) (ap (λ b. b || k.line.acked) serves.complete) (g.tablet_is ∙ sym k.tablet_is) g.present in
    let h = works.orders.holds s serves.kept did in
    let held : set_of t.frozen snapshot ≡ Some h.set = ap (set_of t.frozen) (sym serves.id_is) ∙ h.held in
    let time = h.time in
    let reaches = serves.reaches in
    record { set = h.set; held = held; isin = set_in t.frozen snapshot h.set held; reaches = omega (arith, time, reaches) }

pub restoring_is : (state : RestorationState) (m : Master) (changes : List Change) (r : RestorationRecord) (l : Listed) (snapshot : Id) (to at version : ℕ) → RestorationStateGood state m changes r → In l r.listed → l.body ≡ RestoreFrom snapshot to at version
    → (state ≡ Restoring at snapshot) × (to ≡ r.to)
restoring_is Fencing m changes r l snapshot to at version h isin e = absurd (let q : Fence ≡ RestoreFrom snapshot to at version = sym (h.bodies l isin) ∙ e in grind arith)
restoring_is (Restoring point serving) m changes r l snapshot to at version h isin e =
    let q = subst (IsAfterSwitch r.to point serving) e (h.bodies l isin) in (ap (λ p. Restoring p serving) (sym q.1.1) ∙ ap (Restoring at) (sym q.0), q.1.0)
restoring_is (Releasing point serving) m changes r l snapshot to at version h isin e = absurd (let q : Release point ≡ RestoreFrom snapshot to at version = sym (h.bodies l isin) ∙ e in grind arith)
restoring_is (Restored point serving) m changes r l snapshot to at version h isin e = absurd (none_in r.listed l h.empty isin)
restoring_is _ m changes r l snapshot to at version h isin e = absurd (none_in r.listed l h.empty isin)

pub no_clone_restore : (state : CloneState) (m : Master) (c : CloneRecord) (l : Listed) (snapshot : Id) (to at version : ℕ) → CloneStateGood state m c → In l c.listed → l.body ≡ RestoreFrom snapshot to at version → ⊥
no_clone_restore (CloneSnapshot own) m c l snapshot to at version h isin e = none_in c.listed l h.empty isin
no_clone_restore (Copying serving copied) m c l snapshot to at version h isin e =
    let b = h.bodies l isin in let q : RestoreFrom snapshot to at version ≡ Copy b.pair.source_slot serving c.to copied b.pair.table b.pair.low b.pair.high 1 = sym e ∙ b.body_is in grind arith
no_clone_restore (CloneReleasing serving copied) m c l snapshot to at version h isin e = let q : RestoreFrom snapshot to at version ≡ Release h.since = sym e ∙ h.bodies l isin in grind arith
no_clone_restore _ m c l snapshot to at version h isin e = none_in c.listed l h isin
