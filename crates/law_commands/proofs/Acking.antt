-- An ack keeps what holds: the tablet did what the record lists in its slot. Where it did not, a sent mark goes.
use Rattle.std.proofs.Common.{ℕ, ◌≡◌, ◌≤◌, List, [], ◌∷◌, Option, Some, None, Bool, true, false, cond, ◌&&◌, inl, inr, map, refl, sym, ap, subst, ◌∙◌, arith, not, eqb, eqb-true, le_refl, le_trans}
use Rattle.std.proofs.lemmas.Bool.{true≢false}
use Rattle.std.proofs.lemmas.Bool.Decides.{nat_tests}
use Rattle.model.specs.Cluster.{Kind, Snapshot, RestorationKind as Restoration, CloneKind as Clone, Id, same, In, Interval, Listed, Sent, SnapshotRecord, RestorationRecord, RestorationState, Fencing, Restoring, Releasing, CloneRecord, CloneState, CloneSnapshot, Copying, CloneReleasing, acked_at, unsent_at, Ack, Acked, NotPending, NotDone, Refused, Master, Parts, Acks, Unsends, answered}
use Rattle.model.specs.Journal.{Change}
use Rattle.model.specs.Tablets.{Tablet, Command, Body, Fence, Freeze, RestoreFrom, Hide, Copy, Release, ticked, kind_of, is_done}
use Rattle.model.specs.Coordination.{pending, acked_snapshot, acked_restoration, acked_clone, acked_by, acked as acked_master, acknowledging, ack}
use Rattle.model.specs.Stands.{is_restore}
use Rattle.model.specs.Entries.{slots_of}
use Rattle.model.specs.History.{told}
use Rattle.law_invariants.specs.Invariant.{SlotGood, Inv, Later}
use Rattle.law_invariants.specs.Operations.{IsAfterSwitch, RestoringGood, RestorationStateGood, CloneStateGood, OperationsGood}
use Rattle.law_invariants.proofs.Finding.{not_passing, same_equal, filter_in}
use Rattle.law_invariants.proofs.Ticking.{nothing_told, refused_keeps, KeepsAll}
use Rattle.law_invariants.proofs.Remembering.{FloorsHold, remembered_on, floor_rises}
use Rattle.law_invariants.proofs.Operating.{operations_on}
use Rattle.law_invariants.proofs.Ordering.{orders_on, obeyed_on}
use Rattle.law_invariants.proofs.Undoing.{same_rows, journal_on}
use Rattle.law_invariants.proofs.Working.{tables_drawn, all_listed, same_fixed, onward_ticked}
use Rattle.law_invariants.proofs.Hearing.{rows_on}
use Rattle.law_invariants.proofs.Frame.{touched, master_marked}
use Rattle.law_invariants.proofs.Commanded.{IsPending, BySnapshot, ByRestoration, ByClone, pending_is, snapshot_no_restoration, snapshot_no_clone, restoration_no_clone, none_in}
use Rattle.law_commands.proofs.Hiding.{no_end}
use Rattle.law_commands.proofs.Acked.{ack_snapshot, ack_restoration, ack_clone, acked_all, operations_acked}
use Rattle.law_commands.proofs.AckedSlots.{master_acked, remembered_acked, journal_acked, rows_acked, slot_acked, orders_acked, obeyed_acked}

-- The master after an ack

snapshots_same : (rs : List SnapshotRecord) (id : Id) (slot : ℕ) → ((r : SnapshotRecord) → In r rs → same r.id id ≡ false) → map (ack_snapshot id slot) rs ≡ rs
snapshots_same [] id slot apart = refl
snapshots_same (r ∷ rs) id slot apart =
    ap (λ b. record r { listed = cond b (acked_at slot r.listed) r.listed } ∷ map (ack_snapshot id slot) rs) (apart r (inl refl)) ∙ ap (λ qs. r ∷ qs) (snapshots_same rs id slot (λ q isin. apart q (inr isin)))

restorations_same : (rs : List RestorationRecord) (id : Id) (slot : ℕ) → ((r : RestorationRecord) → In r rs → same r.id id ≡ false) → map (ack_restoration id slot) rs ≡ rs
restorations_same [] id slot apart = refl
restorations_same (r ∷ rs) id slot apart =
    ap (λ b. record r { listed = cond b (acked_at slot r.listed) r.listed } ∷ map (ack_restoration id slot) rs) (apart r (inl refl)) ∙ ap (λ qs. r ∷ qs) (restorations_same rs id slot (λ q isin. apart q (inr isin)))

clones_same : (rs : List CloneRecord) (id : Id) (slot : ℕ) → ((r : CloneRecord) → In r rs → same r.id id ≡ false) → map (ack_clone id slot) rs ≡ rs
clones_same [] id slot apart = refl
clones_same (r ∷ rs) id slot apart =
    ap (λ b. record r { listed = cond b (acked_at slot r.listed) r.listed } ∷ map (ack_clone id slot) rs) (apart r (inl refl)) ∙ ap (λ qs. r ∷ qs) (clones_same rs id slot (λ q isin. apart q (inr isin)))

abbrev with_lists : Master → ℕ → List SnapshotRecord → List RestorationRecord → List CloneRecord → Master
with_lists m n snapshots restorations clones = record m { clock = n; snapshots = snapshots; restorations = restorations; clones = clones }

-- the ack of a pending command is one of whichever record has the identifier
acked_pending : (m : Master) (changes : List Change) (operation : Id) (slot n : ℕ) (l : Listed) → OperationsGood m changes → IsPending m operation slot l → acked_master operation slot n m ≡ acked_all operation slot (record m { clock = n })
acked_pending m changes operation slot n l ops (BySnapshot k) =
    let kind : operation.kind ≡ Snapshot = ap (λ i. i.kind) (sym k.id_is) ∙ (ops.snapshots k.snapshot k.kept).kind_is in
    ap (λ kd. acked_by kd operation slot n m) kind
    ∙ ap (λ rs. with_lists m n (acked_snapshot operation slot m.snapshots) rs m.clones) (sym (restorations_same m.restorations operation slot
    (λ r isin. not_passing (same r.id operation) (λ b. snapshot_no_restoration m changes k.snapshot r ops k.kept isin (k.id_is ∙ sym (same_equal r.id operation b))))))
    ∙ ap (λ cs. with_lists m n (acked_snapshot operation slot m.snapshots) (acked_restoration operation slot m.restorations) cs) (sym (clones_same m.clones operation slot
    (λ c isin. not_passing (same c.id operation) (λ b. snapshot_no_clone m changes k.snapshot c ops k.kept isin (k.id_is ∙ sym (same_equal c.id operation b))))))
acked_pending m changes operation slot n l ops (ByRestoration k) =
    let kind : operation.kind ≡ Restoration = ap (λ i. i.kind) (sym k.id_is) ∙ (ops.restorations k.restoration k.kept).kind_is in
    ap (λ kd. acked_by kd operation slot n m) kind
    ∙ ap (λ rs. with_lists m n rs (acked_restoration operation slot m.restorations) m.clones) (sym (snapshots_same m.snapshots operation slot
    (λ r isin. not_passing (same r.id operation) (λ b. snapshot_no_restoration m changes r k.restoration ops isin k.kept (same_equal r.id operation b ∙ sym k.id_is)))))
    ∙ ap (λ cs. with_lists m n (acked_snapshot operation slot m.snapshots) (acked_restoration operation slot m.restorations) cs) (sym (clones_same m.clones operation slot
    (λ c isin. not_passing (same c.id operation) (λ b. restoration_no_clone m changes k.restoration c ops k.kept isin (k.id_is ∙ sym (same_equal c.id operation b))))))
acked_pending m changes operation slot n l ops (ByClone k) =
    let kind : operation.kind ≡ Clone = ap (λ i. i.kind) (sym k.id_is) ∙ (ops.clones k.clone k.kept).kind_is in
    ap (λ kd. acked_by kd operation slot n m) kind
    ∙ ap (λ rs. with_lists m n rs m.restorations (acked_clone operation slot m.clones)) (sym (snapshots_same m.snapshots operation slot
    (λ r isin. not_passing (same r.id operation) (λ b. snapshot_no_clone m changes r k.clone ops isin k.kept (same_equal r.id operation b ∙ sym k.id_is)))))
    ∙ ap (λ rs. with_lists m n (acked_snapshot operation slot m.snapshots) rs (acked_clone operation slot m.clones)) (sym (restorations_same m.restorations operation slot
    (λ r isin. not_passing (same r.id operation) (λ b. restoration_no_clone m changes r k.clone ops isin k.kept (same_equal r.id operation b ∙ sym k.id_is)))))

activity_acked : (kind : Kind) (operation : Id) (slot n : ℕ) (m : Master) → (acked_by kind operation slot n m).activity ≡ m.activity
activity_acked Snapshot operation slot n m = refl
activity_acked _ operation slot n m = refl

-- What was done in the slot

switch_kinds : (a b : Body) (r : RestorationRecord) (point : ℕ) (serving : Id) → IsAfterSwitch r.to point serving a → IsAfterSwitch r.to point serving b → is_restore a ≡ is_restore b → kind_of a ≡ kind_of b
switch_kinds (RestoreFrom s to at version) (RestoreFrom s' to' at' version') r point serving ha hb e = refl
switch_kinds (RestoreFrom s to at version) (Hide ended) r point serving ha hb e = absurd (true≢false e)
switch_kinds (Hide ended) (RestoreFrom s to at version) r point serving ha hb e = absurd (true≢false (sym e))
switch_kinds (Hide ended) (Hide ended') r point serving ha hb e = refl
switch_kinds Fence b r point serving ha hb e = absurd ha
switch_kinds (Freeze s at) b r point serving ha hb e = absurd ha
switch_kinds (Copy q s to stamp table low high version) b r point serving ha hb e = absurd ha
switch_kinds (Release cutoff) b r point serving ha hb e = absurd ha
switch_kinds a Fence r point serving ha hb e = absurd hb
switch_kinds a (Freeze s at) r point serving ha hb e = absurd hb
switch_kinds a (Copy q s to stamp table low high version) r point serving ha hb e = absurd hb
switch_kinds a (Release cutoff) r point serving ha hb e = absurd hb

both_ways : (a b : Bool) → (a ≡ true → b ≡ false → ⊥) → (a ≡ false → b ≡ true → ⊥) → a ≡ b
both_ways true true x y = refl
both_ways false false x y = refl
both_ways true false x y = absurd (x refl refl)
both_ways false true x y = absurd (y refl refl)

not_both : (m : Master) (changes : List Change) (r : RestorationRecord) (point : ℕ) (serving : Id) (j l : Listed) → RestoringGood m changes r point serving → In j r.listed → In l r.listed → j.tablet ≡ l.tablet → is_restore j.body ≡ true → is_restore l.body ≡ false → ⊥
not_both m changes r point serving j l h inj inl_ same_ restores hides = let b = h.back j inj restores in no_end b.now.to point b.opened (h.gone l b.now inl_ hides b.kept_now (b.tablet_now ∙ same_))

-- two lines of a restoration in one slot have bodies of one kind
restoration_kinds : (state : RestorationState) (m : Master) (changes : List Change) (r : RestorationRecord) (j l : Listed) → RestorationStateGood state m changes r → In j r.listed → In l r.listed → j.tablet ≡ l.tablet → kind_of j.body ≡ kind_of l.body
restoration_kinds Fencing m changes r j l h inj inl_ same_ = ap kind_of (h.bodies j inj ∙ sym (h.bodies l inl_))
restoration_kinds (Restoring point serving) m changes r j l h inj inl_ same_ = switch_kinds j.body l.body r point serving (h.bodies j inj) (h.bodies l inl_)
    (both_ways (is_restore j.body) (is_restore l.body) (λ a b. not_both m changes r point serving j l h inj inl_ same_ a b) (λ a b. not_both m changes r point serving l j h inl_ inj (sym same_) b a))
restoration_kinds (Releasing point serving) m changes r j l h inj inl_ same_ = ap kind_of (h.bodies j inj ∙ sym (h.bodies l inl_))
restoration_kinds _ m changes r j l h inj inl_ same_ = absurd (none_in r.listed j h.empty inj)

clone_kinds : (state : CloneState) (m : Master) (c : CloneRecord) (j l : Listed) → CloneStateGood state m c → In j c.listed → In l c.listed → kind_of j.body ≡ kind_of l.body
clone_kinds (CloneSnapshot own) m c j l h inj inl_ = absurd (none_in c.listed j h.empty inj)
clone_kinds (Copying serving at) m c j l h inj inl_ = ap kind_of (h.bodies j inj).body_is ∙ sym (ap kind_of (h.bodies l inl_).body_is)
clone_kinds (CloneReleasing serving at) m c j l h inj inl_ = ap kind_of (h.bodies j inj ∙ sym (h.bodies l inl_))
clone_kinds _ m c j l h inj inl_ = absurd (none_in c.listed j h inj)

snapshot_did : (m : Master) (changes : List Change) (operation : Id) (slot : ℕ) (l : Listed) (t : Tablet) → OperationsGood m changes → IsPending m operation slot l → is_done t.done operation (kind_of l.body) ≡ true
    → (r : SnapshotRecord) (j : Listed) → In r m.snapshots → same r.id operation ≡ true → In j r.listed → is_done t.done r.id (kind_of j.body) ≡ true
snapshot_did m changes operation slot l t ops (BySnapshot k) did r j isin is lists =
    ap (λ z. is_done t.done z (kind_of j.body)) (same_equal r.id operation is)
    ∙ ap (λ z. is_done t.done operation z) (ap kind_of ((ops.snapshots r isin).bodies j lists) ∙ sym (ap kind_of ((ops.snapshots k.snapshot k.kept).bodies l k.line.listed))) ∙ did
snapshot_did m changes operation slot l t ops (ByRestoration k) did r j isin is lists = absurd (snapshot_no_restoration m changes r k.restoration ops isin k.kept (same_equal r.id operation is ∙ sym k.id_is))
snapshot_did m changes operation slot l t ops (ByClone k) did r j isin is lists = absurd (snapshot_no_clone m changes r k.clone ops isin k.kept (same_equal r.id operation is ∙ sym k.id_is))

restoration_did : (m : Master) (changes : List Change) (operation : Id) (slot : ℕ) (l : Listed) (t : Tablet) → OperationsGood m changes → SlotGood m changes slot t → IsPending m operation slot l → is_done t.done operation (kind_of l.body) ≡ true
    → (r : RestorationRecord) (j : Listed) → In r m.restorations → same r.id operation ≡ true → In j r.listed → j.slot ≡ slot → is_done t.done r.id (kind_of j.body) ≡ true
restoration_did m changes operation slot l t ops good (ByRestoration k) did r j isin is lists at =
    let one : k.restoration ≡ r = ops.apart.restoration_ids k.restoration r k.kept isin (k.id_is ∙ sym (same_equal r.id operation is)) in
    let j_lists : In j k.restoration.listed = subst (λ q. In j q.listed) (sym one) lists in
    let g = ops.restorations k.restoration k.kept in
    let a = g.known k.unfinished j j_lists in
    let b = g.known k.unfinished l k.line.listed in
    let same_ : j.tablet ≡ l.tablet = sym a.tablet_is ∙ sym (good.each a.interval a.kept (a.slot_is ∙ at)).tablet_is ∙ (good.each b.interval b.kept (b.slot_is ∙ k.line.slot_is)).tablet_is ∙ b.tablet_is in
    ap (λ z. is_done t.done z (kind_of j.body)) (same_equal r.id operation is)
    ∙ ap (λ z. is_done t.done operation z) (restoration_kinds k.restoration.state m changes k.restoration j l g.in_state j_lists k.line.listed same_) ∙ did
restoration_did m changes operation slot l t ops good (BySnapshot k) did r j isin is lists at = absurd (snapshot_no_restoration m changes k.snapshot r ops k.kept isin (k.id_is ∙ sym (same_equal r.id operation is)))
restoration_did m changes operation slot l t ops good (ByClone k) did r j isin is lists at = absurd (restoration_no_clone m changes r k.clone ops isin k.kept (same_equal r.id operation is ∙ sym k.id_is))

clone_did : (m : Master) (changes : List Change) (operation : Id) (slot : ℕ) (l : Listed) (t : Tablet) → OperationsGood m changes → IsPending m operation slot l → is_done t.done operation (kind_of l.body) ≡ true
    → (c : CloneRecord) (j : Listed) → In c m.clones → same c.id operation ≡ true → In j c.listed → is_done t.done c.id (kind_of j.body) ≡ true
clone_did m changes operation slot l t ops (ByClone k) did c j isin is lists =
    let one : k.clone ≡ c = ops.apart.clone_ids k.clone c k.kept isin (k.id_is ∙ sym (same_equal c.id operation is)) in
    let j_lists : In j k.clone.listed = subst (λ q. In j q.listed) (sym one) lists in
    ap (λ z. is_done t.done z (kind_of j.body)) (same_equal c.id operation is)
    ∙ ap (λ z. is_done t.done operation z) (clone_kinds k.clone.state m k.clone j l (ops.clones k.clone k.kept).in_state j_lists k.line.listed) ∙ did
clone_did m changes operation slot l t ops (BySnapshot k) did c j isin is lists = absurd (snapshot_no_clone m changes k.snapshot c ops k.kept isin (k.id_is ∙ sym (same_equal c.id operation is)))
clone_did m changes operation slot l t ops (ByRestoration k) did c j isin is lists = absurd (restoration_no_clone m changes k.restoration c ops k.kept isin (k.id_is ∙ sym (same_equal c.id operation is)))

-- a command of the operation in the slot's inbox would be one that was done
other_slot : (ps : Parts) (activity : List Interval) (changes : List Change) (operation : Id) (slot other : ℕ) (l : Listed) → Inv ps activity changes → IsPending ps.master operation slot l → is_done (ps.tablet slot).done operation (kind_of l.body) ≡ true
    → (c : Command) → In c (ps.tablet other).inbox → same c.operation operation ≡ true → eqb other slot ≡ false
other_slot ps activity changes operation slot other l inv p did c isin is = not_passing (eqb other slot) (λ b.
    let m = ps.master in
    let here : other ≡ slot = eqb-true other slot b in
    let isin' : In c (ps.tablet slot).inbox = subst (λ s. In c (ps.tablet s).inbox) here isin in
    let o = (inv.works slot).orders in
    let fresh : is_done (ps.tablet slot).done c.operation (kind_of c.body) ≡ false = o.fresh c isin' in
    let q = pending_is m c.operation slot _ (o.orders c isin').is_pending in
    true≢false (sym (given q is) ∙ fresh))
  where
    given : (q : IsPending ps.master c.operation slot (record { tablet = c.tablet; slot = slot; body = c.body; acked = false })) → same c.operation operation ≡ true → is_done (ps.tablet slot).done c.operation (kind_of c.body) ≡ true
    given (BySnapshot k) is = ap (λ z. is_done (ps.tablet slot).done z (kind_of c.body)) (sym k.id_is)
        ∙ snapshot_did ps.master changes operation slot l (ps.tablet slot) inv.operations p did k.snapshot _ k.kept (ap (λ z. same z operation) k.id_is ∙ is) k.line.listed
    given (ByRestoration k) is = ap (λ z. is_done (ps.tablet slot).done z (kind_of c.body)) (sym k.id_is)
        ∙ restoration_did ps.master changes operation slot l (ps.tablet slot) inv.operations (inv.slots slot) p did k.restoration _ k.kept (ap (λ z. same z operation) k.id_is ∙ is) k.line.listed refl
    given (ByClone k) is = ap (λ z. is_done (ps.tablet slot).done z (kind_of c.body)) (sym k.id_is)
        ∙ clone_did ps.master changes operation slot l (ps.tablet slot) inv.operations p did k.clone _ k.kept (ap (λ z. same z operation) k.id_is ∙ is) k.line.listed

-- What holds after an ack

acked_inv : (ps : Parts) (activity : List Interval) (changes : List Change) (operation : Id) (slot : ℕ) (l : Listed) → Inv ps activity changes → IsPending ps.master operation slot l → is_done (ps.tablet slot).done operation (kind_of l.body) ≡ true
    → (ps.tablet slot).clock ≤ ps.master.clock → Inv (record ps { master = acked_all operation slot ps.master }) activity changes
acked_inv ps activity changes operation slot l inv p did heard = let m = ps.master in record {
  master = master_acked m operation slot changes inv.master;
  remembered = remembered_acked m operation slot activity inv.remembered;
  cover = inv.cover;
  slots = λ i. slot_acked m operation slot i changes (ps.tablet i) (inv.slots i);
  operations = operations_acked m operation slot changes inv.operations;
  journal = journal_acked m operation slot changes inv.journal;
  rows_past = rows_acked m operation slot ps.tablet changes heard inv.rows_past;
  works = λ i. record {
    orders = orders_acked m operation slot i (ps.tablet i) (other_slot ps activity changes operation slot i l inv p did) (inv.works i).orders;
    obeyed = obeyed_acked m operation slot i changes (ps.tablet i) inv.operations
        (record {
          snapshots = λ r j isin is lists at here. subst (λ s. is_done (ps.tablet s).done r.id (kind_of j.body) ≡ true) (sym at ∙ here) (snapshot_did m changes operation slot l (ps.tablet slot) inv.operations p did r j isin is lists);
          restorations = λ r j isin is lists at here. subst (λ s. is_done (ps.tablet s).done r.id (kind_of j.body) ≡ true) (sym at ∙ here)
              (restoration_did m changes operation slot l (ps.tablet slot) inv.operations (inv.slots slot) p did r j isin is lists at);
          clones = λ c j isin is lists at here. subst (λ s. is_done (ps.tablet s).done c.id (kind_of j.body) ≡ true) (sym at ∙ here) (clone_did m changes operation slot l (ps.tablet slot) inv.operations p did c j isin is lists);
        })
        (inv.works i).obeyed;
  };
}

-- fewer sent marks
marked_inv : (ps : Parts) (activity : List Interval) (changes : List Change) (s : List Sent) → ((mark : Sent) → In mark s → In mark ps.master.sent) → Inv ps activity changes → Inv (record ps { master = record ps.master { sent = s } }) activity changes
marked_inv ps activity changes s fewer inv =
    let m = ps.master in
    let o = onward_ticked m m.clock changes changes (le_refl _) (tables_drawn m activity inv.remembered) (same_fixed changes) in
    let floors : FloorsHold m (record m { sent = s }) = record { clock = le_refl _; schedules = refl; restorations = refl; clones = refl } in
    record {
      master = master_marked m s changes inv.master;
      remembered = remembered_on m (record m { sent = s }) activity floors refl refl (le_refl _) (le_refl _) inv.remembered;
      cover = inv.cover;
      slots = λ i. inv.slots i;
      operations = operations_on m m.clock m.catalog m.activity m.drawn s changes changes o (λ ns. le_trans (inv.operations.kept ns) (floor_rises m (record m { sent = s }) ns floors)) inv.operations.owners fewer (all_listed m changes inv.master) inv.operations;
      journal = journal_on m m.clock m.catalog m.activity m.drawn s changes changes (same_rows changes) (λ ns to. refl) (le_refl _) (le_refl _) (λ table lower. refl) inv.journal;
      rows_past = rows_on m m.clock m.catalog m.activity m.drawn s changes changes ps.tablet ps.tablet (le_refl _) (λ i. le_refl _) (λ i isin. inl isin) (λ b table key op isin is. isin) inv.rows_past;
      works = λ i. record {
        orders = orders_on m m.clock m.catalog m.activity m.drawn s changes changes i (ps.tablet i) o (inv.works i).orders;
        obeyed = obeyed_on m m.clock m.catalog m.activity m.drawn s changes changes i (ps.tablet i) o (λ k serving at d key isin is paired. refl) inv.operations (inv.works i).obeyed;
      };
    }

-- The act

second_acked : (operation : Id) (slot : ℕ) → 1 ≤ slot → touched (Ack operation slot) slot ≡ true
second_acked operation slot from = grind (arith, nat_tests)

ticks : (m : Master) (n : ℕ) (operation : Id) (slot : ℕ) (l : Listed) → IsPending m operation slot l → IsPending (record m { clock = n }) operation slot l
ticks m n operation slot l (BySnapshot k) = BySnapshot (record { snapshot = k.snapshot; kept = k.kept; id_is = k.id_is; unfinished = k.unfinished; line = k.line })
ticks m n operation slot l (ByRestoration k) = ByRestoration (record { restoration = k.restoration; kept = k.kept; id_is = k.id_is; unfinished = k.unfinished; line = k.line })
ticks m n operation slot l (ByClone k) = ByClone (record { clone = k.clone; kept = k.kept; id_is = k.id_is; unfinished = k.unfinished; line = k.line })

acked_by_done : (b : Bool) (ps : Parts) (activity : List Interval) (changes : List Change) (n : ℕ) (operation : Id) (slot : ℕ) (l : Listed) → is_done (ps.tablet slot).done operation (kind_of l.body) ≡ b → pending ps.master operation slot ≡ Some l
    → Later (slots_of (Ack operation slot)) ps n → 1 ≤ slot → Inv ps activity changes
    → KeepsAll (Ack operation slot) n ps activity changes
    (cond b (record { master = Acks operation slot; tablets = []; reply = Acked }) (record { master = Unsends operation slot; tablets = []; reply = Refused NotDone }))
acked_by_done true ps activity changes n operation slot l did e later from inv =
    let m = ps.master in
    let t = ps.tablet slot in
    let act = Ack operation slot in
    let p = pending_is m operation slot l e in
    let before = nothing_told act Acked n ps activity changes later inv in
    let qs = told act (answered Acked) n ps in
    let at = second_acked operation slot from in
    let did' : is_done (qs.tablet slot).done operation (kind_of l.body) ≡ true = ap (λ b. is_done (cond b (ticked n t) t).done operation (kind_of l.body)) at ∙ did in
    let heard : (qs.tablet slot).clock ≤ n = subst (λ b. (cond b (ticked n t) t).clock ≤ n) (sym at) (le_refl n) in
    let after : Inv (record qs { master = acked_all operation slot (record m { clock = n }) }) activity changes = acked_inv qs activity changes operation slot l before (ticks m n operation slot l p) did' heard in
    subst (λ a. Inv (record qs { master = acked_master operation slot n m }) a changes) (sym (activity_acked operation.kind operation slot n (record m { activity = activity })))
    (subst (λ k. Inv (record qs { master = k }) activity changes) (sym (acked_pending m changes operation slot n l inv.operations p)) after)
acked_by_done false ps activity changes n operation slot l did e later from inv =
    let act = Ack operation slot in
    marked_inv (told act (answered Acked) n ps) activity changes (unsent_at operation slot ps.master.sent) (λ mark isin. (filter_in ps.master.sent (λ s. not (same s.operation operation && eqb s.slot slot)) mark isin).0)
    (nothing_told act Acked n ps activity changes later inv)

acked_of : (found : Option Listed) (ps : Parts) (activity : List Interval) (changes : List Change) (n : ℕ) (operation : Id) (slot : ℕ) → pending ps.master operation slot ≡ found → Later (slots_of (Ack operation slot)) ps n → 1 ≤ slot
    → Inv ps activity changes → KeepsAll (Ack operation slot) n ps activity changes (acknowledging found operation slot (ps.tablet slot))
acked_of None ps activity changes n operation slot e later from inv = refused_keeps (Ack operation slot) (NotPending operation) n ps activity changes later inv refl
acked_of (Some l) ps activity changes n operation slot e later from inv = acked_by_done (is_done (ps.tablet slot).done operation (kind_of l.body)) ps activity changes n operation slot l refl e later from inv

pub ack_keeps : (ps : Parts) (activity : List Interval) (changes : List Change) (n : ℕ) (operation : Id) (slot : ℕ) → Later (slots_of (Ack operation slot)) ps n → 1 ≤ slot → Inv ps activity changes
    → KeepsAll (Ack operation slot) n ps activity changes (ack operation slot n ps)
unfolding ack
ack_keeps ps activity changes n operation slot later from inv = acked_of (pending ps.master operation slot) ps activity changes n operation slot refl later from inv
