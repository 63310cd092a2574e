-- What is told of the master's records goes on, whatever the master is told.
use Rattle.std.proofs.Common.{◌≡◌, ◌≢◌, ℕ, ◌≤◌, ◌+◌, Bool, true, false, List, [], ◌∷◌, inl, inr, refl, sym, ap, subst, ◌∙◌, arith, not, le_trans, le_refl, if◌then◌else◌, ◌++◌, Option, Some, None}
use Rattle.model.specs.Cluster.{Id, Kind, NamespaceKind as Namespace, TableKind as Table, TabletKind as Tablet, ScheduleKind as Schedule, Snapshot, RestorationKind as Restoration, CloneKind as Clone, same, In, Release, Listed, Schedule as ScheduleRecord, SnapshotRecord, RestorationRecord, RestorationState, CloneRecord, CloneState, State, IsCreating, IsFencing, IsAccepted, acked_at, point_of, restoration_state, Fencing, Snapshotting, Switching, Restoring, Releasing, Restored, Accepted, CloneSnapshot, Copying, CloneReleasing, CloneComplete, IsComplete, IsSnapshot, IsSwitching, IsRestoring, IsReleasing, IsRestored, IsCopying, TabletPair, schedule_of, Drawn, Master, BeginsRestoration, BeginsClone, MakesNamespace, MakesTable, SplitsTablet, MakesSchedule, TakesSnapshot, Acks, Moves, Removes, MasterAct}
use Rattle.model.specs.Journal.{Change}
use Rattle.model.specs.Lists.{new_snapshot, next_snapshot, with_snapshot}
use Rattle.model.specs.Changed.{new_clone, next_clone, next_restoration}
use Rattle.model.specs.Cleanup.{removed_of}
use Rattle.model.specs.Coordination.{acked_by, unfinished_snapshot, unfinished_restoration, unfinished_clone}
use Rattle.model.specs.Moves.{clone_enters, restoration_enters, begins_clone, clone_goes, clone_moved, completed, copies, moved_of, released, restoration_moved, serving_clone, switched, with_clones_snapshot, with_target}
use Rattle.model.specs.Drawn.{drawn_of}
use Rattle.model.specs.History.{master_effect}
use Rattle.std.specs.Option.{option_map_or}
use Rattle.model.specs.Stands.{copied_at}
use Rattle.law_invariants.proofs.Effects.{acked_each, begins_each, moved_each, removed_each}
use Rattle.law_invariants.proofs.Pending.{unfinished_snapshot_is, unfinished_restoration_is, unfinished_clone_is}
use Rattle.law_invariants.proofs.Using.{one_snapshot}
use Rattle.model.specs.Entering.{Entering, IsAfterOwn, states_of, states_to, states_of_snapshot, clone_states_to}
use Rattle.law_store.proofs.Keys.{either_way}
use Rattle.law_invariants.specs.Operations.{Alone, OperationsGood}
use Rattle.law_invariants.proofs.Finding.{apart_by_number, filter_in, in_append, in_mapped, same_equal, same_self}
use Rattle.law_once.specs.Told.{AllTold, CloneTold, RestorationTold, SnapshotTold, enters, CloneStates, begins_entered, clone_entered, moved_entered, own_entered, restoration_entered, told_entered}
use Rattle.law_once.proofs.States.{after_own_on, clone_passed, new_apart, other_kind, restoration_passed, snapshot_passed, states_entered, states_none}

-- Numbers

grown : (d e : Drawn) → d.namespaces ≤ e.namespaces → d.tables ≤ e.tables → d.tablets ≤ e.tablets → d.schedules ≤ e.schedules → d.snapshots ≤ e.snapshots → d.restorations ≤ e.restorations → d.clones ≤ e.clones → (kind : Kind) → drawn_of kind d ≤ drawn_of kind e
grown d e a b c f g h i Namespace = a
grown d e a b c f g h i Table = b
grown d e a b c f g h i Tablet = c
grown d e a b c f g h i Schedule = f
grown d e a b c f g h i Snapshot = g
grown d e a b c f g h i Restoration = h
grown d e a b c f g h i Clone = i

-- What stays

-- the master's records are the same
quiet : (m after : Master) (es : List Entering) → m.clock ≤ after.clock → ((kind : Kind) → drawn_of kind m.drawn ≤ drawn_of kind after.drawn) → after.snapshots ≡ m.snapshots → after.restorations ≡ m.restorations → after.clones ≡ m.clones → AllTold m es → AllTold after es
quiet m after es le grows snapshots restorations clones h = record {
  known = λ e isin. le_trans (h.known e isin) (grows e.operation.kind);
  past = λ e isin. le_trans (h.past e isin) le;
  snapshots = λ r isin. h.snapshots r (subst (In r) snapshots isin);
  restorations = λ r isin. h.restorations r (subst (In r) restorations isin);
  clones = λ c isin. h.clones c (subst (In c) clones isin);
}

same_drawn : (d : Drawn) (kind : Kind) → drawn_of kind d ≤ drawn_of kind d
same_drawn d kind = le_refl (drawn_of kind d)

-- an ack leaves what the listed tablets are to do
acked_told : (kind : Kind) (operation : Id) (slot n : ℕ) (m : Master) (es : List Entering) → m.clock ≤ n → AllTold m es → AllTold (acked_by kind operation slot n m) es
acked_told Snapshot operation slot n m es le h = record {
  known = h.known;
  past = λ e isin. le_trans (h.past e isin) le;
  snapshots = in_mapped {A = SnapshotRecord} {B = SnapshotRecord} _ (λ r. SnapshotTold es r.id r.complete r.at) m.snapshots h.snapshots;
  restorations = h.restorations;
  clones = h.clones;
}
acked_told Restoration operation slot n m es le h = record {
  known = h.known;
  past = λ e isin. le_trans (h.past e isin) le;
  snapshots = h.snapshots;
  restorations = in_mapped {A = RestorationRecord} {B = RestorationRecord} _ (λ r. RestorationTold es r.id r.state) m.restorations h.restorations;
  clones = h.clones;
}
acked_told Clone operation slot n m es le h = record {
  known = h.known;
  past = λ e isin. le_trans (h.past e isin) le;
  snapshots = h.snapshots;
  restorations = h.restorations;
  clones = in_mapped {A = CloneRecord} {B = CloneRecord} _ (λ c. CloneTold es c.id c.state c.listed) m.clones (λ c isin.
      let g = h.clones c isin in
      record { kind_is = g.kind_is; states = g.states; copied = g.copied; released = acked_lines (same c.id operation) c.listed g.released });
}
  where
    acked_lines : (b : Bool) (ls : List Listed) {P : ℕ → Type 0} → ((l : Listed) (cutoff : ℕ) → In l ls → l.body ≡ Release cutoff → P cutoff) → (l : Listed) (cutoff : ℕ) → In l (if b then acked_at slot ls else ls) → l.body ≡ Release cutoff → P cutoff
    acked_lines false ls old l cutoff isin is = old l cutoff isin is
    acked_lines true ls {P} old l cutoff isin is = in_mapped {A = Listed} {B = Listed} _ (λ k. k.body ≡ Release cutoff → P cutoff) ls (λ k there its. old k cutoff there its) l isin is
acked_told Namespace operation slot n m es le h = quiet m _ es le (same_drawn m.drawn) refl refl refl h
acked_told Table operation slot n m es le h = quiet m _ es le (same_drawn m.drawn) refl refl refl h
acked_told Tablet operation slot n m es le h = quiet m _ es le (same_drawn m.drawn) refl refl refl h
acked_told Schedule operation slot n m es le h = quiet m _ es le (same_drawn m.drawn) refl refl refl h

removed_told : (kind : Kind) (target : Id) (n : ℕ) (m : Master) (es : List Entering) → m.clock ≤ n → AllTold m es → AllTold (removed_of kind target n m) es
removed_told Snapshot target n m es le h = record {
  known = h.known;
  past = λ e isin. le_trans (h.past e isin) le;
  snapshots = λ r isin. h.snapshots r (filter_in m.snapshots (λ q. not (same q.id target)) r isin).0;
  restorations = h.restorations;
  clones = h.clones;
}
removed_told _ target n m es le h = quiet m _ es le (same_drawn m.drawn) refl refl refl h

-- A record more

-- one that is entered stays known and past, where the new one is
known_on : (m : Master) (d : Drawn) (es : List Entering) (x : Entering) → ((kind : Kind) → drawn_of kind m.drawn ≤ drawn_of kind d) → AllTold m es → x.operation.number ≤ drawn_of x.operation.kind d → (e : Entering) → In e (x ∷ es) → e.operation.number ≤ drawn_of e.operation.kind d
known_on m d es x grows h own e (inl is) = subst (λ k. k.operation.number ≤ drawn_of k.operation.kind d) is own
known_on m d es x grows h own e (inr isin) = le_trans (h.known e isin) (grows e.operation.kind)

past_on : (m : Master) (n : ℕ) (es : List Entering) (x : Entering) → m.clock ≤ n → AllTold m es → x.at ≤ n → (e : Entering) → In e (x ∷ es) → e.at ≤ n
past_on m n es x le h own e (inl is) = subst (λ k. k.at ≤ n) is own
past_on m n es x le h own e (inr isin) = le_trans (h.past e isin) le

-- an identifier that is next was none of those that entered a state
fresh_states : (kind : Kind) (m : Master) (es : List Entering) → AllTold m es → states_of (record { kind = kind; number = drawn_of kind m.drawn + 1 }) es ≡ []
fresh_states kind m es h = states_none es _ (new_apart kind (drawn_of kind m.drawn) (drawn_of kind m.drawn + 1) es (λ k. drawn_of k m.drawn) h.known (omega arith))

-- a snapshot is taken
taken_told : (ns schedule : Id) (n : ℕ) (m after : Master) (changes : List Change) (es : List Entering) → m.clock ≤ n → after.clock ≡ n → after.drawn ≡ (with_snapshot ns schedule n m).drawn → after.snapshots ≡ (with_snapshot ns schedule n m).snapshots
    → after.restorations ≡ m.restorations → after.clones ≡ m.clones → OperationsGood m changes → AllTold m es → AllTold after (enters (next_snapshot m) IsCreating n ∷ es)
taken_told ns schedule n m after changes es le clock drawn snapshots restorations clones ops h =
    let x = enters (next_snapshot m) IsCreating n in
    let d : Drawn = (with_snapshot ns schedule n m).drawn in
    let grows = grown m.drawn d (omega arith) (omega arith) (omega arith) (omega arith) (omega arith) (omega arith) (omega arith) in record {
      known = subst (λ d. (e : Entering) → In e (x ∷ es) → e.operation.number ≤ drawn_of e.operation.kind d) (sym drawn) (known_on m d es x grows h (omega arith));
      past = subst (λ k. (e : Entering) → In e (x ∷ es) → e.at ≤ k) (sym clock) (past_on m n es x le h (omega arith));
      snapshots = λ r isin. elim (in_append m.snapshots (new_snapshot m ns schedule n ∷ []) r (subst (In r) snapshots isin)) [
        | inl old ↦ snapshot_passed x es r.id r.complete r.at (λ e. apart_by_number r.id (next_snapshot m) (let l : r.id.number ≤ m.drawn.snapshots = (ops.snapshots r old).drawn in omega arith) (sym e)) (h.snapshots r old)
        | inr new ↦ (elim new [
          | inl is ↦ subst (λ q. SnapshotTold (x ∷ es) q.id q.complete q.at) is (record { kind_is = refl; states = states_entered x es ∙ ap (λ ss. IsCreating ∷ ss) (fresh_states Snapshot m es h); taken = inl refl })
          | inr none ↦ absurd none
        ])
      ];
      restorations = λ r isin. let there = subst (In r) restorations isin in restoration_passed x es r.id r.state (other_kind x.operation r.id Snapshot Restoration refl (h.restorations r there).kind_is (λ q. let e = q in grind arith)) (h.restorations r there);
      clones = λ c isin. let there = subst (In c) clones isin in clone_passed x es c.id c.state c.listed (other_kind x.operation c.id Snapshot Clone refl (h.clones c there).kind_is (λ q. let e = q in grind arith)) (h.clones c there);
    }

-- a restoration begins
begun_told : (s : ScheduleRecord) (to n : ℕ) (m : Master) (changes : List Change) (es : List Entering) → m.clock ≤ n → OperationsGood m changes → AllTold m es → AllTold (master_effect (BeginsRestoration s to) n m) (enters (next_restoration m) IsFencing n ∷ es)
begun_told s to n m changes es le ops h =
    let x = enters (next_restoration m) IsFencing n in
    let after = master_effect (BeginsRestoration s to) n m in
    let grows = grown m.drawn after.drawn (omega arith) (omega arith) (omega arith) (omega arith) (omega arith) (omega arith) (omega arith) in record {
      known = known_on m after.drawn es x grows h (omega arith);
      past = past_on m n es x le h (omega arith);
      snapshots = λ r isin. snapshot_passed x es r.id r.complete r.at (other_kind x.operation r.id Restoration Snapshot refl (h.snapshots r isin).kind_is (λ q. let e = q in grind arith)) (h.snapshots r isin);
      restorations = λ r isin. elim (in_append m.restorations _ r isin) [
        | inl old ↦ restoration_passed x es r.id r.state (λ e. apart_by_number r.id (next_restoration m) (let l : r.id.number ≤ m.drawn.restorations = (ops.restorations r old).drawn in omega arith) (sym e)) (h.restorations r old)
        | inr new ↦ (elim new [
          | inl is ↦ subst (λ (q : RestorationRecord). RestorationTold (x ∷ es) q.id q.state) is (record { kind_is = refl; states = states_entered x es ∙ ap (λ ss. IsFencing ∷ ss) (fresh_states Restoration m es h); point = tt })
          | inr none ↦ absurd none
        ])
      ];
      clones = λ c isin. clone_passed x es c.id c.state c.listed (other_kind x.operation c.id Restoration Clone refl (h.clones c isin).kind_is (λ q. let e = q in grind arith)) (h.clones c isin);
    }

-- a clone begins
cloned_told : (ns : Id) (source target : List ℕ) (to n : ℕ) (m : Master) (changes : List Change) (es : List Entering) → m.clock ≤ n → OperationsGood m changes → AllTold m es → AllTold (master_effect (BeginsClone ns source target to) n m) (enters (next_clone m) IsAccepted n ∷ es)
cloned_told ns source target to n m changes es le ops h =
    let x = enters (next_clone m) IsAccepted n in
    let after = master_effect (BeginsClone ns source target to) n m in
    let grows = grown m.drawn after.drawn (omega arith) (omega arith) (omega arith) (omega arith) (omega arith) (omega arith) (omega arith) in record {
      known = known_on m after.drawn es x grows h (omega arith);
      past = past_on m n es x le h (omega arith);
      snapshots = λ r isin. snapshot_passed x es r.id r.complete r.at (other_kind x.operation r.id Clone Snapshot refl (h.snapshots r isin).kind_is (λ q. let e = q in grind arith)) (h.snapshots r isin);
      restorations = λ r isin. restoration_passed x es r.id r.state (other_kind x.operation r.id Clone Restoration refl (h.restorations r isin).kind_is (λ q. let e = q in grind arith)) (h.restorations r isin);
      clones = λ c isin. elim (in_append m.clones (new_clone ns source target to m ∷ []) c isin) [
        | inl old ↦ clone_passed x es c.id c.state c.listed (λ e. apart_by_number c.id (next_clone m) (let l : c.id.number ≤ m.drawn.clones = (ops.clones c old).drawn in omega arith) (sym e)) (h.clones c old)
        | inr new ↦ (elim new [
          | inl is ↦ subst (λ (q : CloneRecord). CloneTold (x ∷ es) q.id q.state q.listed) is (record {
            kind_is = refl;
            states = inl (states_entered x es ∙ ap (λ ss. IsAccepted ∷ ss) (fresh_states Clone m es h));
            copied = λ at none. absurd (let q = none in grind arith);
            released = λ l cutoff isin is. absurd isin;
          })
          | inr none ↦ absurd none
        ])
      ];
    }

-- A move

-- the one record of an identifier
pub one_of : {A : Type 0} (id_of : A → Id) (xs : List A) (x y : A) → Alone id_of xs → In x xs → In y xs → same (id_of y) (id_of x) ≡ true → y ≡ x
one_of id_of xs x y alone there isin e = alone y x isin there (same_equal (id_of y) (id_of x) e)

pub differs : (a b : Id) → same a b ≡ false → b ≢ a
differs a b e is = absurd (let q : same a b ≡ true = ap (same a) is ∙ same_self a in grind arith)

-- a restoration enters its next state
restoration_told : (r : RestorationRecord) (state : RestorationState) (listed : List Listed) (n : ℕ) (m : Master) (es : List Entering) → m.clock ≤ n → Alone (λ (q : RestorationRecord). q.id) m.restorations → In r m.restorations → r.id.number ≤ drawn_of r.id.kind m.drawn
    → states_to state ≡ restoration_state state ∷ states_to r.state → IsAfterOwn (enters r.id (restoration_state state) n ∷ es) r.id (point_of state) → AllTold m es → AllTold (restoration_enters r state listed n m) (enters r.id (restoration_state state) n ∷ es)
restoration_told r state listed n m es le alone there drawn next point h =
    let x = enters r.id (restoration_state state) n in record {
      known = known_on m m.drawn es x (same_drawn m.drawn) h drawn;
      past = past_on m n es x le h (le_refl n);
      snapshots = λ q isin. snapshot_passed x es q.id q.complete q.at (other_kind x.operation q.id Restoration Snapshot (h.restorations r there).kind_is (h.snapshots q isin).kind_is (λ k. let e = k in grind arith)) (h.snapshots q isin);
      restorations = in_mapped {A = RestorationRecord} {B = RestorationRecord} _ (λ q. RestorationTold (x ∷ es) q.id q.state) m.restorations (λ q isin. either_way (same q.id r.id)
          (λ b.
          let is : q ≡ r = one_of (λ (k : RestorationRecord). k.id) m.restorations r q alone there isin b in
          let told = h.restorations r there in
          let entered : RestorationTold (x ∷ es) r.id state = record { kind_is = told.kind_is; states = states_entered x es ∙ ap (λ ss. restoration_state state ∷ ss) told.states ∙ sym next; point = point } in
          subst (λ c. RestorationTold (x ∷ es) q.id (if c then state else q.state)) (sym b) (subst (λ (k : RestorationRecord). RestorationTold (x ∷ es) k.id state) (sym is) entered))
          (λ b. subst (λ c. RestorationTold (x ∷ es) q.id (if c then state else q.state)) (sym b) (restoration_passed x es q.id q.state (differs q.id r.id b) (h.restorations q isin))));
      clones = λ c isin. clone_passed x es c.id c.state c.listed (other_kind x.operation c.id Restoration Clone (h.restorations r there).kind_is (h.clones c isin).kind_is (λ k. let e = k in grind arith)) (h.clones c isin);
    }

-- a clone enters its next state
clone_told : (c : CloneRecord) (state : CloneState) (entering : State) (listed : List Listed) (n : ℕ) (m : Master) (es : List Entering) → m.clock ≤ n → Alone (λ (q : CloneRecord). q.id) m.clones → In c m.clones → c.id.number ≤ drawn_of c.id.kind m.drawn
    → CloneTold (enters c.id entering n ∷ es) c.id state listed → AllTold m es → AllTold (clone_enters c state listed n m) (enters c.id entering n ∷ es)
clone_told c state entering listed n m es le alone there drawn entered h =
    let x = enters c.id entering n in record {
      known = known_on m m.drawn es x (same_drawn m.drawn) h drawn;
      past = past_on m n es x le h (le_refl n);
      snapshots = λ q isin. snapshot_passed x es q.id q.complete q.at (other_kind x.operation q.id Clone Snapshot (h.clones c there).kind_is (h.snapshots q isin).kind_is (λ k. let e = k in grind arith)) (h.snapshots q isin);
      restorations = λ q isin. restoration_passed x es q.id q.state (other_kind x.operation q.id Clone Restoration (h.clones c there).kind_is (h.restorations q isin).kind_is (λ k. let e = k in grind arith)) (h.restorations q isin);
      clones = in_mapped {A = CloneRecord} {B = CloneRecord} _ (λ q. CloneTold (x ∷ es) q.id q.state q.listed) m.clones (λ q isin. either_way (same q.id c.id)
          (λ b.
          let is : q ≡ c = one_of (λ (k : CloneRecord). k.id) m.clones c q alone there isin b in
          subst (λ k. CloneTold (x ∷ es) q.id (if k then state else q.state) (if k then listed else q.listed)) (sym b) (subst (λ (k : CloneRecord). CloneTold (x ∷ es) k.id state listed) (sym is) entered))
          (λ b. subst (λ k. CloneTold (x ∷ es) q.id (if k then state else q.state) (if k then listed else q.listed)) (sym b) (clone_passed x es q.id q.state q.listed (differs q.id c.id b) (h.clones q isin))));
    }

-- a snapshot is complete
completed_told : (r : SnapshotRecord) (n : ℕ) (m : Master) (changes : List Change) (es : List Entering) → m.clock ≤ n → In r m.snapshots → r.complete ≡ false → OperationsGood m changes → AllTold m es → AllTold (completed r n m) (enters r.id IsComplete n ∷ es)
completed_told r n m changes es le there open_ ops h =
    let x = enters r.id IsComplete n in
    let told = h.snapshots r there in
    let drawn : r.id.number ≤ drawn_of r.id.kind m.drawn = subst (λ kind. r.id.number ≤ drawn_of kind m.drawn) (sym told.kind_is) (ops.snapshots r there).drawn in record {
      known = known_on m m.drawn es x (same_drawn m.drawn) h drawn;
      past = past_on m n es x le h (le_refl n);
      snapshots = in_mapped {A = SnapshotRecord} {B = SnapshotRecord} _ (λ q. SnapshotTold (x ∷ es) q.id q.complete q.at) m.snapshots (λ q isin. either_way (same q.id r.id)
          (λ b.
          let is : q ≡ r = one_snapshot m.snapshots q r ops.apart.snapshots_rise isin there (same_equal q.id r.id b) in
          let entered : SnapshotTold (x ∷ es) r.id true r.at = record { kind_is = told.kind_is; states = states_entered x es ∙ ap (λ ss. IsComplete ∷ ss) (told.states ∙ ap states_of_snapshot open_); taken = inr told.taken } in
          subst (λ c. SnapshotTold (x ∷ es) q.id (if c then true else q.complete) q.at) (sym b) (subst (λ (k : SnapshotRecord). SnapshotTold (x ∷ es) k.id true k.at) (sym is) entered))
          (λ b. subst (λ c. SnapshotTold (x ∷ es) q.id (if c then true else q.complete) q.at) (sym b) (snapshot_passed x es q.id q.complete q.at (differs q.id r.id b) (h.snapshots q isin))));
      restorations = λ q isin. restoration_passed x es q.id q.state (other_kind x.operation q.id Snapshot Restoration told.kind_is (h.restorations q isin).kind_is (λ k. let e = k in grind arith)) (h.restorations q isin);
      clones = λ c isin. clone_passed x es c.id c.state c.listed (other_kind x.operation c.id Snapshot Clone told.kind_is (h.clones c isin).kind_is (λ k. let e = k in grind arith)) (h.clones c isin);
    }

its_drawn : (r : RestorationRecord) (m : Master) (changes : List Change) → OperationsGood m changes → In r m.restorations → r.id.kind ≡ Restoration → r.id.number ≤ drawn_of r.id.kind m.drawn
its_drawn r m changes ops there kind = subst (λ k. r.id.number ≤ drawn_of k m.drawn) (sym kind) (ops.restorations r there).drawn

clone_drawn : (c : CloneRecord) (m : Master) (changes : List Change) → OperationsGood m changes → In c m.clones → c.id.kind ≡ Clone → c.id.number ≤ drawn_of c.id.kind m.drawn
clone_drawn c m changes ops there kind = subst (λ k. c.id.number ≤ drawn_of k m.drawn) (sym kind) (ops.clones c there).drawn

-- the states of a clone

accepted_states : (ss : List State) (state : CloneState) → state ≡ Accepted → CloneStates ss state → ss ≡ IsAccepted ∷ []
accepted_states ss state is (inl e) = e ∙ ap (λ s. clone_states_to s (IsAccepted ∷ [])) is
accepted_states ss state is (inr e) = e ∙ ap (λ s. clone_states_to s (IsSnapshot ∷ IsAccepted ∷ [])) is

snapshot_states : (ss : List State) (state : CloneState) (own : Id) → state ≡ CloneSnapshot own → CloneStates ss state → ss ≡ IsSnapshot ∷ IsAccepted ∷ []
snapshot_states ss state own is (inl e) = e ∙ ap (λ s. clone_states_to s (IsAccepted ∷ [])) is
snapshot_states ss state own is (inr e) = e ∙ ap (λ s. clone_states_to s (IsSnapshot ∷ IsAccepted ∷ [])) is

-- from its copies on a clone enters each next state in front of the others
next_states : (entering : State) (ss : List State) (before now next : CloneState) → before ≡ now → clone_states_to next (IsAccepted ∷ []) ≡ entering ∷ clone_states_to now (IsAccepted ∷ []) → clone_states_to next (IsSnapshot ∷ IsAccepted ∷ []) ≡ entering ∷ clone_states_to now (IsSnapshot ∷ IsAccepted ∷ []) → CloneStates ss before → CloneStates (entering ∷ ss) next
next_states entering ss before now next is first second (inl e) = inl (ap (λ k. entering ∷ k) (e ∙ ap (λ s. clone_states_to s (IsAccepted ∷ [])) is) ∙ sym first)
next_states entering ss before now next is first second (inr e) = inr (ap (λ k. entering ∷ k) (e ∙ ap (λ s. clone_states_to s (IsSnapshot ∷ IsAccepted ∷ [])) is) ∙ sym second)

own_told : (c : CloneRecord) (n : ℕ) (m : Master) (es : List Entering) → CloneTold es c.id c.state c.listed → c.state ≡ Accepted → CloneTold (enters c.id IsSnapshot n ∷ es) c.id (CloneSnapshot (next_snapshot m)) []
own_told c n m es told is = record {
  kind_is = told.kind_is;
  states = inl (states_entered (enters c.id IsSnapshot n) es ∙ ap (λ ss. IsSnapshot ∷ ss) (accepted_states (states_of c.id es) c.state is told.states));
  copied = λ at none. absurd (let q = none in grind arith);
  released = λ l cutoff isin e. absurd isin;
}

-- a line of a copy releases nothing, and a release is of this stamp

not_copied : (snapshot : Id) (to stamp : ℕ) (pairs : List TabletPair) (l : Listed) (cutoff : ℕ) → In l (copies snapshot to stamp pairs) → l.body ≡ Release cutoff → ⊥
not_copied snapshot to stamp pairs l cutoff isin is = in_mapped {A = TabletPair} {B = Listed} _ (λ k. k.body ≡ Release cutoff → ⊥) pairs (λ p there e. absurd (let q = e in grind arith)) l isin is

all_released : (n : ℕ) (ls : List Listed) (l : Listed) (cutoff : ℕ) → In l (released n ls) → l.body ≡ Release cutoff → n ≡ cutoff
all_released n ls l cutoff isin is = in_mapped {A = Listed} {B = Listed} _ (λ k. k.body ≡ Release cutoff → n ≡ cutoff) ls (λ k there e. (let q : Release n ≡ Release cutoff = e in cc)) l isin is

restoration_goes_on : (state : RestorationState) (r : RestorationRecord) (n : ℕ) (m : Master) (changes : List Change) (es : List Entering) → m.clock ≤ n → In r m.restorations → r.state ≡ state → OperationsGood m changes → AllTold m es
    → AllTold (restoration_moved state r n m) (restoration_entered state r.id n m ++ es)
restoration_goes_on Fencing r n m changes es le there is ops h =
    let drawn : r.id.number ≤ drawn_of r.id.kind m.drawn = subst (λ kind. r.id.number ≤ drawn_of kind m.drawn) (sym (h.restorations r there).kind_is) (ops.restorations r there).drawn in
    let beside : Master = record (with_snapshot r.namespace r.schedule n m) { clock = n } in
    let taken = taken_told r.namespace r.schedule n m beside changes es le refl refl refl refl refl ops h in
    let x = enters r.id IsSnapshot n in
    let own = enters (next_snapshot m) IsCreating n in
    restoration_told r (Snapshotting (n + 1) (next_snapshot m)) [] n beside (own ∷ es) (le_refl n) ops.apart.restoration_ids there (le_trans drawn (grown m.drawn beside.drawn (omega arith) (omega arith) (omega arith) (omega arith) (omega arith) (omega arith) (omega arith) r.id.kind))
    (ap (λ s. IsSnapshot ∷ states_to s) (sym is)) (n, (inl refl, refl)) taken
restoration_goes_on (Snapshotting point own) r n m changes es le there is ops h = restoration_told r _ _ n m es le ops.apart.restoration_ids there (its_drawn r m changes ops there (h.restorations r there).kind_is) (ap (λ s. IsSwitching ∷ states_to s) (sym is))
    (after_own_on (Some point) (enters r.id IsSwitching n) es r.id (subst (λ s. IsAfterOwn es r.id (point_of s)) is (h.restorations r there).point)) h
restoration_goes_on (Switching point serving) r n m changes es le there is ops h =
    restoration_told r (Restoring point serving) _ n _ es le ops.apart.restoration_ids there (its_drawn r m changes ops there (h.restorations r there).kind_is) (ap (λ s. IsRestoring ∷ states_to s) (sym is))
    (after_own_on (Some point) (enters r.id IsRestoring n) es r.id (subst (λ s. IsAfterOwn es r.id (point_of s)) is (h.restorations r there).point)) (quiet m (switched r point m) es (le_refl m.clock) (same_drawn m.drawn) refl refl refl h)
restoration_goes_on (Restoring point serving) r n m changes es le there is ops h = restoration_told r (Releasing point serving) _ n m es le ops.apart.restoration_ids there (its_drawn r m changes ops there (h.restorations r there).kind_is) (ap (λ s. IsReleasing ∷ states_to s) (sym is))
    (after_own_on (Some point) (enters r.id IsReleasing n) es r.id (subst (λ s. IsAfterOwn es r.id (point_of s)) is (h.restorations r there).point)) h
restoration_goes_on (Releasing point serving) r n m changes es le there is ops h = restoration_told r (Restored point serving) _ n m es le ops.apart.restoration_ids there (its_drawn r m changes ops there (h.restorations r there).kind_is) (ap (λ s. IsRestored ∷ states_to s) (sym is))
    (after_own_on (Some point) (enters r.id IsRestored n) es r.id (subst (λ s. IsAfterOwn es r.id (point_of s)) is (h.restorations r there).point)) h
restoration_goes_on (Restored point serving) r n m changes es le there is ops h = quiet m _ es le (same_drawn m.drawn) refl refl refl h

clone_begins_told : (o : Option SnapshotRecord) (s : Option ScheduleRecord) (c : CloneRecord) (n : ℕ) (m : Master) (changes : List Change) (es : List Entering) → m.clock ≤ n → In c m.clones → c.state ≡ Accepted → schedule_of m.schedules c.source ≡ s → OperationsGood m changes → AllTold m es
    → AllTold (begins_clone o c n m) (begins_entered o c n m ++ es)
clone_begins_told (Some q) s c n m changes es le there is known ops h =
    let told = h.clones c there in
    clone_told c (Copying q.id n) IsCopying (copies q.id c.to n c.tablets) n m es le ops.apart.clone_ids there (clone_drawn c m changes ops there told.kind_is) (record {
      kind_is = told.kind_is;
      states = inl (states_entered (enters c.id IsCopying n) es ∙ ap (λ ss. IsCopying ∷ ss) (accepted_states (states_of c.id es) c.state is told.states));
      copied = λ at e. inl (ap (λ a. enters c.id IsCopying a) (let q = e in cc));
      released = λ l cutoff isin e. absurd (not_copied q.id c.to n c.tablets l cutoff isin e);
    }) h
clone_begins_told None None c n m changes es le there is known ops h =
    let told = h.clones c there in
    subst (λ o. AllTold (clone_goes Accepted None c n m (with_clones_snapshot o c n m)) (enters c.id IsSnapshot n ∷ own_entered o n m ++ es)) (sym known)
    (clone_told c (CloneSnapshot (next_snapshot m)) IsSnapshot [] n m es le ops.apart.clone_ids there (clone_drawn c m changes ops there told.kind_is) (own_told c n m es told is) h)
clone_begins_told None (Some s) c n m changes es le there is known ops h =
    let told = h.clones c there in
    let beside : Master = record (with_snapshot c.source s.id n m) { clock = n } in
    let own = enters (next_snapshot m) IsCreating n in
    let taken = taken_told c.source s.id n m beside changes es le refl refl refl refl refl ops h in
    subst (λ o. AllTold (clone_goes Accepted None c n m (with_clones_snapshot o c n m)) (enters c.id IsSnapshot n ∷ own_entered o n m ++ es)) (sym known)
    (clone_told c (CloneSnapshot (next_snapshot m)) IsSnapshot [] n beside (own ∷ es) (le_refl n) ops.apart.clone_ids there
    (le_trans (clone_drawn c m changes ops there told.kind_is) (grown m.drawn beside.drawn (omega arith) (omega arith) (omega arith) (omega arith) (omega arith) (omega arith) (omega arith) c.id.kind))
    (own_told c n m (own ∷ es) (taken.clones c there) is) taken)

clone_goes_on : (state : CloneState) (c : CloneRecord) (n : ℕ) (m : Master) (changes : List Change) (es : List Entering) → m.clock ≤ n → In c m.clones → c.state ≡ state → OperationsGood m changes → AllTold m es
    → AllTold (clone_moved state c n m) (clone_entered state c n m ++ es)
clone_goes_on Accepted c n m changes es le there is ops h = clone_begins_told (serving_clone m c) (schedule_of m.schedules c.source) c n m changes es le there is refl ops h
clone_goes_on (CloneSnapshot own) c n m changes es le there is ops h =
    let told = h.clones c there in
    clone_told c _ IsCopying _ n m es le ops.apart.clone_ids there (clone_drawn c m changes ops there told.kind_is) (record {
      kind_is = told.kind_is;
      states = inr (states_entered (enters c.id IsCopying n) es ∙ ap (λ ss. IsCopying ∷ ss) (snapshot_states (states_of c.id es) c.state own is told.states));
      copied = λ at e. inl (ap (λ a. enters c.id IsCopying a) (let q = e in cc));
      released = λ l cutoff isin e. absurd (not_copied _ c.to n c.tablets l cutoff isin e);
    }) h
clone_goes_on (Copying serving at) c n m changes es le there is ops h =
    let told = h.clones c there in
    clone_told c (CloneReleasing serving at) IsReleasing (released n c.listed) n (with_target c n m) es le ops.apart.clone_ids there (clone_drawn c m changes ops there told.kind_is) (record {
      kind_is = told.kind_is;
      states = subst (λ ss. CloneStates ss (CloneReleasing serving at)) (sym (states_entered (enters c.id IsReleasing n) es)) (next_states IsReleasing (states_of c.id es) c.state (Copying serving at) (CloneReleasing serving at) is refl refl told.states);
      copied = λ a e. inr (told.copied a (ap copied_at is ∙ e));
      released = λ l cutoff isin e. inl (ap (λ a. enters c.id IsReleasing a) (all_released n c.listed l cutoff isin e));
    }) (quiet m (with_target c n m) es (le_refl m.clock) (same_drawn m.drawn) refl refl refl h)
clone_goes_on (CloneReleasing serving at) c n m changes es le there is ops h =
    let told = h.clones c there in
    clone_told c (CloneComplete serving at) IsComplete [] n m es le ops.apart.clone_ids there (clone_drawn c m changes ops there told.kind_is) (record {
      kind_is = told.kind_is;
      states = subst (λ ss. CloneStates ss (CloneComplete serving at)) (sym (states_entered (enters c.id IsComplete n) es)) (next_states IsComplete (states_of c.id es) c.state (CloneReleasing serving at) (CloneComplete serving at) is refl refl told.states);
      copied = λ a e. inr (told.copied a (ap copied_at is ∙ e));
      released = λ l cutoff isin e. absurd isin;
    }) h
clone_goes_on (CloneComplete serving at) c n m changes es le there is ops h = quiet m _ es le (same_drawn m.drawn) refl refl refl h

-- the record that was found moves

snapshot_found : (found : Option SnapshotRecord) (operation : Id) (n : ℕ) (m : Master) (changes : List Change) (es : List Entering) → m.clock ≤ n → unfinished_snapshot m.snapshots operation ≡ found → OperationsGood m changes → AllTold m es
    → AllTold (option_map_or (λ r. completed r n m) found (record m { clock = n })) (option_map_or (λ r. enters r.id IsComplete n ∷ []) found [] ++ es)
snapshot_found None operation n m changes es le found ops h = quiet m _ es le (same_drawn m.drawn) refl refl refl h
snapshot_found (Some r) operation n m changes es le found ops h = let is = unfinished_snapshot_is m.snapshots operation r found in completed_told r n m changes es le is.0 is.1.1 ops h

restoration_found : (found : Option RestorationRecord) (operation : Id) (n : ℕ) (m : Master) (changes : List Change) (es : List Entering) → m.clock ≤ n → unfinished_restoration m.restorations operation ≡ found → OperationsGood m changes → AllTold m es
    → AllTold (option_map_or (λ r. restoration_moved r.state r n m) found (record m { clock = n })) (option_map_or (λ r. restoration_entered r.state r.id n m) found [] ++ es)
restoration_found None operation n m changes es le found ops h = quiet m _ es le (same_drawn m.drawn) refl refl refl h
restoration_found (Some r) operation n m changes es le found ops h = restoration_goes_on r.state r n m changes es le (unfinished_restoration_is m.restorations operation r found).0 refl ops h

clone_found : (found : Option CloneRecord) (operation : Id) (n : ℕ) (m : Master) (changes : List Change) (es : List Entering) → m.clock ≤ n → unfinished_clone m.clones operation ≡ found → OperationsGood m changes → AllTold m es
    → AllTold (option_map_or (λ c. clone_moved c.state c n m) found (record m { clock = n })) (option_map_or (λ c. clone_entered c.state c n m) found [] ++ es)
clone_found None operation n m changes es le found ops h = quiet m _ es le (same_drawn m.drawn) refl refl refl h
clone_found (Some c) operation n m changes es le found ops h = clone_goes_on c.state c n m changes es le (unfinished_clone_is m.clones operation c found).0 refl ops h

moved_told : (kind : Kind) (operation : Id) (n : ℕ) (m : Master) (changes : List Change) (es : List Entering) → m.clock ≤ n → OperationsGood m changes → AllTold m es → AllTold (moved_of kind operation n m) (moved_entered kind operation n m ++ es)
moved_told Snapshot operation n m changes es le ops h = snapshot_found (unfinished_snapshot m.snapshots operation) operation n m changes es le refl ops h
moved_told Restoration operation n m changes es le ops h = restoration_found (unfinished_restoration m.restorations operation) operation n m changes es le refl ops h
moved_told Clone operation n m changes es le ops h = clone_found (unfinished_clone m.clones operation) operation n m changes es le refl ops h
moved_told _ operation n m changes es le ops h = quiet m _ es le (same_drawn m.drawn) refl refl refl h

-- Whatever the master is told

pub told_on : (a : MasterAct) (n : ℕ) (m : Master) (changes : List Change) (es : List Entering) → m.clock ≤ n → OperationsGood m changes → AllTold m es → AllTold (master_effect a n m) (told_entered a n m ++ es)
told_on (TakesSnapshot s) n m changes es le ops h = taken_told s.namespace s.id n m _ changes es le refl refl refl refl refl ops h
told_on (BeginsRestoration s to) n m changes es le ops h = begun_told s to n m changes es le ops h
told_on (BeginsClone ns source target to) n m changes es le ops h = cloned_told ns source target to n m changes es le ops h
told_on (Moves operation) n m changes es le ops h = moved_told operation.kind operation n m changes es le ops h
told_on (Acks operation slot) n m changes es le ops h = acked_told operation.kind operation slot n m es le h
told_on (Removes target) n m changes es le ops h = removed_told target.kind target n m es le h
told_on (MakesNamespace name) n m changes es le ops h = quiet m _ es le (grown m.drawn _ (omega arith) (omega arith) (omega arith) (omega arith) (omega arith) (omega arith) (omega arith)) refl refl refl h
told_on (MakesTable namespace name columns slots) n m changes es le ops h = quiet m _ es le (grown m.drawn _ (omega arith) (omega arith) (omega arith) (omega arith) (omega arith) (omega arith) (omega arith)) refl refl refl h
told_on (SplitsTablet parent code low_slot high_slot) n m changes es le ops h = quiet m _ es le (grown m.drawn _ (omega arith) (omega arith) (omega arith) (omega arith) (omega arith) (omega arith) (omega arith)) refl refl refl h
told_on (MakesSchedule namespace interval retention) n m changes es le ops h = quiet m _ es le (grown m.drawn _ (omega arith) (omega arith) (omega arith) (omega arith) (omega arith) (omega arith) (omega arith)) refl refl refl h
told_on _ n m changes es le ops h = quiet m _ es le (same_drawn m.drawn) refl refl refl h

-- and numbers only grow

restoration_grows : (state : RestorationState) (r : RestorationRecord) (n : ℕ) (m : Master) (of : Kind) → drawn_of of m.drawn ≤ drawn_of of (restoration_moved state r n m).drawn
restoration_grows Fencing r n m of = grown m.drawn (with_snapshot r.namespace r.schedule n m).drawn (omega arith) (omega arith) (omega arith) (omega arith) (omega arith) (omega arith) (omega arith) of
restoration_grows _ r n m of = le_refl _

clone_grows : (state : CloneState) (c : CloneRecord) (n : ℕ) (m : Master) (of : Kind) → drawn_of of m.drawn ≤ drawn_of of (clone_moved state c n m).drawn
clone_grows Accepted c n m of = begins_each (λ k. drawn_of of m.drawn ≤ drawn_of of k.drawn) c n m (λ serving. le_refl _)
    (λ s. grown m.drawn (with_snapshot c.source s.id n m).drawn (omega arith) (omega arith) (omega arith) (omega arith) (omega arith) (omega arith) (omega arith) of) (le_refl _)
clone_grows _ c n m of = le_refl _

pub drawn_grows : (a : MasterAct) (n : ℕ) (m : Master) (of : Kind) → drawn_of of m.drawn ≤ drawn_of of (master_effect a n m).drawn
drawn_grows (MakesNamespace name) n m of = grown m.drawn (master_effect (MakesNamespace name) n m).drawn (omega arith) (omega arith) (omega arith) (omega arith) (omega arith) (omega arith) (omega arith) of
drawn_grows (MakesTable namespace name columns slots) n m of = grown m.drawn (master_effect (MakesTable namespace name columns slots) n m).drawn (omega arith) (omega arith) (omega arith) (omega arith) (omega arith) (omega arith) (omega arith) of
drawn_grows (SplitsTablet parent code low_slot high_slot) n m of = grown m.drawn (master_effect (SplitsTablet parent code low_slot high_slot) n m).drawn (omega arith) (omega arith) (omega arith) (omega arith) (omega arith) (omega arith) (omega arith) of
drawn_grows (MakesSchedule namespace interval retention) n m of = grown m.drawn (master_effect (MakesSchedule namespace interval retention) n m).drawn (omega arith) (omega arith) (omega arith) (omega arith) (omega arith) (omega arith) (omega arith) of
drawn_grows (TakesSnapshot schedule) n m of = grown m.drawn (master_effect (TakesSnapshot schedule) n m).drawn (omega arith) (omega arith) (omega arith) (omega arith) (omega arith) (omega arith) (omega arith) of
drawn_grows (BeginsRestoration schedule to) n m of = grown m.drawn (master_effect (BeginsRestoration schedule to) n m).drawn (omega arith) (omega arith) (omega arith) (omega arith) (omega arith) (omega arith) (omega arith) of
drawn_grows (BeginsClone namespace source target to) n m of = grown m.drawn (master_effect (BeginsClone namespace source target to) n m).drawn (omega arith) (omega arith) (omega arith) (omega arith) (omega arith) (omega arith) (omega arith) of
drawn_grows (Acks operation slot) n m of = acked_each (λ k. drawn_of of m.drawn ≤ drawn_of of k.drawn) operation.kind operation slot n m (le_refl _) (le_refl _) (le_refl _) (le_refl _)
drawn_grows (Removes target) n m of = removed_each (λ k. drawn_of of m.drawn ≤ drawn_of of k.drawn) target.kind target n m (le_refl _) (le_refl _) (le_refl _)
drawn_grows (Moves operation) n m of =
    moved_each (λ k. drawn_of of m.drawn ≤ drawn_of of k.drawn) operation.kind operation n m (le_refl _) (λ r found. le_refl _) (λ r found. restoration_grows r.state r n m of) (λ c found. clone_grows c.state c n m of)
drawn_grows _ n m of = le_refl _
