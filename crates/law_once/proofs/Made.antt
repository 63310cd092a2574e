-- What the moves of records made goes on, whatever the master is told.
use Rattle.std.proofs.Common.{◌≡◌, ◌≢◌, ℕ, ◌≤◌, ◌<◌, List, [], ◌∷◌, ◌++◌, Option, Some, None, inl, inr, refl, sym, ap, subst, ◌∙◌, arith, lt_of_le_of_lt, true, false, map, if◌then◌else◌}
use Rattle.model.specs.Cluster.{Id, Kind, Snapshot, RestorationKind as Restoration, CloneKind as Clone, same, In, Schedule as ScheduleRecord, RestorationRecord, CloneRecord, CloneState, Accepted, CloneSnapshot, Copying, CloneReleasing, CloneComplete, IsReleasing, Listed, SnapshotRecord, RestorationState, Fencing, Snapshotting, Switching, Restoring, Releasing, Restored, schedule_of, Master, BeginsRestoration, BeginsClone, Moves, MasterAct, Acks, Removes}
use Rattle.model.specs.Journal.{Change, NamespaceCloned}
use Rattle.model.specs.Changed.{new_clone, next_clone, next_restoration}
use Rattle.model.specs.Cleanup.{removed_of}
use Rattle.model.specs.Coordination.{acked_by, unfinished_restoration, unfinished_clone, unfinished_snapshot}
use Rattle.model.specs.Drawn.{drawn_of}
use Rattle.model.specs.History.{master_effect, with_either, with_restoration, with_clone}
use Rattle.model.specs.Entering.{Entering}
use Rattle.model.specs.Once.{ClonedBy, IsOneClone, restored_by}
use Rattle.model.specs.Moves.{begins_clone, clone_goes, clone_moved, restoration_moved, serving_clone, with_clones_snapshot, completed, moved_of}
use Rattle.std.specs.Option.{option_map_or}
use Rattle.law_once.proofs.States.{other_kind}
use Rattle.law_store.proofs.Keys.{either_way}
use Rattle.law_invariants.proofs.Effects.{begins_each}
use Rattle.law_invariants.specs.Operations.{OperationsGood, Alone}
use Rattle.law_invariants.proofs.Finding.{in_append, in_mapped, in_second, not_same, same_equal, same_self}
use Rattle.law_invariants.proofs.Pending.{unfinished_restoration_is, unfinished_clone_is}
use Rattle.law_once.specs.Told.{clone_entered, enters, told_entered, moved_entered}
use Rattle.law_once.specs.Made.{AllMade, made_by}
use Rattle.law_once.proofs.Entered.{drawn_grows, one_of, differs}

-- What a clone made

one_clone_on : (c d : CloneRecord) (es new : List Entering) (made : List Change) → c.id ≡ d.id → c.source ≡ d.source → c.target_id ≡ d.target_id → c.target ≡ d.target → c.to ≡ d.to → c.tables ≡ d.tables → IsOneClone c es made → IsOneClone d (new ++ es) made
one_clone_on c d es new made i s t g o b h = record {
  at = h.at;
  current = subst (λ id. In (enters id IsReleasing h.at) (new ++ es)) i (in_second new es (enters c.id IsReleasing h.at) h.current);
  alone = let k = h.alone in cc;
}

-- the record of a clone, with another list of tablets, goes on to have made what it did
cloned_on : (state : CloneState) (c d : CloneRecord) (es new : List Entering) (made : List Change) → c.id ≡ d.id → c.source ≡ d.source → c.target_id ≡ d.target_id → c.target ≡ d.target → c.to ≡ d.to → c.tables ≡ d.tables → ClonedBy state c es made → ClonedBy state d (new ++ es) made
cloned_on (CloneReleasing serving at) c d es new made i s t g o b h = one_clone_on c d es new made i s t g o b h
cloned_on (CloneComplete serving at) c d es new made i s t g o b h = one_clone_on c d es new made i s t g o b h
cloned_on _ c d es new made i s t g o b h = h

-- What stays

quiet : (m after : Master) (es new : List Entering) (made : Id → List Change) → ((kind : Kind) → drawn_of kind m.drawn ≤ drawn_of kind after.drawn) → after.restorations ≡ m.restorations → after.clones ≡ m.clones → AllMade m es made → AllMade after (new ++ es) made
quiet m after es new made grows restorations clones h = record {
  fresh = λ id more. h.fresh id (lt_of_le_of_lt (grows id.kind) more);
  restorations = λ r isin. h.restorations r (subst (In r) restorations isin);
  clones = λ c isin. cloned_on c.state c c es new (made c.id) refl refl refl refl refl refl (h.clones c (subst (In c) clones isin));
}

same_clones : (m : Master) (es new : List Entering) (made : Id → List Change) → AllMade m es made → (c : CloneRecord) → In c m.clones → ClonedBy c.state c (new ++ es) (made c.id)
same_clones m es new made h c isin = cloned_on c.state c c es new (made c.id) refl refl refl refl refl refl (h.clones c isin)

acked_made : (kind : Kind) (operation : Id) (slot n : ℕ) (m : Master) (es : List Entering) (made : Id → List Change) → AllMade m es made → AllMade (acked_by kind operation slot n m) es made
acked_made Restoration operation slot n m es made h = record {
  fresh = h.fresh;
  restorations = in_mapped {A = RestorationRecord} {B = RestorationRecord} _ (λ r. made r.id ≡ restored_by r.state r.namespace r.to) m.restorations h.restorations;
  clones = h.clones;
}
acked_made Clone operation slot n m es made h = record {
  fresh = h.fresh;
  restorations = h.restorations;
  clones = in_mapped {A = CloneRecord} {B = CloneRecord} _ (λ c. ClonedBy c.state c es (made c.id)) m.clones (λ c isin. cloned_on c.state c _ es [] (made c.id) refl refl refl refl refl refl (h.clones c isin));
}
acked_made _ operation slot n m es made h = record { fresh = h.fresh; restorations = h.restorations; clones = h.clones }

removed_made : (kind : Kind) (target : Id) (n : ℕ) (m : Master) (es : List Entering) (made : Id → List Change) → AllMade m es made → AllMade (removed_of kind target n m) es made
removed_made Snapshot target n m es made h = record { fresh = h.fresh; restorations = h.restorations; clones = h.clones }
removed_made _ target n m es made h = record { fresh = h.fresh; restorations = h.restorations; clones = h.clones }

-- A record more

begun_made : (s : ScheduleRecord) (to n : ℕ) (m : Master) (es : List Entering) (made : Id → List Change) → AllMade m es made → AllMade (master_effect (BeginsRestoration s to) n m) (told_entered (BeginsRestoration s to) n m ++ es) made
begun_made s to n m es made h = record {
  fresh = λ id more. h.fresh id (lt_of_le_of_lt (drawn_grows (BeginsRestoration s to) n m id.kind) more);
  restorations = λ r isin. elim (in_append m.restorations _ r isin) [
    | inl old ↦ h.restorations r old
    | inr new ↦ (elim new [ inl is ↦ subst (λ (q : RestorationRecord). made q.id ≡ restored_by q.state q.namespace q.to) is (h.fresh (next_restoration m) (omega arith)) | inr none ↦ absurd none ])
  ];
  clones = same_clones m es (told_entered (BeginsRestoration s to) n m) made h;
}

cloned_made : (ns : Id) (source target : List ℕ) (to n : ℕ) (m : Master) (es : List Entering) (made : Id → List Change) → AllMade m es made → AllMade (master_effect (BeginsClone ns source target to) n m) (told_entered (BeginsClone ns source target to) n m ++ es) made
cloned_made ns source target to n m es made h = record {
  fresh = λ id more. h.fresh id (lt_of_le_of_lt (drawn_grows (BeginsClone ns source target to) n m id.kind) more);
  restorations = h.restorations;
  clones = λ c isin. elim (in_append m.clones (new_clone ns source target to m ∷ []) c isin) [
    | inl old ↦ same_clones m es (told_entered (BeginsClone ns source target to) n m) made h c old
    | inr new ↦ (elim new [ inl is ↦ subst (λ (q : CloneRecord). ClonedBy q.state q (told_entered (BeginsClone ns source target to) n m ++ es) (made q.id)) is (h.fresh (next_clone m) (omega arith)) | inr none ↦ absurd none ])
  ];
}

-- A move

-- of another operation it makes nothing
abbrev moved_made : Id → ℕ → Master → (Id → List Change) → Id → List Change
moved_made operation n m made id = made_by (Moves operation) n m id (made id)

beside : (operation id : Id) (n : ℕ) (m : Master) (made : Id → List Change) → operation ≢ id → moved_made operation n m made id ≡ made id
beside operation id n m made apart = let b = not_same operation id apart in rw b refl

-- where no restoration and no clone of the identifier is unfinished, it makes nothing
none_made : (operation id : Id) (n : ℕ) (m : Master) (made : Id → List Change) → unfinished_restoration m.restorations operation ≡ None → unfinished_clone m.clones operation ≡ None → moved_made operation n m made id ≡ made id
none_made operation id n m made r c = either_way (same operation id)
    (λ b. rw b (ap (λ o. with_either o (unfinished_clone m.clones operation) n (made id)) r ∙ ap (λ o. with_either None o n (made id)) c))
    (λ b. rw b refl)

no_restoration : (m : Master) (changes : List Change) (operation : Id) → OperationsGood m changes → (operation.kind ≢ Restoration) → unfinished_restoration m.restorations operation ≡ None
no_restoration m changes operation ops apart = by (unfinished_restoration m.restorations operation) refl
  where
    by : (o : Option RestorationRecord) → unfinished_restoration m.restorations operation ≡ o → o ≡ None
    by None e = refl
    by (Some r) e = let is = unfinished_restoration_is m.restorations operation r e in absurd (apart (ap (λ i. i.kind) (sym is.1.0) ∙ (ops.restorations r is.0).kind_is))

no_clone : (m : Master) (changes : List Change) (operation : Id) → OperationsGood m changes → (operation.kind ≢ Clone) → unfinished_clone m.clones operation ≡ None
no_clone m changes operation ops apart = by (unfinished_clone m.clones operation) refl
  where
    by : (o : Option CloneRecord) → unfinished_clone m.clones operation ≡ o → o ≡ None
    by None e = refl
    by (Some c) e = let is = unfinished_clone_is m.clones operation c e in absurd (apart (ap (λ i. i.kind) (sym is.1.0) ∙ (ops.clones c is.0).kind_is))

-- an operation that is drawn later makes nothing
fresh_made : (operation : Id) (n : ℕ) (m after : Master) (changes : List Change) (es : List Entering) (made : Id → List Change) → OperationsGood m changes → ((kind : Kind) → drawn_of kind m.drawn ≤ drawn_of kind after.drawn) → AllMade m es made
    → (id : Id) → drawn_of id.kind after.drawn < id.number → moved_made operation n m made id ≡ []
fresh_made operation n m after changes es made ops grows h id more = either_way (same operation id)
    (λ b.
    let is : operation ≡ id = same_equal operation id b in
    let less : drawn_of id.kind m.drawn < id.number = lt_of_le_of_lt (grows id.kind) more in
    none_made operation id n m made
    (no_found (unfinished_restoration m.restorations operation) (λ r e.
    let its = unfinished_restoration_is m.restorations operation r e in
    let g = ops.restorations r its.0 in
    let l : r.id.number ≤ drawn_of r.id.kind m.drawn = subst (λ k. r.id.number ≤ drawn_of k m.drawn) (sym g.kind_is) g.drawn in
    let k : id.number ≤ drawn_of id.kind m.drawn = subst (λ i. i.number ≤ drawn_of i.kind m.drawn) (its.1.0 ∙ is) l in omega (arith, k, less)))
    (no_found (unfinished_clone m.clones operation) (λ c e.
    let its = unfinished_clone_is m.clones operation c e in
    let g = ops.clones c its.0 in
    let l : c.id.number ≤ drawn_of c.id.kind m.drawn = subst (λ k. c.id.number ≤ drawn_of k m.drawn) (sym g.kind_is) g.drawn in
    let k : id.number ≤ drawn_of id.kind m.drawn = subst (λ i. i.number ≤ drawn_of i.kind m.drawn) (its.1.0 ∙ is) l in omega (arith, k, less)))
    ∙ h.fresh id less)
    (λ b. rw b (h.fresh id (lt_of_le_of_lt (grows id.kind) more)))
  where
    no_found : {A : Type 0} (o : Option A) → ((a : A) → o ≡ Some a → ⊥) → o ≡ None
    no_found None none = refl
    no_found (Some a) none = absurd (none a refl)

state_makes : (state : RestorationState) (r : RestorationRecord) (n : ℕ) (m : Master) (es new : List Entering) (made : Id → List Change) → r.state ≡ state → Alone (λ (q : RestorationRecord). q.id) m.restorations → In r m.restorations → AllMade m es made
    → (q : RestorationRecord) → In q (restoration_moved state r n m).restorations → (if same r.id q.id then with_restoration state r (made q.id) else made q.id) ≡ restored_by q.state q.namespace q.to
state_makes state r n m es new made is alone there h = by state is
  where
    -- the record enters a state by which it has made so much
    entered : (state next : RestorationState) (listed : List Listed) → (with_restoration state r (restored_by state r.namespace r.to) ≡ restored_by next r.namespace r.to) → r.state ≡ state
        → (q : RestorationRecord) → In q (map {A = RestorationRecord} (λ x. record x { listed = if same x.id r.id then listed else x.listed; state = if same x.id r.id then next else x.state }) m.restorations)
        → (if same r.id q.id then with_restoration state r (made q.id) else made q.id) ≡ restored_by q.state q.namespace q.to
    entered state next listed makes is = in_mapped {A = RestorationRecord} {B = RestorationRecord} _ (λ q. (if same r.id q.id then with_restoration state r (made q.id) else made q.id) ≡ restored_by q.state q.namespace q.to) m.restorations
        (λ x isin. either_way (same x.id r.id)
        (λ b.
        let one : x ≡ r = one_of (λ (k : RestorationRecord). k.id) m.restorations r x alone there isin b in
        let mine : same r.id x.id ≡ true = ap (λ k. same r.id k) (same_equal x.id r.id b) ∙ same_self r.id in
        let told : made x.id ≡ restored_by state x.namespace x.to = h.restorations x isin ∙ ap (λ s. restored_by s x.namespace x.to) (ap (λ k. k.state) one ∙ is) in
        subst (λ c. (if same r.id x.id then with_restoration state r (made x.id) else made x.id) ≡ restored_by (if c then next else x.state) x.namespace x.to) (sym b)
        (subst (λ c. (if c then with_restoration state r (made x.id) else made x.id) ≡ restored_by next x.namespace x.to) (sym mine)
        (ap (with_restoration state r) (told ∙ ap (λ k. restored_by state k.namespace k.to) one) ∙ makes ∙ ap (λ k. restored_by next k.namespace k.to) (sym one))))
        (λ b.
        let other : same r.id x.id ≡ false = not_same r.id x.id (λ e. differs x.id r.id b e) in
        subst (λ c. (if same r.id x.id then with_restoration state r (made x.id) else made x.id) ≡ restored_by (if c then next else x.state) x.namespace x.to) (sym b)
        (subst (λ c. (if c then with_restoration state r (made x.id) else made x.id) ≡ restored_by x.state x.namespace x.to) (sym other) (h.restorations x isin))))

    by : (state : RestorationState) → r.state ≡ state → (q : RestorationRecord) → In q (restoration_moved state r n m).restorations → (if same r.id q.id then with_restoration state r (made q.id) else made q.id) ≡ restored_by q.state q.namespace q.to
    by Fencing is = entered Fencing _ _ refl is
    by (Snapshotting point own) is = entered (Snapshotting point own) _ _ refl is
    by (Switching point serving) is = entered (Switching point serving) (Restoring point serving) _ refl is
    by (Restoring point serving) is = entered (Restoring point serving) (Releasing point serving) _ refl is
    by (Releasing point serving) is = entered (Releasing point serving) (Restored point serving) _ refl is
    by (Restored point serving) is = λ q isin. either_way (same r.id q.id) (λ b. rw b (h.restorations q isin)) (λ b. rw b (h.restorations q isin))

-- a clone's move
copies_make : (state : CloneState) (c : CloneRecord) (n : ℕ) (m : Master) (es new : List Entering) (made : Id → List Change) → c.state ≡ state → Alone (λ (q : CloneRecord). q.id) m.clones → In c m.clones → new ≡ clone_entered state c n m → AllMade m es made
    → (q : CloneRecord) → In q (clone_moved state c n m).clones → ClonedBy q.state q (new ++ es) (if same c.id q.id then with_clone state c n (made q.id) else made q.id)
copies_make state c n m es new made is alone there news h = by state is news
  where
    entered : (state next : CloneState) (listed : List Listed) → ((made : List Change) → ClonedBy state c es made → ClonedBy next c (new ++ es) (with_clone state c n made)) → c.state ≡ state
        → (q : CloneRecord) → In q (map {A = CloneRecord} (λ x. record x { listed = if same x.id c.id then listed else x.listed; state = if same x.id c.id then next else x.state }) m.clones)
        → ClonedBy q.state q (new ++ es) (if same c.id q.id then with_clone state c n (made q.id) else made q.id)
    entered state next listed makes is = in_mapped {A = CloneRecord} {B = CloneRecord} _ (λ q. ClonedBy q.state q (new ++ es) (if same c.id q.id then with_clone state c n (made q.id) else made q.id)) m.clones
        (λ x isin. either_way (same x.id c.id)
        (λ b.
        let one : x ≡ c = one_of (λ (k : CloneRecord). k.id) m.clones c x alone there isin b in
        let mine : same c.id x.id ≡ true = ap (λ k. same c.id k) (same_equal x.id c.id b) ∙ same_self c.id in
        let told : ClonedBy state c es (made c.id) = subst (λ s. ClonedBy s c es (made c.id)) is (h.clones c there) in
        let its : ClonedBy next c (new ++ es) (with_clone state c n (made c.id)) = makes (made c.id) told in
        let moved : ClonedBy next x (new ++ es) (with_clone state c n (made x.id)) = subst (λ (k : CloneRecord). ClonedBy next k (new ++ es) (with_clone state c n (made k.id))) (sym one) its in
        subst (λ k. ClonedBy (if k then next else x.state) (record x { listed = if k then listed else x.listed; state = if k then next else x.state }) (new ++ es) (if same c.id x.id then with_clone state c n (made x.id) else made x.id)) (sym b)
        (subst (λ k. ClonedBy next (record x { listed = listed; state = next }) (new ++ es) (if k then with_clone state c n (made x.id) else made x.id)) (sym mine)
        (cloned_on next x (record x { listed = listed; state = next }) (new ++ es) [] (with_clone state c n (made x.id)) refl refl refl refl refl refl moved)))
        (λ b.
        let other : same c.id x.id ≡ false = not_same c.id x.id (λ e. differs x.id c.id b e) in
        subst (λ k. ClonedBy (if k then next else x.state) (record x { listed = if k then listed else x.listed; state = if k then next else x.state }) (new ++ es) (if same c.id x.id then with_clone state c n (made x.id) else made x.id)) (sym b)
        (subst (λ k. ClonedBy x.state x (new ++ es) (if k then with_clone state c n (made x.id) else made x.id)) (sym other) (cloned_on x.state x x es new (made x.id) refl refl refl refl refl refl (h.clones x isin)))))

    begun : (o : Option SnapshotRecord) (s : Option ScheduleRecord) → c.state ≡ Accepted → schedule_of m.schedules c.source ≡ s → (q : CloneRecord) → In q (begins_clone o c n m).clones → ClonedBy q.state q (new ++ es) (if same c.id q.id then with_clone Accepted c n (made q.id) else made q.id)
    begun (Some k) s is known = entered Accepted _ _ (λ made e. e) is
    begun None None is known = subst (λ o. (q : CloneRecord) → In q (clone_goes Accepted None c n m (with_clones_snapshot o c n m)).clones → ClonedBy q.state q (new ++ es) (if same c.id q.id then with_clone Accepted c n (made q.id) else made q.id)) (sym known) (entered Accepted _ _ (λ made e. e) is)
    begun None (Some s) is known = subst (λ o. (q : CloneRecord) → In q (clone_goes Accepted None c n m (with_clones_snapshot o c n m)).clones → ClonedBy q.state q (new ++ es) (if same c.id q.id then with_clone Accepted c n (made q.id) else made q.id)) (sym known) (entered Accepted _ _ (λ made e. e) is)

    by : (state : CloneState) → c.state ≡ state → new ≡ clone_entered state c n m → (q : CloneRecord) → In q (clone_moved state c n m).clones → ClonedBy q.state q (new ++ es) (if same c.id q.id then with_clone state c n (made q.id) else made q.id)
    by Accepted is news = begun (serving_clone m c) (schedule_of m.schedules c.source) is refl
    by (CloneSnapshot own) is news = entered (CloneSnapshot own) _ _ (λ made e. e) is
    by (Copying serving at) is news = entered (Copying serving at) (CloneReleasing serving at) _
        (λ made e. record { at = n; current = subst (λ ns. In (enters c.id IsReleasing n) (ns ++ es)) (sym news) (inl refl); alone = ap (λ cs. record { stamp = n; act = NamespaceCloned c.source c.target_id c.target c.to c.tables } ∷ cs) e }) is
    by (CloneReleasing serving at) is news = entered (CloneReleasing serving at) (CloneComplete serving at) _ (λ made e. one_clone_on c c es new made refl refl refl refl refl refl e) is
    by (CloneComplete serving at) is news = λ q isin. either_way (same c.id q.id) (λ b. rw b (cloned_on q.state q q es new (made q.id) refl refl refl refl refl refl (h.clones q isin))) (λ b. rw b (cloned_on q.state q q es new (made q.id) refl refl refl refl refl refl (h.clones q isin)))

-- the record that was found moves

restoration_found : (found : Option RestorationRecord) (operation : Id) (n : ℕ) (m : Master) (changes : List Change) (es : List Entering) (made : Id → List Change) → operation.kind ≡ Restoration → unfinished_restoration m.restorations operation ≡ found → OperationsGood m changes → AllMade m es made
    → (q : RestorationRecord) → In q (option_map_or (λ r. restoration_moved r.state r n m) found (record m { clock = n })).restorations → moved_made operation n m made q.id ≡ restored_by q.state q.namespace q.to
restoration_found None operation n m changes es made kind found ops h q isin =
    none_made operation q.id n m made found (no_clone m changes operation ops (λ e. (let k : Restoration ≡ Clone = sym kind ∙ e in grind arith))) ∙ h.restorations q isin
restoration_found (Some r) operation n m changes es made kind found ops h q isin =
    let is = unfinished_restoration_is m.restorations operation r found in
    let moved : moved_made operation n m made q.id ≡ (if same r.id q.id then with_restoration r.state r (made q.id) else made q.id)
    = ap (λ o. if same operation q.id then with_either o (unfinished_clone m.clones operation) n (made q.id) else made q.id) found ∙ ap (λ id. if same id q.id then with_restoration r.state r (made q.id) else made q.id) (sym is.1.0) in
    moved ∙ state_makes r.state r n m es [] made refl ops.apart.restoration_ids is.0 h q isin

clone_found : (found : Option CloneRecord) (operation : Id) (n : ℕ) (m : Master) (changes : List Change) (es : List Entering) (made : Id → List Change) → operation.kind ≡ Clone → unfinished_clone m.clones operation ≡ found → OperationsGood m changes → AllMade m es made
    → (q : CloneRecord) → In q (option_map_or (λ c. clone_moved c.state c n m) found (record m { clock = n })).clones → ClonedBy q.state q (option_map_or (λ c. clone_entered c.state c n m) found [] ++ es) (moved_made operation n m made q.id)
clone_found None operation n m changes es made kind found ops h q isin =
    subst (ClonedBy q.state q es) (sym (none_made operation q.id n m made (no_restoration m changes operation ops (λ e. (let k : Clone ≡ Restoration = sym kind ∙ e in grind arith))) found)) (h.clones q isin)
clone_found (Some c) operation n m changes es made kind found ops h q isin =
    let is = unfinished_clone_is m.clones operation c found in
    let none = no_restoration m changes operation ops (λ e. (let k : Clone ≡ Restoration = sym kind ∙ e in grind arith)) in
    let moved : moved_made operation n m made q.id ≡ (if same c.id q.id then with_clone c.state c n (made q.id) else made q.id)
    = ap (λ o. if same operation q.id then with_either o (unfinished_clone m.clones operation) n (made q.id) else made q.id) none
    ∙ ap (λ o. if same operation q.id then with_either None o n (made q.id) else made q.id) found ∙ ap (λ id. if same id q.id then with_clone c.state c n (made q.id) else made q.id) (sym is.1.0) in
    subst (ClonedBy q.state q (clone_entered c.state c n m ++ es)) (sym moved) (copies_make c.state c n m es (clone_entered c.state c n m) made refl ops.apart.clone_ids is.0 refl h q isin)

-- another kind's move leaves the records

clones_left : (state : RestorationState) (r : RestorationRecord) (n : ℕ) (m : Master) → (restoration_moved state r n m).clones ≡ m.clones
clones_left Fencing r n m = refl
clones_left _ r n m = refl

pub found_clones_left : (found : Option RestorationRecord) (n : ℕ) (m : Master) → (option_map_or (λ r. restoration_moved r.state r n m) found (record m { clock = n })).clones ≡ m.clones
found_clones_left None n m = refl
found_clones_left (Some r) n m = clones_left r.state r n m

restorations_left : (state : CloneState) (c : CloneRecord) (n : ℕ) (m : Master) → (clone_moved state c n m).restorations ≡ m.restorations
restorations_left Accepted c n m = begins_each (λ k. k.restorations ≡ m.restorations) c n m (λ serving. refl) (λ s. refl) refl
restorations_left _ c n m = refl

pub found_restorations_left : (found : Option CloneRecord) (n : ℕ) (m : Master) → (option_map_or (λ c. clone_moved c.state c n m) found (record m { clock = n })).restorations ≡ m.restorations
found_restorations_left None n m = refl
found_restorations_left (Some c) n m = restorations_left c.state c n m

pub snapshot_leaves : (found : Option SnapshotRecord) (n : ℕ) (m : Master) → ((option_map_or (λ r. completed r n m) found (record m { clock = n })).restorations ≡ m.restorations) × ((option_map_or (λ r. completed r n m) found (record m { clock = n })).clones ≡ m.clones)
snapshot_leaves None n m = (refl, refl)
snapshot_leaves (Some r) n m = (refl, refl)

-- of records of another kind than the operation's, nothing is made

restorations_apart : (kind : Kind) (operation : Id) (n : ℕ) (m : Master) (changes : List Change) (es : List Entering) (made : Id → List Change) → operation.kind ≡ kind → kind ≢ Restoration → OperationsGood m changes → AllMade m es made
    → (q : RestorationRecord) → In q m.restorations → moved_made operation n m made q.id ≡ restored_by q.state q.namespace q.to
restorations_apart kind operation n m changes es made is apart ops h q isin = beside operation q.id n m made (other_kind operation q.id kind Restoration is (ops.restorations q isin).kind_is apart) ∙ h.restorations q isin

clones_apart : (kind : Kind) (operation : Id) (n : ℕ) (m : Master) (changes : List Change) (es new : List Entering) (made : Id → List Change) → operation.kind ≡ kind → kind ≢ Clone → OperationsGood m changes → AllMade m es made
    → (q : CloneRecord) → In q m.clones → ClonedBy q.state q (new ++ es) (moved_made operation n m made q.id)
clones_apart kind operation n m changes es new made is apart ops h q isin =
    subst (ClonedBy q.state q (new ++ es)) (sym (beside operation q.id n m made (other_kind operation q.id kind Clone is (ops.clones q isin).kind_is apart))) (same_clones m es new made h q isin)

moved_on : (kind : Kind) (operation : Id) (n : ℕ) (m : Master) (changes : List Change) (es : List Entering) (made : Id → List Change) → operation.kind ≡ kind → ((of : Kind) → drawn_of of m.drawn ≤ drawn_of of (moved_of kind operation n m).drawn) → OperationsGood m changes → AllMade m es made
    → AllMade (moved_of kind operation n m) (moved_entered kind operation n m ++ es) (moved_made operation n m made)
moved_on Restoration operation n m changes es made is grows ops h = record {
  fresh = fresh_made operation n m (moved_of Restoration operation n m) changes es made ops grows h;
  restorations = restoration_found (unfinished_restoration m.restorations operation) operation n m changes es made is refl ops h;
  clones = λ q isin. clones_apart Restoration operation n m changes es (moved_entered Restoration operation n m) made is (λ e. (let k = e in grind arith)) ops h q (subst (In q) (found_clones_left (unfinished_restoration m.restorations operation) n m) isin);
}
moved_on Clone operation n m changes es made is grows ops h = record {
  fresh = fresh_made operation n m (moved_of Clone operation n m) changes es made ops grows h;
  restorations = λ q isin. restorations_apart Clone operation n m changes es made is (λ e. (let k = e in grind arith)) ops h q (subst (In q) (found_restorations_left (unfinished_clone m.clones operation) n m) isin);
  clones = clone_found (unfinished_clone m.clones operation) operation n m changes es made is refl ops h;
}
moved_on Snapshot operation n m changes es made is grows ops h =
    let left = snapshot_leaves (unfinished_snapshot m.snapshots operation) n m in record {
      fresh = fresh_made operation n m (moved_of Snapshot operation n m) changes es made ops grows h;
      restorations = λ q isin. restorations_apart Snapshot operation n m changes es made is (λ e. (let k = e in grind arith)) ops h q (subst (In q) left.0 isin);
      clones = λ q isin. clones_apart Snapshot operation n m changes es (moved_entered Snapshot operation n m) made is (λ e. (let k = e in grind arith)) ops h q (subst (In q) left.1 isin);
    }
moved_on kind operation n m changes es made is grows ops h = record {
  fresh = fresh_made operation n m (moved_of kind operation n m) changes es made ops grows h;
  restorations = λ q isin. restorations_apart kind operation n m changes es made is (λ e. (let k = e in grind arith)) ops h q isin;
  clones = λ q isin. clones_apart kind operation n m changes es [] made is (λ e. (let k = e in grind arith)) ops h q isin;
}

-- Whatever the master is told

pub made_on : (a : MasterAct) (n : ℕ) (m : Master) (changes : List Change) (es : List Entering) (made : Id → List Change) → OperationsGood m changes → AllMade m es made → AllMade (master_effect a n m) (told_entered a n m ++ es) (λ id. made_by a n m id (made id))
made_on (BeginsRestoration s to) n m changes es made ops h = begun_made s to n m es made h
made_on (BeginsClone ns source target to) n m changes es made ops h = cloned_made ns source target to n m es made h
made_on (Moves operation) n m changes es made ops h = moved_on operation.kind operation n m changes es made refl (drawn_grows (Moves operation) n m) ops h
made_on (Acks operation slot) n m changes es made ops h = acked_made operation.kind operation slot n m es made h
made_on (Removes target) n m changes es made ops h = removed_made target.kind target n m es made h
made_on a n m changes es made ops h = quiet m (master_effect a n m) es (told_entered a n m) made (drawn_grows a n m) refl refl h
