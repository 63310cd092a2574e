-- A move leaves fewer events: the record's state has fewer to come, and what it lists anew, or the snapshot that it makes, is
-- counted in before.
use Rattle.std.proofs.Common.{ℕ, ◌≡◌, ◌≢◌, ◌≤◌, ◌<◌, ◌+◌, ◌*◌, List, [], ◌∷◌, ◌++◌, Bool, true, false, cond, Option, Some, None, refl, sym, ap, subst, ◌∙◌, arith, map, length}
use Rattle.std.specs.Option.{option_map_or}
use Rattle.std.proofs.lemmas.Bool.{true≢false}
use Rattle.row_values.specs.Ids.{Id, same}
use Rattle.row_values.specs.Elements.{In}
use Rattle.model.specs.Activity.{Interval}
use Rattle.model.specs.Journal.{Change as Made}
use Rattle.model.specs.Tablets.{Tablet}
use Rattle.model.specs.Records.{Listed, Sent, Schedule, SnapshotRecord, RestorationRecord, RestorationState, Fencing, Snapshotting, Switching, Restoring, Releasing, Restored, CloneRecord, CloneState, Accepted, CloneSnapshot, Copying, CloneReleasing, CloneComplete, is_restored, is_cloned, first_unacked, unacked_at, unsent, schedule_of}
use Rattle.model.specs.Acts.{Act, Advance}
use Rattle.model.specs.Parts.{Parts}
use Rattle.model.specs.Lists.{new_snapshot}
use Rattle.model.specs.Moves.{Progress, moving, advancing, advance, moved, moved_of, completed, snapshot_advanced, restoration_moved, restoration_next, restoration_lists, given_restoration, clone_moved, clone_next, given_clone, begins_clone, clone_goes, with_clones_snapshot, id_of_snapshot, serving_clone}
use Rattle.model.specs.History.{told}
use Rattle.law_store.proofs.Keys.{either_way}
use Rattle.law_invariants.specs.Invariant.{Inv}
use Rattle.law_invariants.specs.Operations.{OperationsGood}
use Rattle.law_invariants.proofs.Finding.{same_equal, same_self}
use Rattle.law_invariants.proofs.Advancing.{moves}
use Rattle.law_invariants.proofs.Commanded.{snapshot_no_restoration, snapshot_no_clone, restoration_no_clone}
use Rattle.law_moves.proofs.Entering.{entering}
use Rattle.law_drive.specs.Counting.{slot_left, round_left, restoration_moves, restoration_rounds, clone_moves, clone_rounds, snapshot_left, restoration_left, clone_left, total, events_left_in}
use Rattle.law_drive.proofs.Totals.{total_most, total_less, total_mapped, total_added, round_most, round_none}
use Rattle.law_drive.proofs.Choosing.{Unfinished, OfSnapshot, OfRestoration, OfClone, snapshot_found, restoration_found, clone_found, progress_found}
use Rattle.law_drive.proofs.Going.{waits_none}
use Rattle.law_drive.proofs.Steps.{slot_same, unsent_others}
use Rattle.law_drive.proofs.Falling.{added_most, finished_on}
use Rattle.law_drive.proofs.Acting.{Falls, clocks_set, as_before}

-- the rounds of other records

round_beside : (act : Act) (n : ℕ) (ps : Parts) (operation id : Id) (ls : List Listed) (slots : List ℕ) → id ≢ operation → round_left (unsent operation ps.master.sent) (clocks_set act n ps) id ls slots ≤ round_left ps.master.sent ps.tablet id ls slots
round_beside act n ps operation id ls slots apart =
    let sent = ps.master.sent in
    let new = unsent operation sent in
    total_most {A = ℕ} (λ i. slot_left new (clocks_set act n ps i).inbox (clocks_set act n ps i).done id i (unacked_at ls i)) (λ i. slot_left sent (ps.tablet i).inbox (ps.tablet i).done id i (unacked_at ls i)) slots
    (λ i _. as_before act n ps i (λ inbox done. slot_left new inbox done id i (unacked_at ls i) ≤ slot_left sent (ps.tablet i).inbox (ps.tablet i).done id i (unacked_at ls i))
    (slot_same sent new (ps.tablet i).inbox (ps.tablet i).inbox (ps.tablet i).done id i (unacked_at ls i) (unsent_others sent operation id i apart) (λ kind. refl)))

apart_by : (a b : Id) → same a b ≡ false → a ≢ b
apart_by a b e is = true≢false (sym (subst (λ k. same a k ≡ true) is (same_self a)) ∙ e)

snapshot_beside : (act : Act) (n : ℕ) (ps : Parts) (operation : Id) (slots : List ℕ) (q : SnapshotRecord) → q.id ≢ operation → snapshot_left (unsent operation ps.master.sent) (clocks_set act n ps) slots q ≤ snapshot_left ps.master.sent ps.tablet slots q
snapshot_beside act n ps operation slots q apart = finished_on q.complete _ _ (λ _. added_most 1 _ _ (round_beside act n ps operation q.id q.listed slots apart))

restoration_beside : (act : Act) (n : ℕ) (ps : Parts) (operation : Id) (slots : List ℕ) (q : RestorationRecord) → q.id ≢ operation → restoration_left (unsent operation ps.master.sent) (clocks_set act n ps) slots q ≤ restoration_left ps.master.sent ps.tablet slots q
restoration_beside act n ps operation slots q apart = finished_on (is_restored q.state) _ _ (λ _. added_most (restoration_moves q.state + 4 * length slots * restoration_rounds q.state) _ _ (round_beside act n ps operation q.id q.listed slots apart))

clone_beside : (act : Act) (n : ℕ) (ps : Parts) (operation : Id) (slots : List ℕ) (q : CloneRecord) → q.id ≢ operation → clone_left (unsent operation ps.master.sent) (clocks_set act n ps) slots q ≤ clone_left ps.master.sent ps.tablet slots q
clone_beside act n ps operation slots q apart = finished_on (is_cloned q.state) _ _ (λ _. added_most (clone_moves q.state + 4 * length slots * clone_rounds q.state) _ _ (round_beside act n ps operation q.id q.listed slots apart))

-- A snapshot is complete

abbrev pub complete_then : SnapshotRecord → SnapshotRecord → SnapshotRecord
complete_then r x = record x { complete = cond (same x.id r.id) (snapshot_advanced x).complete x.complete; listed = cond (same x.id r.id) (snapshot_advanced x).listed x.listed }

completed_most : (act : Act) (n : ℕ) (ps : Parts) (slots : List ℕ) (r q : SnapshotRecord) → snapshot_left (unsent r.id ps.master.sent) (clocks_set act n ps) slots (complete_then r q) ≤ snapshot_left ps.master.sent ps.tablet slots q
completed_most act n ps slots r q = either_way (same q.id r.id)
    (λ e. subst (λ b. cond (cond b true q.complete) 0 (1 + round_left (unsent r.id ps.master.sent) (clocks_set act n ps) q.id (cond b (snapshot_advanced q).listed q.listed) slots) ≤ snapshot_left ps.master.sent ps.tablet slots q) (sym e) (omega arith))
    (λ e. subst (λ b. cond (cond b true q.complete) 0 (1 + round_left (unsent r.id ps.master.sent) (clocks_set act n ps) q.id (cond b (snapshot_advanced q).listed q.listed) slots) ≤ snapshot_left ps.master.sent ps.tablet slots q) (sym e)
    (snapshot_beside act n ps r.id slots q (apart_by q.id r.id e)))

completed_falls : (act : Act) (n : ℕ) (ps : Parts) (changes : List Made) (slots : List ℕ) (r : SnapshotRecord) → OperationsGood ps.master changes → In r ps.master.snapshots → r.complete ≡ false
    → events_left_in (completed r n ps.master) (clocks_set act n ps) slots < events_left_in ps.master ps.tablet slots
completed_falls act n ps changes slots r ops kept still =
    let m = ps.master in
    let new = unsent r.id m.sent in
    let after = clocks_set act n ps in
    let f = snapshot_left new after slots in
    let h = complete_then r in
    let a : total (λ q. f (h q)) m.snapshots + 1 ≤ total (snapshot_left m.sent ps.tablet slots) m.snapshots = total_less (λ q. f (h q)) (snapshot_left m.sent ps.tablet slots) m.snapshots 1 r (λ q inq. completed_most act n ps slots r q) kept
    (subst (λ b. cond (cond b true r.complete) 0 (1 + round_left new after r.id (cond b (snapshot_advanced r).listed r.listed) slots) + 1 ≤ snapshot_left m.sent ps.tablet slots r) (sym (same_self r.id))
    (subst (λ b. 0 + 1 ≤ cond b 0 (1 + round_left m.sent ps.tablet r.id r.listed slots)) (sym still) (omega arith))) in
    let e : total f (map h m.snapshots) ≡ total (λ q. f (h q)) m.snapshots = total_mapped f h m.snapshots in
    let b = total_most (restoration_left new after slots) (restoration_left m.sent ps.tablet slots) m.restorations (λ q inq. restoration_beside act n ps r.id slots q (λ is. snapshot_no_restoration m changes r q ops kept inq (sym is))) in
    let c = total_most (clone_left new after slots) (clone_left m.sent ps.tablet slots) m.clones (λ q inq. clone_beside act n ps r.id slots q (λ is. snapshot_no_clone m changes r q ops kept inq (sym is))) in
    sums _ _ _ _ _ _ _ e a b c
  where
    sums : (x x' y z u v w : ℕ) → x ≡ x' → x' + 1 ≤ u → y ≤ v → z ≤ w → x + y + z < u + v + w
    sums x x' y z u v w e a b c = omega (arith, e, a, b, c)

-- A restoration enters its next state

abbrev restoration_weight : List Sent → (ℕ → Tablet) → List ℕ → Id → RestorationState → List Listed → ℕ
restoration_weight sent tablet slots id state ls = cond (is_restored state) 0 (restoration_moves state + 4 * length slots * restoration_rounds state + round_left sent tablet id ls slots)

-- what is left for all restorations
restorations_fall : (act : Act) (n d : ℕ) (ps : Parts) (changes : List Made) (slots : List ℕ) (r : RestorationRecord) (state : RestorationState) (listed : List Listed) → OperationsGood ps.master changes → In r ps.master.restorations
    → restoration_weight (unsent r.id ps.master.sent) (clocks_set act n ps) slots r.id state listed + d ≤ restoration_left ps.master.sent ps.tablet slots r
    → total (restoration_left (unsent r.id ps.master.sent) (clocks_set act n ps) slots) (map (entering r state listed) ps.master.restorations) + d ≤ total (restoration_left ps.master.sent ps.tablet slots) ps.master.restorations
restorations_fall act n d ps changes slots r state listed ops kept less =
    let m = ps.master in
    let new = unsent r.id m.sent in
    let after = clocks_set act n ps in
    let f = restoration_left new after slots in
    let h = entering r state listed in
    let W : RestorationRecord → Bool → ℕ = λ q b. restoration_weight new after slots q.id (cond b state q.state) (cond b listed q.listed) in
    subst (λ k. k + d ≤ total (restoration_left m.sent ps.tablet slots) m.restorations) (sym (total_mapped f h m.restorations))
    (total_less (λ q. f (h q)) (restoration_left m.sent ps.tablet slots) m.restorations d r
    (λ q inq. either_way (same q.id r.id)
    (λ e. let one : r ≡ q = ops.apart.restoration_ids r q kept inq (sym (same_equal q.id r.id e)) in
    subst (λ k. W k (same k.id r.id) ≤ restoration_left m.sent ps.tablet slots k) one (subst (λ b. W r b ≤ restoration_left m.sent ps.tablet slots r) (sym (same_self r.id)) (less_most _ _ _ less)))
    (λ e. subst (λ b. W q b ≤ restoration_left m.sent ps.tablet slots q) (sym e) (restoration_beside act n ps r.id slots q (apart_by q.id r.id e))))
    kept
    (subst (λ b. W r b + d ≤ restoration_left m.sent ps.tablet slots r) (sym (same_self r.id)) less))
  where
    less_most : (a b d : ℕ) → a + d ≤ b → a ≤ b
    less_most a b d le = omega (arith, le)

-- what is left of the others, also where it makes a snapshot

snapshots_beside : (act : Act) (n : ℕ) (ps : Parts) (slots : List ℕ) (operation : Id) → ((q : SnapshotRecord) → In q ps.master.snapshots → q.id ≢ operation)
    → total (snapshot_left (unsent operation ps.master.sent) (clocks_set act n ps) slots) ps.master.snapshots ≤ total (snapshot_left ps.master.sent ps.tablet slots) ps.master.snapshots
snapshots_beside act n ps slots operation apart = total_most _ _ ps.master.snapshots (λ q inq. snapshot_beside act n ps operation slots q (apart q inq))

snapshots_made : (act : Act) (n : ℕ) (ps : Parts) (slots : List ℕ) (operation ns schedule : Id) → ((q : SnapshotRecord) → In q ps.master.snapshots → q.id ≢ operation)
    → total (snapshot_left (unsent operation ps.master.sent) (clocks_set act n ps) slots) (ps.master.snapshots ++ new_snapshot ps.master ns schedule n ∷ []) ≤ total (snapshot_left ps.master.sent ps.tablet slots) ps.master.snapshots + (1 + 4 * length slots)
snapshots_made act n ps slots operation ns schedule apart =
    let m = ps.master in
    let f = snapshot_left (unsent operation m.sent) (clocks_set act n ps) slots in
    let s = new_snapshot m ns schedule n in
    let old = snapshots_beside act n ps slots operation apart in
    let most = round_most (unsent operation m.sent) (clocks_set act n ps) s.id s.listed slots in
    let made : f s ≤ 1 + 4 * length slots = added_most 1 _ _ most in
    sums _ _ _ _ _ (total_added f m.snapshots s) old made
  where
    sums : (x a b u w : ℕ) → x ≡ a + b → a ≤ u → b ≤ w → x ≤ u + w
    sums x a b u w e p q = omega (arith, e, p, q)

restorations_beside : (act : Act) (n : ℕ) (ps : Parts) (slots : List ℕ) (operation : Id) → ((q : RestorationRecord) → In q ps.master.restorations → q.id ≢ operation)
    → total (restoration_left (unsent operation ps.master.sent) (clocks_set act n ps) slots) ps.master.restorations ≤ total (restoration_left ps.master.sent ps.tablet slots) ps.master.restorations
restorations_beside act n ps slots operation apart = total_most _ _ ps.master.restorations (λ q inq. restoration_beside act n ps operation slots q (apart q inq))

clones_beside : (act : Act) (n : ℕ) (ps : Parts) (slots : List ℕ) (operation : Id) → ((q : CloneRecord) → In q ps.master.clones → q.id ≢ operation)
    → total (clone_left (unsent operation ps.master.sent) (clocks_set act n ps) slots) ps.master.clones ≤ total (clone_left ps.master.sent ps.tablet slots) ps.master.clones
clones_beside act n ps slots operation apart = total_most _ _ ps.master.clones (λ q inq. clone_beside act n ps operation slots q (apart q inq))

sums : (x y z u v w extra d : ℕ) → x ≤ u + extra → y + d ≤ v → z ≤ w → extra < d → x + y + z < u + v + w
sums x y z u v w extra d a b c less = omega (arith, a, b, c, less)

sums_clone : (x y z u v w extra d : ℕ) → x ≤ u + extra → y ≤ v → z + d ≤ w → extra < d → x + y + z < u + v + w
sums_clone x y z u v w extra d a b c less = omega (arith, a, b, c, less)

no_more : (a b : ℕ) → a ≤ b → a ≤ b + 0
no_more a b le = omega (arith, le)

-- what a restoration has left at the least in each state
at_least : (state : RestorationState) (sent : List Sent) (tablet : ℕ → Tablet) (slots : List ℕ) (r : RestorationRecord) (n : ℕ) → r.state ≡ state → is_restored state ≡ false → n ≤ restoration_moves state + 4 * length slots * restoration_rounds state
    → n ≤ restoration_left sent tablet slots r
at_least state sent tablet slots r n is still le =
    subst (λ s. n ≤ restoration_weight sent tablet slots r.id s r.listed) (sym is)
    (subst (λ b. n ≤ cond b 0 (restoration_moves state + 4 * length slots * restoration_rounds state + round_left sent tablet r.id r.listed slots)) (sym still) (omega (arith, le)))

restoration_falls : (state : RestorationState) (act : Act) (n : ℕ) (ps : Parts) (changes : List Made) (slots : List ℕ) (r : RestorationRecord) → r.state ≡ state → is_restored state ≡ false → OperationsGood ps.master changes → In r ps.master.restorations
    → events_left_in (restoration_moved state r n ps.master) (clocks_set act n ps) slots < events_left_in ps.master ps.tablet slots
restoration_falls Fencing act n ps changes slots r is still ops kept =
    let m = ps.master in
    let g = given_restoration Fencing r n m in
    let none = round_none (unsent r.id m.sent) (clocks_set act n ps) r.id [] slots refl in
    sums _ _ _ _ _ _ (1 + 4 * length slots) (2 + 4 * length slots)
    (snapshots_made act n ps slots r.id r.namespace r.schedule (λ q inq e. snapshot_no_restoration m changes q r ops inq kept e))
    (restorations_fall act n (2 + 4 * length slots) ps changes slots r (restoration_next Fencing g) [] ops kept (at_least Fencing m.sent ps.tablet slots r _ is refl (omega (arith, none))))
    (clones_beside act n ps slots r.id (λ q inq e. restoration_no_clone m changes r q ops kept inq (sym e)))
    (omega arith)
restoration_falls (Snapshotting point own) act n ps changes slots r is still ops kept =
    let m = ps.master in
    let g = given_restoration (Snapshotting point own) r n m in
    let none = round_none (unsent r.id m.sent) (clocks_set act n ps) r.id [] slots refl in
    sums _ _ _ _ _ _ 0 1
    (no_more _ _ (snapshots_beside act n ps slots r.id (λ q inq e. snapshot_no_restoration m changes q r ops inq kept e)))
    (restorations_fall act n 1 ps changes slots r (restoration_next (Snapshotting point own) g) [] ops kept (at_least (Snapshotting point own) m.sent ps.tablet slots r _ is refl (omega (arith, none))))
    (clones_beside act n ps slots r.id (λ q inq e. restoration_no_clone m changes r q ops kept inq (sym e)))
    (omega arith)
restoration_falls (Switching point serving) act n ps changes slots r is still ops kept =
    let m = ps.master in
    let g = given_restoration (Switching point serving) r n m in
    let most = round_most (unsent r.id m.sent) (clocks_set act n ps) r.id (restoration_lists (Switching point serving) r m) slots in
    sums _ _ _ _ _ _ 0 1
    (no_more _ _ (snapshots_beside act n ps slots r.id (λ q inq e. snapshot_no_restoration m changes q r ops inq kept e)))
    (restorations_fall act n 1 ps changes slots r (restoration_next (Switching point serving) g) (restoration_lists (Switching point serving) r m) ops kept (at_least (Switching point serving) m.sent ps.tablet slots r _ is refl (omega (arith, most))))
    (clones_beside act n ps slots r.id (λ q inq e. restoration_no_clone m changes r q ops kept inq (sym e)))
    (omega arith)
restoration_falls (Restoring point serving) act n ps changes slots r is still ops kept =
    let m = ps.master in
    let g = given_restoration (Restoring point serving) r n m in
    let most = round_most (unsent r.id m.sent) (clocks_set act n ps) r.id (restoration_lists (Restoring point serving) r m) slots in
    sums _ _ _ _ _ _ 0 1
    (no_more _ _ (snapshots_beside act n ps slots r.id (λ q inq e. snapshot_no_restoration m changes q r ops inq kept e)))
    (restorations_fall act n 1 ps changes slots r (restoration_next (Restoring point serving) g) (restoration_lists (Restoring point serving) r m) ops kept (at_least (Restoring point serving) m.sent ps.tablet slots r _ is refl (omega (arith, most))))
    (clones_beside act n ps slots r.id (λ q inq e. restoration_no_clone m changes r q ops kept inq (sym e)))
    (omega arith)
restoration_falls (Releasing point serving) act n ps changes slots r is still ops kept =
    let m = ps.master in
    let g = given_restoration (Releasing point serving) r n m in
    sums _ _ _ _ _ _ 0 1
    (no_more _ _ (snapshots_beside act n ps slots r.id (λ q inq e. snapshot_no_restoration m changes q r ops inq kept e)))
    (restorations_fall act n 1 ps changes slots r (restoration_next (Releasing point serving) g) [] ops kept (at_least (Releasing point serving) m.sent ps.tablet slots r _ is refl (omega arith)))
    (clones_beside act n ps slots r.id (λ q inq e. restoration_no_clone m changes r q ops kept inq (sym e)))
    (omega arith)
restoration_falls (Restored point serving) act n ps changes slots r is still ops kept = absurd (true≢false still)

-- A clone enters its next state

abbrev pub clone_then : CloneRecord → CloneState → List Listed → CloneRecord → CloneRecord
clone_then r state listed x = record x { listed = cond (same x.id r.id) listed x.listed; state = cond (same x.id r.id) state x.state }

abbrev clone_weight : List Sent → (ℕ → Tablet) → List ℕ → Id → CloneState → List Listed → ℕ
clone_weight sent tablet slots id state ls = cond (is_cloned state) 0 (clone_moves state + 4 * length slots * clone_rounds state + round_left sent tablet id ls slots)

clones_fall : (act : Act) (n d : ℕ) (ps : Parts) (changes : List Made) (slots : List ℕ) (r : CloneRecord) (state : CloneState) (listed : List Listed) → OperationsGood ps.master changes → In r ps.master.clones
    → clone_weight (unsent r.id ps.master.sent) (clocks_set act n ps) slots r.id state listed + d ≤ clone_left ps.master.sent ps.tablet slots r
    → total (clone_left (unsent r.id ps.master.sent) (clocks_set act n ps) slots) (map (clone_then r state listed) ps.master.clones) + d ≤ total (clone_left ps.master.sent ps.tablet slots) ps.master.clones
clones_fall act n d ps changes slots r state listed ops kept less =
    let m = ps.master in
    let new = unsent r.id m.sent in
    let after = clocks_set act n ps in
    let f = clone_left new after slots in
    let h = clone_then r state listed in
    let W : CloneRecord → Bool → ℕ = λ q b. clone_weight new after slots q.id (cond b state q.state) (cond b listed q.listed) in
    subst (λ k. k + d ≤ total (clone_left m.sent ps.tablet slots) m.clones) (sym (total_mapped f h m.clones))
    (total_less (λ q. f (h q)) (clone_left m.sent ps.tablet slots) m.clones d r
    (λ q inq. either_way (same q.id r.id)
    (λ e. let one : r ≡ q = ops.apart.clone_ids r q kept inq (sym (same_equal q.id r.id e)) in
    subst (λ k. W k (same k.id r.id) ≤ clone_left m.sent ps.tablet slots k) one (subst (λ b. W r b ≤ clone_left m.sent ps.tablet slots r) (sym (same_self r.id)) (less_most _ _ _ less)))
    (λ e. subst (λ b. W q b ≤ clone_left m.sent ps.tablet slots q) (sym e) (clone_beside act n ps r.id slots q (apart_by q.id r.id e))))
    kept
    (subst (λ b. W r b + d ≤ clone_left m.sent ps.tablet slots r) (sym (same_self r.id)) less))
  where
    less_most : (a b d : ℕ) → a + d ≤ b → a ≤ b
    less_most a b d le = omega (arith, le)

clone_least : (state : CloneState) (sent : List Sent) (tablet : ℕ → Tablet) (slots : List ℕ) (r : CloneRecord) (n : ℕ) → r.state ≡ state → is_cloned state ≡ false → n ≤ clone_moves state + 4 * length slots * clone_rounds state
    → n ≤ clone_left sent tablet slots r
clone_least state sent tablet slots r n is still le =
    subst (λ s. n ≤ clone_weight sent tablet slots r.id s r.listed) (sym is)
    (subst (λ b. n ≤ cond b 0 (clone_moves state + 4 * length slots * clone_rounds state + round_left sent tablet r.id r.listed slots)) (sym still) (omega (arith, le)))

-- of the clone alone
clone_beside_all : (act : Act) (n : ℕ) (ps : Parts) (changes : List Made) (slots : List ℕ) (r : CloneRecord) (state : CloneState) (listed : List Listed) → OperationsGood ps.master changes → In r ps.master.clones
    → clone_weight (unsent r.id ps.master.sent) (clocks_set act n ps) slots r.id state listed + 1 ≤ clone_left ps.master.sent ps.tablet slots r
    → total (snapshot_left (unsent r.id ps.master.sent) (clocks_set act n ps) slots) ps.master.snapshots + total (restoration_left (unsent r.id ps.master.sent) (clocks_set act n ps) slots) ps.master.restorations
    + total (clone_left (unsent r.id ps.master.sent) (clocks_set act n ps) slots) (map (clone_then r state listed) ps.master.clones) < events_left_in ps.master ps.tablet slots
clone_beside_all act n ps changes slots r state listed ops kept less =
    let m = ps.master in
    sums_clone _ _ _ _ _ _ 0 1
    (no_more _ _ (snapshots_beside act n ps slots r.id (λ q inq e. snapshot_no_clone m changes q r ops inq kept e)))
    (restorations_beside act n ps slots r.id (λ q inq e. restoration_no_clone m changes q r ops inq kept e))
    (clones_fall act n 1 ps changes slots r state listed ops kept less)
    (omega arith)

begins_falls : (serving : Option SnapshotRecord) (schedule : Option Schedule) (act : Act) (n : ℕ) (ps : Parts) (changes : List Made) (slots : List ℕ) (r : CloneRecord) → schedule_of ps.master.schedules r.source ≡ schedule → r.state ≡ Accepted → OperationsGood ps.master changes → In r ps.master.clones
    → events_left_in (begins_clone serving r n ps.master) (clocks_set act n ps) slots < events_left_in ps.master ps.tablet slots
begins_falls (Some s) schedule act n ps changes slots r by is ops kept =
    let m = ps.master in
    let g = given_clone Accepted (Some s.id) r n m in
    let most = round_most (unsent r.id m.sent) (clocks_set act n ps) r.id g.listed slots in
    clone_beside_all act n ps changes slots r (clone_next Accepted g) g.listed ops kept (clone_least Accepted m.sent ps.tablet slots r _ is refl (omega (arith, most)))
begins_falls None None act n ps changes slots r by is ops kept =
    let m = ps.master in
    let g = given_clone Accepted None r n m in
    let none = round_none (unsent r.id m.sent) (clocks_set act n ps) r.id [] slots refl in
    subst (λ k. events_left_in (clone_goes Accepted None r n m (with_clones_snapshot k r n m)) (clocks_set act n ps) slots < events_left_in m ps.tablet slots) (sym by)
    (clone_beside_all act n ps changes slots r (clone_next Accepted g) [] ops kept (clone_least Accepted m.sent ps.tablet slots r _ is refl (omega (arith, none))))
begins_falls None (Some s) act n ps changes slots r by is ops kept =
    let m = ps.master in
    let g = given_clone Accepted None r n m in
    let none = round_none (unsent r.id m.sent) (clocks_set act n ps) r.id [] slots refl in
    subst (λ k. events_left_in (clone_goes Accepted None r n m (with_clones_snapshot k r n m)) (clocks_set act n ps) slots < events_left_in m ps.tablet slots) (sym by)
    (sums_clone _ _ _ _ _ _ (1 + 4 * length slots) (2 + 4 * length slots)
    (snapshots_made act n ps slots r.id r.source s.id (λ q inq e. snapshot_no_clone m changes q r ops inq kept e))
    (restorations_beside act n ps slots r.id (λ q inq e. restoration_no_clone m changes q r ops inq kept e))
    (clones_fall act n (2 + 4 * length slots) ps changes slots r (clone_next Accepted g) [] ops kept (clone_least Accepted m.sent ps.tablet slots r _ is refl (omega (arith, none))))
    (omega arith))

clone_falls : (state : CloneState) (act : Act) (n : ℕ) (ps : Parts) (changes : List Made) (slots : List ℕ) (r : CloneRecord) → r.state ≡ state → is_cloned state ≡ false → OperationsGood ps.master changes → In r ps.master.clones
    → events_left_in (clone_moved state r n ps.master) (clocks_set act n ps) slots < events_left_in ps.master ps.tablet slots
clone_falls Accepted act n ps changes slots r is still ops kept = begins_falls (serving_clone ps.master r) (schedule_of ps.master.schedules r.source) act n ps changes slots r refl is ops kept
clone_falls (CloneSnapshot own) act n ps changes slots r is still ops kept =
    let m = ps.master in
    let g = given_clone (CloneSnapshot own) (id_of_snapshot (serving_clone m r)) r n m in
    let most = round_most (unsent r.id m.sent) (clocks_set act n ps) r.id g.listed slots in
    clone_beside_all act n ps changes slots r (clone_next (CloneSnapshot own) g) g.listed ops kept (clone_least (CloneSnapshot own) m.sent ps.tablet slots r _ is refl (omega (arith, most)))
clone_falls (Copying serving at) act n ps changes slots r is still ops kept =
    let m = ps.master in
    let g = given_clone (Copying serving at) None r n m in
    let most = round_most (unsent r.id m.sent) (clocks_set act n ps) r.id g.listed slots in
    clone_beside_all act n ps changes slots r (clone_next (Copying serving at) g) g.listed ops kept (clone_least (Copying serving at) m.sent ps.tablet slots r _ is refl (omega (arith, most)))
clone_falls (CloneReleasing serving at) act n ps changes slots r is still ops kept =
    let m = ps.master in
    let g = given_clone (CloneReleasing serving at) None r n m in
    clone_beside_all act n ps changes slots r (clone_next (CloneReleasing serving at) g) g.listed ops kept (clone_least (CloneReleasing serving at) m.sent ps.tablet slots r _ is refl (omega arith))
clone_falls (CloneComplete serving at) act n ps changes slots r is still ops kept = absurd (true≢false still)

-- A move of whichever record

moved_falls : (act : Act) (n : ℕ) (ps : Parts) (changes : List Made) (slots : List ℕ) (p : Progress) → OperationsGood ps.master changes → Unfinished ps.master p → events_left_in (moved p.id n ps.master) (clocks_set act n ps) slots < events_left_in ps.master ps.tablet slots
moved_falls act n ps changes slots p ops (OfSnapshot r kept still is) = subst (λ q. events_left_in (moved q.id n ps.master) (clocks_set act n ps) slots < events_left_in ps.master ps.tablet slots) is
    (subst (λ k. events_left_in (moved_of k r.id n ps.master) (clocks_set act n ps) slots < events_left_in ps.master ps.tablet slots) (sym (ops.snapshots r kept).kind_is)
    (subst (λ found. events_left_in (option_map_or (λ q. completed q n ps.master) found (record ps.master { clock = n })) (clocks_set act n ps) slots < events_left_in ps.master ps.tablet slots) (sym (snapshot_found ps.master changes r ops kept still))
    (completed_falls act n ps changes slots r ops kept still)))
moved_falls act n ps changes slots p ops (OfRestoration r kept still is) = subst (λ q. events_left_in (moved q.id n ps.master) (clocks_set act n ps) slots < events_left_in ps.master ps.tablet slots) is
    (subst (λ k. events_left_in (moved_of k r.id n ps.master) (clocks_set act n ps) slots < events_left_in ps.master ps.tablet slots) (sym (ops.restorations r kept).kind_is)
    (subst (λ found. events_left_in (option_map_or (λ q. restoration_moved q.state q n ps.master) found (record ps.master { clock = n })) (clocks_set act n ps) slots < events_left_in ps.master ps.tablet slots) (sym (restoration_found ps.master changes r ops kept still))
    (restoration_falls r.state act n ps changes slots r refl still ops kept)))
moved_falls act n ps changes slots p ops (OfClone r kept still is) = subst (λ q. events_left_in (moved q.id n ps.master) (clocks_set act n ps) slots < events_left_in ps.master ps.tablet slots) is
    (subst (λ k. events_left_in (moved_of k r.id n ps.master) (clocks_set act n ps) slots < events_left_in ps.master ps.tablet slots) (sym (ops.clones r kept).kind_is)
    (subst (λ found. events_left_in (option_map_or (λ q. clone_moved q.state q n ps.master) found (record ps.master { clock = n })) (clocks_set act n ps) slots < events_left_in ps.master ps.tablet slots) (sym (clone_found ps.master changes r ops kept still))
    (clone_falls r.state act n ps changes slots r refl still ops kept)))

-- an advance of a record with nothing to wait for is its move
pub advance_moves : (n : ℕ) (ps : Parts) (changes : List Made) (p : Progress) → OperationsGood ps.master changes → Unfinished ps.master p → first_unacked p.listed ≡ None → p.awaited ≡ None → advance p.id n ps ≡ moves p.id p.next
unfolding advance
advance_moves n ps changes p ops record_ all free = ap (λ found. advancing found p.id) (progress_found ps.master changes p ops record_) ∙ ap (λ on. moving on p.id p.next) (waits_none (first_unacked p.listed) p.awaited all free)

pub advance_falls : (ps : Parts) (activity : List Interval) (changes : List Made) (n : ℕ) (p : Progress) (slots : List ℕ) → Inv ps activity changes → Unfinished ps.master p → first_unacked p.listed ≡ None → p.awaited ≡ None
    → Falls ps (told (Advance p.id) (advance p.id n ps) n ps) slots
advance_falls ps activity changes n p slots inv record_ all free =
    subst (λ o. Falls ps (told (Advance p.id) o n ps) slots) (sym (advance_moves n ps changes p inv.operations record_ all free)) (moved_falls (Advance p.id) n ps changes slots p inv.operations record_)
