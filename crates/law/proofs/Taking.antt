-- Kept snapshots are as they were taken, in their order: nothing but their acks, and whether they are complete, changes.
use Rattle.std.proofs.Common.{◌≡◌, ℕ, ◌<◌, Bool, true, false, List, [], ◌∷◌, ◌++◌, inl, inr, refl, sym, ap, ◌∙◌, subst, map, arith, ltb, not, cond}
use Rattle.std.specs.List.{filter}
use Rattle.std.proofs.lemmas.Bool.{cond_both}
use Rattle.std.proofs.lemmas.Bool.Decides.{nat_tests}
use Rattle.model.specs.Cluster.{Id, same, has, Listed, SnapshotRecord, RestorationRecord, RestorationState, Fencing, CloneRecord, CloneState, Accepted, acked_at, Master, Parts, MasterAct, TakesSnapshot, Acks, Moves, Removes}
use Rattle.model.specs.Drawn.{IsPartOf, SnapshotsAsTaken, as_taken}
use Rattle.model.specs.Entries.{Entry, slots_of}
use Rattle.model.specs.History.{master_effect, next, outcome, replay, snapshots_taken}
use Rattle.model.specs.Lists.{new_snapshot, with_snapshot}
use Rattle.model.specs.Moves.{anew, clone_moved, restoration_moved}
use Rattle.law_invariants.proofs.Effects.{acked_each, begins_each, moved_each, removed_each}
use Rattle.law_invariants.proofs.Parting.{part_append, part_left, part_mapped, part_same}

abbrev pub Taken : List SnapshotRecord → List SnapshotRecord → Type 0
Taken rs taken = IsPartOf (map as_taken rs) (map as_taken taken)

-- the snapshots after an act are some of those that were kept, as they were taken; or one more behind them
pub data Goes (m : Master) (rs : List SnapshotRecord) : Type 0 where
  Stays : Taken rs m.snapshots → Goes m rs
  Adds : (new : SnapshotRecord) → m.drawn.snapshots < new.id.number → rs ≡ m.snapshots ++ new ∷ [] → Goes m rs

stays : (m : Master) → Goes m m.snapshots
stays m = Stays (part_same (map as_taken m.snapshots))

-- records with other acks, and complete or not
updated : (m : Master) (complete : SnapshotRecord → Bool) (listed : SnapshotRecord → List Listed) → ((r : SnapshotRecord) → anew (listed r) ≡ anew r.listed)
    → Goes m (map {A = SnapshotRecord} (λ x. record x { complete = complete x; listed = listed x }) m.snapshots)
updated m complete listed anew_is = Stays (subst (λ rs. IsPartOf rs (map as_taken m.snapshots)) (sym (as_before m.snapshots)) (part_same (map as_taken m.snapshots)))
  where
    as_before : (rs : List SnapshotRecord) → map as_taken (map {A = SnapshotRecord} (λ x. record x { complete = complete x; listed = listed x }) rs) ≡ map as_taken rs
    as_before [] = refl
    as_before (r ∷ rs) = ap (λ ls. record r { complete = false; listed = ls } ∷ map as_taken (map {A = SnapshotRecord} (λ x. record x { complete = complete x; listed = listed x }) rs)) (anew_is r)
        ∙ ap (λ qs. as_taken r ∷ qs) (as_before rs)

anew_twice : (ls : List Listed) → anew (anew ls) ≡ anew ls
anew_twice [] = refl
anew_twice (l ∷ ls) = ap (λ ks. record l { acked = false } ∷ ks) (anew_twice ls)

anew_acked : (slot : ℕ) (ls : List Listed) → anew (acked_at slot ls) ≡ anew ls
anew_acked slot [] = refl
anew_acked slot (l ∷ ls) = ap (λ ks. record l { acked = false } ∷ ks) (anew_acked slot ls)

either_anew : (b : Bool) (ks ls : List Listed) → anew ks ≡ anew ls → anew (cond b ks ls) ≡ anew ls
either_anew true ks ls e = e
either_anew false ks ls e = refl

added : (m : Master) (ns schedule : Id) (n : ℕ) → Goes m (with_snapshot ns schedule n m).snapshots
added m ns schedule n = Adds (new_snapshot m ns schedule n) (omega arith) refl

restoration_goes : (state : RestorationState) (r : RestorationRecord) (n : ℕ) (m : Master) → Goes m (restoration_moved state r n m).snapshots
restoration_goes Fencing r n m = added m r.namespace r.schedule n
restoration_goes _ r n m = stays m

clone_goes : (state : CloneState) (c : CloneRecord) (n : ℕ) (m : Master) → Goes m (clone_moved state c n m).snapshots
clone_goes Accepted c n m = begins_each (λ k. Goes m k.snapshots) c n m (λ serving. stays m) (λ s. added m c.source s.id n) (stays m)
clone_goes _ c n m = stays m

left_taken : (test : SnapshotRecord → Bool) (rs : List SnapshotRecord) → Taken (filter test rs) rs
left_taken test rs = part_mapped as_taken rs (filter test rs) (part_left test rs rs (part_same rs))

told_goes : (a : MasterAct) (n : ℕ) (m : Master) → Goes m (master_effect a n m).snapshots
told_goes (TakesSnapshot schedule) n m = added m schedule.namespace schedule.id n
told_goes (Acks operation slot) n m =
    acked_each (λ k. Goes m k.snapshots) operation.kind operation slot n m (stays m)
    (updated m (λ x. x.complete) _ (λ x. either_anew (same x.id operation) (acked_at slot x.listed) x.listed (anew_acked slot x.listed))) (stays m) (stays m)
told_goes (Moves operation) n m =
    moved_each (λ k. Goes m k.snapshots) operation.kind operation n m (stays m) (λ r e. updated m _ _ (λ x. either_anew (same x.id r.id) (anew x.listed) x.listed (anew_twice x.listed)))
    (λ r e. restoration_goes r.state r n m) (λ c e. clone_goes c.state c n m)
told_goes (Removes target) n m = removed_each (λ k. Goes m k.snapshots) target.kind target n m (stays m) (stays m) (Stays (left_taken (λ q. not (same q.id target)) m.snapshots))
told_goes _ n m = stays m

entry_goes : (e : Entry) (ps : Parts) → Goes ps.master (next e ps).master.snapshots
entry_goes e ps = cond_both (has (slots_of e.event.act) 0) (master_effect (outcome e.event.act e.stamp ps).master e.stamp ps.master) ps.master (λ m. Goes ps.master m.snapshots)
    (λ touched. told_goes (outcome e.event.act e.stamp ps).master e.stamp ps.master) (λ alone. stays ps.master)

-- what was taken goes on to have been taken

map_append : (rs qs : List SnapshotRecord) → map as_taken (rs ++ qs) ≡ map as_taken rs ++ map as_taken qs
map_append [] qs = refl
map_append (r ∷ rs) qs = ap (λ ks. as_taken r ∷ ks) (map_append rs qs)

more_taken : (rs taken new qs : List SnapshotRecord) → Taken rs taken → Taken qs new → Taken (rs ++ qs) (taken ++ new)
more_taken rs taken new qs h k = subst (λ ks. IsPartOf ks (map as_taken (taken ++ new))) (sym (map_append rs qs))
    (subst (λ ks. IsPartOf (map as_taken rs ++ map as_taken qs) ks) (sym (map_append taken new)) (part_append (map as_taken taken) (map as_taken rs) (map as_taken qs) (map as_taken new) h k))

append_none : (rs : List SnapshotRecord) → rs ++ [] ≡ rs
append_none [] = refl
append_none (r ∷ rs) = ap (λ ks. r ∷ ks) (append_none rs)

-- the last of a list is one of those of it that pass a test, where it passes
one_more : (b : Bool) (r new : SnapshotRecord) (rest : List SnapshotRecord) → Taken (new ∷ []) rest → Taken (new ∷ []) (cond b (r ∷ rest) rest)
one_more true r new rest h = inr h
one_more false r new rest h = h

last_left : (test : SnapshotRecord → Bool) (rs : List SnapshotRecord) (new : SnapshotRecord) → test new ≡ true → Taken (new ∷ []) (filter test (rs ++ new ∷ []))
last_left test [] new passes = rw passes (inl (refl, tt))
last_left test (r ∷ rs) new passes = one_more (test r) r new (filter test (rs ++ new ∷ [])) (last_left test rs new passes)

-- a part of a part is one
part_trans : {A : Type 0} (zs ys xs : List A) → IsPartOf ys zs → IsPartOf xs ys → IsPartOf xs zs
part_trans zs [] [] h k = tt
part_trans zs [] (x ∷ xs) h k = absurd k
part_trans [] (y ∷ ys) xs h k = absurd h
part_trans (z ∷ zs) (y ∷ ys) [] h k = tt
part_trans (z ∷ zs) (y ∷ ys) (x ∷ xs) (inl h) (inl k) = inl (k.0 ∙ h.0, part_trans zs ys xs h.1 k.1)
part_trans (z ∷ zs) (y ∷ ys) (x ∷ xs) (inl h) (inr k) = inr (part_trans zs ys (x ∷ xs) h.1 k)
part_trans (z ∷ zs) (y ∷ ys) (x ∷ xs) (inr h) k = inr (part_trans zs (y ∷ ys) (x ∷ xs) h k)

goes_taken : (m : Master) (rs taken : List SnapshotRecord) → Goes m rs → Taken m.snapshots taken → Taken rs (taken ++ filter (λ r. ltb m.drawn.snapshots r.id.number) rs)
goes_taken m rs taken (Stays part) h = subst (λ qs. Taken qs (taken ++ filter (λ r. ltb m.drawn.snapshots r.id.number) rs)) (append_none rs)
    (more_taken rs taken (filter (λ r. ltb m.drawn.snapshots r.id.number) rs) [] (part_trans (map as_taken taken) (map as_taken m.snapshots) (map as_taken rs) h part) tt)
goes_taken m rs taken (Adds new drawn is) h = subst (λ qs. Taken qs (taken ++ filter (λ r. ltb m.drawn.snapshots r.id.number) qs)) (sym is)
    (more_taken m.snapshots taken (filter (λ r. ltb m.drawn.snapshots r.id.number) (m.snapshots ++ new ∷ [])) (new ∷ []) h
    (last_left (λ r. ltb m.drawn.snapshots r.id.number) m.snapshots new (grind (arith, nat_tests))))

pub all_as_taken : (history : List Entry) (slots : ℕ) → SnapshotsAsTaken slots history
unfolding replay snapshots_taken
all_as_taken [] slots = tt
all_as_taken (e ∷ earlier) slots =
    let ps = replay slots earlier in
    goes_taken ps.master (next e ps).master.snapshots (snapshots_taken slots earlier) (entry_goes e ps) (all_as_taken earlier slots)
