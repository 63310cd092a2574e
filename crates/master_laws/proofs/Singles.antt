-- An identifier is that of one restoration's record, and of one clone's: each is numbered anew, and none is taken out or changes its
-- identifier.
use Rattle.std.proofs.Common.{ℕ, ◌≡◌, ◌≤◌, ◌+◌, List, [], ◌∷◌, ◌++◌, map, length, false, inl, inr, refl, sym, ap, ◌∙◌, arith}
use Rattle.std.specs.List.{filter}
use Rattle.std.proofs.lemmas.Bool.{cond_both}
use Rattle.std.proofs.lemmas.List.{map-append}
use Rattle.row_values.specs.Ids.{Id, same}
use Rattle.row_values.specs.Elements.{In}
use Rattle.model.specs.Cluster.{has, RestorationRecord, RestorationState, Fencing, Snapshotting, Switching, Restoring, Releasing, Restored, CloneRecord, CloneState, Accepted, CloneSnapshot, Copying, CloneReleasing, CloneComplete, Act, Master, Parts, MasterAct, BeginsRestoration, BeginsClone, Acks, Moves, Removes, Outcome}
use Rattle.model.specs.Changed.{next_restoration, next_clone}
use Rattle.model.specs.Moves.{restoration_moved, clone_moved}
use Rattle.model.specs.Entries.{Entry, slots_of}
use Rattle.model.specs.History.{master_effect, told, outcome, replay}
use Rattle.law_store.proofs.Keys.{either_way}
use Rattle.law_invariants.proofs.Finding.{in_added, not_same, same_equal, apart_by_number}
use Rattle.law_invariants.proofs.Effects.{acked_each, begins_each, moved_each, removed_each}

-- Identifiers of which none comes twice

-- all are of the first ones, and each is there once
record Single (ids : List Id) (drawn : ℕ) : Type 0 where
  within : (id : Id) → In id ids → id.number ≤ drawn
  once : (id : Id) → length (filter (λ (i : Id). same i id) ids) ≤ 1

none_alike : (ids : List Id) (id : Id) → ((i : Id) → In i ids → same i id ≡ false) → length (filter (λ (i : Id). same i id) ids) ≡ 0
none_alike [] id none = refl
none_alike (i ∷ is) id none = rw (none i (inl refl)) (none_alike is id (λ k isin. none k (inr isin)))

counted_next : (ids : List Id) (made id : Id)
    → length (filter (λ (i : Id). same i id) (ids ++ made ∷ [])) ≡ length (filter (λ (i : Id). same i id) ids) + length (filter (λ (i : Id). same i id) (made ∷ []))
counted_next [] made id = omega arith
counted_next (i ∷ is) made id = let rest = counted_next is made id in either_way (same i id)
    (λ b. rw (b) (omega (arith, rest)))
    (λ b. rw (b) rest)

one_at_most : (made id : Id) → length (filter (λ (i : Id). same i id) (made ∷ [])) ≤ 1
one_at_most made id = either_way (same made id) (λ b. rw (b) (omega arith)) (λ b. rw (b) (omega arith))

-- one more, with the next number
single_next : (ids : List Id) (made : Id) (drawn : ℕ) → made.number ≡ drawn + 1 → Single ids drawn → Single (ids ++ made ∷ []) (drawn + 1)
single_next ids made drawn next h = record {
  within = in_added (λ (id : Id). id.number ≤ drawn + 1) ids made (λ id isin. let le = h.within id isin in omega arith) (omega (arith, next));
  once = λ id. either_way (same made id)
      (λ b.
      let is = same_equal made id b in
      let before : length (filter (λ (i : Id). same i id) ids) ≡ 0 =
      none_alike ids id (λ i isin. not_same i id (apart_by_number i id (let le = h.within i isin in let n : id.number ≡ drawn + 1 = ap (λ (k : Id). k.number) (sym is) ∙ next in omega arith))) in
      let all = counted_next ids made id in
      let last = one_at_most made id in
      omega arith)
      (λ b.
      let all = counted_next ids made id in
      let last : length (filter (λ (i : Id). same i id) (made ∷ [])) ≡ 0 = rw (b) refl in
      let old = h.once id in
      omega arith);
}

-- records that keep their identifiers
kept_ids : {A : Type 0} (id_of : A → Id) (f : A → A) (xs : List A) → ((x : A) → id_of (f x) ≡ id_of x) → map id_of (map f xs) ≡ map id_of xs
kept_ids id_of f [] keeps = refl
kept_ids id_of f (x ∷ xs) keeps = rw (keeps x, kept_ids id_of f xs keeps) refl

counted : {A : Type 0} (id_of : A → Id) (xs : List A) (id : Id)
    → length (filter (λ (x : A). same (id_of x) id) xs) ≡ length (filter (λ (i : Id). same i id) (map id_of xs))
counted id_of [] id = refl
counted id_of (x ∷ xs) id = let rest = counted id_of xs id in either_way (same (id_of x) id)
    (λ b. rw (b) (omega (arith, rest)))
    (λ b. rw (b) rest)

-- The master's records

abbrev restoration_id : RestorationRecord → Id
restoration_id r = r.id

abbrev clone_id : CloneRecord → Id
clone_id c = c.id

record Singles (m : Master) : Type 0 where
  restorations : Single (map restoration_id m.restorations) m.drawn.restorations
  clones : Single (map clone_id m.clones) m.drawn.clones

-- restorations whose identifiers are those of before
restorations_kept : (k m : Master) → map restoration_id k.restorations ≡ map restoration_id m.restorations → k.drawn.restorations ≡ m.drawn.restorations
    → k.clones ≡ m.clones → k.drawn.clones ≡ m.drawn.clones → Singles m → Singles k
restorations_kept k m ids drawn clones clones_drawn h = record {
  restorations = rw (ids, drawn) h.restorations;
  clones = rw (clones, clones_drawn) h.clones;
}

clones_kept : (k m : Master) → map clone_id k.clones ≡ map clone_id m.clones → k.drawn.clones ≡ m.drawn.clones
    → k.restorations ≡ m.restorations → k.drawn.restorations ≡ m.drawn.restorations → Singles m → Singles k
clones_kept k m ids drawn restorations restorations_drawn h = record {
  restorations = rw (restorations, restorations_drawn) h.restorations;
  clones = rw (ids, drawn) h.clones;
}

restoration_single : (state : RestorationState) (r : RestorationRecord) (n : ℕ) (m : Master) → Singles m → Singles (restoration_moved state r n m)
restoration_single state r n m h = restorations_kept (restoration_moved state r n m) m (ids state) (drawn state) (clones state) (clones_drawn state) h
  where
    ids : (s : RestorationState) → map restoration_id (restoration_moved s r n m).restorations ≡ map restoration_id m.restorations
    ids Fencing = kept_ids restoration_id _ m.restorations (λ x. refl)
    ids (Restored point serving) = refl
    ids (Snapshotting point own) = kept_ids restoration_id _ m.restorations (λ x. refl)
    ids (Switching point serving) = kept_ids restoration_id _ m.restorations (λ x. refl)
    ids (Restoring point serving) = kept_ids restoration_id _ m.restorations (λ x. refl)
    ids (Releasing point serving) = kept_ids restoration_id _ m.restorations (λ x. refl)

    drawn : (s : RestorationState) → (restoration_moved s r n m).drawn.restorations ≡ m.drawn.restorations
    drawn Fencing = refl
    drawn _ = refl

    clones : (s : RestorationState) → (restoration_moved s r n m).clones ≡ m.clones
    clones Fencing = refl
    clones _ = refl

    clones_drawn : (s : RestorationState) → (restoration_moved s r n m).drawn.clones ≡ m.drawn.clones
    clones_drawn Fencing = refl
    clones_drawn _ = refl

clone_single : (state : CloneState) (c : CloneRecord) (n : ℕ) (m : Master) → Singles m → Singles (clone_moved state c n m)
clone_single Accepted c n m h =
    begins_each Singles c n m
    (λ serving. clones_kept _ m (kept_ids clone_id _ m.clones (λ x. refl)) refl refl refl h)
    (λ s. clones_kept _ m (kept_ids clone_id _ m.clones (λ x. refl)) refl refl refl h)
    (clones_kept _ m (kept_ids clone_id _ m.clones (λ x. refl)) refl refl refl h)
clone_single (CloneSnapshot own) c n m h = clones_kept _ m (kept_ids clone_id _ m.clones (λ x. refl)) refl refl refl h
clone_single (Copying serving at) c n m h = clones_kept _ m (kept_ids clone_id _ m.clones (λ x. refl)) refl refl refl h
clone_single (CloneReleasing serving at) c n m h = clones_kept _ m (kept_ids clone_id _ m.clones (λ x. refl)) refl refl refl h
clone_single (CloneComplete serving at) c n m h = clones_kept _ m refl refl refl refl h

effect_single : (act : MasterAct) (n : ℕ) (m : Master) → Singles m → Singles (master_effect act n m)
effect_single (BeginsRestoration s to) n m h = record {
  restorations = rw (map-append restoration_id m.restorations _) (single_next (map restoration_id m.restorations) (next_restoration m) m.drawn.restorations refl h.restorations);
  clones = h.clones;
}
effect_single (BeginsClone ns source target to) n m h = record {
  restorations = h.restorations;
  clones = rw (map-append clone_id m.clones _) (single_next (map clone_id m.clones) (next_clone m) m.drawn.clones refl h.clones);
}
effect_single (Acks operation slot) n m h =
    acked_each Singles operation.kind operation slot n m
    (record { restorations = h.restorations; clones = h.clones })
    (record { restorations = h.restorations; clones = h.clones })
    (restorations_kept _ m (kept_ids restoration_id _ m.restorations (λ x. refl)) refl refl refl h)
    (clones_kept _ m (kept_ids clone_id _ m.clones (λ x. refl)) refl refl refl h)
effect_single (Moves operation) n m h =
    moved_each Singles operation.kind operation n m
    (record { restorations = h.restorations; clones = h.clones })
    (λ r e. record { restorations = h.restorations; clones = h.clones })
    (λ r e. restoration_single r.state r n m h)
    (λ c e. clone_single c.state c n m h)
effect_single (Removes target) n m h =
    removed_each Singles target.kind target n m
    (record { restorations = h.restorations; clones = h.clones })
    (record { restorations = h.restorations; clones = h.clones })
    (record { restorations = h.restorations; clones = h.clones })
effect_single _ n m h = record { restorations = h.restorations; clones = h.clones }

told_single : (act : Act) (o : Outcome) (n : ℕ) (ps : Parts) → Singles ps.master → Singles (told act o n ps).master
told_single act o n ps h =
    cond_both (has (slots_of act) 0) (master_effect o.master n ps.master) ps.master Singles (λ _. effect_single o.master n ps.master h) (λ _. h)

all_single : (history : List Entry) (slots : ℕ) → Singles (replay slots history).master
unfolding replay
all_single [] slots = record {
  restorations = record { within = λ id isin. absurd isin; once = λ id. omega arith };
  clones = record { within = λ id isin. absurd isin; once = λ id. omega arith };
}
all_single (e ∷ earlier) slots =
    told_single e.event.act (outcome e.event.act e.stamp (replay slots earlier)) e.stamp (replay slots earlier) (all_single earlier slots)

pub one_restoration : (history : List Entry) (slots : ℕ) (id : Id)
    → length (filter (λ (r : RestorationRecord). same r.id id) (replay slots history).master.restorations) ≤ 1
one_restoration history slots id =
    let rs = (replay slots history).master.restorations in
    let e = counted restoration_id rs id in
    let le = (all_single history slots).restorations.once id in
    omega arith

pub one_clone : (history : List Entry) (slots : ℕ) (id : Id)
    → length (filter (λ (c : CloneRecord). same c.id id) (replay slots history).master.clones) ≤ 1
one_clone history slots id =
    let cs = (replay slots history).master.clones in
    let e = counted clone_id cs id in
    let le = (all_single history slots).clones.once id in
    omega arith
