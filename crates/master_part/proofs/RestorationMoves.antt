-- The move of a restoration's record.
use Rattle.std.proofs.Common.{ℕ, ◌≡◌, ◌≤◌, ◌+◌, ◌&&◌, [], true, not, List, Some, None, length, refl, sym, ap, subst, ◌∙◌}
use Rattle.std.specs.List.{filter}
use Rattle.std.specs.Option.{option_map_or}
use Rattle.row_values.specs.Ids.{Id, same}
use Rattle.model.specs.Parts.{Master}
use Rattle.model.specs.Records.{Listed, SnapshotRecord, RestorationRecord, RestorationState, Fencing, Snapshotting, Switching, Restoring, Releasing, Restored, is_restored, unsent}
use Rattle.model.specs.Coordination.{unfinished_restoration}
use Rattle.model.specs.Lists.{next_snapshot, with_snapshot}
use Rattle.model.specs.Moves.{moved, moved_of, restoration_moved, restoration_next, restoration_lists, given_restoration}
use Rattle.restore_coord.specs.Seen.{state_of}
use Rattle.restore_coord.specs.View.{entered_in}
use Rattle.restore_coord.specs.declared.state.RestorationState.{RestorationState as Step}
use Rattle.law_invariants.proofs.Finding.{find_is, both_pass, same_equal}
use Rattle.master_part.specs.Going.{IsRestoration, MakesSnapshot, Enters, goes_alone}

-- none of the identifier is unfinished
pub none_moves : (operation : Id) (n : ℕ) (m : Master) → IsRestoration operation m → unfinished_restoration m.restorations operation ≡ None
    → moved operation n m ≡ record m { clock = n }
none_moves operation n m is none =
    ap (λ k. moved_of k operation n m) is.kind
    ∙ ap (λ o. option_map_or (λ (r : RestorationRecord). restoration_moved r.state r n m) o (record m { clock = n })) none

-- or one is
pub it_moves : (operation : Id) (n : ℕ) (m : Master) (r : RestorationRecord) → IsRestoration operation m
    → unfinished_restoration m.restorations operation ≡ Some r
    → moved operation n m ≡ restoration_moved r.state r n m
it_moves operation n m r is found =
    ap (λ k. moved_of k operation n m) is.kind
    ∙ ap (λ o. option_map_or (λ (r : RestorationRecord). restoration_moved r.state r n m) o (record m { clock = n })) found

-- what is found has the identifier, and is unfinished
pub found_is : (rs : List RestorationRecord) (id : Id) (r : RestorationRecord) → unfinished_restoration rs id ≡ Some r
    → (r.id ≡ id) × (not (is_restored r.state) ≡ true)
found_is rs id r found =
    let both = both_pass (same r.id id) (not (is_restored r.state)) (find_is (λ (r : RestorationRecord). same r.id id && not (is_restored r.state)) rs r found).passes in
    (same_equal r.id id both.0, both.1)

pub found_once : (m : Master) (id : Id) (r : RestorationRecord) → IsRestoration id m → unfinished_restoration m.restorations id ≡ Some r
    → length (filter (λ (q : RestorationRecord). same q.id r.id) m.restorations) ≤ 1
found_once m id r is found =
    subst (λ (i : Id). length (filter (λ (q : RestorationRecord). same q.id i) m.restorations) ≤ 1) (sym (found_is m.restorations id r found).0) is.once

-- a record enters a state
abbrev pub enters : Id → RestorationState → List Listed → ℕ → Master → Master
enters id state listed n m = record m {
  clock = n;
  restorations = entered_in id state listed m.restorations;
  sent = unsent id m.sent;
}

snapshots_by : (s : RestorationState) (r : RestorationRecord) (n : ℕ) (m : Master) → s ≡ Fencing
    → restoration_moved s r n m ≡ enters r.id (Snapshotting (n + 1) (next_snapshot m)) [] n (with_snapshot r.namespace r.schedule n m)
snapshots_by s r n m fencing = ap (λ s. restoration_moved s r n m) fencing

-- it makes its snapshot
pub snapshots : (made : SnapshotRecord) (r : RestorationRecord) (n : ℕ) (m : Master) → MakesSnapshot made r n m
    → restoration_moved r.state r n m ≡ enters r.id (Snapshotting (n + 1) made.id) [] n (with_snapshot r.namespace r.schedule n m)
snapshots made r n m makes =
    snapshots_by r.state r n m makes.fenced
    ∙ ap (λ (q : SnapshotRecord). enters r.id (Snapshotting (n + 1) q.id) [] n (with_snapshot r.namespace r.schedule n m)) makes.is_made

alone_by : (s : RestorationState) (r : RestorationRecord) (n : ℕ) (m : Master) → goes_alone s ≡ true → not (is_restored s) ≡ true
    → restoration_moved s r n m ≡ enters r.id (restoration_next s (given_restoration s r n m)) (restoration_lists s r m) n m
alone_by Fencing r n m alone left = absurd (cc)
alone_by (Snapshotting point own) r n m alone left = refl
alone_by (Switching point serving) r n m alone left = absurd (cc)
alone_by (Restoring point serving) r n m alone left = refl
alone_by (Releasing point serving) r n m alone left = refl
alone_by (Restored point serving) r n m alone left = absurd (cc)

-- it changes nothing but its record
pub goes : (state : Step) (listed : List Listed) (r : RestorationRecord) (n : ℕ) (m : Master) → Enters state listed r n m
    → not (is_restored r.state) ≡ true
    → restoration_moved r.state r n m ≡ enters r.id (state_of state) listed n m
goes state listed r n m fits left =
    alone_by r.state r n m fits.alone left
    ∙ ap (λ (s : RestorationState). enters r.id s (restoration_lists r.state r m) n m) fits.into
    ∙ ap (λ (ls : List Listed). enters r.id (state_of state) ls n m) fits.lists

-- what was read of the record, and what was made of it
pub snapshots_as : (made : SnapshotRecord) (r : RestorationRecord) (n : ℕ) (m after : Master) (id ns schedule own : Id) (point : ℕ) (listed : List Listed)
    → MakesSnapshot made r n m → after ≡ with_snapshot ns schedule n m → id ≡ r.id → ns ≡ r.namespace → schedule ≡ r.schedule
    → own ≡ made.id → point ≡ n + 1 → listed ≡ []
    → enters id (Snapshotting point own) listed n after ≡ restoration_moved r.state r n m
snapshots_as made r n m after id ns schedule own point listed makes is_after is_id is_ns is_schedule is_own is_point none =
    rw (is_after, is_id, is_ns, is_schedule, is_own, is_point, none) (sym (snapshots made r n m makes))

pub goes_as : (state : Step) (listed : List Listed) (r : RestorationRecord) (n : ℕ) (m : Master) (id operation : Id) → Enters state listed r n m
    → unfinished_restoration m.restorations operation ≡ Some r → id ≡ r.id
    → enters id (state_of state) listed n m ≡ restoration_moved r.state r n m
goes_as state listed r n m id operation fits found is_id =
    ap (λ (i : Id). enters i (state_of state) listed n m) is_id ∙ sym (goes state listed r n m fits (found_is m.restorations operation r found).1)
