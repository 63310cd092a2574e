-- The move of a clone's record.
use Rattle.std.proofs.Common.{ℕ, ◌≡◌, ◌≤◌, ◌++◌, ◌&&◌, [], true, not, List, Option, Some, None, length, refl, sym, ap, subst, ◌∙◌}
use Rattle.std.specs.List.{filter}
use Rattle.std.specs.Option.{option_map_or}
use Rattle.row_values.specs.Ids.{Id, same}
use Rattle.model.specs.Catalog.{Catalog, NamespaceRecord, TableRecord, namespace_added}
use Rattle.model.specs.Parts.{Master}
use Rattle.model.specs.Records.{Listed, Schedule, SnapshotRecord, CloneRecord, CloneState, Accepted, CloneSnapshot, Copying, CloneReleasing, CloneComplete, is_cloned, unsent, schedule_of}
use Rattle.model.specs.Coordination.{unfinished_clone}
use Rattle.model.specs.Lists.{new_snapshot, next_snapshot, with_snapshot}
use Rattle.model.specs.Restored.{cloned_activity, cloned_tables}
use Rattle.model.specs.Moves.{moved, moved_of, clone_moved, clone_goes, begins_clone, with_clones_snapshot, clone_next, clone_lists, given_clone, id_of_snapshot, serving_clone, released}
use Rattle.catalog_core.specs.Cloned.{TargetFits, target_of}
use Rattle.clone_coord.specs.Seen.{state_of}
use Rattle.clone_coord.specs.View.{entered_in}
use Rattle.clone_coord.specs.declared.state.CloneState.{CloneState as Step}
use Rattle.law_invariants.proofs.Finding.{find_is, both_pass, same_equal}
use Rattle.master_part.specs.Going.{IsClone, MakesServing, CloneEnters, clone_alone, Shows, ShowsBy}

-- none of the identifier is unfinished
pub none_moves : (operation : Id) (n : ℕ) (m : Master) → IsClone operation m → unfinished_clone m.clones operation ≡ None
    → moved operation n m ≡ record m { clock = n }
none_moves operation n m is none =
    ap (λ k. moved_of k operation n m) is.kind
    ∙ ap (λ o. option_map_or (λ (r : CloneRecord). clone_moved r.state r n m) o (record m { clock = n })) none

-- or one is
pub it_moves : (operation : Id) (n : ℕ) (m : Master) (r : CloneRecord) → IsClone operation m
    → unfinished_clone m.clones operation ≡ Some r
    → moved operation n m ≡ clone_moved r.state r n m
it_moves operation n m r is found =
    ap (λ k. moved_of k operation n m) is.kind
    ∙ ap (λ o. option_map_or (λ (r : CloneRecord). clone_moved r.state r n m) o (record m { clock = n })) found

-- what is found has the identifier, and is unfinished
pub found_is : (rs : List CloneRecord) (id : Id) (r : CloneRecord) → unfinished_clone rs id ≡ Some r
    → (r.id ≡ id) × (not (is_cloned r.state) ≡ true)
found_is rs id r found =
    let both = both_pass (same r.id id) (not (is_cloned r.state)) (find_is (λ (r : CloneRecord). same r.id id && not (is_cloned r.state)) rs r found).passes in
    (same_equal r.id id both.0, both.1)

pub found_once : (m : Master) (id : Id) (r : CloneRecord) → IsClone id m → unfinished_clone m.clones id ≡ Some r
    → length (filter (λ (q : CloneRecord). same q.id r.id) m.clones) ≤ 1
found_once m id r is found =
    subst (λ (i : Id). length (filter (λ (q : CloneRecord). same q.id i) m.clones) ≤ 1) (sym (found_is m.clones id r found).0) is.once

-- a record enters a state
abbrev pub enters : Id → CloneState → List Listed → ℕ → Master → Master
enters id state listed n m = record m {
  clock = n;
  clones = entered_in id state listed m.clones;
  sent = unsent id m.sent;
}

-- by the schedule of its source an accepted clone makes its snapshot
pub schedule_is : (made : SnapshotRecord) (r : CloneRecord) (n : ℕ) (m : Master) (makes : MakesServing made r n m) → made.schedule ≡ makes.schedule.id
schedule_is made r n m makes = ap (λ (q : SnapshotRecord). q.schedule) (sym makes.is_made)

pub made_is : (made : SnapshotRecord) (r : CloneRecord) (n : ℕ) (m : Master) → MakesServing made r n m → new_snapshot m r.source made.schedule n ≡ made
made_is made r n m makes = ap (λ (i : Id). new_snapshot m r.source i n) (schedule_is made r n m makes) ∙ makes.is_made

snapshots : (made : SnapshotRecord) (r : CloneRecord) (n : ℕ) (m : Master) → MakesServing made r n m
    → clone_moved r.state r n m ≡ enters r.id (CloneSnapshot made.id) [] n (with_snapshot r.source made.schedule n m)
snapshots made r n m makes =
    ap (λ (s : CloneState). clone_moved s r n m) makes.accepted
    ∙ ap (λ (o : Option SnapshotRecord). begins_clone o r n m) makes.serving
    ∙ ap (λ (o : Option Schedule). clone_goes Accepted None r n m (with_clones_snapshot o r n m)) makes.found
    ∙ ap (λ (i : Id). enters r.id (CloneSnapshot (next_snapshot m)) [] n (with_snapshot r.source i n m)) (sym (schedule_is made r n m makes))
    ∙ ap (λ (q : SnapshotRecord). enters r.id (CloneSnapshot q.id) [] n (with_snapshot r.source made.schedule n m)) makes.is_made

-- what was read of the record, and what was made of it
pub snapshots_as : (made : SnapshotRecord) (r : CloneRecord) (n : ℕ) (m after : Master) (id ns schedule own : Id) (listed : List Listed)
    → MakesServing made r n m → after ≡ with_snapshot ns schedule n m → id ≡ r.id → ns ≡ r.source → schedule ≡ made.schedule
    → own ≡ made.id → listed ≡ []
    → enters id (CloneSnapshot own) listed n after ≡ clone_moved r.state r n m
snapshots_as made r n m after id ns schedule own listed makes is_after is_id is_ns is_schedule is_own none =
    rw (is_after, is_id, is_ns, is_schedule, is_own, none) (sym (snapshots made r n m makes))

alone_by : (s : CloneState) (r : CloneRecord) (n : ℕ) (m : Master) (serving : Option SnapshotRecord) (found : Option Schedule)
    → serving_clone m r ≡ serving → schedule_of m.schedules r.source ≡ found → clone_alone s serving found ≡ true → not (is_cloned s) ≡ true
    → clone_moved s r n m ≡ enters r.id (clone_next s (given_clone s (id_of_snapshot serving) r n m)) (clone_lists s (id_of_snapshot serving) r n) n m
alone_by Accepted r n m (Some q) found is_serving is_found alone left = ap (λ (o : Option SnapshotRecord). begins_clone o r n m) is_serving
alone_by Accepted r n m None (Some s) is_serving is_found alone left = absurd (cc)
alone_by Accepted r n m None None is_serving is_found alone left =
    ap (λ (o : Option SnapshotRecord). begins_clone o r n m) is_serving
    ∙ ap (λ (o : Option Schedule). clone_goes Accepted None r n m (with_clones_snapshot o r n m)) is_found
alone_by (CloneSnapshot own) r n m serving found is_serving is_found alone left =
    ap (λ (o : Option SnapshotRecord). clone_goes (CloneSnapshot own) (id_of_snapshot o) r n m m) is_serving
alone_by (Copying id copied_at) r n m serving found is_serving is_found alone left = absurd (cc)
alone_by (CloneReleasing id copied_at) r n m serving found is_serving is_found alone left = refl
alone_by (CloneComplete id copied_at) r n m serving found is_serving is_found alone left = absurd (cc)

-- it changes nothing but its record
pub goes_as : (state : Step) (listed : List Listed) (r : CloneRecord) (n : ℕ) (m : Master) (id operation : Id) → CloneEnters state listed r n m
    → unfinished_clone m.clones operation ≡ Some r → id ≡ r.id
    → enters id (state_of state) listed n m ≡ clone_moved r.state r n m
goes_as state listed r n m id operation fits found is_id =
    ap (λ (i : Id). enters i (state_of state) listed n m) is_id
    ∙ sym (alone_by r.state r n m (serving_clone m r) (schedule_of m.schedules r.source) refl refl fits.alone (found_is m.clones operation r found).1
    ∙ ap (λ (s : CloneState). enters r.id s (clone_lists r.state (id_of_snapshot (serving_clone m r)) r n) n m) fits.into
    ∙ ap (λ (ls : List Listed). enters r.id (state_of state) ls n m) fits.lists)

-- its rows are copied, and its target may become current
pub record IsCopied (state : CloneState) (name : List ℕ) (tables : List TableRecord) (listed : List Listed) (r : CloneRecord) (n : ℕ) (m : Master) : Type 0 where
  pub serving : Id
  pub copied_at : ℕ
  pub copying : state ≡ Copying serving copied_at
  pub shows : Shows name tables listed r n m

pub copied_by : (state : CloneState) (name : List ℕ) (tables : List TableRecord) (listed : List Listed) (r : CloneRecord) (n : ℕ) (m : Master)
    → ShowsBy state name tables listed r n m → IsCopied state name tables listed r n m
copied_by Accepted name tables listed r n m shows = absurd shows
copied_by (CloneSnapshot own) name tables listed r n m shows = absurd shows
copied_by (Copying serving copied_at) name tables listed r n m shows = record { serving = serving; copied_at = copied_at; copying = refl; shows = shows }
copied_by (CloneReleasing serving copied_at) name tables listed r n m shows = absurd shows
copied_by (CloneComplete serving copied_at) name tables listed r n m shows = absurd shows

-- what its target and its tablets make of the master
abbrev pub with_places : CloneRecord → ℕ → Master → Master
with_places r n m = record m { activity = m.activity ++ cloned_activity n r.tablets }

abbrev pub target_named : Id → List ℕ → ℕ → NamespaceRecord
target_named target name n = record { id = target; name = name; from = n; to = None }

abbrev pub with_tables : Id → List ℕ → List TableRecord → ℕ → Master → Master
with_tables target name tables n m = record m {
  catalog = record (namespace_added (target_named target name n) m.catalog) { tables = m.catalog.tables ++ tables };
}

shows_to : (name : List ℕ) (tables : List TableRecord) (listed : List Listed) (r : CloneRecord) (n : ℕ) (m begun shown : Master) (id target : Id) (state : CloneState)
    (serving : Id) (copied_at : ℕ)
    → begun ≡ with_places r n m → shown ≡ with_tables target name tables n begun → id ≡ r.id → target ≡ r.target_id → state ≡ CloneReleasing serving copied_at
    → r.target ≡ name → cloned_tables r.tables m.catalog.tables r.target_id r.to n ≡ tables → released n r.listed ≡ listed
    → enters id state listed n shown ≡ clone_moved (Copying serving copied_at) r n m
shows_to name tables listed r n m begun shown id target state serving copied_at is_begun is_shown is_id is_target is_state named has lists =
    rw (is_shown, is_begun, is_id, is_target, is_state, sym named, sym has, sym lists) refl

pub shows_as : (name : List ℕ) (tables : List TableRecord) (listed : List Listed) (r : CloneRecord) (n : ℕ) (m begun shown : Master) (id target : Id) (state : CloneState)
    → ShowsBy r.state name tables listed r n m → begun ≡ with_places r n m → shown ≡ with_tables target name tables n begun
    → id ≡ r.id → target ≡ r.target_id
    → ((serving : Id) (copied_at : ℕ) → r.state ≡ Copying serving copied_at → state ≡ CloneReleasing serving copied_at)
    → enters id state listed n shown ≡ clone_moved r.state r n m
shows_as name tables listed r n m begun shown id target state may is_begun is_shown is_id is_target is_state =
    let c = copied_by r.state name tables listed r n m may in
    shows_to name tables listed r n m begun shown id target state c.serving c.copied_at is_begun is_shown is_id is_target
    (is_state c.serving c.copied_at c.copying) c.shows.named c.shows.has c.shows.lists
    ∙ sym (ap (λ (s : CloneState). clone_moved s r n m) c.copying)

-- that the target fits is so after its tablets are active
pub target_fits : (name : List ℕ) (tables : List TableRecord) (listed : List Listed) (r : CloneRecord) (n : ℕ) (m begun : Master) (target : Id)
    → ShowsBy r.state name tables listed r n m → begun ≡ with_places r n m → target ≡ r.target_id
    → (x : CloneRecord) × (TargetFits begun.catalog x × ((target_named target name n ≡ target_of x n)
    × (tables ≡ cloned_tables x.tables begun.catalog.tables x.target_id x.to n)))
target_fits name tables listed r n m begun target may is_begun is_target =
    let c = copied_by r.state name tables listed r n m may in
    let same_catalog : m.catalog ≡ begun.catalog = sym (ap (λ (p : Master). p.catalog) is_begun) in (
      r,
      (
        subst (λ (q : Catalog). TargetFits q r) same_catalog c.shows.may,
        (
          ap (λ (i : Id). target_named i name n) is_target ∙ ap (λ (bytes : List ℕ). target_named r.target_id bytes n) (sym c.shows.named),
          sym c.shows.has ∙ ap (λ (q : Catalog). cloned_tables r.tables q.tables r.target_id r.to n) same_catalog,
        ),
      ),
    )
