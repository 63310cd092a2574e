-- What the moves of restorations and of clones, and a prune, need of the master.
use Rattle.std.specs.Prelude.{ℕ, ◌≡◌, ◌≤◌, ◌<◌, ◌+◌, Bool, true, false, List, [], ◌∷◌, Option, Some, None, length, filter, if◌then◌else◌}
use Rattle.row_values.specs.Ids.{Id, Restoration as RestorationKind, Clone as CloneKind, same, id_bound}
use Rattle.model.specs.Times.{end_of_time}
use Rattle.model.specs.Catalog.{TableRecord, owner_of}
use Rattle.model.specs.Parts.{Master}
use Rattle.model.specs.Records.{Schedule, Listed, SnapshotRecord, RestorationRecord, CloneRecord, RestorationState, CloneState, Fencing, Snapshotting, Switching, Restoring, Releasing, Restored, Accepted, CloneSnapshot, Copying, CloneReleasing, CloneComplete, schedule_of}
use Rattle.model.specs.Coordination.{unfinished_restoration, unfinished_clone}
use Rattle.model.specs.Lists.{new_snapshot, tablets_active_at}
use Rattle.model.specs.Moves.{restoration_next, restoration_lists, given_restoration, clone_next, clone_lists, given_clone, id_of_snapshot, serving_clone, released}
use Rattle.model.specs.Restored.{tables_back, restored_tables, switch_list, cloned_tables}
use Rattle.model.specs.Cleanup.{prune_to, has_records}
use Rattle.catalog_core.specs.Begins.{IsHome}
use Rattle.catalog_core.specs.Cloned.{TargetFits}
use Rattle.catalog_core.specs.Kept.{ends_in, KeepRoom}
use Rattle.restore_coord.specs.Seen as restoration
use Rattle.clone_coord.specs.Seen as clone
use Rattle.restore_coord.specs.declared.state.RestorationState.{RestorationState as RestorationStep}
use Rattle.clone_coord.specs.declared.state.CloneState.{CloneState as CloneStep}
use Rattle.master_part.specs.View.{MasterView}
use Rattle.master_part.specs.declared.switch.Switch.{Switch}
use Rattle.master_part.specs.declared.cut.Cut.{Cut}

-- Restorations

-- a fenced restoration makes this snapshot
pub record MakesSnapshot (made : SnapshotRecord) (r : RestorationRecord) (n : ℕ) (m : Master) : Type 0 where
  pub fenced : r.state ≡ Fencing
  pub before_end : n < end_of_time
  pub few : m.drawn.snapshots + 1 < id_bound
  pub is_made : new_snapshot m r.namespace r.schedule n ≡ made

-- whether the next move of a restoration changes nothing of the master but its record
abbrev pub goes_alone : RestorationState → Bool
goes_alone Fencing = false
goes_alone (Snapshotting point own) = true
goes_alone (Switching point serving) = false
goes_alone (Restoring point serving) = true
goes_alone (Releasing point serving) = true
goes_alone (Restored point serving) = true

-- a restoration enters this state, and lists these tablets there
pub record Enters (state : RestorationStep) (listed : List Listed) (r : RestorationRecord) (n : ℕ) (m : Master) : Type 0 where
  pub alone : goes_alone r.state ≡ true
  pub into : restoration_next r.state (given_restoration r.state r n m) ≡ restoration.state_of state
  pub lists : restoration_lists r.state r m ≡ listed

-- this is what the switch of a restoration at a point brings back
pub record Brings (s : Switch) (r : RestorationRecord) (point : ℕ) (serving : Id) (m : Master) : Type 0 where
  pub tables : tables_back m.catalog.tables r.namespace r.to point ≡ s.tables
  pub active : tablets_active_at m.catalog.owners m.activity r.namespace r.to ≡ s.active
  pub listed : switch_list m.catalog.owners m.activity r.namespace r.to point serving
      (restored_tables m.catalog.tables r.namespace r.to point) ≡ s.listed
  pub past : ends_in r.namespace point m.catalog.tables ≡ true
  pub home : IsHome m.catalog.tables

abbrev pub SwitchesBy : RestorationState → Switch → RestorationRecord → Master → Type 0
SwitchesBy Fencing s r m = ⊥
SwitchesBy (Snapshotting point own) s r m = ⊥
SwitchesBy (Switching point serving) s r m = Brings s r point serving m
SwitchesBy (Restoring point serving) s r m = ⊥
SwitchesBy (Releasing point serving) s r m = ⊥
SwitchesBy (Restored point serving) s r m = ⊥

-- an operation is a restoration, and at most one record has its identifier
pub record IsRestoration (id : Id) (m : Master) : Type 0 where
  pub kind : id.kind ≡ RestorationKind
  pub once : length (filter (λ (r : RestorationRecord). same r.id id) m.restorations) ≤ 1

-- what is needed of the unfinished restoration of an id, if there is one
abbrev pub OfRestoration : Id → Master → (RestorationRecord → Type 0) → Type 0
OfRestoration id m Needs = (r : RestorationRecord) → unfinished_restoration m.restorations id ≡ Some r → Needs r

-- Clones

-- the identifiers that a new clone draws are few, and no later table has an owner
pub record CloneFits (made : CloneRecord) (m : Master) : Type 0 where
  pub namespaces : m.drawn.namespaces + 1 < id_bound
  pub tables : m.drawn.tables + length made.tables < id_bound
  pub tablets : m.drawn.tablets + length made.tablets < id_bound
  pub clones : m.drawn.clones + 1 < id_bound
  pub unowned : (table : Id) → m.drawn.tables < table.number → owner_of m.catalog.owners table ≡ None

-- an accepted clone that no snapshot serves makes this one, by a schedule of its source
pub record MakesServing (made : SnapshotRecord) (r : CloneRecord) (n : ℕ) (m : Master) : Type 0 where
  pub schedule : Schedule
  pub accepted : r.state ≡ Accepted
  pub serving : serving_clone m r ≡ None
  pub few : m.drawn.snapshots + 1 < id_bound
  pub found : schedule_of m.schedules r.source ≡ Some schedule
  pub is_made : new_snapshot m r.source schedule.id n ≡ made

-- whether the next move of a clone changes nothing of the master but its record, by the snapshot that serves it and
-- the schedule of its source
abbrev pub clone_alone : CloneState → Option SnapshotRecord → Option Schedule → Bool
clone_alone Accepted (Some serving) found = true
clone_alone Accepted None (Some schedule) = false
clone_alone Accepted None None = true
clone_alone (CloneSnapshot own) serving found = true
clone_alone (Copying serving_id copied_at) serving found = false
clone_alone (CloneReleasing serving_id copied_at) serving found = true
clone_alone (CloneComplete serving_id copied_at) serving found = true

-- the snapshot that serves a clone
abbrev pub serves : Master → CloneRecord → Option Id
serves m r = id_of_snapshot (serving_clone m r)

-- a clone enters this state, and lists these tablets there
pub record CloneEnters (state : CloneStep) (listed : List Listed) (r : CloneRecord) (n : ℕ) (m : Master) : Type 0 where
  pub alone : clone_alone r.state (serving_clone m r) (schedule_of m.schedules r.source) ≡ true
  pub into : clone_next r.state (given_clone r.state (serves m r) r n m) ≡ clone.state_of state
  pub lists : clone_lists r.state (serves m r) r n ≡ listed

-- the target of a clone becomes current under this name, with these tables, and lists these tablets
pub record Shows (name : List ℕ) (tables : List TableRecord) (listed : List Listed) (r : CloneRecord) (n : ℕ) (m : Master) : Type 0 where
  pub may : TargetFits m.catalog r
  pub named : r.target ≡ name
  pub has : cloned_tables r.tables m.catalog.tables r.target_id r.to n ≡ tables
  pub lists : released n r.listed ≡ listed

abbrev pub ShowsBy : CloneState → List ℕ → List TableRecord → List Listed → CloneRecord → ℕ → Master → Type 0
ShowsBy Accepted name tables listed r n m = ⊥
ShowsBy (CloneSnapshot own) name tables listed r n m = ⊥
ShowsBy (Copying serving copied_at) name tables listed r n m = Shows name tables listed r n m
ShowsBy (CloneReleasing serving copied_at) name tables listed r n m = ⊥
ShowsBy (CloneComplete serving copied_at) name tables listed r n m = ⊥

-- an operation is a clone, and at most one record has its identifier
pub record IsClone (id : Id) (m : Master) : Type 0 where
  pub kind : id.kind ≡ CloneKind
  pub once : length (filter (λ (r : CloneRecord). same r.id id) m.clones) ≤ 1

-- what is needed of the unfinished clone of an id, if there is one
abbrev pub OfClone : Id → Master → (CloneRecord → Type 0) → Type 0
OfClone id m Needs = (r : CloneRecord) → unfinished_clone m.clones id ≡ Some r → Needs r

-- Prunes

-- the cut of a namespace by a list of them; one that isn't listed has 0
abbrev pub cut_of : List Cut → Id → ℕ
cut_of [] ns = 0
cut_of (c ∷ cs) ns = if same c.namespace ns then c.to else cut_of cs ns

-- each namespace that has records has the book's cut
abbrev pub CutsBy : List Cut → ℕ → Master → Type 0
CutsBy cuts n m = (ns : Id) → has_records m.catalog ns ≡ true → cut_of cuts ns ≡ prune_to m ns n

-- whether there is room to look up anew what a prune leaves of the catalog
abbrev pub PruneRoom : MasterView → Type 0
PruneRoom p = KeepRoom (record { catalog = p.master.catalog; room = p.catalog_room })
