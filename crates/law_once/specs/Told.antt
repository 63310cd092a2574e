-- What is told of the master's records by the states that they entered, as a history goes on.
use Rattle.std.specs.Prelude.{◌≡◌, ℕ, ◌≤◌, Bool, List, [], ◌∷◌, ◌⊎◌, Option, Some, None}
use Rattle.std.specs.Option.{option_map_or}
use Rattle.row_values.specs.Ids.{Id, Kind, Namespace, Table, Tablet, Schedule, Snapshot, Restoration, Clone}
use Rattle.row_values.specs.Elements.{In}
use Rattle.model.specs.Tablets.{Release}
use Rattle.model.specs.Records.{Listed, Schedule as ScheduleRecord, SnapshotRecord, RestorationRecord, RestorationState, Fencing, Snapshotting, Switching, Restoring, Releasing, Restored, CloneRecord, CloneState, Accepted, CloneSnapshot, Copying, CloneReleasing, CloneComplete, State, IsCreating, IsComplete, IsFencing, IsSnapshot, IsSwitching, IsRestoring, IsReleasing, IsRestored, IsAccepted, IsCopying, point_of, schedule_of}
use Rattle.model.specs.Stands.{copied_at}
use Rattle.model.specs.Parts.{Master, MasterAct, Ticks, MakesNamespace, DropsNamespace, MakesTable, AddsColumn, DropsColumn, RenamesTable, DropsTable, SplitsTablet, MakesSchedule, EditsSchedule, DeletesSchedule, TakesSnapshot, BeginsRestoration, BeginsClone, Sends, Acks, Unsends, Moves, Removes, Prunes, Restarts}
use Rattle.model.specs.Lists.{next_snapshot}
use Rattle.model.specs.Changed.{next_restoration, next_clone}
use Rattle.model.specs.Coordination.{unfinished_snapshot, unfinished_restoration, unfinished_clone}
use Rattle.model.specs.Moves.{serving_clone}
use Rattle.model.specs.Drawn.{drawn_of}
use Rattle.model.specs.Entering.{Entering, IsAfterOwn, states_of, states_of_snapshot, states_to, clone_states_to}

-- Which records enter which states, by what the master is told

abbrev pub enters : Id → State → ℕ → Entering
enters operation state n = record { operation = operation; state = state; at = n }

abbrev pub own_entered : Option ScheduleRecord → ℕ → Master → List Entering
own_entered None n m = []
own_entered (Some s) n m = enters (next_snapshot m) IsCreating n ∷ []

abbrev pub restoration_entered : RestorationState → Id → ℕ → Master → List Entering
restoration_entered Fencing id n m = enters id IsSnapshot n ∷ enters (next_snapshot m) IsCreating n ∷ []
restoration_entered (Snapshotting point own) id n m = enters id IsSwitching n ∷ []
restoration_entered (Switching point serving) id n m = enters id IsRestoring n ∷ []
restoration_entered (Restoring point serving) id n m = enters id IsReleasing n ∷ []
restoration_entered (Releasing point serving) id n m = enters id IsRestored n ∷ []
restoration_entered (Restored point serving) id n m = []

abbrev pub begins_entered : Option SnapshotRecord → CloneRecord → ℕ → Master → List Entering
begins_entered (Some s) c n m = enters c.id IsCopying n ∷ []
begins_entered None c n m = enters c.id IsSnapshot n ∷ own_entered (schedule_of m.schedules c.source) n m

abbrev pub clone_entered : CloneState → CloneRecord → ℕ → Master → List Entering
clone_entered Accepted c n m = begins_entered (serving_clone m c) c n m
clone_entered (CloneSnapshot own) c n m = enters c.id IsCopying n ∷ []
clone_entered (Copying serving at) c n m = enters c.id IsReleasing n ∷ []
clone_entered (CloneReleasing serving at) c n m = enters c.id IsComplete n ∷ []
clone_entered (CloneComplete serving at) c n m = []

abbrev pub moved_entered : Kind → Id → ℕ → Master → List Entering
moved_entered Snapshot id n m =
    option_map_or {T = SnapshotRecord} (λ r. enters r.id IsComplete n ∷ []) (unfinished_snapshot m.snapshots id) []
moved_entered Restoration id n m =
    option_map_or {T = RestorationRecord} (λ r. restoration_entered r.state r.id n m) (unfinished_restoration m.restorations id) []
moved_entered Clone id n m =
    option_map_or {T = CloneRecord} (λ c. clone_entered c.state c n m) (unfinished_clone m.clones id) []
moved_entered Namespace id n m = []
moved_entered Table id n m = []
moved_entered Tablet id n m = []
moved_entered Schedule id n m = []

abbrev pub told_entered : MasterAct → ℕ → Master → List Entering
told_entered (TakesSnapshot schedule) n m = enters (next_snapshot m) IsCreating n ∷ []
told_entered (BeginsRestoration schedule to) n m = enters (next_restoration m) IsFencing n ∷ []
told_entered (BeginsClone namespace source target to) n m = enters (next_clone m) IsAccepted n ∷ []
told_entered (Moves operation) n m = moved_entered operation.kind operation n m
told_entered Ticks n m = []
told_entered (MakesNamespace name) n m = []
told_entered (DropsNamespace namespace) n m = []
told_entered (MakesTable namespace name columns slots) n m = []
told_entered (AddsColumn table name kind) n m = []
told_entered (DropsColumn table column) n m = []
told_entered (RenamesTable table name) n m = []
told_entered (DropsTable table) n m = []
told_entered (SplitsTablet parent code low_slot high_slot) n m = []
told_entered (MakesSchedule namespace interval retention) n m = []
told_entered (EditsSchedule schedule interval retention) n m = []
told_entered (DeletesSchedule schedule) n m = []
told_entered (Sends operation slot) n m = []
told_entered (Acks operation slot) n m = []
told_entered (Unsends operation slot) n m = []
told_entered (Removes target) n m = []
told_entered Prunes n m = []
told_entered Restarts n m = []

-- What is told of a record

pub record SnapshotTold (es : List Entering) (id : Id) (complete : Bool) (at : ℕ) : Type 0 where
  pub kind_is : id.kind ≡ Snapshot
  pub states : states_of id es ≡ states_of_snapshot complete
  pub taken : In (enters id IsCreating at) es

pub record RestorationTold (es : List Entering) (id : Id) (state : RestorationState) : Type 0 where
  pub kind_is : id.kind ≡ Restoration
  pub states : states_of id es ≡ states_to state
  pub point : IsAfterOwn es id (point_of state)

-- a clone may have made a snapshot before it copied
abbrev pub CloneStates : List State → CloneState → Type 0
CloneStates states state =
    (states ≡ clone_states_to state (IsAccepted ∷ [])) ⊎ (states ≡ clone_states_to state (IsSnapshot ∷ IsAccepted ∷ []))

pub record CloneTold (es : List Entering) (id : Id) (state : CloneState) (listed : List Listed) : Type 0 where
  pub kind_is : id.kind ≡ Clone
  pub states : CloneStates (states_of id es) state
  pub copied : (at : ℕ) → copied_at state ≡ Some at → In (enters id IsCopying at) es
  pub released : (l : Listed) (cutoff : ℕ) → In l listed → l.body ≡ Release cutoff → In (enters id IsReleasing cutoff) es

-- what entered a state was drawn, and did so by the master's clock; the records that the master keeps entered the states
-- up to their own
pub record AllTold (m : Master) (es : List Entering) : Type 0 where
  pub known : (e : Entering) → In e es → e.operation.number ≤ drawn_of e.operation.kind m.drawn
  pub past : (e : Entering) → In e es → e.at ≤ m.clock
  pub snapshots : (r : SnapshotRecord) → In r m.snapshots → SnapshotTold es r.id r.complete r.at
  pub restorations : (r : RestorationRecord) → In r m.restorations → RestorationTold es r.id r.state
  pub clones : (c : CloneRecord) → In c m.clones → CloneTold es c.id c.state c.listed
