-- What comes once over a whole history, however often a coordinator repeats its steps and whatever a restart loses: the
-- restore of an accepted command to restore, the clone of one to clone, and each command of a tablet.
use Rattle.std.specs.Prelude.{◌≡◌, ℕ, ◌-◌, Bool, true, false, List, [], ◌∷◌, ◌++◌, Option, Some, map, unwrap_or, if◌then◌else◌, option_map, filter}
use Rattle.model.specs.Cluster.{list_any, Id, same, In, namespace_named, BodyKind, Schedule, RestorationRecord, RestorationState, Fencing, Snapshotting, Switching, Restoring, Releasing, Restored, CloneRecord, CloneState, Accepted, CloneSnapshot, Copying, CloneReleasing, CloneComplete, IdPair, IsReleasing, schedule_with, Act, Reply, Master, Parts, deed_of, Commands, Advances, Obeys, NoDeed, success_of, Makes, Enters, Does, NoSuccess, making_of, ANamespace, ATable, TwoTablets, ASchedule, ASnapshot, ARestoration, AClone, Nothing, Making}
use Rattle.model.specs.Journal as made
use Rattle.model.specs.Journal.{ChangeAct, NamespaceMade, NamespaceDropped, TableMade, TableRenamed, TableDropped, ColumnAdded, ColumnDropped, RowChanged, NamespaceRestored, NamespaceCloned, is_in, table_at}
use Rattle.model.specs.Entries.{Entry}
use Rattle.model.specs.History.{replay, journal_of, with_changes_of}
use Rattle.model.specs.Drawn.{ids_made}
use Rattle.model.specs.Entering.{Entering, entered}

-- Accepted commands

-- what a command makes, where an act is one
abbrev pub asked_by : Act → Making
asked_by act = elim (deed_of act) [
  | Commands command ↦ making_of command
  | Advances operation ↦ Nothing
  | Obeys slot ↦ Nothing
  | NoDeed ↦ Nothing
]

-- an accepted command to restore: the restoration that it made, its schedule, the schedule's namespace, and its time
pub record RestoreAsked : Type 0 where
  pub operation : Id
  pub schedule : Id
  pub namespace : Option Id
  pub to : ℕ

-- a command to clone that was accepted: the clone that it made, the source of the name that it gave, the target's
-- name, the time to which it goes, and the changes that the history had made before it
pub record CloneAsked : Type 0 where
  pub operation : Id
  pub source : Option Id
  pub target : List ℕ
  pub to : ℕ
  pub before : List made.Change

-- the restorations of a command, if it is one to restore
abbrev pub restores_in : Making → List Id → Master → List RestoreAsked
restores_in (ARestoration schedule to) made m = map
    (λ id. record {
      operation = id;
      schedule = schedule;
      namespace = option_map {T = Schedule} (λ s. s.namespace) (schedule_with m.schedules schedule);
      to = to;
    })
    made
restores_in ANamespace made m = []
restores_in (ATable tablets) made m = []
restores_in TwoTablets made m = []
restores_in ASchedule made m = []
restores_in ASnapshot made m = []
restores_in (AClone source target to) made m = []
restores_in Nothing made m = []

-- the clones of a command, if it is one to clone. Without a time it goes to just before its own stamp
abbrev pub clones_in : Making → List Id → ℕ → Master → List made.Change → List CloneAsked
clones_in (AClone source target to) made n m changes = map
    (λ id. record {
      operation = id;
      source = namespace_named m.catalog.namespaces source;
      target = target;
      to = unwrap_or to (n - 1);
      before = changes;
    })
    made
clones_in ANamespace made n m changes = []
clones_in (ATable tablets) made n m changes = []
clones_in TwoTablets made n m changes = []
clones_in ASchedule made n m changes = []
clones_in ASnapshot made n m changes = []
clones_in (ARestoration schedule to) made n m changes = []
clones_in Nothing made n m changes = []

-- all that a history accepted, the newest first

unfoldable pub restores_asked : ℕ → List Entry → List RestoreAsked
restores_asked slots [] = []
restores_asked slots (e ∷ earlier) =
    restores_in (asked_by e.event.act) (ids_made e.reply) (replay slots earlier).master ++ restores_asked slots earlier

unfoldable pub clones_asked : ℕ → List Entry → List CloneAsked
clones_asked slots [] = []
clones_asked slots (e ∷ earlier) =
    clones_in
    (asked_by e.event.act) (ids_made e.reply) e.stamp (replay slots earlier).master (journal_of slots earlier)
    ++ clones_asked slots earlier

-- The changes of an operation

-- whether an act is a move of the operation's record
abbrev pub is_move_of : Id → Act → Bool
is_move_of operation act = elim (deed_of act) [
  | Advances moved ↦ same moved operation
  | Commands command ↦ false
  | Obeys slot ↦ false
  | NoDeed ↦ false
]

-- the changes of the journal that the moves of an operation's record made
unfoldable pub changes_by : ℕ → Id → List Entry → List made.Change
changes_by slots operation [] = []
changes_by slots operation (e ∷ earlier) =
    if is_move_of operation e.event.act
    then with_changes_of e (replay slots earlier) (changes_by slots operation earlier)
    else changes_by slots operation earlier

-- Restores

-- the one restore of a namespace to a time, at a point
abbrev pub one_restore : ℕ → Id → ℕ → List made.Change
one_restore point ns to = record { stamp = point; act = NamespaceRestored ns to } ∷ []

-- what a restoration in a state has restored: nothing before its switch, and then the namespace once, at its point
abbrev pub restored_by : RestorationState → Id → ℕ → List made.Change
restored_by Fencing ns to = []
restored_by (Snapshotting point own) ns to = []
restored_by (Switching point serving) ns to = []
restored_by (Restoring point serving) ns to = one_restore point ns to
restored_by (Releasing point serving) ns to = one_restore point ns to
restored_by (Restored point serving) ns to = one_restore point ns to

-- an accepted command to restore has a record of its schedule, namespace and time. Its moves restored the namespace at
-- most once, and exactly once where the record has switched: to that very time, at the record's point
pub record RestoresOnce (slots : ℕ) (history : List Entry) (asked : RestoreAsked) : Type 0 where
  pub restoration : RestorationRecord
  pub kept : In restoration (replay slots history).master.restorations
  pub id_is : restoration.id ≡ asked.operation
  pub schedule_is : restoration.schedule ≡ asked.schedule
  pub namespace_is : asked.namespace ≡ Some restoration.namespace
  pub to_is : restoration.to ≡ asked.to
  pub restored : changes_by slots asked.operation history ≡ restored_by restoration.state restoration.namespace asked.to

-- Clones

-- whether a table is the source of one of the pairs
abbrev pub is_paired : List IdPair → Id → Bool
is_paired pairs table = list_any (λ p. same p.source table) pairs

-- the one clone of a record, at the stamp at which it entered its release
pub record IsOneClone (c : CloneRecord) (es : List Entering) (changes : List made.Change) : Type 0 where
  pub at : ℕ
  pub current : In (record { operation = c.id; state = IsReleasing; at = at }) es
  pub alone : changes ≡ record { stamp = at; act = NamespaceCloned c.source c.target_id c.target c.to c.tables } ∷ []

-- what a clone in a state has cloned: nothing before its target is current, then the source once, at that stamp
abbrev pub ClonedBy : CloneState → CloneRecord → List Entering → List made.Change → Type 0
ClonedBy Accepted c es changes = changes ≡ []
ClonedBy (CloneSnapshot own) c es changes = changes ≡ []
ClonedBy (Copying serving copied_at) c es changes = changes ≡ []
ClonedBy (CloneReleasing serving copied_at) c es changes = IsOneClone c es changes
ClonedBy (CloneComplete serving copied_at) c es changes = IsOneClone c es changes

-- an accepted command to clone has a record of its source, target's name and time, and of the tables that the source
-- had then. Its moves cloned the source at most once, and exactly once where the target is current: under that name,
-- to that very time, these tables
pub record ClonesOnce (slots : ℕ) (history : List Entry) (asked : CloneAsked) : Type 0 where
  pub clone : CloneRecord
  pub kept : In clone (replay slots history).master.clones
  pub id_is : clone.id ≡ asked.operation
  pub source_is : asked.source ≡ Some clone.source
  pub target_is : clone.target ≡ asked.target
  pub to_is : clone.to ≡ asked.to
  pub tables : (table : Id) → is_paired clone.tables table ≡ is_in clone.source (table_at asked.before asked.to table)
  pub cloned : ClonedBy clone.state clone (entered slots history) (changes_by slots asked.operation history)

-- The journal

-- whether a change is of a whole namespace
abbrev pub is_whole : ChangeAct → Bool
is_whole (NamespaceRestored namespace to) = true
is_whole (NamespaceCloned source target name to tables) = true
is_whole (NamespaceMade namespace name) = false
is_whole (NamespaceDropped namespace) = false
is_whole (TableMade table namespace name columns) = false
is_whole (TableRenamed table name) = false
is_whole (TableDropped table) = false
is_whole (ColumnAdded table column) = false
is_whole (ColumnDropped table column) = false
is_whole (RowChanged table key op) = false

-- the operations of accepted commands
abbrev pub operations_asked : ℕ → List Entry → List Id
operations_asked slots history =
    map {A = RestoreAsked} (λ r. r.operation) (restores_asked slots history)
    ++ map {A = CloneAsked} (λ c. c.operation) (clones_asked slots history)

-- the changes that the moves of their records made
unfoldable pub changes_asked : ℕ → List Entry → List made.Change
changes_asked slots [] = []
changes_asked slots (e ∷ earlier) =
    if list_any (λ operation. is_move_of operation e.event.act) (operations_asked slots earlier)
    then with_changes_of e (replay slots earlier) (changes_asked slots earlier)
    else changes_asked slots earlier

-- Commands of tablets

-- a tablet did a command of an operation
pub record Obeyed : Type 0 where
  pub operation : Id
  pub kind : BodyKind
  pub tablet : Id

-- what a reply says that the tablet did
abbrev pub done_by : Reply → Id → List Obeyed
done_by reply tablet = elim (success_of reply) [
  | Does operation kind ↦ record { operation = operation; kind = kind; tablet = tablet } ∷ []
  | Makes made ↦ []
  | Enters state ↦ []
  | NoSuccess ↦ []
]

-- the tablet is the one that is in the slot after the event: a copy puts it there
abbrev pub obeyed_by : Act → Reply → Parts → List Obeyed
obeyed_by act reply after = elim (deed_of act) [
  | Obeys slot ↦ done_by reply (after.tablet slot).tablet
  | Commands command ↦ []
  | Advances operation ↦ []
  | NoDeed ↦ []
]

-- all commands that tablets did, the newest first
unfoldable pub commands_done : ℕ → List Entry → List Obeyed
commands_done slots [] = []
commands_done slots (e ∷ earlier) =
    obeyed_by e.event.act e.reply (replay slots (e ∷ earlier)) ++ commands_done slots earlier

-- no tablet did a command of an operation twice
abbrev pub NoneAgain : List Obeyed → Type 0
NoneAgain [] = Unit {0}
NoneAgain (o ∷ os) = NoneAgain os × (In o os → ⊥)

-- Over a whole history

pub record Once (slots : ℕ) (history : List Entry) : Type 0 where
  pub restores : (asked : RestoreAsked) → In asked (restores_asked slots history) → RestoresOnce slots history asked
  pub clones : (asked : CloneAsked) → In asked (clones_asked slots history) → ClonesOnce slots history asked
  -- the restores and clones of the journal are just those of accepted commands, in the order of their moves
  pub journal : filter (λ c. is_whole c.act) (journal_of slots history) ≡ changes_asked slots history
  pub commands : NoneAgain (commands_done slots history)
