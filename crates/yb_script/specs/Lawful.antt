-- What holds of the history of any run.
use Rattle.std.specs.Prelude.{◌≡◌, ◌⊎◌, ℕ, ◌+◌, ◌<◌, ◌≤◌, ◌^◌, true, is_some, List, [], ◌∷◌, ◌++◌, Some}
use Rattle.row_values.specs.Elements.{In}
use Rattle.row_values.specs.Ids.{Id}
use Rattle.model.specs.Acts.{Change, Restore}
use Rattle.model.specs.Catalog.{TableRecord, owner_of}
use Rattle.model.specs.Drawn.{DrawsInTurn, DrawnWithin, DrawnBelow, SchemasDrawn, SnapshotsAsTaken}
use Rattle.model.specs.Entering.{ClocksAfter, EntersAt, EntersOnce, entered}
use Rattle.model.specs.Entries.{Entry}
use Rattle.model.specs.History.{Legal, RefusedTicks, held, replay, journal_of, activity_of, scheduled_since, snapshots_taken}
use Rattle.model.specs.Journal.{owner_in, source_of}
use Rattle.model.specs.Once.{Once, CloneAsked, RestoreAsked, clones_asked, restores_asked}
use Rattle.model.specs.Records.{CloneRecord, SnapshotRecord}
use Rattle.model.specs.Replies.{Right}
use Rattle.model.specs.Retained.{Retained, RowsFound}
use Rattle.model.specs.Right.{FixedStays}
use Rattle.model.specs.Settling.{AlwaysNext, Settles, left}
use Rattle.model.specs.Stands.{Divides, RecordFacts, Stands, VersionsStand}
use Rattle.model.specs.Taking.{TakesNothingNeeded}
use Rattle.model.specs.Windows.{MayRestore}
use Rattle.law_drive.specs.Counting.{events_left}
use Rattle.law_drive.specs.Settled.{CloneFinished, RestoreFinished, Served, SettleRuns, SnapshotFinished, settled}

-- a table that the catalog has is in the namespace that the journal gives it, or a clone made it for its target
abbrev pub IsOwned : ℕ → List Entry → Id → Id → Type 0
IsOwned slots history table ns =
    (owner_in (journal_of slots history) table ≡ Some ns)
    ⊎ ((c : CloneRecord) × (In c (replay slots history).master.clones
    × ((c.target_id ≡ ns) × (is_some (source_of c.tables table) ≡ true))))

-- versions and ids of columns are few
abbrev pub IsFewIn : List Entry → TableRecord → Type 0
IsFewIn history t = (t.schema.version ≤ held 0 history) × (t.schema.next ≤ held 0 history + 16)

-- what an entry is, by those before it
pub record IsRightEntry (slots : ℕ) (e : Entry) (earlier : List Entry) : Type 0 where
  -- refused, it changes no more than clocks
  pub refused : RefusedTicks e (replay slots earlier)
  -- it takes nothing that a time in a window needs
  pub needed : TakesNothingNeeded e.event.act (replay slots earlier) (replay slots (e ∷ earlier))
  -- a restore by a schedule goes by its window, and comes to its end
  pub service : (schedule : Id) (to : ℕ) → e.event.act ≡ Change (Restore schedule to) []
      → (may : MayRestore (replay slots earlier).master schedule) → Served slots e earlier schedule may.by to

-- what a settle, of which no event is stopped, leaves finished
pub record IsFinished (slots reading : ℕ) (history : List Entry) : Type 0 where
  pub legal : Legal slots (settled slots reading history)
  pub complete : (r : SnapshotRecord) → In r (replay slots (settled slots reading history)).master.snapshots
      → r.complete ≡ true
  pub snapshots : (r : SnapshotRecord) → In r (replay slots history).master.snapshots
      → SnapshotFinished slots (settled slots reading history) r.id
  pub restores : (asked : RestoreAsked) → In asked (restores_asked slots history)
      → RestoreFinished slots (settled slots reading history) asked
  pub clones : (asked : CloneAsked) → In asked (clones_asked slots history)
      → CloneFinished slots (settled slots reading history) asked

-- a history, the newest entry first, that is the book's steps one after the other from the empty cluster, with all that
-- the law says of such a one
pub record IsRight (slots : ℕ) (history : List Entry) : Type 0 where
  pub legal : Legal slots history
  -- the replies are those of one list of changes
  pub right : Right slots history
  pub fixed : FixedStays (journal_of slots history)
  pub entry : (e : Entry) (later earlier : List Entry) → history ≡ later ++ e ∷ earlier
      → IsRightEntry slots e earlier
  -- what the parts hold is what the changes left
  pub stands : Stands (replay slots history) (journal_of slots history)
  pub cover : Divides (activity_of slots history) (journal_of slots history)
  pub versions : VersionsStand (replay slots history)
  pub facts : RecordFacts (replay slots history) (journal_of slots history)
  pub owned : (table ns : Id) → owner_of (replay slots history).master.catalog.owners table ≡ Some ns
      → IsOwned slots history table ns
  -- numbers are drawn in turn, and stay below their bounds
  pub drawn : DrawsInTurn slots history
  pub within : DrawnWithin slots history
  pub below : DrawnBelow (replay slots history).master
  pub schemas : SchemasDrawn (replay slots history).master (journal_of slots history)
  pub few : (t : TableRecord) → In t (replay slots history).master.catalog.tables → IsFewIn history t
  pub taken : SnapshotsAsTaken slots history
  -- operations go through their states in order, and come once
  pub through : EntersOnce (replay slots history) (entered slots history)
  pub stamps : EntersAt (replay slots history) (entered slots history)
  pub clocks : ClocksAfter (replay slots history) (entered slots history)
  pub once : Once slots history
  -- what the windows need is kept
  pub retained : Retained (replay slots history) (activity_of slots history) (snapshots_taken slots history)
      (scheduled_since slots history)
  pub found : RowsFound (replay slots history)
  -- what was begun can be brought to its end
  pub always : AlwaysNext (replay slots history).master
  pub bounded : events_left (replay slots history) ≤ left (replay slots history).master
  pub settles : (reading : ℕ) → Settles reading (replay slots history)
  pub finished : (reading : ℕ) → reading < 2 ^ 50 → SettleRuns slots reading history → IsFinished slots reading history
