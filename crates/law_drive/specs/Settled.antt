-- A settle as a part of a history: the entries that it makes, and what then is finished.
use Rattle.std.specs.Prelude.{◌≡◌, ◌⊎◌, ℕ, ◌≤◌, ◌<◌, ◌^◌, ◌||◌, true, List, [], ◌∷◌, Some}
use Rattle.row_values.specs.Ids.{Id}
use Rattle.row_values.specs.Elements.{In}
use Rattle.model.specs.Schedules.{IsInWindow, low}
use Rattle.model.specs.Journal.{Change, NamespaceRestored, is_in, table_at, row_at}
use Rattle.model.specs.Records.{Schedule, SnapshotRecord, is_restored, is_cloned}
use Rattle.model.specs.Acts.{Act, Reply, Ok, Refused, TooEarly, Future}
use Rattle.model.specs.Replies.{MakesOne}
use Rattle.model.specs.Entries.{Entry}
use Rattle.model.specs.History.{entry_of, journal_of, replay}
use Rattle.model.specs.Once.{RestoreAsked, RestoresOnce, CloneAsked, ClonesOnce, one_restore, changes_by}
use Rattle.model.specs.Settling.{event_of, settle}
use Rattle.model_runs.specs.Running.{may_follow}

-- the history after acts under a reading, where nothing else performs events
abbrev pub history_after : ℕ → ℕ → List Act → List Entry → List Entry
history_after slots reading [] history = history
history_after slots reading (act ∷ acts) history =
    history_after slots reading acts (entry_of slots (event_of reading act) history ∷ history)

-- none of their events meets the end of the clock or a full log
abbrev pub NoneStops : ℕ → ℕ → List Act → List Entry → Type 0
NoneStops slots reading [] history = Unit {0}
NoneStops slots reading (act ∷ acts) history =
    (may_follow slots (event_of reading act) history ≡ true)
    × NoneStops slots reading acts (entry_of slots (event_of reading act) history ∷ history)

-- the history after a settle
abbrev pub settled : ℕ → ℕ → List Entry → List Entry
settled slots reading history = history_after slots reading (settle reading (replay slots history)) history

abbrev pub SettleRuns : ℕ → ℕ → List Entry → Type 0
SettleRuns slots reading history = NoneStops slots reading (settle reading (replay slots history)) history

-- a snapshot is kept, and complete
pub record SnapshotFinished (slots : ℕ) (history : List Entry) (id : Id) : Type 0 where
  pub snapshot : SnapshotRecord
  pub kept : In snapshot (replay slots history).master.snapshots
  pub id_is : snapshot.id ≡ id
  pub complete : snapshot.complete ≡ true

-- an accepted command to restore has come to its end: its moves made one restore
pub record RestoreFinished (slots : ℕ) (history : List Entry) (asked : RestoreAsked) : Type 0 where
  pub once : RestoresOnce slots history asked
  pub finished : is_restored once.restoration.state ≡ true
  pub point : ℕ
  pub alone : changes_by slots asked.operation history ≡ one_restore point once.restoration.namespace asked.to

-- and one to clone
pub record CloneFinished (slots : ℕ) (history : List Entry) (asked : CloneAsked) : Type 0 where
  pub once : ClonesOnce slots history asked
  pub finished : is_cloned once.clone.state ≡ true

-- Restores

-- an answer goes by the window from a low end at a stamp: acceptance inside, refusal outside
pub record ByWindow (reply : Reply) (low now to : ℕ) : Type 0 where
  pub inside : IsInWindow low now to → MakesOne reply
  pub outside : (IsInWindow low now to → ⊥) → (reply ≡ Refused (TooEarly low)) ⊎ (reply ≡ Refused (Future now))

-- from a point on, at which the journal has the restore, the namespace's tables and rows are those of another view at
-- the time
pub record CameBack (after before : List Change) (ns : Id) (to : ℕ) : Type 0 where
  pub point : ℕ
  pub restored : In (record { stamp = point; act = NamespaceRestored ns to }) after
  pub tables : (id : Id) (x : ℕ) → point ≤ x
      → (is_in ns (table_at after x id) || is_in ns (table_at before to id)) ≡ true → table_at after x id ≡ table_at before to id
  pub rows : (id : Id) (key : List ℕ) (x : ℕ) → point ≤ x → is_in ns (table_at before to id) ≡ true
      → row_at after x id key ≡ row_at before to id key

-- The service: a restore by a schedule goes by the window of the schedule, and an accepted one comes to its end by a
-- settle, with its namespace as the changes stamped by the time left it
pub record Served (slots : ℕ) (e : Entry) (history : List Entry) (schedule : Id) (by : Schedule) (to : ℕ) : Type 0 where
  pub answer : ByWindow e.reply (low by e.stamp) e.stamp to
  pub finished : (operation : Id) (reading : ℕ) → e.reply ≡ Ok (operation ∷ []) → reading < 2 ^ 50
      → SettleRuns slots reading (e ∷ history)
      → RestoreFinished slots (settled slots reading (e ∷ history))
      (record { operation = operation; schedule = schedule; namespace = Some by.namespace; to = to })
  pub back : (operation : Id) (reading : ℕ) → e.reply ≡ Ok (operation ∷ []) → reading < 2 ^ 50
      → SettleRuns slots reading (e ∷ history)
      → CameBack
      (journal_of slots (settled slots reading (e ∷ history))) (journal_of slots (e ∷ history)) by.namespace to
