-- Histories, the newest entry first: what they leave, which are legal, and the journal of their changes.
use Rattle.std.specs.Prelude.{◌≡◌, ℕ, ◌<◌, Bool, true, false, List, [], ◌∷◌, ◌++◌, ◌==◌, ◌&&◌, ◌+◌, nat_lt, not, length, is_some, if◌then◌else◌, filter}
use Rattle.model.specs.Cluster.{Id, has, with_column, without_column, end_of_time, Interval, act_for, effect, schedule_of, SnapshotRecord, Act, Event, Refusal, NotDone, Refused, Master, Parts, start, MasterAct, Ticks, MakesNamespace, DropsNamespace, MakesTable, AddsColumn, DropsColumn, RenamesTable, DropsTable, SplitsTablet, MakesSchedule, EditsSchedule, DeletesSchedule, TakesSnapshot, BeginsRestoration, BeginsClone, Sends, Acks, Unsends, Moves, Removes, Prunes, Restarts, Outcome}
use Rattle.model.specs.Journal as made
use Rattle.model.specs.Tablets.{ticked}
use Rattle.model.specs.Changed.{namespace_made, namespace_dropped, table_made, table_changed, table_dropped, tablet_split, schedule_made, schedule_edited, schedule_deleted, snapshot_taken, restoration_begun, clone_begun}
use Rattle.model.specs.Coordination.{sent_to, acked, unsent_by, restarted_master}
use Rattle.model.specs.Moves.{moved}
use Rattle.model.specs.Cleanup.{removed, pruned}
use Rattle.model.specs.Entries.{Entry, slots_of, log_of, stamp_of, Asked}
pub use Rattle.model.specs.Journaling.{rows_made, with, id_of_column, with_restoration, with_clone, with_either, with_master, with_rows}
pub use Rattle.model.specs.Rules.{look, outcome, with_changes}

-- What a history leaves

-- the master after what it is told at a stamp
abbrev pub master_effect : MasterAct → ℕ → Master → Master
master_effect Ticks n m = record m { clock = n }
master_effect (MakesNamespace name) n m = namespace_made name n m
master_effect (DropsNamespace namespace) n m = namespace_dropped namespace n m
master_effect (MakesTable namespace name columns slots) n m = table_made namespace name columns slots n m
master_effect (AddsColumn t name kind) n m = table_changed t t.name (with_column name kind t.schema) n m
master_effect (DropsColumn t column) n m = table_changed t t.name (without_column column.name t.schema) n m
master_effect (RenamesTable t name) n m = table_changed t name t.schema n m
master_effect (DropsTable table) n m = table_dropped table n m
master_effect (SplitsTablet parent code low_slot high_slot) n m = tablet_split parent code low_slot high_slot n m
master_effect (MakesSchedule namespace interval retention) n m = schedule_made namespace interval retention n m
master_effect (EditsSchedule schedule interval retention) n m = schedule_edited schedule interval retention n m
master_effect (DeletesSchedule schedule) n m = schedule_deleted schedule n m
master_effect (TakesSnapshot schedule) n m = snapshot_taken schedule n m
master_effect (BeginsRestoration schedule to) n m = restoration_begun schedule to n m
master_effect (BeginsClone namespace source target to) n m = clone_begun namespace source target to n m
master_effect (Sends operation slot) n m = sent_to operation slot n m
master_effect (Acks operation slot) n m = acked operation slot n m
master_effect (Unsends operation slot) n m = unsent_by operation slot n m
master_effect (Moves operation) n m = moved operation n m
master_effect (Removes target) n m = removed target n m
master_effect Prunes n m = pruned n m
master_effect Restarts n m = restarted_master n m

-- the parts after an outcome: each touched one does what it is told
abbrev pub told : Act → Outcome → ℕ → Parts → Parts
told act o n ps = record {
  master = if has (slots_of act) 0 then master_effect o.master n ps.master else ps.master;
  tablet = λ i.
      if has (slots_of act) i && not (i == 0) then effect (act_for o.tablets i) n (ps.tablet i) else ps.tablet i;
}

-- the parts that an entry leaves
abbrev pub next : Entry → Parts → Parts
next e ps = told e.event.act (outcome e.event.act e.stamp ps) e.stamp ps

-- nothing of the parts changed but the clocks of the slots, which are the stamp
pub record TicksAlone (slots : List ℕ) (n : ℕ) (before after : Parts) : Type 0 where
  pub master : after.master ≡ (if has slots 0 then record before.master { clock = n } else before.master)
  pub tablets : (slot : ℕ) → after.tablet slot
      ≡ (if has slots slot && not (slot == 0) then ticked n (before.tablet slot) else before.tablet slot)

-- so it is of a refused entry. An ack that finds its command not done also clears the mark that it was sent
abbrev pub RefusedTicks : Entry → Parts → Type 0
RefusedTicks e ps = (why : Refusal) → e.reply ≡ Refused why → (why ≡ NotDone → ⊥)
    → TicksAlone (slots_of e.event.act) e.stamp ps (next e ps)

-- the parts that a history leaves, from the empty cluster
unfoldable pub replay : ℕ → List Entry → Parts
replay slots [] = start slots
replay slots (e ∷ earlier) = next e (replay slots earlier)

-- Legal histories

-- how many entries the log of a slot holds
abbrev pub held : ℕ → List Entry → ℕ
held slot [] = 0
held slot (e ∷ earlier) = if log_of e.event.act == slot then 1 + held slot earlier else held slot earlier

abbrev pub most_entries : ℕ
most_entries = 1000000

-- the entry is the one that the parts before it give for its event
pub record IsStep (slots : ℕ) (e : Entry) (earlier : List Entry) : Type 0 where
  pub asked : Asked slots e.event
  pub number : e.number ≡ length earlier + 1
  pub stamp : e.stamp ≡ stamp_of e.event (replay slots earlier)
  pub before_end : e.stamp < end_of_time
  pub room : held (log_of e.event.act) earlier < most_entries
  pub reply : e.reply ≡ (outcome e.event.act e.stamp (replay slots earlier)).reply

-- each entry is the one that the entries before it give
abbrev pub Legal : ℕ → List Entry → Type 0
Legal slots [] = Unit {0}
Legal slots (e ∷ earlier) = Legal slots earlier × IsStep slots e earlier

-- the entry that an event makes after a history
unfoldable pub entry_of : ℕ → Event → List Entry → Entry
entry_of slots event earlier = let n = stamp_of event (replay slots earlier) in record {
  number = length earlier + 1;
  event = event;
  stamp = n;
  reply = (outcome event.act n (replay slots earlier)).reply;
}

-- The journal of a history

abbrev pub with_changes_of : Entry → Parts → List made.Change → List made.Change
with_changes_of e ps earlier = with_changes e.event.act (outcome e.event.act e.stamp ps) e.stamp ps earlier

-- the changes that a history made, the newest first
unfoldable pub journal_of : ℕ → List Entry → List made.Change
journal_of slots [] = []
journal_of slots (e ∷ earlier) = with_changes_of e (replay slots earlier) (journal_of slots earlier)

-- Activity of all tablets that ever were

abbrev pub is_removal : MasterAct → Bool
is_removal (Removes target) = true
is_removal Ticks = false
is_removal (MakesNamespace name) = false
is_removal (DropsNamespace namespace) = false
is_removal (MakesTable namespace name columns slots) = false
is_removal (AddsColumn t name kind) = false
is_removal (DropsColumn t column) = false
is_removal (RenamesTable t name) = false
is_removal (DropsTable table) = false
is_removal (SplitsTablet parent code low_slot high_slot) = false
is_removal (MakesSchedule namespace interval retention) = false
is_removal (EditsSchedule schedule interval retention) = false
is_removal (DeletesSchedule schedule) = false
is_removal (TakesSnapshot schedule) = false
is_removal (BeginsRestoration schedule to) = false
is_removal (BeginsClone namespace source target to) = false
is_removal (Sends operation slot) = false
is_removal (Acks operation slot) = false
is_removal (Unsends operation slot) = false
is_removal (Moves operation) = false
is_removal Prunes = false
is_removal Restarts = false

-- as the master keeps it, but that no removal forgets
unfoldable pub activity_of : ℕ → List Entry → List Interval
activity_of slots [] = []
activity_of slots (e ∷ earlier) =
    let ps = replay slots earlier in
    let o = outcome e.event.act e.stamp ps in
    if has (slots_of e.event.act) 0 && not (is_removal o.master)
    then (master_effect o.master e.stamp (record ps.master { activity = activity_of slots earlier })).activity
    else activity_of slots earlier

-- All snapshots that ever were taken

-- the records that the master has beyond those of an earlier one
abbrev pub snapshots_since : Master → Master → List SnapshotRecord
snapshots_since before after = filter (λ r. nat_lt before.drawn.snapshots r.id.number) after.snapshots

-- each as it was made, in the order in which they were made
unfoldable pub snapshots_taken : ℕ → List Entry → List SnapshotRecord
snapshots_taken slots [] = []
snapshots_taken slots (e ∷ earlier) =
    let ps = replay slots earlier in snapshots_taken slots earlier ++ snapshots_since ps.master (next e ps).master

-- since when a namespace has schedules: the stamp of the entry from which on each one left it some; it has some now
unfoldable pub scheduled_since : ℕ → List Entry → Id → ℕ
scheduled_since slots [] ns = 0
scheduled_since slots (e ∷ earlier) ns =
    if is_some (schedule_of (replay slots earlier).master.schedules ns)
    then scheduled_since slots earlier ns
    else e.stamp
