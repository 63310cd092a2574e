-- The changes that what the master is told, and an accepted write, make in front of the earlier ones.
use Rattle.std.specs.Prelude.{ℕ, List, [], ◌∷◌, Option, Some, None}
use Rattle.model.specs.Cluster.{Item, Id, Column, numbered, Told, RestorationRecord, RestorationState, Fencing, Snapshotting, Switching, Restoring, Releasing, Restored, CloneRecord, CloneState, Accepted, CloneSnapshot, Copying, CloneReleasing, CloneComplete, Master, MasterAct, Ticks, MakesNamespace, DropsNamespace, MakesTable, AddsColumn, DropsColumn, RenamesTable, DropsTable, SplitsTablet, MakesSchedule, EditsSchedule, DeletesSchedule, TakesSnapshot, BeginsRestoration, BeginsClone, Sends, Acks, Unsends, Moves, Removes, Prunes, Restarts}
use Rattle.model.specs.Journal as made
use Rattle.model.specs.Changed.{next_namespace, next_table}
use Rattle.model.specs.Coordination.{unfinished_restoration, unfinished_clone}

abbrev pub rows_made : ℕ → Id → List Item → List made.Change → List made.Change
rows_made n table [] earlier = earlier
rows_made n table (item ∷ items) earlier =
    rows_made n table items (record { stamp = n; act = made.RowChanged table item.key item.op } ∷ earlier)

-- a change in front of the earlier ones
abbrev pub with : ℕ → made.ChangeAct → List made.Change → List made.Change
with n act earlier = record { stamp = n; act = act } ∷ earlier

abbrev pub id_of_column : Option Column → ℕ
id_of_column None = 0
id_of_column (Some column) = column.id

-- the restore of a restoration that leaves its state of switching, stamped at its point
abbrev pub with_restoration : RestorationState → RestorationRecord → List made.Change → List made.Change
with_restoration (Switching point serving) r earlier = with point (made.NamespaceRestored r.namespace r.to) earlier
with_restoration Fencing r earlier = earlier
with_restoration (Snapshotting point own) r earlier = earlier
with_restoration (Restoring point serving) r earlier = earlier
with_restoration (Releasing point serving) r earlier = earlier
with_restoration (Restored point serving) r earlier = earlier

-- the clone whose target becomes current
abbrev pub with_clone : CloneState → CloneRecord → ℕ → List made.Change → List made.Change
with_clone (Copying serving copied_at) c n earlier =
    with n (made.NamespaceCloned c.source c.target_id c.target c.to c.tables) earlier
with_clone Accepted c n earlier = earlier
with_clone (CloneSnapshot own) c n earlier = earlier
with_clone (CloneReleasing serving copied_at) c n earlier = earlier
with_clone (CloneComplete serving copied_at) c n earlier = earlier

abbrev pub with_either : Option RestorationRecord → Option CloneRecord → ℕ → List made.Change
    → List made.Change
with_either (Some r) clone n earlier = with_restoration r.state r earlier
with_either None (Some c) n earlier = with_clone c.state c n earlier
with_either None None n earlier = earlier

-- the one change that the master makes, where what it is told is one
abbrev pub with_master : MasterAct → ℕ → Master → List made.Change → List made.Change
with_master (MakesNamespace name) n m earlier = with n (made.NamespaceMade (next_namespace m) name) earlier
with_master (DropsNamespace namespace) n m earlier = with n (made.NamespaceDropped namespace) earlier
with_master (MakesTable namespace name columns slots) n m earlier =
    with n (made.TableMade (next_table m) namespace name (numbered 1 columns)) earlier
with_master (AddsColumn t name kind) n m earlier =
    with n (made.ColumnAdded t.id (record { id = t.schema.next; name = name; kind = kind })) earlier
with_master (DropsColumn t column) n m earlier = with n (made.ColumnDropped t.id column.id) earlier
with_master (RenamesTable t name) n m earlier = with n (made.TableRenamed t.id name) earlier
with_master (DropsTable table) n m earlier = with n (made.TableDropped table) earlier
with_master (Moves operation) n m earlier =
    with_either (unfinished_restoration m.restorations operation) (unfinished_clone m.clones operation) n earlier
with_master Ticks n m earlier = earlier
with_master (SplitsTablet parent code low_slot high_slot) n m earlier = earlier
with_master (MakesSchedule namespace interval retention) n m earlier = earlier
with_master (EditsSchedule schedule interval retention) n m earlier = earlier
with_master (DeletesSchedule schedule) n m earlier = earlier
with_master (TakesSnapshot schedule) n m earlier = earlier
with_master (BeginsRestoration schedule to) n m earlier = earlier
with_master (BeginsClone namespace source target to) n m earlier = earlier
with_master (Sends operation slot) n m earlier = earlier
with_master (Acks operation slot) n m earlier = earlier
with_master (Unsends operation slot) n m earlier = earlier
with_master (Removes target) n m earlier = earlier
with_master Prunes n m earlier = earlier
with_master Restarts n m earlier = earlier

-- the rows of a write, where its tablet is told of it: an accepted one
abbrev pub with_rows : List Told → ℕ → Id → List Item → List made.Change → List made.Change
with_rows [] n table batch earlier = earlier
with_rows (told ∷ rest) n table batch earlier = rows_made n table batch earlier
