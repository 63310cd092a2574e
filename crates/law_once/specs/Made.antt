-- What the moves of a record made of the journal, as a history goes on.
use Rattle.std.specs.Prelude.{◌≡◌, ℕ, ◌<◌, Bool, true, false, List, [], if◌then◌else◌}
use Rattle.row_values.specs.Ids.{Id, same}
use Rattle.row_values.specs.Elements.{In}
use Rattle.model.specs.Records.{RestorationRecord, CloneRecord}
use Rattle.model.specs.Parts.{Master, MasterAct, Ticks, MakesNamespace, DropsNamespace, MakesTable, AddsColumn, DropsColumn, RenamesTable, DropsTable, SplitsTablet, MakesSchedule, EditsSchedule, DeletesSchedule, TakesSnapshot, BeginsRestoration, BeginsClone, Sends, Acks, Unsends, Moves, Removes, Prunes, Restarts}
use Rattle.model.specs.Coordination.{unfinished_restoration, unfinished_clone}
use Rattle.model.specs.Journal.{Change}
use Rattle.model.specs.History.{with_either}
use Rattle.model.specs.Drawn.{drawn_of}
use Rattle.model.specs.Entering.{Entering}
use Rattle.model.specs.Once.{ClonedBy, restored_by}

-- the changes that an operation's moves made, with those of what the master is told
abbrev pub made_by : MasterAct → ℕ → Master → Id → List Change → List Change
made_by (Moves operation) n m id made =
    if same operation id
    then with_either (unfinished_restoration m.restorations operation) (unfinished_clone m.clones operation) n made
    else made
made_by Ticks n m id made = made
made_by (MakesNamespace name) n m id made = made
made_by (DropsNamespace namespace) n m id made = made
made_by (MakesTable namespace name columns slots) n m id made = made
made_by (AddsColumn table name kind) n m id made = made
made_by (DropsColumn table column) n m id made = made
made_by (RenamesTable table name) n m id made = made
made_by (DropsTable table) n m id made = made
made_by (SplitsTablet parent code low_slot high_slot) n m id made = made
made_by (MakesSchedule namespace interval retention) n m id made = made
made_by (EditsSchedule schedule interval retention) n m id made = made
made_by (DeletesSchedule schedule) n m id made = made
made_by (TakesSnapshot schedule) n m id made = made
made_by (BeginsRestoration schedule to) n m id made = made
made_by (BeginsClone namespace source target to) n m id made = made
made_by (Sends operation slot) n m id made = made
made_by (Acks operation slot) n m id made = made
made_by (Unsends operation slot) n m id made = made
made_by (Removes target) n m id made = made
made_by Prunes n m id made = made
made_by Restarts n m id made = made

-- an operation that is not drawn yet made none; a restoration and a clone made what its state says
pub record AllMade (m : Master) (es : List Entering) (made : Id → List Change) : Type 0 where
  pub fresh : (id : Id) → drawn_of id.kind m.drawn < id.number → made id ≡ []
  pub restorations : (r : RestorationRecord) → In r m.restorations → made r.id ≡ restored_by r.state r.namespace r.to
  pub clones : (c : CloneRecord) → In c m.clones → ClonedBy c.state c es (made c.id)

-- whether the master is told what a command tells
abbrev pub is_command : MasterAct → Bool
is_command Ticks = true
is_command (MakesNamespace name) = true
is_command (DropsNamespace namespace) = true
is_command (MakesTable namespace name columns slots) = true
is_command (AddsColumn table name kind) = true
is_command (DropsColumn table column) = true
is_command (RenamesTable table name) = true
is_command (DropsTable table) = true
is_command (SplitsTablet parent code low_slot high_slot) = true
is_command (MakesSchedule namespace interval retention) = true
is_command (EditsSchedule schedule interval retention) = true
is_command (DeletesSchedule schedule) = true
is_command (TakesSnapshot schedule) = true
is_command (BeginsRestoration schedule to) = true
is_command (BeginsClone namespace source target to) = true
is_command (Sends operation slot) = false
is_command (Acks operation slot) = false
is_command (Unsends operation slot) = false
is_command (Moves operation) = false
is_command (Removes target) = false
is_command Prunes = false
is_command Restarts = false
