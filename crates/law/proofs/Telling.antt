-- What an act tells the master. A command tells it nothing but the time, or what its judgement found: a law of what is
-- told goes through the commands once, here.
use Rattle.std.proofs.Common.{◌≡◌, ℕ, ◌≤◌, Bool, true, false, List, [], ◌∷◌, Option, Some, None, refl, sym, ap, ◌∙◌, length, not}
use Rattle.std.specs.Prelude.{Result, Ok as Granted, Err as Denied}
use Rattle.model.specs.Cluster.{Id, In, TableRecord, is_open, same_slots, first_unacked, State}
use Rattle.model.specs.Acts.{Act, Change, Advance, Prune, Command, CreateNamespace, DropNamespace, CreateTable, AddColumn, DropColumn, RenameTable, DropTable, Split, CreateSchedule, EditSchedule, DeleteSchedule, TakeSnapshot, Restore, CloneNamespace, ListTablets, Reply, Refused, Refusal, StalePlan, UnknownColumn}
use Rattle.model.specs.Parts.{Master, Parts, Outcome, MasterAct, Ticks, MakesTable, AddsColumn, DropsColumn, RenamesTable, Sends, Acks, Unsends, Moves, Removes, Prunes, Restarts, If, unless, refused, decided, refusal_in}
use Rattle.model.specs.Changed.{clone_time}
use Rattle.model.specs.Changes.{change, planned, create_namespace, drop_namespace, create_table, add_column, add_column_checks, drop_column, column_of, found_column, unheld_checks, rename_table, rename_table_checks, drop_table, split, create_schedule, edit_schedule, delete_schedule, take_snapshot, restore, clone_namespace, list_tablets, judge_create_namespace, judge_drop_namespace, judge_create_table, judge_add_column, judge_drop_column, judge_rename_table, judge_drop_table, judge_split, judge_create_schedule, judge_edit_schedule, judge_delete_schedule, judge_take_snapshot, judge_restore, judge_clone}
use Rattle.model.specs.Cleanup.{prune}
use Rattle.model.specs.Entries.{CommandAsked}
use Rattle.model.specs.History.{outcome}
use Rattle.model.specs.Looks.{found_namespace, found_table, plan_of}
use Rattle.model.specs.Moves.{Progress, advance, advancing, moving, progress_of, waits_for}
use Rattle.law_invariants.proofs.Cataloguing.{table_is}
use Rattle.law_invariants.proofs.Judging.{and_found_is, checked_is}
use Rattle.law_changes.proofs.Schemas.{column_found}
use Rattle.law.proofs.Plain.{act_none, is_weighty}

-- Commands

-- a table that the catalog has now
abbrev pub IsCurrentIn : Master → TableRecord → Type 0
IsCurrentIn m t = In t m.catalog.tables × (is_open t.to ≡ true)

-- what a command may tell the master, where `Asked` is what is asked of the command
abbrev pub Commands : Type 0 → Master → MasterAct → Type 0
Commands Asked m (MakesTable namespace name columns slots) = Asked → length columns ≤ 16
Commands Asked m (AddsColumn t name kind) = IsCurrentIn m t
Commands Asked m (DropsColumn t column) = IsCurrentIn m t
Commands Asked m (RenamesTable t name) = IsCurrentIn m t
Commands Asked m (Sends operation slot) = ⊥
Commands Asked m (Acks operation slot) = ⊥
Commands Asked m (Unsends operation slot) = ⊥
Commands Asked m (Moves operation) = ⊥
Commands Asked m (Removes target) = ⊥
Commands Asked m Prunes = ⊥
Commands Asked m Restarts = ⊥
Commands Asked m _ = Unit {0}

abbrev pub is_refused : Reply → Bool
is_refused (Refused why) = true
is_refused _ = false

pub record IsCommanded (Asked : Type 0) (m : Master) (o : Outcome) : Type 0 where
  pub told : Commands Asked m o.master
  pub accepted : is_refused o.reply ≡ false

decided_each : {A : Type 0} (P : Outcome → Type 0) (judgement : Result A Refusal) (go : A → Outcome)
    → ((why : Refusal) → P (refused why)) → ((a : A) → judgement ≡ Granted a → P (go a)) → P (decided judgement go)
decided_each P (Denied why) go denied granted = denied why
decided_each P (Granted a) go denied granted = granted a refl

unless_each : (P : Outcome → Type 0) (refusal : Option Refusal) (o : Outcome) → ((why : Refusal) → P (refused why)) → P o
    → P (unless refusal o)
unless_each P (Some why) o denied passed = denied why
unless_each P None o denied passed = passed

planned_each : (P : Outcome → Type 0) (command : Command) (slots : List ℕ) (n : ℕ) (ps : Parts)
    → ((why : Refusal) → P (refused why))
    → ((o : Outcome) → IsCommanded (CommandAsked command) ps.master o → P o) → P (planned command slots n ps)
unfolding create_namespace drop_namespace create_table add_column drop_column rename_table drop_table split create_schedule edit_schedule delete_schedule take_snapshot restore clone_namespace list_tablets
planned_each P (CreateTable namespace table tablets columns) slots n ps denied granted =
    decided_each P (judge_create_table namespace table tablets ps.master) _ denied
    (λ ns e. granted _ (record { told = λ asked. asked.3.1; accepted = refl }))
planned_each P (AddColumn namespace table name kind) slots n ps denied granted =
    let m = ps.master in
    decided_each P (judge_add_column namespace table name m) _ denied
    (λ t e.
    let is = table_is m namespace table t (checked_is (found_table m namespace table) (λ t. add_column_checks t name m) t e).0 in
    granted _ (record { told = (is.listed, is.current); accepted = refl }))
planned_each P (DropColumn namespace table name) slots n ps denied granted =
    let m = ps.master in
    decided_each P (judge_drop_column namespace table name m) _ denied
    (λ c e.
    let found = and_found_is (found_table m namespace table) (column_of name) UnknownColumn c (checked_is (found_column m namespace table name) (λ c. unheld_checks c.table.namespace m) c e).0 in
    let is = table_is m namespace table c.table (found.1.0 ∙ ap Granted (sym (column_found found.0 name c found.1.1).0)) in
    granted _ (record { told = (is.listed, is.current); accepted = refl }))
planned_each P (RenameTable namespace table name) slots n ps denied granted =
    let m = ps.master in
    decided_each P (judge_rename_table namespace table name m) _ denied
    (λ t e.
    let is = table_is m namespace table t (checked_is (found_table m namespace table) (λ t. rename_table_checks t name m) t e).0 in
    granted _ (record { told = (is.listed, is.current); accepted = refl }))
planned_each P (CreateNamespace name) slots n ps denied granted =
    decided_each P (judge_create_namespace name ps.master) _ denied (λ a e. granted _ (record { told = tt; accepted = refl }))
planned_each P (DropNamespace name) slots n ps denied granted =
    decided_each P (judge_drop_namespace name ps.master) _ denied (λ a e. granted _ (record { told = tt; accepted = refl }))
planned_each P (DropTable namespace table) slots n ps denied granted =
    decided_each P (judge_drop_table namespace table ps.master) _ denied
    (λ a e. granted _ (record { told = tt; accepted = refl }))
planned_each P (Split namespace table code) slots n ps denied granted =
    decided_each P (judge_split namespace table code ps.master) _ denied
    (λ a e. granted _ (record { told = tt; accepted = refl }))
planned_each P (CreateSchedule interval retention namespace) slots n ps denied granted =
    decided_each P (judge_create_schedule interval retention namespace ps.master) _ denied
    (λ a e. granted _ (record { told = tt; accepted = refl }))
planned_each P (EditSchedule schedule interval retention) slots n ps denied granted =
    decided_each P (judge_edit_schedule schedule interval retention ps.master) _ denied
    (λ a e. granted _ (record { told = tt; accepted = refl }))
planned_each P (DeleteSchedule schedule) slots n ps denied granted =
    decided_each P (judge_delete_schedule schedule ps.master) _ denied
    (λ a e. granted _ (record { told = tt; accepted = refl }))
planned_each P (TakeSnapshot schedule) slots n ps denied granted =
    decided_each P (judge_take_snapshot schedule n ps.master) _ denied
    (λ a e. granted _ (record { told = tt; accepted = refl }))
planned_each P (Restore schedule to) slots n ps denied granted =
    decided_each P (judge_restore schedule to n ps.master) _ denied
    (λ a e. granted _ (record { told = tt; accepted = refl }))
planned_each P (CloneNamespace source target at) slots n ps denied granted =
    decided_each P (judge_clone source target (clone_time at n) n ps.master) _ denied
    (λ a e. granted _ (record { told = tt; accepted = refl }))
planned_each P (ListTablets namespace) slots n ps denied granted =
    decided_each P (found_namespace ps.master namespace) _ denied (λ a e. granted _ (record { told = tt; accepted = refl }))
planned_each P _ slots n ps denied granted = granted _ (record { told = tt; accepted = refl })

-- a command is refused, or comes to what it tells
pub command_each : (P : Outcome → Type 0) (command : Command) (slots : List ℕ) (n : ℕ) (ps : Parts)
    → ((why : Refusal) → P (refused why))
    → ((o : Outcome) → IsCommanded (CommandAsked command) ps.master o → P o) → P (change command slots n ps)
unfolding change
command_each P command slots n ps denied granted =
    let kept = plan_of command ps.master in
    unless_each P (refusal_in (If (not (same_slots slots kept)) (StalePlan kept) ∷ [])) (planned command slots n ps) denied
    (planned_each P command slots n ps denied granted)

-- All acts

moving_each : (P : MasterAct → Type 0) (awaited : Option Id) (operation : Id) (next : State) → P Ticks → P (Moves operation)
    → P (moving awaited operation next).master
moving_each P (Some on) operation next ticks moves = ticks
moving_each P None operation next ticks moves = moves

advancing_each : (P : MasterAct → Type 0) (found : Option Progress) (operation : Id) → P Ticks → P (Moves operation)
    → P (advancing found operation).master
advancing_each P None operation ticks moves = ticks
advancing_each P (Some p) operation ticks moves =
    moving_each P (waits_for (first_unacked p.listed) p.awaited) operation p.next ticks moves

-- what the master is told of a command; to move a record; to prune; or what changes nothing of weight
pub told_each : (P : MasterAct → Type 0) (act : Act) (n : ℕ) (ps : Parts)
    → ((command : Command) (slots : List ℕ) (a : MasterAct) → act ≡ Change command slots
    → Commands (CommandAsked command) ps.master a → P a)
    → ((operation : Id) → P (Moves operation)) → P Prunes → ((a : MasterAct) → is_weighty a ≡ false → P a)
    → P (outcome act n ps).master
unfolding advance prune
told_each P (Change command slots) n ps commands moves prunes plain =
    command_each (λ o. P o.master) command slots n ps (λ why. plain Ticks refl)
    (λ o is. commands command slots o.master refl is.told)
told_each P (Advance operation) n ps commands moves prunes plain =
    advancing_each P (progress_of operation.kind ps.master operation) operation (plain Ticks refl) (moves operation)
told_each P Prune n ps commands moves prunes plain = prunes
told_each P act n ps commands moves prunes plain = plain (outcome act n ps).master (act_none act n ps refl).none
