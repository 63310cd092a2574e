-- Commands under their plans: a stale plan is refused, and each command on namespaces and tables keeps what holds.
use Rattle.std.proofs.Common.{ℕ, ◌≡◌, List, ◌∷◌, true, refl}
use Rattle.model.specs.Cluster.{same_slots, Parts, Interval}
use Rattle.model.specs.Journal.{Change as Made}
use Rattle.model.specs.Entries.{CommandAsked, slots_of}
use Rattle.model.specs.Acts.{Command, CreateNamespace, DropNamespace, CreateTable, AddColumn, DropColumn, RenameTable, DropTable, ListSchedules, ListSnapshots, ListRestorations, ListClones, ListTablets, Change, Schedules, Snapshots, Restorations, Clones, Tablets}
use Rattle.model.specs.Looks.{found_namespace, plan_of}
use Rattle.model.specs.Lines.{schedule_lines, snapshot_lines, restoration_lines, clone_lines, tablet_lines}
use Rattle.model.specs.Changes.{planned, list_tablets}
use Rattle.model.specs.History.{outcome}
use Rattle.law_changes.specs.Commands.{IsOfCatalog}
use Rattle.law_invariants.specs.Invariant.{Inv, Later}
use Rattle.law_invariants.proofs.Ticking.{by_judgement, refused_keeps, nothing_told, KeepsAll}
use Rattle.law_changes.proofs.Namespaces.{create_namespace_keeps, drop_namespace_keeps}
use Rattle.law_changes.proofs.Schemas.{add_column_keeps, drop_column_keeps, rename_table_keeps}
use Rattle.law_changes.proofs.Dropping.{drop_table_keeps}
use Rattle.law_changes.proofs.Creating.{create_table_keeps}
use Rattle.law_invariants.proofs.Judging.{change_keeps}

list_tablets_keeps : (ps : Parts) (activity : List Interval) (changes : List Made) (n : ℕ) (namespace slots : List ℕ) → Later (0 ∷ slots) ps n → Inv ps activity changes
    → KeepsAll (Change (ListTablets namespace) slots) n ps activity changes (list_tablets namespace ps.master)
unfolding list_tablets
list_tablets_keeps ps activity changes n namespace slots later inv =
    let act = Change (ListTablets namespace) slots in
    by_judgement act n ps activity changes (found_namespace ps.master namespace) _
    (λ why. refused_keeps act why n ps activity changes later inv refl)
    (λ ns found. nothing_told act (Tablets (tablet_lines ps.master ns)) n ps activity changes later inv)

planned_keeps : (command : Command) (slots : List ℕ) (ps : Parts) (activity : List Interval) (changes : List Made) (n : ℕ) → IsOfCatalog command → CommandAsked command → Later (0 ∷ slots) ps n → Inv ps activity changes
    → same_slots slots (plan_of command ps.master) ≡ true → KeepsAll (Change command slots) n ps activity changes (planned command slots n ps)
planned_keeps (CreateNamespace name) slots ps activity changes n of asked later inv plan = create_namespace_keeps ps activity changes n name slots later inv
planned_keeps (DropNamespace name) slots ps activity changes n of asked later inv plan = drop_namespace_keeps ps activity changes n name slots later inv
planned_keeps (CreateTable namespace table tablets columns) slots ps activity changes n of asked later inv plan = create_table_keeps ps activity changes n namespace table tablets columns slots later asked plan inv
planned_keeps (AddColumn namespace table name kind) slots ps activity changes n of asked later inv plan = add_column_keeps ps activity changes n namespace table name kind slots later inv
planned_keeps (DropColumn namespace table name) slots ps activity changes n of asked later inv plan = drop_column_keeps ps activity changes n namespace table name slots later inv
planned_keeps (RenameTable namespace table name) slots ps activity changes n of asked later inv plan = rename_table_keeps ps activity changes n namespace table name slots later inv
planned_keeps (DropTable namespace table) slots ps activity changes n of asked later inv plan = drop_table_keeps ps activity changes n namespace table slots later plan inv
planned_keeps ListSchedules slots ps activity changes n of asked later inv plan = nothing_told (Change ListSchedules slots) (Schedules (schedule_lines n ps.master)) n ps activity changes later inv
planned_keeps ListSnapshots slots ps activity changes n of asked later inv plan = nothing_told (Change ListSnapshots slots) (Snapshots (snapshot_lines ps.master)) n ps activity changes later inv
planned_keeps ListRestorations slots ps activity changes n of asked later inv plan = nothing_told (Change ListRestorations slots) (Restorations (restoration_lines ps.master)) n ps activity changes later inv
planned_keeps ListClones slots ps activity changes n of asked later inv plan = nothing_told (Change ListClones slots) (Clones (clone_lines ps.master)) n ps activity changes later inv
planned_keeps (ListTablets namespace) slots ps activity changes n of asked later inv plan = list_tablets_keeps ps activity changes n namespace slots later inv
planned_keeps _ slots ps activity changes n of asked later inv plan = absurd of

-- a command on namespaces and tables keeps what holds
pub catalog_change_keeps : (command : Command) (slots : List ℕ) (ps : Parts) (activity : List Interval) (changes : List Made) (n : ℕ) → IsOfCatalog command → CommandAsked command → Later (slots_of (Change command slots)) ps n → Inv ps activity changes
    → KeepsAll (Change command slots) n ps activity changes (outcome (Change command slots) n ps)
catalog_change_keeps command slots ps activity changes n of asked later inv = change_keeps command slots ps activity changes n later inv (λ plan. planned_keeps command slots ps activity changes n of asked later inv plan)
