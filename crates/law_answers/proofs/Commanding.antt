-- A command is refused as stale exactly where its slots aren't its plan; under its plan it is accepted, or refused for one of its
-- causes.
use Rattle.std.proofs.Common.{ℕ, ◌≡◌, ◌≢◌, ◌<◌, List, [], ◌∷◌, Option, Some, None, true, false, ◌⊎◌, inl, inr, refl, sym, ap, ◌∙◌, arith, eqb-true, leb-false, ltb-true, length}
use Rattle.std.proofs.lemmas.Bool.{true≢false}
use Rattle.std.proofs.lemmas.Bool.Decides.{nat_tests}
use Rattle.std.specs.Prelude.{Ok as Granted}
use Rattle.std.specs.Option.{option_map, ok_or}
use Rattle.row_values.specs.Ids.{Id}
use Rattle.row_values.specs.Slots.{same_slots}
use Rattle.model.specs.Activity.{Interval}
use Rattle.model.specs.Catalog.{namespace_named, current_named}
use Rattle.model.specs.Journal.{Change as Made, namespace_at}
use Rattle.model.specs.Right.{NamespaceFound}
use Rattle.model.specs.Schedules.{next_due}
use Rattle.model.specs.Acts.{Command, CreateNamespace, DropNamespace, CreateTable, AddColumn, DropColumn, RenameTable, DropTable, Split, CreateSchedule, EditSchedule, DeleteSchedule, TakeSnapshot, Restore, CloneNamespace, ListSchedules, ListSnapshots, ListRestorations, ListClones, ListTablets, Refusal, UnknownNamespace, UnknownTable, UnknownColumn, UnknownSchedule, BadPeriod, NotEmpty, UnderSchedule, TooMany, SlotsFull, TooNarrow, NotDue, Refused, Tablets}
use Rattle.model.specs.Looks.{free_slots, found_namespace, found_table, found_parent, Parent, family, holding, plan_of}
use Rattle.model.specs.Lines.{tablet_lines}
use Rattle.model.specs.Changes.{most_namespaces, most_tables, most_columns, most_schedules, create_namespace, create_namespace_checks, judge_create_namespace, drop_namespace, drop_namespace_checks, judge_drop_namespace, create_table, create_table_checks, judge_create_table, add_column, add_column_checks, judge_add_column, drop_column, column_of, found_column, unheld_checks, judge_drop_column, rename_table, rename_table_checks, judge_rename_table, drop_table, judge_drop_table, split, split_checks, judge_split, create_schedule, create_schedule_checks, judge_create_schedule, edit_schedule, edit_schedule_checks, found_schedule, judge_edit_schedule, delete_schedule, delete_schedule_checks, judge_delete_schedule, take_snapshot, take_snapshot_checks, judge_take_snapshot, list_tablets, planned, change}
use Rattle.model.specs.Changed.{next_namespace, next_table, next_schedule, next_tablet}
use Rattle.model.specs.Lists.{next_snapshot}
use Rattle.model.specs.Parts.{Master, Parts, checked, decided, answered}
use Rattle.model.specs.Replies.{MakesNone, MakesOne, MakesTwo, IsNameTaken, IsSlotsFull, IsClosed, IsTableClosed, IsScheduleClosed, CommandAnswer, ChangeAnswer}
use Rattle.law_store.proofs.Keys.{either_way}
use Rattle.law_invariants.specs.Invariant.{Inv}
use Rattle.law_invariants.proofs.Finding.{passes_both}
use Rattle.law_invariants.proofs.Ticking.{not_true}
use Rattle.law_invariants.proofs.Told.{slots_equal}
use Rattle.law_answers.proofs.Looking.{asked, namespace_found, no_namespace}
use Rattle.law_answers.proofs.Naming.{RecordsApart}
use Rattle.law_answers.proofs.Refusing.{Refuses, missing_is, found_is, checked_is, decided_answers}
use Rattle.law_answers.proofs.Windows.{restore_answered, clone_answered}

-- What the names of a command find

namespace_refuses : (Why : Refusal → Type 0) (m : Master) (namespace : List ℕ) → Why UnknownNamespace → Refuses Why (found_namespace m namespace)
namespace_refuses Why m namespace unknown = missing_is Why (namespace_named m.catalog.namespaces namespace) UnknownNamespace (λ _. unknown)

table_refuses : (Why : Refusal → Type 0) (m : Master) (namespace table : List ℕ) → Why UnknownNamespace → Why UnknownTable → Refuses Why (found_table m namespace table)
table_refuses Why m namespace table unknown no_table =
    found_is Why (found_namespace m namespace) (λ ns. current_named m.catalog.tables ns table) UnknownTable (namespace_refuses Why m namespace unknown) (λ _ _. no_table)

schedule_refuses : (Why : Refusal → Type 0) (m : Master) (schedule : Id) → Why UnknownSchedule → Refuses Why (found_schedule m schedule)
schedule_refuses Why m schedule unknown = missing_is Why _ UnknownSchedule (λ _. unknown)

few_free : (parent : Parent) (free : List ℕ) → family parent free ≡ None → length free < 2
few_free parent [] e = omega arith
few_free parent (a ∷ []) e = omega arith
few_free parent (a ∷ b ∷ free) e = absurd (let q = e in grind arith)

granted_refuses : {A : Type 0} (Why : Refusal → Type 0) (a : A) → Refuses Why (Granted a)
granted_refuses Why a why e = absurd (let q = e in grind arith)

pub command_answered : (command : Command) (slots : List ℕ) (n : ℕ) (ps : Parts) (activity : List Interval) (changes : List Made) → ps.master.clock < n → Inv ps activity changes → RecordsApart ps.master.catalog.namespaces
    → CommandAnswer command (planned command slots n ps).reply n ps activity changes
unfolding create_namespace drop_namespace create_table add_column drop_column rename_table drop_table split create_schedule edit_schedule delete_schedule take_snapshot list_tablets
command_answered (CreateNamespace name) slots n ps activity changes before inv apart =
    let W : Refusal → Type 0 = λ why. IsNameTaken why ⊎ (why ≡ TooMany most_namespaces) in
    decided_answers MakesOne W (judge_create_namespace name ps.master) _
    (checked_is W (Granted (next_namespace ps.master)) (λ id. create_namespace_checks name ps.master) (granted_refuses W (next_namespace ps.master)) (λ _. ((λ by _. inl (by, refl)), ((λ _. inr refl), tt))))
    (λ id. (id, refl))
command_answered (DropNamespace name) slots n ps activity changes before inv apart =
    let W : Refusal → Type 0 = λ why. IsClosed why ⊎ ((table : Id) × (why ≡ NotEmpty table)) ⊎ ((schedule : Id) × (why ≡ UnderSchedule schedule)) in
    decided_answers MakesNone W (judge_drop_namespace name ps.master) _
    (checked_is W (found_namespace ps.master name) (λ ns. drop_namespace_checks ns ps.master) (namespace_refuses W ps.master name (inl (inl refl)))
    (λ _. ((λ by _. inl (inr (by, refl))), ((λ table _. inr (inl (table, refl))), ((λ schedule _. inr (inr (schedule, refl))), tt)))))
    (λ ns. refl)
command_answered (CreateTable namespace table tablets columns) slots n ps activity changes before inv apart =
    let m = ps.master in
    let W : Refusal → Type 0 = λ why. IsClosed why ⊎ IsNameTaken why ⊎ (why ≡ TooMany most_tables) ⊎ IsSlotsFull tablets why in
    decided_answers MakesOne W (judge_create_table namespace table tablets m) _
    (checked_is W (found_namespace m namespace) (λ ns. create_table_checks ns table tablets m) (namespace_refuses W m namespace (inl (inl refl)))
    (λ _. ((λ by _. inl (inr (by, refl))), ((λ by _. inr (inl (by, refl))), ((λ _. inr (inr (inl refl))), ((λ less. inr (inr (inr (length (free_slots m), (refl, ltb-true _ _ less))))), tt))))))
    (λ ns. (next_table m, refl))
command_answered (AddColumn namespace table name kind) slots n ps activity changes before inv apart =
    let W : Refusal → Type 0 = λ why. IsTableClosed why ⊎ IsNameTaken why ⊎ (why ≡ TooMany most_columns) in
    decided_answers MakesNone W (judge_add_column namespace table name ps.master) _
    (checked_is W (found_table ps.master namespace table) (λ t. add_column_checks t name ps.master) (table_refuses W ps.master namespace table (inl (inr (inl refl))) (inl (inl refl)))
    (λ t. ((λ by _. inl (inr (inr (by, refl)))), ((λ _. inr (inl (t.id, refl))), ((λ _. inr (inr refl)), tt)))))
    (λ t. refl)
command_answered (DropColumn namespace table name) slots n ps activity changes before inv apart =
    let m = ps.master in
    let W : Refusal → Type 0 = λ why. IsTableClosed why ⊎ (why ≡ UnknownColumn) in
    decided_answers MakesNone W (judge_drop_column namespace table name m) _
    (checked_is W (found_column m namespace table name) (λ c. unheld_checks c.table.namespace m)
    (found_is W (found_table m namespace table) (column_of name) UnknownColumn (table_refuses W m namespace table (inl (inr (inl refl))) (inl (inl refl))) (λ _ _. inr refl))
    (λ c. ((λ by _. inl (inr (inr (by, refl)))), tt)))
    (λ c. refl)
command_answered (RenameTable namespace table name) slots n ps activity changes before inv apart =
    let W : Refusal → Type 0 = λ why. IsTableClosed why ⊎ IsNameTaken why in
    decided_answers MakesNone W (judge_rename_table namespace table name ps.master) _
    (checked_is W (found_table ps.master namespace table) (λ t. rename_table_checks t name ps.master) (table_refuses W ps.master namespace table (inl (inr (inl refl))) (inl (inl refl)))
    (λ t. ((λ by _. inl (inr (inr (by, refl)))), ((λ by _. inr (by, refl)), tt))))
    (λ t. refl)
command_answered (DropTable namespace table) slots n ps activity changes before inv apart =
    decided_answers MakesNone IsTableClosed (judge_drop_table namespace table ps.master) _
    (checked_is IsTableClosed (found_table ps.master namespace table) (λ t. unheld_checks t.namespace ps.master) (table_refuses IsTableClosed ps.master namespace table (inr (inl refl)) (inl refl))
    (λ t. ((λ by _. inr (inr (by, refl))), tt)))
    (λ t. refl)
command_answered (Split namespace table code) slots n ps activity changes before inv apart =
    let m = ps.master in
    let W : Refusal → Type 0 = λ why. IsTableClosed why ⊎ (why ≡ TooNarrow code) ⊎ IsSlotsFull 2 why in
    decided_answers MakesTwo W (judge_split namespace table code m) _
    (found_is W (checked (found_parent m namespace table code) (λ p. split_checks p code m)) (λ p. family p (free_slots m)) (SlotsFull (length (free_slots m)) 2)
    (checked_is W (found_parent m namespace table code) (λ p. split_checks p code m)
    (found_is W (found_table m namespace table) (λ t. option_map (λ i. record { table = t; tablet = i }) (holding m t.id code)) UnknownTable (table_refuses W m namespace table (inl (inr (inl refl))) (inl (inl refl))) (λ _ _. inl (inl refl)))
    (λ p. ((λ by _. inl (inr (inr (by, refl)))), ((λ low. inr (inl (ap TooNarrow (sym (eqb-true code p.tablet.low low))))), tt))))
    (λ p none. inr (inr (length (free_slots m), (refl, few_free p (free_slots m) none)))))
    (λ f. (next_tablet m.drawn.tablets 1, next_tablet m.drawn.tablets 2, refl))
command_answered (CreateSchedule interval retention namespace) slots n ps activity changes before inv apart =
    let m = ps.master in
    let W : Refusal → Type 0 = λ why. IsClosed why ⊎ (why ≡ TooMany most_schedules) ⊎ (why ≡ BadPeriod interval retention) in
    decided_answers MakesOne W (judge_create_schedule interval retention namespace m) _
    (checked_is W (found_namespace m namespace) (λ ns. create_schedule_checks ns interval retention m) (namespace_refuses W m namespace (inl (inl refl)))
    (λ ns. ((λ by _. inl (inr (by, refl))), ((λ _. inr (inl refl)), ((λ _. inr (inr refl)), tt)))))
    (λ ns. (next_schedule m, refl))
command_answered (EditSchedule schedule interval retention) slots n ps activity changes before inv apart =
    let W : Refusal → Type 0 = λ why. (why ≡ UnknownSchedule) ⊎ (why ≡ BadPeriod interval retention) in
    decided_answers MakesNone W (judge_edit_schedule schedule interval retention ps.master) _
    (checked_is W (found_schedule ps.master schedule) (λ s. edit_schedule_checks interval retention) (schedule_refuses W ps.master schedule (inl refl)) (λ s. ((λ _. inr refl), tt)))
    (λ s. refl)
command_answered (DeleteSchedule schedule) slots n ps activity changes before inv apart =
    decided_answers MakesNone IsScheduleClosed (judge_delete_schedule schedule ps.master) _
    (checked_is IsScheduleClosed (found_schedule ps.master schedule) (λ s. delete_schedule_checks s ps.master) (schedule_refuses IsScheduleClosed ps.master schedule (inl refl)) (λ s. ((λ by _. inr (by, refl)), tt)))
    (λ s. refl)
command_answered (TakeSnapshot schedule) slots n ps activity changes before inv apart =
    let m = ps.master in
    let W : Refusal → Type 0 = λ why. IsScheduleClosed why ⊎ ((next : ℕ) × ((why ≡ NotDue next) × (n < next))) in
    decided_answers MakesOne W (judge_take_snapshot schedule n m) _
    (checked_is W (found_schedule m schedule) (λ s. take_snapshot_checks s n m) (schedule_refuses W m schedule (inl (inl refl)))
    (λ s. ((λ by _. inl (inr (by, refl))), ((λ early. inr (next_due s, (refl, leb-false (next_due s) n (not_true _ early)))), tt))))
    (λ s. (next_snapshot m, refl))
command_answered (Restore schedule to) slots n ps activity changes before inv apart = restore_answered schedule to n ps.master
command_answered (CloneNamespace source target at) slots n ps activity changes before inv apart = clone_answered ps activity changes n source target at before inv apart
command_answered (ListTablets namespace) slots n ps activity changes before inv apart =
    let h = asked ps.master n changes before inv.master in
    by (namespace_named ps.master.catalog.namespaces namespace) (λ none. no_namespace ps.master n changes namespace h none) (λ id some. namespace_found ps.master n changes namespace id h some)
  where
    by : (found : Option Id) → (found ≡ None → NamespaceFound changes n namespace → ⊥) → ((id : Id) → found ≡ Some id → namespace_at changes n id ≡ Some namespace)
        → ((ns : NamespaceFound changes n namespace) × ((decided (ok_or found UnknownNamespace) (λ ns. answered (Tablets (tablet_lines ps.master ns)))).reply ≡ Tablets (tablet_lines ps.master ns.id)))
        ⊎ ((NamespaceFound changes n namespace → ⊥) × ((decided (ok_or found UnknownNamespace) (λ ns. answered (Tablets (tablet_lines ps.master ns)))).reply ≡ Refused UnknownNamespace))
    by None missing there = inr (missing refl, refl)
    by (Some ns) missing there = inl (record { id = ns; named = there ns refl }, refl)
command_answered _ slots n ps activity changes before inv apart = refl

-- The plan

slots_self : (xs : List ℕ) → same_slots xs xs ≡ true
slots_self [] = refl
slots_self (x ∷ xs) = passes_both _ _ (grind (arith, nat_tests)) (slots_self xs)

-- slots that are a plan are equal to it, and others are not
pub slots_apart : (slots plan : List ℕ) → same_slots slots plan ≡ false → slots ≢ plan
slots_apart slots plan e is = true≢false (sym (ap (same_slots slots) (sym is) ∙ slots_self slots) ∙ e)

pub change_answered : (command : Command) (slots : List ℕ) (n : ℕ) (ps : Parts) (activity : List Interval) (changes : List Made) → ps.master.clock < n → Inv ps activity changes → RecordsApart ps.master.catalog.namespaces
    → ChangeAnswer command slots (change command slots n ps).reply n ps activity changes
unfolding change
change_answered command slots n ps activity changes before inv apart =
    let plan = plan_of command ps.master in
    either_way (same_slots slots plan)
    (λ b. inr (slots_equal slots plan b, rw b (command_answered command slots n ps activity changes before inv apart)))
    (λ b. inl (slots_apart slots plan b, rw b refl))
