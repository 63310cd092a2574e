-- Each entry of the master's log raises the version of a table's schema, and the next id of its columns, by one at most.
use Rattle.std.proofs.Common.{◌≡◌, ℕ, ◌≤◌, ◌+◌, Bool, true, false, List, [], ◌∷◌, ◌++◌, inl, inr, Option, Some, None, refl, sym, ap, subst, ◌∙◌, arith, eqb, length, map, not, if◌then◌else◌}
use Rattle.std.specs.Prelude.{Result, Ok as Granted, Err as Denied}
use Rattle.std.specs.Option.{unwrap_or}
use Rattle.std.proofs.lemmas.Bool.{cond_both}
use Rattle.model.specs.Cluster.{Id, has, same, same_slots, Schema, In, TableRecord, with_column, without_column, ended, RestorationRecord, RestorationState, Switching, CloneRecord, CloneState, Accepted, Copying, State, first_unacked}
use Rattle.model.specs.Catalog.{latest_from, end_table, change_table}
use Rattle.model.specs.Restored.{cloned_tables, restored_tables}
use Rattle.model.specs.Acts.{Act, Change, Advance, Prune, Command, CreateNamespace, DropNamespace, CreateTable, AddColumn, DropColumn, RenameTable, DropTable, Split, CreateSchedule, EditSchedule, DeleteSchedule, TakeSnapshot, Restore, CloneNamespace, ListTablets, Refusal, StalePlan, UnknownColumn}
use Rattle.model.specs.Parts.{Master, Parts, Outcome, MasterAct, MakesTable, AddsColumn, DropsColumn, RenamesTable, DropsTable, Acks, Moves, Removes, Prunes, If, unless, decided, refusal_in}
use Rattle.model.specs.Changed.{clone_time}
use Rattle.model.specs.Changes.{change, planned, create_namespace, drop_namespace, create_table, add_column, add_column_checks, drop_column, column_of, found_column, unheld_checks, rename_table, rename_table_checks, drop_table, split, create_schedule, edit_schedule, delete_schedule, take_snapshot, restore, clone_namespace, list_tablets, judge_create_namespace, judge_drop_namespace, judge_create_table, judge_add_column, judge_drop_column, judge_rename_table, judge_drop_table, judge_split, judge_create_schedule, judge_edit_schedule, judge_delete_schedule, judge_take_snapshot, judge_restore, judge_clone}
use Rattle.model.specs.Cleanup.{prune, is_old_table}
use Rattle.model.specs.Entries.{Entry, slots_of, log_of, ActAsked, CommandAsked}
use Rattle.model.specs.History.{Legal, held, master_effect, outcome, replay}
use Rattle.model.specs.Looks.{found_namespace, found_table, plan_of}
use Rattle.model.specs.Moves.{Progress, advance, advancing, clone_moved, moving, progress_of, restoration_moved, waits_for}
use Rattle.law_invariants.proofs.Cataloguing.{table_is}
use Rattle.law_invariants.proofs.Effects.{begins_each, moved_each}
use Rattle.law_invariants.proofs.Finding.{filter_in, in_added, in_append, in_mapped}
use Rattle.law_invariants.proofs.Judging.{and_found_is, checked_is}
use Rattle.law_invariants.proofs.Records.{record_at_is}
use Rattle.law_changes.proofs.Schemas.{column_found}
use Rattle.law_clones.proofs.Cataloguing.{cloned_is}
use Rattle.law_moves.proofs.Backing.{new_is}
use Rattle.law.proofs.Telling.{Commands, told_each}
use Rattle.law.proofs.Drawing.{least_zero}
use Rattle.law.proofs.Plain.{act_none, is_weighty}
use Rattle.law.proofs.Numbering.{plain_tables}

-- a schema after at most so many changes; a new table has at most 16 columns
abbrev pub SchemaWithin : ℕ → Schema → Type 0
SchemaWithin most s = (s.version ≤ most) × (s.next ≤ most + 16)

abbrev pub TablesWithin : ℕ → List TableRecord → Type 0
TablesWithin most rs = (r : TableRecord) → In r rs → SchemaWithin most r.schema

within_more : (most : ℕ) (s : Schema) → SchemaWithin most s → SchemaWithin (1 + most) s
within_more most s h =
    let version : s.version ≤ most = h.0 in
    let next : s.next ≤ most + 16 = h.1 in
    (omega arith, omega arith)

-- Lists of records

tables_same : (most : ℕ) (rs : List TableRecord) → TablesWithin most rs → TablesWithin (1 + most) rs
tables_same most rs h = λ r isin. within_more most r.schema (h r isin)

-- records that end where they did, or elsewhere
tables_ended : (most : ℕ) (rs : List TableRecord) (to : TableRecord → Option ℕ) → TablesWithin most rs
    → TablesWithin (1 + most) (map {A = TableRecord} (λ r. record r { to = to r }) rs)
tables_ended most rs to h = in_mapped {A = TableRecord} (λ r. record r { to = to r })
    (λ r. SchemaWithin (1 + most) r.schema) rs (tables_same most rs h)

table_goes_on : (most : ℕ) (rs : List TableRecord) (t : TableRecord) (name : List ℕ) (s : Schema) (n : ℕ)
    → SchemaWithin (1 + most) s → TablesWithin most rs → TablesWithin (1 + most) (change_table t name s n rs)
table_goes_on most rs t name s n new h = in_added (λ r. SchemaWithin (1 + most) r.schema) (end_table t.id n rs)
    (record t { name = name; schema = s; from = n; to = None })
    (tables_ended most rs (λ r. if same r.id t.id then ended n r.to else r.to) h) new

-- the newest schema of a table is that of a record
newest_within : (rs : List TableRecord) (id : Id) (found : Option Schema) (own : Schema) (most : ℕ)
    → TablesWithin most rs → SchemaWithin most (unwrap_or found own)
    → SchemaWithin most (unwrap_or (latest_from rs id found) own)
newest_within [] id found own most h so_far = so_far
newest_within (r ∷ rs) id found own most h so_far =
    newest_within rs id (if same r.id id then Some r.schema else found) own most (λ q isin. h q (inr isin))
    (cond_both (same r.id id) (Some r.schema) found (λ f. SchemaWithin most (unwrap_or f own))
    (λ here. h r (inl refl)) (λ other. so_far))

tables_restored : (most : ℕ) (rs : List TableRecord) (ns : Id) (to point : ℕ) → TablesWithin most rs
    → TablesWithin (1 + most) (restored_tables rs ns to point)
tables_restored most rs ns to point h = new_is (λ r. SchemaWithin (1 + most) r.schema) rs ns to point
    (tables_same most rs h)
    (λ r isin held is.
    let newest = newest_within rs r.id None r.schema most h (h r isin) in
    let version : _ ≤ most = newest.0 in
    let next : _ ≤ most + 16 = newest.1 in (omega arith, omega arith))

tables_cloned : (most : ℕ) (rs : List TableRecord) (r : CloneRecord) (n : ℕ) → TablesWithin most rs
    → TablesWithin (1 + most) (rs ++ cloned_tables r.tables rs r.target_id r.to n)
tables_cloned most rs r n h q isin = elim (in_append rs (cloned_tables r.tables rs r.target_id r.to n) q isin) [
  | inl there ↦ within_more most q.schema (h q there)
  | inr came ↦
      (let k = cloned_is rs r.target_id r.to n r.tables q came in
      let was = record_at_is rs k.pair.source r.to k.was k.found in
      let next : _ ≤ most + 16 = (newest_within rs k.was.id None k.was.schema most h (h k.was was.listed)).1 in
      subst (λ t. SchemaWithin (1 + most) t.schema) k.is (omega arith, omega arith))
]

-- What the master is told

-- a new table has at most 16 columns, and a table that changes is one of the catalog's
abbrev pub MayGive : ℕ → MasterAct → Type 0
MayGive most (MakesTable namespace name columns slots) = length columns ≤ 16
MayGive most (AddsColumn t name kind) = SchemaWithin most t.schema
MayGive most (DropsColumn t column) = SchemaWithin most t.schema
MayGive most (RenamesTable t name) = SchemaWithin most t.schema
MayGive most _ = Unit {0}

abbrev MovesWithin : ℕ → Master → Master → Type 0
MovesWithin most before after = TablesWithin most before.catalog.tables → TablesWithin (1 + most) after.catalog.tables

state_within : (state : RestorationState) (r : RestorationRecord) (most n : ℕ) (m : Master)
    → MovesWithin most m (restoration_moved state r n m)
state_within (Switching point serving) r most n m h = tables_restored most m.catalog.tables r.namespace r.to point h
state_within _ r most n m h = tables_same most m.catalog.tables h

clone_state_within : (state : CloneState) (r : CloneRecord) (most n : ℕ) (m : Master)
    → MovesWithin most m (clone_moved state r n m)
clone_state_within Accepted r most n m h =
    let same_ = tables_same most m.catalog.tables h in
    begins_each (λ k. TablesWithin (1 + most) k.catalog.tables) r n m (λ serving. same_) (λ s. same_) same_
clone_state_within (Copying serving at) r most n m h = tables_cloned most m.catalog.tables r n h
clone_state_within _ r most n m h = tables_same most m.catalog.tables h

effect_within : (a : MasterAct) (most n : ℕ) (m : Master) → MayGive most a → MovesWithin most m (master_effect a n m)
effect_within (MakesTable ns name columns slots) most n m few h =
    in_added (λ r. SchemaWithin (1 + most) r.schema) m.catalog.tables _ (tables_same most m.catalog.tables h)
    (omega arith, omega (arith, few))
effect_within (AddsColumn t name kind) most n m may h =
    let version : t.schema.version ≤ most = may.0 in
    let next : t.schema.next ≤ most + 16 = may.1 in
    table_goes_on most m.catalog.tables t t.name (with_column name kind t.schema) n (omega arith, omega arith) h
effect_within (DropsColumn t column) most n m may h =
    let version : t.schema.version ≤ most = may.0 in
    let next : t.schema.next ≤ most + 16 = may.1 in
    table_goes_on most m.catalog.tables t t.name (without_column column.name t.schema) n (omega arith, omega arith) h
effect_within (RenamesTable t name) most n m may h =
    table_goes_on most m.catalog.tables t name t.schema n (within_more most t.schema may) h
effect_within (DropsTable table) most n m may h =
    tables_ended most m.catalog.tables (λ r. if same r.id table then ended n r.to else r.to) h
effect_within (Moves operation) most n m may h =
    let same_ = tables_same most m.catalog.tables h in
    moved_each (λ k. TablesWithin (1 + most) k.catalog.tables) operation.kind operation n m same_ (λ r e. same_)
    (λ r e. state_within r.state r most n m h) (λ c e. clone_state_within c.state c most n m h)
effect_within Prunes most n m may h = λ r isin.
    tables_same most m.catalog.tables h r (filter_in m.catalog.tables (λ r. not (is_old_table m n r)) r isin).0
effect_within (Acks operation slot) most n m may h =
    subst (TablesWithin (1 + most)) (sym (plain_tables (Acks operation slot) n m refl)) (tables_same most m.catalog.tables h)
effect_within (Removes target) most n m may h =
    subst (TablesWithin (1 + most)) (sym (plain_tables (Removes target) n m refl)) (tables_same most m.catalog.tables h)
effect_within _ most n m may h = tables_same most m.catalog.tables h

-- What an act comes to

command_gives : (Asked : Type 0) (m : Master) (a : MasterAct) (most : ℕ) → Commands Asked m a → Asked
    → TablesWithin most m.catalog.tables → MayGive most a
command_gives Asked m (MakesTable namespace name columns slots) most told asked h = told asked
command_gives Asked m (AddsColumn t name kind) most told asked h = h t told.0
command_gives Asked m (DropsColumn t column) most told asked h = h t told.0
command_gives Asked m (RenamesTable t name) most told asked h = h t told.0
command_gives Asked m _ most told asked h = tt

plain_gives : (a : MasterAct) (most : ℕ) → is_weighty a ≡ false → MayGive most a
plain_gives (MakesTable namespace name columns slots) most plain = absurd (let q = plain in grind arith)
plain_gives (AddsColumn t name kind) most plain = absurd (let q = plain in grind arith)
plain_gives (DropsColumn t column) most plain = absurd (let q = plain in grind arith)
plain_gives (RenamesTable t name) most plain = absurd (let q = plain in grind arith)
plain_gives _ most plain = tt

act_gives : (act : Act) (slots most n : ℕ) (ps : Parts) → ActAsked slots act
    → TablesWithin most ps.master.catalog.tables → MayGive most (outcome act n ps).master
act_gives act slots most n ps asked h = told_each (MayGive most) act n ps
    (λ command plan a is told. command_gives _ ps.master a most told (subst (ActAsked slots) is asked).0 h)
    (λ operation. tt) tt (λ a plain. plain_gives a most plain)

-- After each entry

-- an entry that touches the master is in its log
entry_within : (touched logged : Bool) (most : ℕ) (before after : Master) → (touched ≡ true → logged ≡ true)
    → TablesWithin most before.catalog.tables → TablesWithin (1 + most) after.catalog.tables
    → TablesWithin (if logged then 1 + most else most) (if touched then after else before).catalog.tables
entry_within true true most before after log h new = new
entry_within true false most before after log h new = absurd (let q = log refl in grind arith)
entry_within false true most before after log h new = tables_same most before.catalog.tables h
entry_within false false most before after log h new = h

pub tables_within : (history : List Entry) (slots : ℕ) → Legal slots history
    → TablesWithin (held 0 history) (replay slots history).master.catalog.tables
unfolding replay
tables_within [] slots legal = λ r isin. absurd isin
tables_within (e ∷ earlier) slots legal =
    let ps = replay slots earlier in
    let act = e.event.act in
    let h = tables_within earlier slots legal.0 in
    entry_within (has (slots_of act) 0) (eqb (log_of act) 0) (held 0 earlier) ps.master
    (master_effect (outcome act e.stamp ps).master e.stamp ps.master)
    (λ touched. ap (λ k. eqb k 0) (least_zero (slots_of act) touched)) h
    (effect_within (outcome act e.stamp ps).master (held 0 earlier) e.stamp ps.master
    (act_gives act slots (held 0 earlier) e.stamp ps legal.1.asked.act h) h)
