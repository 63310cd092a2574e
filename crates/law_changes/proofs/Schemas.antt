-- Tables get columns, lose them, and change their names.
use Rattle.std.proofs.Common.{ℕ, ◌≡◌, ◌≤◌, ◌<◌, ◌+◌, List, [], ◌∷◌, Option, Some, None, false, inl, inr, refl, sym, ap, subst, ◌∙◌, arith, le_of_lt}
use Rattle.std.specs.Prelude.{is_some, option_map, Ok}
use Rattle.model.specs.Cluster.{Column, ColumnKind, Schema, column_named, with_column, without_column, SetVersion, AddColumn, DropColumn, RenameTable, Change, UnknownColumn, Master, Parts, AddsColumn, DropsColumn, RenamesTable, In, Interval}
use Rattle.model.specs.Journal.{Change as Made, ColumnAdded, ColumnDropped, TableRenamed}
use Rattle.model.specs.Catalog.{TableRecord, end_table}
use Rattle.model.specs.Operations.{holder}
use Rattle.model.specs.Looks.{found_table}
use Rattle.model.specs.Changes.{add_column_checks, judge_add_column, ColumnOf, column_of, found_column, unheld_checks, judge_drop_column, rename_table_checks, judge_rename_table, tell, add_column, drop_column, rename_table}
use Rattle.model.specs.Changed.{table_changed}
use Rattle.model.specs.History.{with}
use Rattle.law_invariants.specs.Invariant.{MasterGood, Inv, Later}
use Rattle.law_invariants.proofs.Ticking.{by_judgement, refused_keeps, KeepsAll}
use Rattle.law_invariants.proofs.Judging.{and_found_is, checked_is}
use Rattle.law_invariants.proofs.Records.{IsCurrent}
use Rattle.law_invariants.proofs.Journaling.{IsQuiet, column_added_quiet, column_dropped_quiet, table_renamed_quiet}
use Rattle.law_invariants.proofs.Cataloguing.{catalog_of, catalog_column_added, catalog_column_dropped, catalog_table_renamed, table_is}
use Rattle.law_invariants.proofs.Working.{SameFixed, before_any}
use Rattle.law_invariants.proofs.Undoing.{one_more}
use Rattle.law_invariants.proofs.Told.{master_early, told_either}
use Rattle.law_invariants.proofs.Quiet.{IsMild, Follows, quiet_keeps, quiet_works, same_drawn, KeepsCatalog, same_names, marks_stay, ended_tables}
use Rattle.law_invariants.specs.Operations.{OperationsGood}
use Rattle.law_invariants.proofs.Operating.{NotHeld, not_held}
use Rattle.law_invariants.proofs.Finding.{in_append}

-- the table goes on under another name or schema
follows_changed : (m : Master) (t : TableRecord) (name : List ℕ) (schema : Schema) (n : ℕ) (changes new : List Made) → m.clock < n → IsQuiet changes new → SameFixed changes new → Follows m (table_changed t name schema n m) changes new
follows_changed m t name schema n changes new before quiet same_ =
    let clock : m.clock ≤ n = le_of_lt before in
    let quiet_now : IsQuiet changes new = quiet in
    let same__now : SameFixed changes new = same_ in
    assumption (clock, quiet_now, same__now)

-- what operations read of the catalog stays: the table's namespace is not held
table_changed_keeps : (m : Master) (n : ℕ) (t : TableRecord) (table name : List ℕ) (schema : Schema) (changes : List Made) → m.clock ≤ n → IsCurrent m.catalog.tables t.namespace table t
    → is_some (holder m t.namespace) ≡ false → MasterGood m changes → OperationsGood m changes → KeepsCatalog m n (table_changed t name schema n m).catalog m.drawn
table_changed_keeps m n t table name schema changes le current free h ops =
    let unheld = not_held m t.namespace free in
    record {
      tables_held = λ other r isin of held. elim (in_append (end_table t.id n m.catalog.tables) (record t { name = name; schema = schema; from = n; to = None } ∷ []) r isin) [
        | inl old ↦ ended_tables m n t t.namespace other changes current.listed refl unheld h held r old of
        | inr new ↦ (elim new as (λ _. In r m.catalog.tables) [
          | inl e ↦ absurd (held (subst (NotHeld m) (ap (λ k. k.namespace) e ∙ of) unheld))
          | inr none ↦ absurd none
        ])
      ];
      names = same_names m;
      kept = λ other. marks_stay m n (table_changed t name schema n m).catalog m.activity m.drawn changes other le ops;
    }

pub add_column_keeps : (ps : Parts) (activity : List Interval) (changes : List Made) (n : ℕ) (namespace table name : List ℕ) (kind : ColumnKind) (slots : List ℕ) → Later (0 ∷ slots) ps n → Inv ps activity changes
    → KeepsAll (Change (AddColumn namespace table name kind) slots) n ps activity changes (add_column namespace table name kind slots ps.master)
unfolding add_column
add_column_keeps ps activity changes n namespace table name kind slots later inv =
    let m = ps.master in
    let command = AddColumn namespace table name kind in
    let before : m.clock < n = master_early slots ps n later in
    by_judgement (Change command slots) n ps activity changes (judge_add_column namespace table name m) _
    (λ why. refused_keeps (Change command slots) why n ps activity changes later inv refl)
    (λ t found.
    let judged = checked_is (found_table m namespace table) (λ t. add_column_checks t name m) t found in
    let current = table_is m namespace table t judged.0 in
    let act = ColumnAdded t.id (record { id = t.schema.next; name = name; kind = kind }) in
    let new = with n act changes in
    let quiet = column_added_quiet n t.id _ changes in
    let fixed : SameFixed changes new = record { fixed = λ ns to. refl; switched = λ ns point is. is; before = λ ns point is. before_any changes ns point _ changes is } in
    quiet_keeps command slots (AddsColumn t name kind) (tell slots (SetVersion (t.schema.version + 1))) [] n ps activity changes new later inv refl
    (follows_changed m t t.name (with_column name kind t.schema) n changes new before quiet fixed)
    (quiet_works ps activity changes new n _ _ inv (le_of_lt before) (same_drawn m.drawn) refl quiet fixed.switched fixed.before
    (one_more changes _ (λ table key op e. let q = e in grind arith) (λ ns point. refl))
    (table_changed_keeps m n t table t.name (with_column name kind t.schema) changes (le_of_lt before) current judged.1.0 inv.master inv.operations))
    (catalog_column_added m n t table name kind changes (le_of_lt before) current judged.1.1.0 (catalog_of m changes inv.master))
    (λ i. told_either IsMild slots (SetVersion (t.schema.version + 1)) i tt tt))

pub column_found : (t : TableRecord) (name : List ℕ) (c : ColumnOf) → column_of name t ≡ Some c → (c.table ≡ t) × (column_named t.schema.columns name ≡ Some c.column)
column_found t name c e = by_column (column_named t.schema.columns name) refl
  where
    by_column : (o : Option Column) → column_named t.schema.columns name ≡ o → (c.table ≡ t) × (o ≡ Some c.column)
    by_column None is = absurd (let q : None ≡ Some c = sym (ap (λ o. option_map {T = Column} (λ k. record { table = t; column = k }) o) is) ∙ e in grind arith)
    by_column (Some k) is = let q : Some (record { table = t; column = k }) ≡ Some c = sym (ap (λ o. option_map {T = Column} (λ k. record { table = t; column = k }) o) is) ∙ e in
        let one : ColumnOf = record { table = t; column = k } in let same : one ≡ c = cc in (sym (ap (λ x. x.table) same), ap (λ x. Some x.column) same)

pub drop_column_keeps : (ps : Parts) (activity : List Interval) (changes : List Made) (n : ℕ) (namespace table name slots : List ℕ) → Later (0 ∷ slots) ps n → Inv ps activity changes
    → KeepsAll (Change (DropColumn namespace table name) slots) n ps activity changes (drop_column namespace table name slots ps.master)
unfolding drop_column
drop_column_keeps ps activity changes n namespace table name slots later inv =
    let m = ps.master in
    let command = DropColumn namespace table name in
    let before : m.clock < n = master_early slots ps n later in
    by_judgement (Change command slots) n ps activity changes (judge_drop_column namespace table name m) _
    (λ why. refused_keeps (Change command slots) why n ps activity changes later inv refl)
    (λ c found.
    let t = c.table in
    let judged = checked_is (found_column m namespace table name) (λ c. unheld_checks c.table.namespace m) c found in
    let by = and_found_is (found_table m namespace table) (column_of name) UnknownColumn c judged.0 in
    let column = column_found by.0 name c by.1.1 in
    let current = table_is m namespace table t (by.1.0 ∙ ap Ok (sym column.0)) in
    let named : column_named t.schema.columns name ≡ Some c.column = ap (λ k. column_named k.schema.columns name) column.0 ∙ column.1 in
    let act = ColumnDropped t.id c.column.id in
    let new = with n act changes in
    let quiet = column_dropped_quiet n t.id _ changes in
    let fixed : SameFixed changes new = record { fixed = λ ns to. refl; switched = λ ns point is. is; before = λ ns point is. before_any changes ns point _ changes is } in
    quiet_keeps command slots (DropsColumn t c.column) (tell slots (SetVersion (t.schema.version + 1))) [] n ps activity changes new later inv refl
    (follows_changed m t t.name (without_column c.column.name t.schema) n changes new before quiet fixed)
    (quiet_works ps activity changes new n _ _ inv (le_of_lt before) (same_drawn m.drawn) refl quiet fixed.switched fixed.before
    (one_more changes _ (λ table key op e. let q = e in grind arith) (λ ns point. refl))
    (table_changed_keeps m n t table t.name (without_column c.column.name t.schema) changes (le_of_lt before) current judged.1.0 inv.master inv.operations))
    (catalog_column_dropped m n t table name c.column changes (le_of_lt before) current named (catalog_of m changes inv.master))
    (λ i. told_either IsMild slots (SetVersion (t.schema.version + 1)) i tt tt))

pub rename_table_keeps : (ps : Parts) (activity : List Interval) (changes : List Made) (n : ℕ) (namespace table name slots : List ℕ) → Later (0 ∷ slots) ps n → Inv ps activity changes
    → KeepsAll (Change (RenameTable namespace table name) slots) n ps activity changes (rename_table namespace table name ps.master)
unfolding rename_table
rename_table_keeps ps activity changes n namespace table name slots later inv =
    let m = ps.master in
    let command = RenameTable namespace table name in
    let before : m.clock < n = master_early slots ps n later in
    by_judgement (Change command slots) n ps activity changes (judge_rename_table namespace table name m) _
    (λ why. refused_keeps (Change command slots) why n ps activity changes later inv refl)
    (λ t found.
    let judged = checked_is (found_table m namespace table) (λ t. rename_table_checks t name m) t found in
    let current = table_is m namespace table t judged.0 in
    let act = TableRenamed t.id name in
    let new = with n act changes in
    let quiet = table_renamed_quiet n t.id name changes in
    let fixed : SameFixed changes new = record { fixed = λ ns to. refl; switched = λ ns point is. is; before = λ ns point is. before_any changes ns point _ changes is } in
    quiet_keeps command slots (RenamesTable t name) [] [] n ps activity changes new later inv refl
    (follows_changed m t name t.schema n changes new before quiet fixed)
    (quiet_works ps activity changes new n _ _ inv (le_of_lt before) (same_drawn m.drawn) refl quiet fixed.switched fixed.before
    (one_more changes _ (λ table key op e. let q = e in grind arith) (λ ns point. refl))
    (table_changed_keeps m n t table name t.schema changes (le_of_lt before) current judged.1.0 inv.master inv.operations))
    (catalog_table_renamed m n t table name changes (le_of_lt before) current judged.1.1.0 (catalog_of m changes inv.master))
    (λ i. tt))
