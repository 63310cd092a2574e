-- What the master is told of a table that goes on, its judgement and the law allow.
use Rattle.std.proofs.Common.{ℕ, ◌≡◌, ◌<◌, ◌+◌, ◌^◌, true, false, is_some, List, [], ◌∷◌, Option, Some, None, Ok as Granted, bytes_eq, refl, sym, ap, ap₂, ◌∙◌, arith}
use Rattle.std.specs.Option.{option_map}
use Rattle.row_values.specs.Schema.{Schema, Column, column_named}
use Rattle.law_store.proofs.Keys.{either_way, equal_keys}
use Rattle.model.specs.Acts.{UnknownTable, UnknownColumn}
use Rattle.model.specs.Catalog.{TableRecord, current_named}
use Rattle.model.specs.Parts.{Master}
use Rattle.model.specs.Looks.{found_namespace, found_table}
use Rattle.model.specs.Changes.{judge_add_column, add_column_checks, judge_drop_column, ColumnOf, column_of, found_column, unheld_checks, judge_rename_table, rename_table_checks, table_id}
use Rattle.law_invariants.proofs.Finding.{same_self}
use Rattle.law_invariants.proofs.Judging.{and_found_is, checked_is}
use Rattle.law_invariants.proofs.Records.{current_named_is}
use Rattle.law_invariants.proofs.Cataloguing.{table_is}
use Rattle.catalog_core.specs.Kept.{is_free_for}
use Rattle.master_part.specs.Acts.{IsLawful, ChangeFits, goes_on}
use Rattle.master_acts.proofs.Allowed.{ends_later}

column_name : (cs : List Column) (name : List ℕ) (c : Column) → column_named cs name ≡ Some c → c.name ≡ name
column_name [] name c e = absurd (cc)
column_name (d ∷ cs) name c e = either_way (bytes_eq d.name name)
    (λ b. let q : Some d ≡ Some c = rw b at e in
    let is : d ≡ c = cc in
    ap (λ (k : Column). k.name) (sym is) ∙ equal_keys d.name name b)
    (λ b. column_name cs name c (rw b at e))

module _ (m : Master) (ns table : List ℕ) where
  -- a table that was found by its name is found by its own
  named_itself : (t : TableRecord) → found_table m ns table ≡ Granted t → current_named m.catalog.tables t.namespace t.name ≡ Some t
  named_itself t is =
      let f = and_found_is (found_namespace m ns) (λ id. current_named m.catalog.tables id table) UnknownTable t is in
      let c = current_named_is m.catalog.tables f.0 table t f.1.1 in
      ap₂ (current_named m.catalog.tables) c.namespace_is c.name_is ∙ f.1.1

  few_changes : (t : TableRecord) → found_table m ns table ≡ Granted t → IsLawful m
      → (t.schema.version + 1 < 2 ^ 32) × (t.schema.next + 1 < 2 ^ 32)
  few_changes t is lawful = lawful.columns t (table_is m ns table t is).listed

  -- it goes on under its name
  keeps_name : (t : TableRecord) (schema : Schema) (n : ℕ) → found_table m ns table ≡ Granted t → IsLawful m → m.clock < n
      → ChangeFits (goes_on t t.name schema n) n m
  keeps_name t schema n is lawful later = record {
    from = refl;
    current = refl;
    past = ends_later m.catalog.tables m.clock n (omega (arith, later)) lawful.past;
    free = ap (is_free_for t.id) (named_itself t is) ∙ same_self t.id;
  }

  -- One more column

  module _ (name : List ℕ) (t : TableRecord) (is : judge_add_column ns table name m ≡ Granted t) (lawful : IsLawful m) where
    found_to_add : found_table m ns table ≡ Granted t
    found_to_add = (checked_is (found_table m ns table) (λ t. add_column_checks t name m) t is).0

    pub few_versions : t.schema.version + 1 < 2 ^ 32
    few_versions = (few_changes t found_to_add lawful).0

    pub few_columns : t.schema.next + 1 < 2 ^ 32
    few_columns = (few_changes t found_to_add lawful).1

    pub added_fits : (schema : Schema) (n : ℕ) → m.clock < n → ChangeFits (goes_on t t.name schema n) n m
    added_fits schema n later = keeps_name t schema n found_to_add lawful later

  -- The end of a column

  module _ (name : List ℕ) (c : ColumnOf) (is : judge_drop_column ns table name m ≡ Granted c) where
    found_by : (t : TableRecord) (o : Option Column)
        → option_map (λ (k : Column). let of : ColumnOf = record { table = t; column = k } in of) o ≡ Some c
        → (t ≡ c.table) × (o ≡ Some c.column)
    found_by t None e = absurd (cc)
    found_by t (Some k) e =
        let of : ColumnOf = record { table = t; column = k } in
        let same : of ≡ c = cc in
        (ap (λ (d : ColumnOf). d.table) same, ap (λ (d : ColumnOf). Some d.column) same)

    found_to_drop : (found_table m ns table ≡ Granted c.table) × (column_named c.table.schema.columns name ≡ Some c.column)
    found_to_drop =
        let granted = (checked_is (found_column m ns table name) (λ c. unheld_checks c.table.namespace m) c is).0 in
        let f = and_found_is (found_table m ns table) (column_of name) UnknownColumn c granted in
        let found = found_by f.0 (column_named f.0.schema.columns name) f.1.1 in
        (f.1.0 ∙ ap Granted found.0, ap (λ t. column_named t.schema.columns name) (sym found.0) ∙ found.1)

    pub column_known : is_some (column_named c.table.schema.columns name) ≡ true
    column_known = ap is_some found_to_drop.1

    pub dropped_name : c.column.name ≡ name
    dropped_name = column_name c.table.schema.columns name c.column found_to_drop.1

    pub few_left : IsLawful m → c.table.schema.version + 1 < 2 ^ 32
    few_left lawful = (few_changes c.table found_to_drop.0 lawful).0

    pub dropped_fits : (schema : Schema) (n : ℕ) → IsLawful m → m.clock < n → ChangeFits (goes_on c.table c.table.name schema n) n m
    dropped_fits schema n lawful later = keeps_name c.table schema n found_to_drop.0 lawful later

  -- Another name

  pub renamed_fits : (name : List ℕ) (t : TableRecord) (n : ℕ) → judge_rename_table ns table name m ≡ Granted t → IsLawful m → m.clock < n
      → ChangeFits (goes_on t name t.schema n) n m
  renamed_fits name t n is lawful later =
      let passes = (checked_is (found_table m ns table) (λ t. rename_table_checks t name m) t is).1 in
      record {
        from = refl;
        current = refl;
        past = ends_later m.catalog.tables m.clock n (omega (arith, later)) lawful.past;
        free = free_where_none (current_named m.catalog.tables t.namespace name) passes.1.0;
      }
    where
      free_where_none : (o : Option TableRecord) → is_some (table_id o) ≡ false → is_free_for t.id o ≡ true
      free_where_none None e = refl
      free_where_none (Some r) e = absurd (cc)
