-- The schemas that the catalog keeps go on from the journal's, after each entry of a legal history.
use Rattle.std.proofs.Common.{◌≡◌, ℕ, ◌≤◌, ◌<◌, ◌+◌, true, false, List, [], ◌∷◌, ◌++◌, inl, inr, Option, Some, None, refl, sym, ap, ◌∙◌, le_trans, arith, max, length, fold, not, if◌then◌else◌}
use Rattle.std.proofs.lemmas.Bool.{true≢false, leb-true, leb-false}
use Rattle.std.proofs.lemmas.Bool.Decides.{nat_tests}
use Rattle.model.specs.Cluster.{Item, Id, same, In, Schema, Column, ColumnKind, NewColumn, numbered, first_schema, with_column, without_column, ended, ended_by, is_open, Master, CloneRecord}
use Rattle.model.specs.Catalog.{kept_from, owner_of, TableRecord, end_table, change_table}
use Rattle.model.specs.Journal as made
use Rattle.model.specs.Journal.{NamespaceMade, NamespaceDropped, TableMade, TableRenamed, TableDropped, ColumnAdded, ColumnDropped, NamespaceRestored, RowChanged}
use Rattle.model.specs.Drawn.{ColumnsNew, NumberedFrom, given_to, greatest_id, version_by}
use Rattle.model.specs.History.{with, rows_made}
use Rattle.model.specs.Cleanup.{is_old_table, prune_to}
use Rattle.model.specs.Restored.{restored_tables}
use Rattle.std.specs.List.{filter}
use Rattle.law_invariants.specs.Invariant.{EndsBy, RecordsRise, TablesStand}
use Rattle.law_invariants.proofs.Finding.{same_self}
use Rattle.law.proofs.Newest.{AllNewest, newest_added, newest_ended, newest_back, newest_cloned, current_latest, pruned_latest, YoungAfter}
use Rattle.law.proofs.Versions.{VersionsFollow, version_plain, versions_same, versions_added, versions_ended, versions_pruned, version_current, versions_back, versions_cloned}
use Rattle.model.specs.Answers.{version_at}
use Rattle.law_clones.proofs.Viewing.{clone}
use Rattle.law_clones.proofs.Cataloguing.{MayTake, with_tables}

-- what holds of the columns of the journal, and of the newest schemas of tables
pub record SchemasStand (rs : List TableRecord) (changes : List made.Change) : Type 0 where
  pub columns : ColumnsNew changes
  pub newest : AllNewest rs changes
  pub versions : VersionsFollow rs changes

-- Columns of a new table

numbered_new : (columns : List NewColumn) (id : ℕ) → NumberedFrom id (numbered id columns)
numbered_new [] id = tt
numbered_new (c ∷ cs) id = (refl, numbered_new cs (id + 1))

greatest_from : (columns : List NewColumn) (id found : ℕ) → found + 1 ≡ id → fold (λ greatest (c : Column). max greatest c.id) found (numbered id columns) ≡ found + length columns
greatest_from [] id found is = omega arith
greatest_from (c ∷ cs) id found is =
    let e : max found id ≡ id = omega (arith, is) in
    ap (λ k. fold (λ greatest (c : Column). max greatest c.id) k (numbered (id + 1) cs)) e ∙ greatest_from cs (id + 1) id refl ∙ (omega (arith, is))

greatest_is : (columns : List NewColumn) → greatest_id (numbered 1 columns) ≡ length columns
greatest_is columns = let e : greatest_id (numbered 1 columns) ≡ 0 + length columns = greatest_from columns 1 0 refl in omega (arith, e)

-- Changes that are none of a schema

pub namespace_changed : (rs : List TableRecord) (changes : List made.Change) (n : ℕ) (id : Id) (name : List ℕ) → SchemasStand rs changes → SchemasStand rs (with n (NamespaceMade id name) changes)
namespace_changed rs changes n id name h = record {
  columns = (h.columns, tt);
  newest = λ table s e. let k = h.newest table s e in record { next = k.next; version = k.version };
  versions = versions_same rs changes (with n (NamespaceMade id name) changes) (λ table x. version_plain n (NamespaceMade id name) changes x table refl) h.versions;
}

pub namespace_ended : (rs : List TableRecord) (changes : List made.Change) (n : ℕ) (id : Id) → SchemasStand rs changes → SchemasStand rs (with n (NamespaceDropped id) changes)
namespace_ended rs changes n id h = record {
  columns = (h.columns, tt);
  newest = λ table s e. let k = h.newest table s e in record { next = k.next; version = k.version };
  versions = versions_same rs changes (with n (NamespaceDropped id) changes) (λ table x. version_plain n (NamespaceDropped id) changes x table refl) h.versions;
}

pub rows_changed : (items : List Item) (rs : List TableRecord) (changes : List made.Change) (n : ℕ) (table : Id) → SchemasStand rs changes → SchemasStand rs (rows_made n table items changes)
rows_changed [] rs changes n table h = h
rows_changed (item ∷ items) rs changes n table h = rows_changed items rs (record { stamp = n; act = RowChanged table item.key item.op } ∷ changes) n table
    (record {
      columns = (h.columns, tt);
      newest = λ t s e. let k = h.newest t s e in record { next = k.next; version = k.version };
      versions = versions_same rs changes (with n (RowChanged table item.key item.op) changes) (λ t x. version_plain n (RowChanged table item.key item.op) changes x t refl) h.versions;
    })

-- Changes of a table

pub table_made : (rs : List TableRecord) (changes : List made.Change) (n : ℕ) (r : TableRecord) (columns : List NewColumn) → r.schema ≡ first_schema columns → r.from ≡ n → SchemasStand rs changes
    → SchemasStand (rs ++ r ∷ []) (with n (TableMade r.id r.namespace r.name (numbered 1 columns)) changes)
table_made rs changes n r columns is from h = record {
  columns = (h.columns, numbered_new columns 1);
  newest = newest_added rs r changes (with n (TableMade r.id r.namespace r.name (numbered 1 columns)) changes)
      (λ table s other k. record {
        next = k.next ∙ sym (ap (λ b. (if b then greatest_id (numbered 1 columns) else given_to changes table) + 1) other);
        version = k.version ∙ sym (ap (λ b. if b then 1 else version_by changes table) other);
      })
      (record {
        next = ap (λ s. s.next) is ∙ ap (λ k. k + 1) (sym (greatest_is columns)) ∙ sym (ap (λ b. (if b then greatest_id (numbered 1 columns) else given_to changes r.id) + 1) (same_self r.id));
        version = ap (λ s. s.version) is ∙ sym (ap (λ b. if b then 1 else version_by changes r.id) (same_self r.id));
      })
      h.newest;
  versions = versions_added rs r n (TableMade r.id r.namespace r.name (numbered 1 columns)) changes from
      (λ id x other. ap (λ b. if b then 1 else version_at changes x id) other)
      (λ x le. ap (λ b. if b then 1 else version_at changes x r.id) (same_self r.id) ∙ sym (ap (λ s. s.version) is)) h.versions;
}

-- the record of a table gives way to one under a new schema, as the journal has it
abbrev Replaces : List TableRecord → TableRecord → List ℕ → Schema → ℕ → List made.Change → made.ChangeAct → Type 0
Replaces rs t name schema n changes act = SchemasStand rs changes → SchemasStand (change_table t name schema n rs) (with n act changes)

pub column_added : (rs : List TableRecord) (changes : List made.Change) (n : ℕ) (t : TableRecord) (name : List ℕ) (kind : ColumnKind) → RecordsRise rs → In t rs → is_open t.to ≡ true → t.from ≤ n
    → Replaces rs t t.name (with_column name kind t.schema) n changes (ColumnAdded t.id (record { id = t.schema.next; name = name; kind = kind }))
column_added rs changes n t name kind rise isin opened begun h =
    let own = h.newest t.id t.schema (current_latest rs t None rise isin opened) in
    let act = ColumnAdded t.id (record { id = t.schema.next; name = name; kind = kind }) in
    record {
      columns = (h.columns, own.next);
      newest = newest_added (end_table t.id n rs) (record t { schema = with_column name kind t.schema; from = n; to = None }) changes (with n act changes)
          (λ table s other k. record {
            next = k.next ∙ sym (ap (λ b. (if b then max (given_to changes table) t.schema.next else given_to changes table) + 1) other);
            version = k.version ∙ sym (ap (λ b. if b then version_by changes table + 1 else version_by changes table) other);
          })
          (record {
            next = (let more : t.schema.next + 1 ≡ max (given_to changes t.id) t.schema.next + 1 = (let e : t.schema.next ≡ given_to changes t.id + 1 = own.next in omega (arith, e)) in more)
                ∙ sym (ap (λ b. (if b then max (given_to changes t.id) t.schema.next else given_to changes t.id) + 1) (same_self t.id));
            version = ap (λ v. v + 1) own.version ∙ sym (ap (λ b. if b then version_by changes t.id + 1 else version_by changes t.id) (same_self t.id));
          })
          (newest_ended rs t.id n changes h.newest);
      versions = versions_added (end_table t.id n rs) (record t { schema = with_column name kind t.schema; from = n; to = None }) n (ColumnAdded t.id (record { id = t.schema.next; name = name; kind = kind })) changes refl
          (λ id x other. ap (λ b. if b then version_at changes x id + 1 else version_at changes x id) other)
          (λ x le. ap (λ b. if b then version_at changes x t.id + 1 else version_at changes x t.id) (same_self t.id) ∙ ap (λ v. v + 1) (version_current rs t changes x rise h.versions isin opened (le_trans begun le)))
          (versions_ended rs (λ r. if same r.id t.id then ended n r.to else r.to) changes h.versions);
    }

pub column_dropped : (rs : List TableRecord) (changes : List made.Change) (n : ℕ) (t : TableRecord) (name : List ℕ) (column : ℕ) → RecordsRise rs → In t rs → is_open t.to ≡ true → t.from ≤ n
    → Replaces rs t t.name (without_column name t.schema) n changes (ColumnDropped t.id column)
column_dropped rs changes n t name column rise isin opened begun h =
    let own = h.newest t.id t.schema (current_latest rs t None rise isin opened) in
    record {
      columns = (h.columns, tt);
      newest = newest_added (end_table t.id n rs) (record t { schema = without_column name t.schema; from = n; to = None }) changes (with n (ColumnDropped t.id column) changes)
          (λ table s other k. record {
            next = k.next;
            version = k.version ∙ sym (ap (λ b. if b then version_by changes table + 1 else version_by changes table) other);
          })
          (record {
            next = own.next;
            version = ap (λ v. v + 1) own.version ∙ sym (ap (λ b. if b then version_by changes t.id + 1 else version_by changes t.id) (same_self t.id));
          })
          (newest_ended rs t.id n changes h.newest);
      versions = versions_added (end_table t.id n rs) (record t { schema = without_column name t.schema; from = n; to = None }) n (ColumnDropped t.id column) changes refl
          (λ id x other. ap (λ b. if b then version_at changes x id + 1 else version_at changes x id) other)
          (λ x le. ap (λ b. if b then version_at changes x t.id + 1 else version_at changes x t.id) (same_self t.id) ∙ ap (λ v. v + 1) (version_current rs t changes x rise h.versions isin opened (le_trans begun le)))
          (versions_ended rs (λ r. if same r.id t.id then ended n r.to else r.to) changes h.versions);
    }

pub table_renamed : (rs : List TableRecord) (changes : List made.Change) (n : ℕ) (t : TableRecord) (name : List ℕ) → RecordsRise rs → In t rs → is_open t.to ≡ true → t.from ≤ n
    → Replaces rs t name t.schema n changes (TableRenamed t.id name)
table_renamed rs changes n t name rise isin opened begun h =
    let own = h.newest t.id t.schema (current_latest rs t None rise isin opened) in
    record {
      columns = (h.columns, tt);
      newest = newest_added (end_table t.id n rs) (record t { name = name; from = n; to = None }) changes (with n (TableRenamed t.id name) changes)
          (λ table s other k. record { next = k.next; version = k.version })
          (record { next = own.next; version = own.version })
          (newest_ended rs t.id n changes h.newest);
      versions = versions_added (end_table t.id n rs) (record t { name = name; from = n; to = None }) n (TableRenamed t.id name) changes refl
          (λ id x other. refl)
          (λ x le. version_current rs t changes x rise h.versions isin opened (le_trans begun le))
          (versions_ended rs (λ r. if same r.id t.id then ended n r.to else r.to) changes h.versions);
    }

pub table_dropped : (rs : List TableRecord) (changes : List made.Change) (n : ℕ) (id : Id) → SchemasStand rs changes → SchemasStand (end_table id n rs) (with n (TableDropped id) changes)
table_dropped rs changes n id h = record {
  columns = (h.columns, tt);
  newest = λ table s e. let k = newest_ended rs id n changes h.newest table s e in record { next = k.next; version = k.version };
  versions = versions_ended rs (λ r. if same r.id id then ended n r.to else r.to) (with n (TableDropped id) changes)
      (versions_same rs changes (with n (TableDropped id) changes) (λ table x. version_plain n (TableDropped id) changes x table refl) h.versions);
}

-- Old records go

young_ends : (p x time : ℕ) (first second : Option ℕ) → ended_by x first ≡ true → EndsBy time x second → ended_by p first ≡ false → ended_by p second ≡ false
young_ends p x time None second over ends young = absurd (true≢false (sym over))
young_ends p x time (Some e) None over ends young = refl
young_ends p x time (Some e) (Some f) over ends young =
    let a : e ≤ x = leb-true e x over in
    let b : x ≤ f = ends.0 in
    let c : p < e = leb-false e p young in grind (arith, nat_tests)

young_after : (rs : List TableRecord) (m : Master) (n : ℕ) (changes : List made.Change) → RecordsRise rs → ((r : TableRecord) → In r rs → In r m.catalog.tables) → TablesStand m.catalog m.clock m.drawn.tables changes → YoungAfter rs (is_old_table m n)
young_after [] m n changes rise inside h = tt
young_after (r ∷ rs) m n changes rise inside h = (
  (λ q isin is young.
      let owner : Some r.namespace ≡ Some q.namespace = sym (h.owned r (inside r (inl refl))) ∙ ap (owner_of m.catalog.owners) (sym is) ∙ h.owned q (inside q (inr isin)) in
      let named : r.namespace ≡ q.namespace = cc in
      young_ends (prune_to m q.namespace n) q.from m.clock r.to q.to (rise.0 q isin is).1 (h.past q (inside q (inr isin))).ended (ap (λ i. ended_by (prune_to m i n) r.to) (sym named) ∙ young)),
  young_after rs m n changes rise.1 (λ q isin. inside q (inr isin)) h,
)

pub tables_pruned : (m : Master) (n : ℕ) (changes : List made.Change) → TablesStand m.catalog m.clock m.drawn.tables changes → SchemasStand m.catalog.tables changes → SchemasStand (filter (λ r. not (is_old_table m n r)) m.catalog.tables) changes
tables_pruned m n changes h stand = record {
  columns = stand.columns;
  newest = λ table s e. stand.newest table s (pruned_latest m.catalog.tables (is_old_table m n) table None s (young_after m.catalog.tables m n changes h.rise (λ r isin. isin) h) e);
  versions = versions_pruned m.catalog.tables (is_old_table m n) changes (young_after m.catalog.tables m n changes h.rise (λ r isin. isin) h) stand.versions;
}

pub tables_restored : (m : Master) (changes : List made.Change) (ns : Id) (to point : ℕ) → TablesStand m.catalog m.clock m.drawn.tables changes → kept_from m.catalog.kept_from ns ≤ to → ((q : TableRecord) → In q m.catalog.tables → q.namespace ≡ ns → q.from < point) → SchemasStand m.catalog.tables changes
    → SchemasStand (restored_tables m.catalog.tables ns to point) (with point (NamespaceRestored ns to) changes)
tables_restored m changes ns to point h known begun stand = record {
  columns = (stand.columns, tt);
  newest = newest_back m.catalog m.clock m.drawn.tables changes ns to point h known stand.newest;
  versions = versions_back m.catalog m.clock m.drawn.tables changes ns to point h known begun stand.versions;
}

pub tables_cloned_on : (m : Master) (changes : List made.Change) (r : CloneRecord) (n : ℕ) → TablesStand m.catalog m.clock m.drawn.tables changes → MayTake m.catalog m.drawn.tables changes r → SchemasStand m.catalog.tables changes
    → SchemasStand (with_tables m.catalog r n) (clone n r changes)
tables_cloned_on m changes r n h take stand = record {
  columns = (stand.columns, tt);
  newest = newest_cloned m.catalog m.clock m.drawn.tables changes r n h take stand.newest;
  versions = versions_cloned m.catalog m.clock m.drawn.tables changes r n h take stand.versions;
}
