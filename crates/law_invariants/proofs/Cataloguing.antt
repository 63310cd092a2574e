-- The catalog stands for the view through each accepted command that changes it.
use Rattle.std.proofs.Common.{ℕ, ◌≡◌, ◌≤◌, ◌+◌, false, List, [], ◌∷◌, Option, Some, None, refl, sym, ap, ◌∙◌, arith, le_refl, ◌++◌, true, cond, ◌||◌, max}
use Rattle.std.specs.Option.{is_some, option_or}
use Rattle.std.specs.Str.{bytes_eq}
use Rattle.std.specs.Prelude.{Ok}
use Rattle.model.specs.Cluster.{Id, same, Column, ColumnKind, NewColumn, column_named, first_schema, numbered, with_column, without_column, Schema, UnknownNamespace, UnknownTable, Master, In, ended}
use Rattle.model.specs.Catalog.{TableRecord, namespace_named, current_named, Catalog, NamespaceRecord, KeptFrom, Owner, set_kept_from, end_namespace, end_table, change_table}
use Rattle.model.specs.Journal.{Change, NamespaceMade, NamespaceDropped, TableMade, TableRenamed, TableDropped, ColumnAdded, ColumnDropped}
use Rattle.model.specs.Entries.{NamesDiffer}
use Rattle.model.specs.Looks.{found_namespace, found_table}
use Rattle.model.specs.Changed.{next_namespace, next_table, namespace_made, namespace_dropped, table_made, table_changed, table_dropped}
use Rattle.model.specs.Changes.{named, clone_named, table_id}
use Rattle.model.specs.History.{with}
use Rattle.law_invariants.specs.Invariant.{NamespacesStand, TablesStand, MarksStand, MasterGood, is_marked}
use Rattle.law_invariants.proofs.Finding.{not_some_is, either_passes, in_added, in_mapped, same_equal, same_self}
use Rattle.law_invariants.proofs.Judging.{found_is, and_found_is}
use Rattle.law_store.proofs.Keys.{either_way, equal_keys}
use Rattle.law_invariants.proofs.Names.{names_kept, names_made, names_dropped, named_is}
use Rattle.law_invariants.proofs.Records.{IsCurrent, current_named_is}
use Rattle.law_invariants.proofs.Tables.{tables_namespace_made, tables_namespace_dropped, tables_made, tables_dropped, tables_column_added, tables_column_dropped, tables_renamed}
use Rattle.std.proofs.lemmas.Bool.{cond_both, true≢false}

-- What has records in the catalog keeps a mark of how far it is kept.

-- a mark that is set is there, and the others stay
pub marked_set : (ks : List KeptFrom) (ns : Id) (from : ℕ) → is_marked (set_kept_from ks ns from) ns ≡ true
marked_set [] ns from = ap (λ b. b || false) (same_self ns)
marked_set (k ∷ ks) ns from = either_way (same k.namespace ns)
    (λ e. rw e (ap (λ b. b || is_marked ks ns) (same_self ns)))
    (λ e. rw e (rw e (marked_set ks ns from)))

pub marked_stays : (ks : List KeptFrom) (ns : Id) (from : ℕ) (id : Id) → is_marked ks id ≡ true → is_marked (set_kept_from ks ns from) id ≡ true
marked_stays [] ns from id h = absurd (true≢false (sym h))
marked_stays (k ∷ ks) ns from id h = cond_both (same k.namespace ns) (record { namespace = ns; from = max k.from from } ∷ ks) (k ∷ set_kept_from ks ns from) (λ qs. is_marked qs id ≡ true)
    (λ e. ap (λ i. same i id || is_marked ks id) (sym (same_equal k.namespace ns e)) ∙ h)
    (λ e. either_way (same k.namespace id)
    (λ is. ap (λ b. b || is_marked (set_kept_from ks ns from) id) is)
    (λ is. either_passes (same k.namespace id) (is_marked (set_kept_from ks ns from) id) (marked_stays ks ns from id (let q : (same k.namespace id || is_marked ks id) ≡ true = h in let r : is_marked ks id ≡ true = rw is at q in r))))

-- a current namespace has one
pub marked_named : (c : Catalog) (name : List ℕ) (id : Id) → namespace_named c.namespaces name ≡ Some id → MarksStand c → is_marked c.kept_from id ≡ true
marked_named c name id e h = let r = named_is c.namespaces name id e in ap (is_marked c.kept_from) (sym r.id_is) ∙ h.namespaces r.record_ r.listed

-- Through commands

pub marks_namespace_made : (c : Catalog) (r : NamespaceRecord) (n : ℕ) → MarksStand c → MarksStand (record c { namespaces = c.namespaces ++ r ∷ []; kept_from = set_kept_from c.kept_from r.id n })
marks_namespace_made c r n h = record {
  namespaces = in_added (λ q. is_marked (set_kept_from c.kept_from r.id n) q.id ≡ true) c.namespaces r (λ q isin. marked_stays c.kept_from r.id n q.id (h.namespaces q isin)) (marked_set c.kept_from r.id n);
  tables = λ t isin. marked_stays c.kept_from r.id n t.namespace (h.tables t isin);
}

pub marks_namespace_dropped : (c : Catalog) (ns : Id) (n : ℕ) → MarksStand c → MarksStand (record c { namespaces = end_namespace ns n c.namespaces })
marks_namespace_dropped c ns n h = record {
  namespaces = in_mapped {A = NamespaceRecord} {B = NamespaceRecord} (λ r. record r { to = cond (same r.id ns) (ended n r.to) r.to }) (λ q. is_marked c.kept_from q.id ≡ true) c.namespaces h.namespaces;
  tables = h.tables;
}

pub marks_table_made : (c : Catalog) (t : TableRecord) (owners : List Owner) → is_marked c.kept_from t.namespace ≡ true → MarksStand c → MarksStand (record c { tables = c.tables ++ t ∷ []; owners = owners })
marks_table_made c t owners marked h = record { namespaces = h.namespaces; tables = in_added (λ q. is_marked c.kept_from q.namespace ≡ true) c.tables t h.tables marked }

ended_marked : (c : Catalog) (id : Id) (n : ℕ) → MarksStand c → (t : TableRecord) → In t (end_table id n c.tables) → is_marked c.kept_from t.namespace ≡ true
ended_marked c id n h = in_mapped {A = TableRecord} {B = TableRecord} (λ r. record r { to = cond (same r.id id) (ended n r.to) r.to }) (λ q. is_marked c.kept_from q.namespace ≡ true) c.tables h.tables

pub marks_table_dropped : (c : Catalog) (id : Id) (n : ℕ) → MarksStand c → MarksStand (record c { tables = end_table id n c.tables })
marks_table_dropped c id n h = record { namespaces = h.namespaces; tables = ended_marked c id n h }

pub marks_table_changed : (c : Catalog) (t : TableRecord) (name : List ℕ) (schema : Schema) (n : ℕ) → In t c.tables → MarksStand c → MarksStand (record c { tables = change_table t name schema n c.tables })
marks_table_changed c t name schema n isin h = record {
  namespaces = h.namespaces;
  tables = in_added (λ q. is_marked c.kept_from q.namespace ≡ true) (end_table t.id n c.tables) (record t { name = name; schema = schema; from = n; to = None }) (ended_marked c t.id n h) (h.tables t isin);
}

pub marks_owned : (c : Catalog) (owners : List Owner) → MarksStand c → MarksStand (record c { owners = owners })
marks_owned c owners h = record { namespaces = h.namespaces; tables = h.tables }

-- the master's catalog stands for the view
pub record CatalogStands (m : Master) (changes : List Change) : Type 0 where
  pub namespaces : NamespacesStand m.catalog.namespaces m.clock m.drawn.namespaces changes
  pub tables : TablesStand m.catalog m.clock m.drawn.tables changes
  pub marks : MarksStand m.catalog

pub catalog_of : (m : Master) (changes : List Change) → MasterGood m changes → CatalogStands m changes
catalog_of m changes h = record { namespaces = h.namespaces; tables = h.tables; marks = h.marks }

-- Options

none_left : {A : Type 0} (a b : Option A) → is_some (option_or a b) ≡ false → a ≡ None
none_left None b e = refl
none_left (Some x) b e = cc

not_table : (a : Option TableRecord) → is_some (table_id a) ≡ false → a ≡ None
not_table None e = refl
not_table (Some x) e = cc

-- Namespaces

pub catalog_namespace_made : (m : Master) (n : ℕ) (name : List ℕ) (changes : List Change) → m.clock ≤ n → is_some (named m name) ≡ false → CatalogStands m changes
    → CatalogStands (namespace_made name n m) (with n (NamespaceMade (next_namespace m) name) changes)
catalog_namespace_made m n name changes le free h = record {
  namespaces = names_made m.catalog.namespaces m.clock m.drawn.namespaces (m.drawn.namespaces + 1) n (next_namespace m) name changes le (omega arith) (le_refl _)
      (none_left (namespace_named m.catalog.namespaces name) (clone_named m.clones name) free) h.namespaces;
  tables = tables_namespace_made m.catalog _ m.clock m.drawn.tables n (next_namespace m) name changes le h.tables;
  marks = marks_namespace_made m.catalog (record { id = next_namespace m; name = name; from = n; to = None }) n h.marks;
}

pub catalog_namespace_dropped : (m : Master) (n : ℕ) (ns : Id) (changes : List Change) → m.clock ≤ n → CatalogStands m changes → CatalogStands (namespace_dropped ns n m) (with n (NamespaceDropped ns) changes)
catalog_namespace_dropped m n ns changes le h = record {
  namespaces = names_dropped m.catalog.namespaces m.clock m.drawn.namespaces n ns changes le h.namespaces;
  tables = tables_namespace_dropped m.catalog _ m.clock m.drawn.tables n ns changes le h.tables;
  marks = marks_namespace_dropped m.catalog ns n h.marks;
}

-- Tables

pub catalog_table_made : (m : Master) (n : ℕ) (namespace : List ℕ) (ns : Id) (table : List ℕ) (columns : List NewColumn) (slots : List ℕ) (changes : List Change) → m.clock ≤ n
    → namespace_named m.catalog.namespaces namespace ≡ Some ns → is_some (table_id (current_named m.catalog.tables ns table)) ≡ false → NamesDiffer columns → CatalogStands m changes
    → CatalogStands (table_made ns table columns slots n m) (with n (TableMade (next_table m) ns table (numbered 1 columns)) changes)
catalog_table_made m n namespace ns table columns slots changes le there free differ h = record {
  namespaces = names_kept m.catalog.namespaces m.clock m.drawn.namespaces n m.drawn.namespaces _ changes le (le_refl _) tt h.namespaces;
  tables = tables_made m.catalog m.clock m.drawn.tables n (next_table m) ns table columns changes le refl (not_table (current_named m.catalog.tables ns table) free) differ h.tables;
  marks = marks_table_made m.catalog (record { id = next_table m; namespace = ns; name = table; schema = first_schema columns; from = n; to = None }) _ (marked_named m.catalog namespace ns there h.marks) h.marks;
}

-- what is found by a name is current

pub namespace_is : (m : Master) (namespace : List ℕ) (ns : Id) → found_namespace m namespace ≡ Ok ns → namespace_named m.catalog.namespaces namespace ≡ Some ns
namespace_is m namespace ns e = found_is (namespace_named m.catalog.namespaces namespace) UnknownNamespace ns e

pub table_is : (m : Master) (namespace table : List ℕ) (t : TableRecord) → found_table m namespace table ≡ Ok t → IsCurrent m.catalog.tables t.namespace table t
table_is m namespace table t e =
    let f = and_found_is (found_namespace m namespace) (λ ns. current_named m.catalog.tables ns table) UnknownTable t e in
    let c = current_named_is m.catalog.tables f.0 table t f.1.1 in
    record { listed = c.listed; current = c.current; namespace_is = refl; name_is = c.name_is }

pub catalog_column_added : (m : Master) (n : ℕ) (t : TableRecord) (table name : List ℕ) (kind : ColumnKind) (changes : List Change) → m.clock ≤ n → IsCurrent m.catalog.tables t.namespace table t
    → is_some (column_named t.schema.columns name) ≡ false → CatalogStands m changes
    → CatalogStands (table_changed t t.name (with_column name kind t.schema) n m) (with n (ColumnAdded t.id (record { id = t.schema.next; name = name; kind = kind })) changes)
catalog_column_added m n t table name kind changes le is free h = record {
  namespaces = names_kept m.catalog.namespaces m.clock m.drawn.namespaces n m.drawn.namespaces _ changes le (le_refl _) tt h.namespaces;
  tables = tables_column_added m.catalog m.clock m.drawn.tables n t name kind changes le is.listed is.current (not_some_is (column_named t.schema.columns name) free) h.tables;
  marks = marks_table_changed m.catalog t t.name (with_column name kind t.schema) n is.listed h.marks;
}

-- a column has the name by which it is found
column_name : (cs : List Column) (name : List ℕ) (c : Column) → column_named cs name ≡ Some c → c.name ≡ name
column_name [] name c e = cc
column_name (d ∷ cs) name c e = either_way (bytes_eq d.name name)
    (λ b. let q : Some d ≡ Some c = rw b at e in let is : d ≡ c = cc in ap (λ k. k.name) (sym is) ∙ equal_keys d.name name b)
    (λ b. column_name cs name c (rw b at e))

pub catalog_column_dropped : (m : Master) (n : ℕ) (t : TableRecord) (table name : List ℕ) (column : Column) (changes : List Change) → m.clock ≤ n → IsCurrent m.catalog.tables t.namespace table t
    → column_named t.schema.columns name ≡ Some column → CatalogStands m changes
    → CatalogStands (table_changed t t.name (without_column column.name t.schema) n m) (with n (ColumnDropped t.id column.id) changes)
catalog_column_dropped m n t table name column changes le is there h =
    let found : column_named t.schema.columns column.name ≡ Some column = ap (column_named t.schema.columns) (column_name t.schema.columns name column there) ∙ there in
    record {
      namespaces = names_kept m.catalog.namespaces m.clock m.drawn.namespaces n m.drawn.namespaces _ changes le (le_refl _) tt h.namespaces;
      tables = tables_column_dropped m.catalog m.clock m.drawn.tables n t column.name column changes le is.listed is.current found h.tables;
      marks = marks_table_changed m.catalog t t.name (without_column column.name t.schema) n is.listed h.marks;
    }

pub catalog_table_renamed : (m : Master) (n : ℕ) (t : TableRecord) (table name : List ℕ) (changes : List Change) → m.clock ≤ n → IsCurrent m.catalog.tables t.namespace table t
    → is_some (table_id (current_named m.catalog.tables t.namespace name)) ≡ false → CatalogStands m changes
    → CatalogStands (table_changed t name t.schema n m) (with n (TableRenamed t.id name) changes)
catalog_table_renamed m n t table name changes le is free h = record {
  namespaces = names_kept m.catalog.namespaces m.clock m.drawn.namespaces n m.drawn.namespaces _ changes le (le_refl _) tt h.namespaces;
  tables = tables_renamed m.catalog m.clock m.drawn.tables n t name changes le is.listed is.current (not_table (current_named m.catalog.tables t.namespace name) free) h.tables;
  marks = marks_table_changed m.catalog t name t.schema n is.listed h.marks;
}

pub catalog_table_dropped : (m : Master) (n : ℕ) (id : Id) (changes : List Change) → m.clock ≤ n → CatalogStands m changes → CatalogStands (table_dropped id n m) (with n (TableDropped id) changes)
catalog_table_dropped m n id changes le h = record {
  namespaces = names_kept m.catalog.namespaces m.clock m.drawn.namespaces n m.drawn.namespaces _ changes le (le_refl _) tt h.namespaces;
  tables = tables_dropped m.catalog m.clock m.drawn.tables n id changes le h.tables;
  marks = marks_table_dropped m.catalog id n h.marks;
}
