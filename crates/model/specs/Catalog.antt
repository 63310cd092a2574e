-- The master's catalog: records of namespaces and of tables, each with the interval in which it held, the oldest first.
-- A record is current where its interval is open.
use Rattle.std.specs.Prelude.{ℕ, Bool, false, List, [], ◌∷◌, ◌++◌, Option, Some, None, ◌&&◌, nat_lt, max, map, if◌then◌else◌, filter, bytes_eq, find}
use Rattle.model.specs.Words.{Id, same, Schema}
use Rattle.model.specs.Times.{is_open, holds_at, ended}

pub record NamespaceRecord : Type 0 where
  pub id : Id
  pub name : List ℕ
  pub from : ℕ
  pub to : Option ℕ

-- a table under one name and one schema
pub record TableRecord : Type 0 where
  pub id : Id
  pub namespace : Id
  pub name : List ℕ
  pub schema : Schema
  pub from : ℕ
  pub to : Option ℕ

-- the stamp below which the catalog of a namespace isn't kept any more
pub record KeptFrom : Type 0 where
  pub namespace : Id
  pub from : ℕ

-- the namespace of a table that was ever made
pub record Owner : Type 0 where
  pub table : Id
  pub namespace : Id

pub record Catalog : Type 0 where
  pub namespaces : List NamespaceRecord
  pub tables : List TableRecord
  pub kept_from : List KeptFrom
  pub owners : List Owner

abbrev pub empty_catalog : Catalog
empty_catalog = record { namespaces = []; tables = []; kept_from = []; owners = [] }

-- the current namespace of a name
abbrev pub namespace_named : List NamespaceRecord → List ℕ → Option Id
namespace_named [] name = None
namespace_named (r ∷ rs) name = if is_open r.to && bytes_eq r.name name then Some r.id else namespace_named rs name

-- the current name of a namespace
abbrev pub name_of : List NamespaceRecord → Id → Option (List ℕ)
name_of [] id = None
name_of (r ∷ rs) id = if is_open r.to && same r.id id then Some r.name else name_of rs id

-- the table of a name in a namespace at x
abbrev pub table_named : List TableRecord → Id → List ℕ → ℕ → Option TableRecord
table_named rs ns name x =
    find (λ r. holds_at x r.from r.to && (same r.namespace ns && bytes_eq r.name name)) rs

-- the current table of a name
abbrev pub current_named : List TableRecord → Id → List ℕ → Option TableRecord
current_named rs ns name = find (λ r. is_open r.to && (same r.namespace ns && bytes_eq r.name name)) rs

-- the current record of a table
abbrev pub current_table : List TableRecord → Id → Option TableRecord
current_table rs id = find (λ r. is_open r.to && same r.id id) rs

-- the current tables of a namespace
abbrev pub current_tables : List TableRecord → Id → List TableRecord
current_tables rs ns = filter (λ r. is_open r.to && same r.namespace ns) rs

-- the tables with one more, in order of id
abbrev pub put_table : TableRecord → List TableRecord → List TableRecord
put_table t [] = t ∷ []
put_table t (u ∷ us) = if nat_lt t.id.number u.id.number then t ∷ u ∷ us else u ∷ put_table t us

abbrev pub by_id : List TableRecord → List TableRecord
by_id [] = []
by_id (t ∷ ts) = put_table t (by_id ts)

-- the tables of a namespace that stood at x, in order of id
abbrev pub tables_at : List TableRecord → Id → ℕ → List TableRecord
tables_at rs ns x = by_id (filter (λ r. holds_at x r.from r.to && same r.namespace ns) rs)

abbrev pub latest_from : List TableRecord → Id → Option Schema → Option Schema
latest_from [] id found = found
latest_from (r ∷ rs) id found = latest_from rs id (if same r.id id then Some r.schema else found)

-- the schema of the newest kept record of a table
abbrev pub latest : List TableRecord → Id → Option Schema
latest rs id = latest_from rs id None

-- the mark of a namespace; one without a mark keeps all
abbrev pub kept_from : List KeptFrom → Id → ℕ
kept_from [] ns = 0
kept_from (k ∷ ks) ns = if same k.namespace ns then k.from else kept_from ks ns

-- the namespace's mark is set, or raised
abbrev pub set_kept_from : List KeptFrom → Id → ℕ → List KeptFrom
set_kept_from [] ns from = record { namespace = ns; from = from } ∷ []
set_kept_from (k ∷ ks) ns from =
    if same k.namespace ns
    then record { namespace = ns; from = max k.from from } ∷ ks
    else k ∷ set_kept_from ks ns from

-- the namespace in which a table was made
abbrev pub owner_of : List Owner → Id → Option Id
owner_of [] table = None
owner_of (o ∷ os) table = if same o.table table then Some o.namespace else owner_of os table

-- whether the table was made in the namespace
abbrev pub is_owned_by : Option Id → Id → Bool
is_owned_by None ns = false
is_owned_by (Some owner) ns = same owner ns

abbrev pub owns : List Owner → Id → Id → Bool
owns os ns table = is_owned_by (owner_of os table) ns

-- the current record of a namespace, or of a table, ends
abbrev pub end_namespace : Id → ℕ → List NamespaceRecord → List NamespaceRecord
end_namespace id at rs =
    map {A = NamespaceRecord} (λ r. record r { to = if same r.id id then ended at r.to else r.to }) rs

abbrev pub end_table : Id → ℕ → List TableRecord → List TableRecord
end_table id at rs =
    map {A = TableRecord} (λ r. record r { to = if same r.id id then ended at r.to else r.to }) rs

-- the current records of a namespace's tables end
abbrev pub end_tables : Id → ℕ → List TableRecord → List TableRecord
end_tables ns at rs =
    map {A = TableRecord} (λ r. record r { to = if same r.namespace ns then ended at r.to else r.to }) rs

-- the table's current record gives way to one under another name and schema
abbrev pub change_table : TableRecord → List ℕ → Schema → ℕ → List TableRecord → List TableRecord
change_table old name schema at rs =
    end_table old.id at rs ++ record old { name = name; schema = schema; from = at; to = None } ∷ []

-- What a command makes of the catalog

-- one namespace more, whose catalog is kept from its beginning on
abbrev pub namespace_added : NamespaceRecord → Catalog → Catalog
namespace_added r c = record c {
  namespaces = c.namespaces ++ r ∷ [];
  kept_from = set_kept_from c.kept_from r.id r.from;
}

abbrev pub namespace_ended : Id → ℕ → Catalog → Catalog
namespace_ended id at c = record c { namespaces = end_namespace id at c.namespaces }

-- one table more, which its namespace owns
abbrev pub table_added : TableRecord → Catalog → Catalog
table_added r c = record c {
  tables = c.tables ++ r ∷ [];
  owners = c.owners ++ record { table = r.id; namespace = r.namespace } ∷ [];
}

abbrev pub table_ended : Id → ℕ → Catalog → Catalog
table_ended id at c = record c { tables = end_table id at c.tables }

-- a table goes on under another name or schema
abbrev pub table_replaced : TableRecord → List ℕ → Schema → ℕ → Catalog → Catalog
table_replaced old name schema at c = record c { tables = change_table old name schema at c.tables }
