-- The journal: the changes that a history made, the newest first, and the view of it at a time. The view is told
-- pointwise: the name of a namespace, the namespace, name and columns of a table, the row of a key.
use Rattle.std.specs.Prelude.{ℕ, ◌+◌, Bool, false, List, [], ◌∷◌, ◌++◌, Option, Some, None, nat_le, ◌==◌, ◌&&◌, not, if◌then◌else◌, filter, is_some, bytes_eq}
use Rattle.model.specs.Cluster.{option_or, applied, absent_row, Row, RowOp, Id, same, Column, IdPair}

-- a change of the catalog, of a row, or of a whole namespace
pub data ChangeAct : Type 0 where
  NamespaceMade : (namespace : Id) (name : List ℕ) → ChangeAct
  NamespaceDropped : (namespace : Id) → ChangeAct
  TableMade : (table namespace : Id) (name : List ℕ) (columns : List Column) → ChangeAct
  TableRenamed : (table : Id) (name : List ℕ) → ChangeAct
  TableDropped : (table : Id) → ChangeAct
  ColumnAdded : (table : Id) (column : Column) → ChangeAct
  ColumnDropped : (table : Id) (column : ℕ) → ChangeAct
  RowChanged : (table : Id) (key : List ℕ) (op : RowOp) → ChangeAct
  NamespaceRestored : (namespace : Id) (to : ℕ) → ChangeAct
  NamespaceCloned : (source target : Id) (name : List ℕ) (to : ℕ) (tables : List IdPair) → ChangeAct

pub record Change : Type 0 where
  pub stamp : ℕ
  pub act : ChangeAct

-- a table as the view has it
pub record TableView : Type 0 where
  pub namespace : Id
  pub name : List ℕ
  pub columns : List Column

-- the table of the source that a table of a clone stands for
abbrev pub source_of : List IdPair → Id → Option Id
source_of [] target = None
source_of (p ∷ ps) target = if same p.target target then Some p.source else source_of ps target

abbrev pub is_in : Id → Option TableView → Bool
is_in namespace None = false
is_in namespace (Some t) = same t.namespace namespace

abbrev pub renamed : List ℕ → Option TableView → Option TableView
renamed name None = None
renamed name (Some t) = Some (record t { name = name })

abbrev pub with_column : Column → Option TableView → Option TableView
with_column column None = None
with_column column (Some t) = Some (record t { columns = t.columns ++ column ∷ [] })

abbrev pub without_column : ℕ → Option TableView → Option TableView
without_column column None = None
without_column column (Some t) = Some (record t { columns = filter (λ c. not (c.id == column)) t.columns })

abbrev pub moved_to : Id → Option TableView → Option TableView
moved_to namespace None = None
moved_to namespace (Some t) = Some (record t { namespace = namespace })

-- the name of a namespace after one more change, given its name before it
abbrev pub name_after : ChangeAct → Id → Option (List ℕ) → Option (List ℕ)
name_after (NamespaceMade namespace name) id before = if same namespace id then Some name else before
name_after (NamespaceDropped namespace) id before = if same namespace id then None else before
name_after (TableMade table namespace name columns) id before = before
name_after (TableRenamed table name) id before = before
name_after (TableDropped table) id before = before
name_after (ColumnAdded table column) id before = before
name_after (ColumnDropped table column) id before = before
name_after (RowChanged table key op) id before = before
name_after (NamespaceRestored namespace to) id before = before
name_after (NamespaceCloned source target name to tables) id before = if same target id then Some name else before

-- the name of a namespace in the view at x; none where it isn't there
abbrev pub namespace_at : List Change → ℕ → Id → Option (List ℕ)
namespace_at [] x id = None
namespace_at (c ∷ earlier) x id =
    if nat_le c.stamp x then name_after c.act id (namespace_at earlier x id) else namespace_at earlier x id

-- a table of the restored namespace is as it was at the time; one of another namespace stays
abbrev pub restored_table : Id → Option TableView → Option TableView → Option TableView
restored_table namespace then_ before =
    if is_in namespace then_ then then_ else if is_in namespace before then None else before

-- a table of a clone is its source's table at the time, in the target
abbrev pub cloned_table : Option Id → Id → (Id → Option TableView) → Option TableView → Option TableView
cloned_table None target then_ before = before
cloned_table (Some source) target then_ before = moved_to target (then_ source)

-- a table after one more change. `before` and `then_` give a table in the view of the earlier changes, at the same time
-- and at the time that a restore or a clone goes to
abbrev pub table_after : ChangeAct → Id → (Id → Option TableView) → (ℕ → Id → Option TableView) → Option TableView
table_after (NamespaceMade namespace name) id before then_ = before id
table_after (NamespaceDropped namespace) id before then_ = before id
table_after (TableMade table namespace name columns) id before then_ =
    if same table id then Some (record { namespace = namespace; name = name; columns = columns }) else before id
table_after (TableRenamed table name) id before then_ = if same table id then renamed name (before id) else before id
table_after (TableDropped table) id before then_ = if same table id then None else before id
table_after (ColumnAdded table column) id before then_ =
    if same table id then with_column column (before id) else before id
table_after (ColumnDropped table column) id before then_ =
    if same table id then without_column column (before id) else before id
table_after (RowChanged table key op) id before then_ = before id
table_after (NamespaceRestored namespace to) id before then_ = restored_table namespace (then_ to id) (before id)
table_after (NamespaceCloned source target name to tables) id before then_ =
    cloned_table (source_of tables id) target (then_ to) (before id)

-- a table in the view at x; none where it isn't there
abbrev pub table_at : List Change → ℕ → Id → Option TableView
table_at [] x id = None
table_at (c ∷ earlier) x id =
    if nat_le c.stamp x then table_after c.act id (table_at earlier x) (table_at earlier) else table_at earlier x id

-- a row of the restored namespace is as it was at the time; one of another namespace stays
abbrev pub restored_row : Id → Option TableView → Option TableView → Row → Row → Row
restored_row namespace table_then table_before then_ before =
    if is_in namespace table_then then then_ else if is_in namespace table_before then absent_row else before

-- a row of a clone is its source's at the time
abbrev pub cloned_row : Option Id → List ℕ → (Id → List ℕ → Row) → Row → Row
cloned_row None key then_ before = before
cloned_row (Some source) key then_ before = then_ source key

-- the row of a key in a table after one more change; a change of a row in a table that isn't there has no effect
abbrev pub row_after : ChangeAct → Id → List ℕ → (Id → Option TableView) → (ℕ → Id → Option TableView)
    → (Id → List ℕ → Row)
    → (ℕ → Id → List ℕ → Row) → Row
row_after (NamespaceMade namespace name) table key table_before table_then before then_ = before table key
row_after (NamespaceDropped namespace) table key table_before table_then before then_ = before table key
row_after (TableMade made namespace name columns) table key table_before table_then before then_ = before table key
row_after (TableRenamed renamed name) table key table_before table_then before then_ = before table key
row_after (TableDropped dropped) table key table_before table_then before then_ =
    if same dropped table then absent_row else before table key
row_after (ColumnAdded changed column) table key table_before table_then before then_ = before table key
row_after (ColumnDropped changed column) table key table_before table_then before then_ = before table key
row_after (RowChanged changed k op) table key table_before table_then before then_ =
    if (same changed table && bytes_eq k key) && is_some (table_before table)
    then applied (before table key) op
    else before table key
row_after (NamespaceRestored namespace to) table key table_before table_then before then_ =
    restored_row namespace (table_then to table) (table_before table) (then_ to table key) (before table key)
row_after (NamespaceCloned source target name to tables) table key table_before table_then before then_ =
    cloned_row (source_of tables table) key (then_ to) (before table key)

-- the row of a key in the view at x: the fold of the changes stamped at or before x, in the order of their making
abbrev pub row_at : List Change → ℕ → Id → List ℕ → Row
row_at [] x table key = absent_row
row_at (c ∷ earlier) x table key =
    if nat_le c.stamp x
    then row_after c.act table key (table_at earlier x) (table_at earlier) (row_at earlier x) (row_at earlier)
    else row_at earlier x table key

-- Where tables were made

-- the namespace in which a change makes the table: that of its making, or a clone's target
abbrev pub owner_by : ChangeAct → Id → Option Id
owner_by (NamespaceMade namespace name) id = None
owner_by (NamespaceDropped namespace) id = None
owner_by (TableMade table namespace name columns) id = if same table id then Some namespace else None
owner_by (TableRenamed table name) id = None
owner_by (TableDropped table) id = None
owner_by (ColumnAdded table column) id = None
owner_by (ColumnDropped table column) id = None
owner_by (RowChanged table key op) id = None
owner_by (NamespaceRestored namespace to) id = None
owner_by (NamespaceCloned source target name to tables) id = if is_some (source_of tables id) then Some target else None

-- the namespace in which a table was made
abbrev pub owner_in : List Change → Id → Option Id
owner_in [] id = None
owner_in (c ∷ earlier) id = option_or (owner_by c.act id) (owner_in earlier id)

-- Versions of schemas

-- a table that a clone makes begins at version 1
abbrev pub first_version : Option Id → ℕ → ℕ
first_version None own = own
first_version (Some source) own = 1

abbrev pub version_after : ChangeAct → Id → ℕ → (ℕ → Id → Option TableView) → ℕ
version_after (TableMade table namespace name columns) id before then_ = if same table id then 1 else before
version_after (ColumnAdded table column) id before then_ = if same table id then before + 1 else before
version_after (ColumnDropped table column) id before then_ = if same table id then before + 1 else before
version_after (NamespaceRestored namespace to) id before then_ =
    if is_in namespace (then_ to id) then before + 1 else before
version_after (NamespaceCloned source target name to tables) id before then_ =
    first_version (source_of tables id) before
version_after (NamespaceMade namespace name) id before then_ = before
version_after (NamespaceDropped namespace) id before then_ = before
version_after (TableRenamed table name) id before then_ = before
version_after (TableDropped table) id before then_ = before
version_after (RowChanged table key op) id before then_ = before
