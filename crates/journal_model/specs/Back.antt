-- To which table, and to which time, a change goes back.
use Rattle.std.specs.Prelude.{ℕ, Option, Some, None}
use Rattle.row_values.specs.Ids.{Id}
use Rattle.model.specs.Journal.{ChangeAct, NamespaceMade, NamespaceDropped, TableMade, TableRenamed, TableDropped, ColumnAdded, ColumnDropped, RowChanged, NamespaceRestored, NamespaceCloned, source_of}

abbrev pub came_from : ℕ → Option Id → Option (ℕ × Id)
came_from to None = None
came_from to (Some source) = Some (to, source)

-- a restore to the table itself, a clone to the source's table; other changes to none
abbrev pub goes_back : ChangeAct → Id → Option (ℕ × Id)
goes_back (NamespaceMade namespace name) id = None
goes_back (NamespaceDropped namespace) id = None
goes_back (TableMade table namespace name columns) id = None
goes_back (TableRenamed table name) id = None
goes_back (TableDropped table) id = None
goes_back (ColumnAdded table column) id = None
goes_back (ColumnDropped table column) id = None
goes_back (RowChanged table key op) id = None
goes_back (NamespaceRestored namespace to) id = Some (to, id)
goes_back (NamespaceCloned source target name to tables) id = came_from to (source_of tables id)

-- what is there, or else what is given
abbrev pub gone_to : {A : Type 0} → A → Option (ℕ × Id) → (ℕ → Id → A) → A
gone_to none None then_ = none
gone_to none (Some p) then_ = then_ p.0 p.1
