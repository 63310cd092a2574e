-- One change more: it is seen from its stamp on.
use Rattle.std.proofs.Common.{ℕ, ◌≡◌, ◌<◌, ◌≤◌, true, false, List, ◌∷◌, Option, Some, None, if◌then◌else◌, nat_le, refl, ap, arith}
use Rattle.std.proofs.lemmas.Grind.{common_steps}
use Rattle.row_values.specs.Ids.{Id}
use Rattle.row_values.specs.Rows.{absent_row}
use Rattle.row_values.specs.declared.rows.Row.{Row}
use Rattle.model.specs.Journal.{Change, ChangeAct, NamespaceMade, NamespaceDropped, TableMade, TableRenamed, TableDropped, ColumnAdded, ColumnDropped, RowChanged, NamespaceRestored, NamespaceCloned, source_of, cloned_table, cloned_row, TableView, name_after, namespace_at, table_after, table_at, row_after, row_at}
use Rattle.journal_model.specs.Back.{came_from, goes_back, gone_to}

late : (stamp x : ℕ) → x < stamp → nat_le stamp x ≡ false
late stamp x lt = grind (arith, common_steps, lt)

seen : (stamp x : ℕ) → stamp ≤ x → nat_le stamp x ≡ true
seen stamp x le = grind (arith, common_steps, le)

pub name_late : (c : Change) (earlier : List Change) (x : ℕ) (id : Id) → x < c.stamp → namespace_at (c ∷ earlier) x id ≡ namespace_at earlier x id
name_late c earlier x id lt = ap (λ b. if b then name_after c.act id (namespace_at earlier x id) else namespace_at earlier x id) (late c.stamp x lt)

pub name_seen : (c : Change) (earlier : List Change) (x : ℕ) (id : Id) → c.stamp ≤ x → namespace_at (c ∷ earlier) x id ≡ name_after c.act id (namespace_at earlier x id)
name_seen c earlier x id le = ap (λ b. if b then name_after c.act id (namespace_at earlier x id) else namespace_at earlier x id) (seen c.stamp x le)

pub table_late : (c : Change) (earlier : List Change) (x : ℕ) (id : Id) → x < c.stamp → table_at (c ∷ earlier) x id ≡ table_at earlier x id
table_late c earlier x id lt =
    ap (λ b. if b then table_after c.act id (table_at earlier x) (table_at earlier) else table_at earlier x id) (late c.stamp x lt)

pub table_seen : (c : Change) (earlier : List Change) (x : ℕ) (id : Id) → c.stamp ≤ x
    → table_at (c ∷ earlier) x id ≡ table_after c.act id (table_at earlier x) (table_at earlier)
table_seen c earlier x id le =
    ap (λ b. if b then table_after c.act id (table_at earlier x) (table_at earlier) else table_at earlier x id) (seen c.stamp x le)

pub row_late : (c : Change) (earlier : List Change) (x : ℕ) (table : Id) (key : List ℕ) → x < c.stamp → row_at (c ∷ earlier) x table key ≡ row_at earlier x table key
row_late c earlier x table key lt =
    ap (λ b. if b then row_after c.act table key (table_at earlier x) (table_at earlier) (row_at earlier x) (row_at earlier) else row_at earlier x table key) (late c.stamp x lt)

pub row_seen : (c : Change) (earlier : List Change) (x : ℕ) (table : Id) (key : List ℕ) → c.stamp ≤ x
    → row_at (c ∷ earlier) x table key ≡ row_after c.act table key (table_at earlier x) (table_at earlier) (row_at earlier x) (row_at earlier)
row_seen c earlier x table key le =
    ap (λ b. if b then row_after c.act table key (table_at earlier x) (table_at earlier) (row_at earlier x) (row_at earlier) else row_at earlier x table key) (seen c.stamp x le)

-- A change reads of the view before it no more than the table before, and the one that it goes back to

came_table : (o : Option Id) (to : ℕ) (target : Id) (then_ : ℕ → Id → Option TableView) (before : Option TableView)
    → cloned_table o target (then_ to) before ≡ cloned_table o target (λ i. gone_to None (came_from to o) then_) before
came_table None to target then_ before = refl
came_table (Some source) to target then_ before = refl

pub table_reads : (act : ChangeAct) (id : Id) (before : Id → Option TableView) (then_ : ℕ → Id → Option TableView)
    → table_after act id before then_ ≡ table_after act id (λ i. before id) (λ x i. gone_to None (goes_back act id) then_)
table_reads (NamespaceMade namespace name) id before then_ = refl
table_reads (NamespaceDropped namespace) id before then_ = refl
table_reads (TableMade table namespace name columns) id before then_ = refl
table_reads (TableRenamed table name) id before then_ = refl
table_reads (TableDropped table) id before then_ = refl
table_reads (ColumnAdded table column) id before then_ = refl
table_reads (ColumnDropped table column) id before then_ = refl
table_reads (RowChanged table key op) id before then_ = refl
table_reads (NamespaceRestored namespace to) id before then_ = refl
table_reads (NamespaceCloned source target name to tables) id before then_ = came_table (source_of tables id) to target then_ (before id)

came_row : (o : Option Id) (to : ℕ) (key : List ℕ) (then_ : ℕ → Id → List ℕ → Row) (before : Row)
    → cloned_row o key (then_ to) before ≡ cloned_row o key (λ i k. gone_to absent_row (came_from to o) (λ x i. then_ x i key)) before
came_row None to key then_ before = refl
came_row (Some source) to key then_ before = refl

pub row_reads : (act : ChangeAct) (id : Id) (key : List ℕ) (table_before : Id → Option TableView) (table_then : ℕ → Id → Option TableView)
    (before : Id → List ℕ → Row) (then_ : ℕ → Id → List ℕ → Row)
    → row_after act id key table_before table_then before then_
    ≡ row_after act id key (λ i. table_before id) (λ x i. gone_to None (goes_back act id) table_then) (λ i k. before id key)
    (λ x i k. gone_to absent_row (goes_back act id) (λ x i. then_ x i key))
row_reads (NamespaceMade namespace name) id key table_before table_then before then_ = refl
row_reads (NamespaceDropped namespace) id key table_before table_then before then_ = refl
row_reads (TableMade table namespace name columns) id key table_before table_then before then_ = refl
row_reads (TableRenamed table name) id key table_before table_then before then_ = refl
row_reads (TableDropped table) id key table_before table_then before then_ = refl
row_reads (ColumnAdded table column) id key table_before table_then before then_ = refl
row_reads (ColumnDropped table column) id key table_before table_then before then_ = refl
row_reads (RowChanged table k op) id key table_before table_then before then_ = refl
row_reads (NamespaceRestored namespace to) id key table_before table_then before then_ = refl
row_reads (NamespaceCloned source target name to tables) id key table_before table_then before then_ =
    came_row (source_of tables id) to key then_ (before id key)
