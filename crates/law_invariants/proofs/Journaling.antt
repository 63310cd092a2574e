-- What one more change of a table or a namespace leaves of the view.
use Rattle.std.proofs.Common.{ℕ, ◌≡◌, ◌≤◌, ◌<◌, List, [], ◌∷◌, Option, Some, None, Bool, true, false, cond, ◌&&◌, refl, sym, ap, ◌∙◌, arith, leb, le-leb}
use Rattle.std.specs.Option.{is_some}
use Rattle.std.proofs.lemmas.Bool.{true≢false}
use Rattle.std.proofs.lemmas.Bool.Decides.{nat_tests}
use Rattle.model.specs.Cluster.{absent_row, Row, Id, same, Column}
use Rattle.model.specs.Right.{is_fixed}
use Rattle.model.specs.Journal.{Change, ChangeAct, NamespaceMade, NamespaceDropped, TableMade, TableRenamed, TableDropped, ColumnAdded, ColumnDropped, RowChanged, NamespaceRestored, NamespaceCloned, TableView, moved_to, renamed, with_column, without_column, restored_table, cloned_table, restored_row, cloned_row, source_of, table_after, row_after, table_at, row_at}
use Rattle.model.specs.History.{with}
use Rattle.law_store.proofs.Keys.{either_way}
use Rattle.law_invariants.proofs.Finding.{same_self}

-- the view has the same tables and the same rows
pub record IsQuiet (changes new : List Change) : Type 0 where
  pub tables : (x : ℕ) (table : Id) → is_some (table_at new x table) ≡ is_some (table_at changes x table)
  pub rows : (x : ℕ) (table : Id) (key : List ℕ) → row_at new x table key ≡ row_at changes x table key
  pub fixed : (ns : Id) (to : ℕ) → is_fixed new ns to ≡ is_fixed changes ns to

renamed_stays : (name : List ℕ) (t : Option TableView) → is_some (renamed name t) ≡ is_some t
renamed_stays name None = refl
renamed_stays name (Some u) = refl

added_stays : (column : Column) (t : Option TableView) → is_some (with_column column t) ≡ is_some t
added_stays column None = refl
added_stays column (Some u) = refl

dropped_stays : (column : ℕ) (t : Option TableView) → is_some (without_column column t) ≡ is_some t
dropped_stays column None = refl
dropped_stays column (Some u) = refl

row_same : (b : Bool) (row : Row) → cond b row row ≡ row
row_same true row = refl
row_same false row = refl

table_same : (b : Bool) (t : Option TableView) → is_some (cond b t t) ≡ is_some t
table_same true t = refl
table_same false t = refl

-- where the change is stamped by x, the table is as it is after it
table_cases : (b c : Bool) (before after : Option TableView) → is_some after ≡ is_some before → is_some (cond b (cond c after before) before) ≡ is_some before
table_cases true true before after h = h
table_cases true false before after h = refl
table_cases false c before after h = refl

pub namespace_made_quiet : (n : ℕ) (ns : Id) (name : List ℕ) (changes : List Change) → IsQuiet changes (with n (NamespaceMade ns name) changes)
namespace_made_quiet n ns name changes = record {
  tables = λ x table. table_same (leb n x) (table_at changes x table);
  rows = λ x table key. row_same (leb n x) (row_at changes x table key);
  fixed = λ ns to. refl;
}

pub namespace_dropped_quiet : (n : ℕ) (ns : Id) (changes : List Change) → IsQuiet changes (with n (NamespaceDropped ns) changes)
namespace_dropped_quiet n ns changes = record {
  tables = λ x table. table_same (leb n x) (table_at changes x table);
  rows = λ x table key. row_same (leb n x) (row_at changes x table key);
  fixed = λ ns to. refl;
}

pub table_renamed_quiet : (n : ℕ) (id : Id) (name : List ℕ) (changes : List Change) → IsQuiet changes (with n (TableRenamed id name) changes)
table_renamed_quiet n id name changes = record {
  tables = λ x table. table_cases (leb n x) (same id table) (table_at changes x table) _ (renamed_stays name (table_at changes x table));
  rows = λ x table key. row_same (leb n x) (row_at changes x table key);
  fixed = λ ns to. refl;
}

pub column_added_quiet : (n : ℕ) (id : Id) (column : Column) (changes : List Change) → IsQuiet changes (with n (ColumnAdded id column) changes)
column_added_quiet n id column changes = record {
  tables = λ x table. table_cases (leb n x) (same id table) (table_at changes x table) _ (added_stays column (table_at changes x table));
  rows = λ x table key. row_same (leb n x) (row_at changes x table key);
  fixed = λ ns to. refl;
}

pub column_dropped_quiet : (n : ℕ) (id : Id) (column : ℕ) (changes : List Change) → IsQuiet changes (with n (ColumnDropped id column) changes)
column_dropped_quiet n id column changes = record {
  tables = λ x table. table_cases (leb n x) (same id table) (table_at changes x table) _ (dropped_stays column (table_at changes x table));
  rows = λ x table key. row_same (leb n x) (row_at changes x table key);
  fixed = λ ns to. refl;
}

-- A table is made

-- before its stamp, and of the other tables, the view is as it was
pub made_before : (n : ℕ) (id ns : Id) (name : List ℕ) (columns : List Column) (changes : List Change) (x : ℕ) (table : Id) → x < n
    → table_at (with n (TableMade id ns name columns) changes) x table ≡ table_at changes x table
made_before n id ns name columns changes x table l = let e : leb n x ≡ false = grind (arith, nat_tests) in rw e refl

pub made_others : (n : ℕ) (id ns : Id) (name : List ℕ) (columns : List Column) (changes : List Change) (x : ℕ) (table : Id) → same id table ≡ false
    → table_at (with n (TableMade id ns name columns) changes) x table ≡ table_at changes x table
made_others n id ns name columns changes x table apart = either_way (leb n x) (λ e. rw (e, apart) refl) (λ e. rw e refl)

pub made_here : (n : ℕ) (id ns : Id) (name : List ℕ) (columns : List Column) (changes : List Change) (x : ℕ) → n ≤ x
    → table_at (with n (TableMade id ns name columns) changes) x id ≡ Some (record { namespace = ns; name = name; columns = columns })
made_here n id ns name columns changes x le = let e : leb n x ≡ true = le-leb n x le in rw (e, same_self id) refl

pub made_rows : (n : ℕ) (id ns : Id) (name : List ℕ) (columns : List Column) (changes : List Change) (x : ℕ) (table : Id) (key : List ℕ)
    → row_at (with n (TableMade id ns name columns) changes) x table key ≡ row_at changes x table key
made_rows n id ns name columns changes x table key = row_same (leb n x) (row_at changes x table key)

-- a table that the view has goes on to be there
pub made_keeps : (n : ℕ) (id ns : Id) (name : List ℕ) (columns : List Column) (changes : List Change) (x : ℕ) (table : Id)
    → is_some (table_at changes x table) ≡ true → is_some (table_at (with n (TableMade id ns name columns) changes) x table) ≡ true
made_keeps n id ns name columns changes x table h = either_way (leb n x)
    (λ e. either_way (same id table) (λ s. rw (e, s) refl) (λ s. rw (e, s) h))
    (λ e. rw e h)

-- A table is dropped

pub dropped_before : (n : ℕ) (id : Id) (changes : List Change) (x : ℕ) (table : Id) → x < n → table_at (with n (TableDropped id) changes) x table ≡ table_at changes x table
dropped_before n id changes x table l = let e : leb n x ≡ false = grind (arith, nat_tests) in rw e refl

pub dropped_others : (n : ℕ) (id : Id) (changes : List Change) (x : ℕ) (table : Id) → same id table ≡ false → table_at (with n (TableDropped id) changes) x table ≡ table_at changes x table
dropped_others n id changes x table apart = either_way (leb n x) (λ e. rw (e, apart) refl) (λ e. rw e refl)

pub dropped_here : (n : ℕ) (id : Id) (changes : List Change) (x : ℕ) → n ≤ x → table_at (with n (TableDropped id) changes) x id ≡ None
dropped_here n id changes x le = let e : leb n x ≡ true = le-leb n x le in rw (e, same_self id) refl

pub dropped_rows_before : (n : ℕ) (id : Id) (changes : List Change) (x : ℕ) (table : Id) (key : List ℕ) → x < n → row_at (with n (TableDropped id) changes) x table key ≡ row_at changes x table key
dropped_rows_before n id changes x table key l = let e : leb n x ≡ false = grind (arith, nat_tests) in rw e refl

pub dropped_rows_others : (n : ℕ) (id : Id) (changes : List Change) (x : ℕ) (table : Id) (key : List ℕ) → same id table ≡ false → row_at (with n (TableDropped id) changes) x table key ≡ row_at changes x table key
dropped_rows_others n id changes x table key apart = either_way (leb n x) (λ e. rw (e, apart) refl) (λ e. rw e refl)

-- Rows of tables that aren't there

none_some : {A : Type 0} (a : A) → Some a ≡ None → ⊥
none_some a e = cc

no_restored_before : (ns : Id) (b : Option TableView) (then_ before : Row) → (b ≡ None → before ≡ absent_row) → restored_table ns None b ≡ None → restored_row ns None b then_ before ≡ absent_row
no_restored_before ns None then_ before h e = h refl
no_restored_before ns (Some b) then_ before h e = either_way (same b.namespace ns)
    (λ s. rw s refl)
    (λ s. absurd (let q : cond (same b.namespace ns) None (Some b) ≡ None = e in let k : Some b ≡ None = rw s at q in none_some b k))

no_restored : (ns : Id) (t b : Option TableView) (then_ before : Row) → (b ≡ None → before ≡ absent_row) → restored_table ns t b ≡ None → restored_row ns t b then_ before ≡ absent_row
no_restored ns None b then_ before h e = no_restored_before ns b then_ before h e
no_restored ns (Some t) b then_ before h e =
    let q : cond (same t.namespace ns) (Some t) (restored_table ns None b) ≡ None = e in
    either_way (same t.namespace ns)
    (λ s. absurd (let k : Some t ≡ None = rw s at q in none_some t k))
    (λ s. let k : restored_table ns None b ≡ None = rw s at q in
    ap (λ c. cond c then_ (restored_row ns None b then_ before)) s ∙ no_restored_before ns b then_ before h k)

no_moved : (ns : Id) (t : Option TableView) → moved_to ns t ≡ None → t ≡ None
no_moved ns None e = refl
no_moved ns (Some t) e = cc

no_cloned : (source : Option Id) (target id : Id) (key : List ℕ) (then_ : Id → Option TableView) (rows_then : Id → List ℕ → Row) (before : Option TableView) (row : Row)
    → ((t : Id) → then_ t ≡ None → rows_then t key ≡ absent_row) → (before ≡ None → row ≡ absent_row) → cloned_table source target then_ before ≡ None
    → cloned_row source key rows_then row ≡ absent_row
no_cloned None target id key then_ rows_then before row h old e = old e
no_cloned (Some source) target id key then_ rows_then before row h old e = h source (no_moved target (then_ source) e)

-- a change that keeps tables leaves none where none was
none_before : (b : Bool) (before after : Option TableView) → (after ≡ None → before ≡ None) → cond b after before ≡ None → before ≡ None
none_before true before after h e = h e
none_before false before after h e = e

none_stays : (before after : Option TableView) → is_some after ≡ is_some before → after ≡ None → before ≡ None
none_stays None after h e = refl
none_stays (Some u) after h e = absurd (true≢false (sym h ∙ ap is_some e))

no_change : (b : Bool) (t : Option TableView) (row changed : Row) → t ≡ None → row ≡ absent_row → cond (b && is_some t) changed row ≡ absent_row
no_change true t row changed e h = rw e h
no_change false t row changed e h = h

no_rows_after : (act : ChangeAct) (id : Id) (key : List ℕ) (before : Id → Option TableView) (then_ : ℕ → Id → Option TableView) (rows : Id → List ℕ → Row) (rows_then : ℕ → Id → List ℕ → Row)
    → ((t : Id) → before t ≡ None → rows t key ≡ absent_row) → ((x : ℕ) (t : Id) → then_ x t ≡ None → rows_then x t key ≡ absent_row) → table_after act id before then_ ≡ None
    → row_after act id key before then_ rows rows_then ≡ absent_row
no_rows_after (TableMade table namespace name columns) id key before then_ rows rows_then h g e =
    h id (none_before (same table id) (before id) _ (λ q. absurd (let k = q in cc)) e)
no_rows_after (TableRenamed table name) id key before then_ rows rows_then h g e = h id (none_before (same table id) (before id) _ (none_stays (before id) _ (renamed_stays name (before id))) e)
no_rows_after (TableDropped table) id key before then_ rows rows_then h g e = either_way (same table id)
    (λ s. rw s refl)
    (λ s. let q : cond (same table id) None (before id) ≡ None = e in let k : before id ≡ None = rw s at q in ap (λ c. cond c absent_row (rows id key)) s ∙ h id k)
no_rows_after (ColumnAdded table column) id key before then_ rows rows_then h g e = h id (none_before (same table id) (before id) _ (none_stays (before id) _ (added_stays column (before id))) e)
no_rows_after (ColumnDropped table column) id key before then_ rows rows_then h g e = h id (none_before (same table id) (before id) _ (none_stays (before id) _ (dropped_stays column (before id))) e)
no_rows_after (RowChanged table k op) id key before then_ rows rows_then h g e = no_change _ (before id) (rows id key) _ e (h id e)
no_rows_after (NamespaceRestored namespace to) id key before then_ rows rows_then h g e = no_restored namespace (then_ to id) (before id) (rows_then to id key) (rows id key) (h id) e
no_rows_after (NamespaceCloned source target name to tables) id key before then_ rows rows_then h g e =
    no_cloned (source_of tables id) target id key (then_ to) (rows_then to) (before id) (rows id key) (g to) (h id) e
no_rows_after _ id key before then_ rows rows_then h g e = h id e

-- a table that the view doesn't have has no rows
pub no_rows : (changes : List Change) (x : ℕ) (table : Id) (key : List ℕ) → table_at changes x table ≡ None → row_at changes x table key ≡ absent_row
no_rows [] x table key e = refl
no_rows (c ∷ earlier) x table key e = either_way (leb c.stamp x)
    (λ b. let q : cond (leb c.stamp x) (table_after c.act table (table_at earlier x) (table_at earlier)) (table_at earlier x table) ≡ None = e in
    let k : table_after c.act table (table_at earlier x) (table_at earlier) ≡ None = rw b at q in
    ap (λ w. cond w (row_after c.act table key (table_at earlier x) (table_at earlier) (row_at earlier x) (row_at earlier)) (row_at earlier x table key)) b
    ∙ no_rows_after c.act table key (table_at earlier x) (table_at earlier) (row_at earlier x) (row_at earlier) (λ t. no_rows earlier x t key) (λ y t. no_rows earlier y t key) k)
    (λ b. let q : cond (leb c.stamp x) (table_after c.act table (table_at earlier x) (table_at earlier)) (table_at earlier x table) ≡ None = e in
    let k : table_at earlier x table ≡ None = rw b at q in
    ap (λ w. cond w (row_after c.act table key (table_at earlier x) (table_at earlier) (row_at earlier x) (row_at earlier)) (row_at earlier x table key)) b
    ∙ no_rows earlier x table key k)
